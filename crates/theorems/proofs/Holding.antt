-- The translation of a program holds what the proofs ask of code: the initial term and every body stand where their entrances say, each symbol's
-- instruction at its address, and RET is at the last one. Assumes nothing.
use mathlib.Core.Path.{◌≡◌, refl, ap, subst}
use mathlib.Core.Option.{Option, some}
use mathlib.Core.List.{List, [], ◌∷◌, ◌++◌}
use Prim.Native.Nat.{ℕ, zero, suc, ◌+◌}
use native.Mathlib.Omega.{arith}
use lib.ListN.{length, get_or, get_elem?, length-append}
use Rattle.meaning.specs.Terms.{Term, arg, op, cond, call, Terms, nil, cons, Function, Program}
use Rattle.meaning.specs.Code.{size, sizes, count, entrance, row_entrance, entrances, unsorted, Instruction, EVAL, EXEC, SELECT, CALL, RET, code, strict_code, waiting_code, bodies_code, body_entrances, initial, ret_address, translation}
use Rattle.accepted.proofs.Length.{length_code, length_strict, translation_length}
use Rattle.theorems.specs.Unlimited.{code_of}
use Rattle.theorems.proofs.Splitting.{clash}

-- C holds the instructions of a term at address a where b follows it; of a row that is worked out before the symbol at `home`; of a row that waits.
module _ (C : ℕ → Option Instruction) (bodies : List ℕ) (ret : ℕ) where
  unfoldable mutual
    pub HoldsTerm : Term → ℕ → ℕ → Type 0
    HoldsTerm (arg i) a b = C a ≡ some (EVAL i b)
    HoldsTerm (op o ts) a b = (C a ≡ some (EXEC (unsorted o) b)) × HoldsStrict ts (suc a) a
    HoldsTerm (cond t x y) a b =
        (C a ≡ some (SELECT (entrance x (suc a + size t)) (entrance y (suc a + size t + size x))))
        × HoldsTerm t (suc a) a × HoldsTerm x (suc a + size t) b × HoldsTerm y (suc a + size t + size x) b
    HoldsTerm (call f ss ws) a b =
        (C a ≡ some (CALL (get_or bodies f 0) (count ss) (entrances ws (suc a + sizes ss)) b))
        × HoldsStrict ss (suc a) a × HoldsWaiting ws (suc a + sizes ss)

    pub HoldsStrict : Terms → ℕ → ℕ → Type 0
    HoldsStrict nil a home = Unit {0}
    HoldsStrict (cons t ts) a home = HoldsTerm t a (row_entrance ts (a + size t) home) × HoldsStrict ts (a + size t) home

    pub HoldsWaiting : Terms → ℕ → Type 0
    HoldsWaiting nil a = Unit {0}
    HoldsWaiting (cons t ts) a = HoldsTerm t a ret × HoldsWaiting ts (a + size t)

  -- every body of a row of functions, the first at address a
  unfoldable pub BodiesHeld : Program → ℕ → Type 0
  BodiesHeld [] a = Unit {0}
  BodiesHeld (F ∷ Q) a = HoldsTerm F.body a ret × BodiesHeld Q (a + size F.body)

pub record Loaded (P : Program) (C : ℕ → Option Instruction) (bodies : List ℕ) (ret : ℕ) : Type 0 where
  pub ret_held : C ret ≡ some RET
  pub body_held : (f : ℕ) (F : Function) → get_elem? P f ≡ some F
      → (a : ℕ) × (get_or bodies f 0 ≡ entrance F.body a) × HoldsTerm C bodies ret F.body a ret

-- A list of instructions stands in the code from address a on.

unfoldable Stands : (ℕ → Option Instruction) → ℕ → List Instruction → Type 0
Stands C a [] = Unit {0}
Stands C a (i ∷ is) = (C a ≡ some i) × Stands C (suc a) is

stands_at : (C : ℕ → Option Instruction) (a b : ℕ) (xs : List Instruction) → Stands C a xs → a ≡ b → Stands C b xs
stands_at C a b xs h e = subst (λ k. Stands C k xs) e h

stands_left : (C : ℕ → Option Instruction) (a : ℕ) (xs ys : List Instruction) → Stands C a (xs ++ ys) → Stands C a xs
unfolding Stands
stands_left C a [] ys h = tt
stands_left C a (x ∷ xs) ys h = (h.0, stands_left C (suc a) xs ys h.1)

stands_right : (C : ℕ → Option Instruction) (a b : ℕ) (xs ys : List Instruction) → Stands C a (xs ++ ys) → a + length xs ≡ b → Stands C b ys
unfolding Stands
stands_right C a b [] ys h e = stands_at C a b ys h (omega arith)
stands_right C a b (x ∷ xs) ys h e = stands_right C (suc a) b xs ys h.1 (omega arith)

stands_itself : (zs xs : List Instruction) → Stands (get_elem? (zs ++ xs)) (length zs) xs
unfolding Stands
stands_itself zs [] = tt
stands_itself zs (x ∷ xs) =
    (seam zs, stands_at (get_elem? (zs ++ (x ∷ xs))) (length (zs ++ (x ∷ []))) (suc (length zs)) xs (rw (moved zs) at (stands_itself (zs ++ (x ∷ [])) xs)) (omega (arith, length-append zs (x ∷ []))))
  where
    seam : (l : List Instruction) → get_elem? (l ++ (x ∷ xs)) (length l) ≡ some x
    seam [] = refl
    seam (y ∷ l) = seam l

    moved : (l : List Instruction) → (l ++ (x ∷ [])) ++ xs ≡ l ++ (x ∷ xs)
    moved [] = refl
    moved (y ∷ l) = ap (λ m. y ∷ m) (moved l)

module _ (bodies : List ℕ) (ret : ℕ) where
  module _ (C : ℕ → Option Instruction) where
    mutual
      unfolding code HoldsTerm Stands

      code_holds : (t : Term) (a b : ℕ) → Stands C a (code bodies ret t a b) → HoldsTerm C bodies ret t a b
      code_holds (arg i) a b h = h.0
      code_holds (op o ts) a b h = (h.0, strict_holds ts (suc a) a h.1)
      code_holds (cond t x y) a b h =
          let T = code bodies ret t (suc a) a in
          let X = code bodies ret x (suc a + size t) b in
          let Y = code bodies ret y (suc a + size t + size x) b in
          let XY : Stands C (suc a + size t) (X ++ Y) = stands_right C (suc a) (suc a + size t) T (X ++ Y) h.1 (omega (arith, length_code bodies ret t (suc a) a)) in (
            h.0,
            code_holds t (suc a) a (stands_left C (suc a) T (X ++ Y) h.1),
            code_holds x (suc a + size t) b (stands_left C (suc a + size t) X Y XY),
            code_holds y (suc a + size t + size x) b (stands_right C (suc a + size t) (suc a + size t + size x) X Y XY (omega (arith, length_code bodies ret x (suc a + size t) b))),
          )
      code_holds (call f ss ws) a b h =
          let S = strict_code bodies ret ss (suc a) a in
          let W = waiting_code bodies ret ws (suc a + sizes ss) in (
            h.0,
            strict_holds ss (suc a) a (stands_left C (suc a) S W h.1),
            waiting_holds ws (suc a + sizes ss) (stands_right C (suc a) (suc a + sizes ss) S W h.1 (omega (arith, length_strict bodies ret ss (suc a) a))),
          )

      strict_holds : (ts : Terms) (a home : ℕ) → Stands C a (strict_code bodies ret ts a home) → HoldsStrict C bodies ret ts a home
      strict_holds nil a home h = tt
      strict_holds (cons t ts) a home h =
          let T = code bodies ret t a (row_entrance ts (a + size t) home) in
          let S = strict_code bodies ret ts (a + size t) home in (
            code_holds t a (row_entrance ts (a + size t) home) (stands_left C a T S h),
            strict_holds ts (a + size t) home (stands_right C a (a + size t) T S h (omega (arith, length_code bodies ret t a (row_entrance ts (a + size t) home)))),
          )

      waiting_holds : (ts : Terms) (a : ℕ) → Stands C a (waiting_code bodies ret ts a) → HoldsWaiting C bodies ret ts a
      waiting_holds nil a h = tt
      waiting_holds (cons t ts) a h =
          let T = code bodies ret t a ret in
          let W = waiting_code bodies ret ts (a + size t) in
          (code_holds t a ret (stands_left C a T W h), waiting_holds ts (a + size t) (stands_right C a (a + size t) T W h (omega (arith, length_code bodies ret t a ret))))

    bodies_hold : (P : Program) (a : ℕ) → Stands C a (bodies_code bodies ret P a) → (f : ℕ) (F : Function) → get_elem? P f ≡ some F
        → (b : ℕ) × (get_or (body_entrances P a) f 0 ≡ entrance F.body b) × HoldsTerm C bodies ret F.body b ret
    unfolding bodies_code body_entrances
    bodies_hold [] a h f F k = clash (cc)
    bodies_hold (G ∷ P) a h zero F k =
        let same : G ≡ F = cc in
        rw (← same) (a, refl, code_holds G.body a ret (stands_left C a (code bodies ret G.body a ret) (bodies_code bodies ret P (a + size G.body)) h))
    bodies_hold (G ∷ P) a h (suc f) F k =
        bodies_hold P (a + size G.body)
        (stands_right C a (a + size G.body) (code bodies ret G.body a ret) (bodies_code bodies ret P (a + size G.body)) h (omega (arith, length_code bodies ret G.body a ret))) f F k

    all_held : (P : Program) (a : ℕ) → Stands C a (bodies_code bodies ret P a) → BodiesHeld C bodies ret P a
    unfolding bodies_code BodiesHeld
    all_held [] a h = tt
    all_held (G ∷ P) a h = (
      code_holds G.body a ret (stands_left C a (code bodies ret G.body a ret) (bodies_code bodies ret P (a + size G.body)) h),
      all_held P (a + size G.body) (stands_right C a (a + size G.body) (code bodies ret G.body a ret) (bodies_code bodies ret P (a + size G.body)) h (omega (arith, length_code bodies ret G.body a ret))),
    )

-- The translation.

abbrev pub entries_of : Program → List ℕ
entries_of P = body_entrances P (size (initial P))

module _ (P : Program) where
  initial_part : List Instruction
  initial_part = code (entries_of P) (ret_address P) (initial P) 0 (ret_address P)

  bodies_part : List Instruction
  bodies_part = bodies_code (entries_of P) (ret_address P) P (size (initial P))

  all_stands : Stands (code_of P) 0 (initial_part ++ (bodies_part ++ (RET ∷ [])))
  unfolding translation initial_part bodies_part code_of
  all_stands = stands_itself [] (translation P)

  bodies_stand : Stands (code_of P) (size (initial P)) (bodies_part ++ (RET ∷ []))
  unfolding initial_part
  bodies_stand =
      stands_right (code_of P) 0 (size (initial P)) initial_part (bodies_part ++ (RET ∷ [])) all_stands (omega (arith, length_code (entries_of P) (ret_address P) (initial P) 0 (ret_address P)))

  before_ret : size (initial P) + length bodies_part ≡ ret_address P
  unfolding translation initial_part bodies_part
  before_ret =
      let whole : length (initial_part ++ (bodies_part ++ (RET ∷ []))) ≡ ret_address P + 1 = translation_length P in
      omega (arith, simp length-append at whole, length_code (entries_of P) (ret_address P) (initial P) 0 (ret_address P))

  pub loaded : Loaded P (code_of P) (entries_of P) (ret_address P)
  unfolding bodies_part Stands
  loaded =
      record {
        ret_held = (stands_right (code_of P) (size (initial P)) (ret_address P) bodies_part (RET ∷ []) bodies_stand before_ret).0;
        body_held = bodies_hold (entries_of P) (ret_address P) (code_of P) P (size (initial P)) (stands_left (code_of P) (size (initial P)) bodies_part (RET ∷ []) bodies_stand);
      }

  pub initial_held : HoldsTerm (code_of P) (entries_of P) (ret_address P) (initial P) 0 (ret_address P)
  unfolding initial_part
  initial_held =
      code_holds (entries_of P) (ret_address P) (code_of P) (initial P) 0 (ret_address P) (stands_left (code_of P) 0 initial_part (bodies_part ++ (RET ∷ [])) all_stands)

  pub all_bodies_held : BodiesHeld (code_of P) (entries_of P) (ret_address P) P (size (initial P))
  unfolding bodies_part
  all_bodies_held =
      all_held (entries_of P) (ret_address P) (code_of P) P (size (initial P)) (stands_left (code_of P) (size (initial P)) bodies_part (RET ∷ []) bodies_stand)
