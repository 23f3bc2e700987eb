-- Every instruction of an accepted program is one that its twelve words tell. Assumes nothing.
use mathlib.Core.Path.{◌≡◌, refl, ap}
use mathlib.Core.List.{List, [], ◌∷◌, ◌++◌}
use Prim.Native.Nat.{ℕ, suc, ◌+◌, ◌≤◌}
use native.Mathlib.Omega.{arith}
use lib.ListN.{length}
use Rattle.meaning.specs.Arithmetic.{Op, constant, add, sub, mul, div, rem, eq, lt, and, or, neg}
use Rattle.meaning.specs.Numbers.{most_arguments}
use Rattle.meaning.specs.Terms.{Term, arg, op, cond, call, Terms, nil, cons, Function, Program}
use Rattle.meaning.specs.Code.{size, sizes, count, entrance, row_entrance, entrances, unsorted, RET, code, strict_code, waiting_code, bodies_code, body_entrances, initial, ret_address, translation}
use Rattle.accepted.specs.Accepted.{Shaped, AllShaped, Called, Sound, Every, Accepted}
use Rattle.accepted.specs.Readable.{Readable}
use Rattle.accepted.proofs.Accepted.{every_there}
use Rattle.accepted.proofs.Initial.{initial_shaped}

every_none : {A : Type 0} (Q : A → Type 0) → Every Q []
unfolding Every
every_none Q = tt

every_more : {A : Type 0} (Q : A → Type 0) (x : A) (xs : List A) → Q x → Every Q xs → Every Q (x ∷ xs)
unfolding Every
every_more Q x xs p q = (p, q)

every_first : {A : Type 0} (Q : A → Type 0) (x : A) (xs : List A) → Every Q (x ∷ xs) → Q x
unfolding Every
every_first Q x xs h = h.0

every_rest : {A : Type 0} (Q : A → Type 0) (x : A) (xs : List A) → Every Q (x ∷ xs) → Every Q xs
unfolding Every
every_rest Q x xs h = h.1

every_joined : {A : Type 0} (Q : A → Type 0) (xs ys : List A) → Every Q xs → Every Q ys → Every Q (xs ++ ys)
unfolding Every
every_joined Q [] ys p q = q
every_joined Q (x ∷ xs) ys p q = (p.0, every_joined Q xs ys p.1 q)

unsorted_once : (o : Op) → unsorted (unsorted o) ≡ unsorted o
unfolding unsorted
unsorted_once (constant s v) = refl
unsorted_once add = refl
unsorted_once sub = refl
unsorted_once mul = refl
unsorted_once div = refl
unsorted_once rem = refl
unsorted_once eq = refl
unsorted_once lt = refl
unsorted_once and = refl
unsorted_once or = refl
unsorted_once neg = refl

-- A term is entered at its address or past it.
mutual
  unfolding entrance

  entrance_past : (t : Term) (a : ℕ) → a ≤ entrance t a
  entrance_past (arg i) a = omega arith
  entrance_past (op o ts) a = row_entrance_past ts (suc a) a a (omega arith) (omega arith)
  entrance_past (cond t x y) a = omega (arith, entrance_past t (suc a))
  entrance_past (call f ss ws) a = row_entrance_past ss (suc a) a a (omega arith) (omega arith)

  row_entrance_past : (ts : Terms) (a home m : ℕ) → m ≤ a → m ≤ home → m ≤ row_entrance ts a home
  row_entrance_past nil a home m p q = q
  row_entrance_past (cons t ts) a home m p q = omega (arith, entrance_past t a, p)

entrances_past : (ts : Terms) (a : ℕ) → 1 ≤ a → Every (λ w. 1 ≤ w) (entrances ts a)
unfolding entrances Every
entrances_past nil a h = tt
entrances_past (cons t ts) a h = (omega (arith, entrance_past t a, h), entrances_past ts (a + size t) (omega (arith, h)))

pub entrances_count : (ts : Terms) (a : ℕ) → length (entrances ts a) ≡ count ts
unfolding entrances count
entrances_count nil a = refl
entrances_count (cons t ts) a = ap suc (entrances_count ts (a + size t))

-- Where calls take at most eight arguments.
abbrev Few : ℕ → ℕ → ℕ → Type 0
Few f s w = s + w ≤ most_arguments

module _ (C : ℕ → ℕ → ℕ → Type 0) (few : (f s w : ℕ) → C f s w → Few f s w) (n : ℕ) (B : List ℕ) (ret : ℕ) where
  mutual
    unfolding code Shaped Readable

    code_readable : (t : Term) (a b : ℕ) → Shaped C n t → Every Readable (code B ret t a b)
    code_readable (arg i) a b h = every_more Readable _ _ tt (every_none Readable)
    code_readable (op o ts) a b h = every_more Readable _ _ (unsorted_once o) (strict_readable ts (suc a) a h.1)
    code_readable (cond t x y) a b h =
        every_more Readable _ _ tt (every_joined Readable _ _ (code_readable t (suc a) a h.0) (every_joined Readable _ _ (code_readable x (suc a + size t) b h.1) (code_readable y (suc a + size t + size x) b h.2)))
    code_readable (call f ss ws) a b h =
        let at = suc a + sizes ss in
        every_more Readable _ _ (omega (arith, few f (count ss) (count ws) h.0, entrances_count ws at), entrances_past ws at (omega arith))
        (every_joined Readable _ _ (strict_readable ss (suc a) a h.1) (waiting_readable ws at h.2))

    strict_readable : (ts : Terms) (a home : ℕ) → AllShaped C n ts → Every Readable (strict_code B ret ts a home)
    strict_readable nil a home h = every_none Readable
    strict_readable (cons t ts) a home h = every_joined Readable _ _ (code_readable t a (row_entrance ts (a + size t) home) h.0) (strict_readable ts (a + size t) home h.1)

    waiting_readable : (ts : Terms) (a : ℕ) → AllShaped C n ts → Every Readable (waiting_code B ret ts a)
    waiting_readable nil a h = every_none Readable
    waiting_readable (cons t ts) a h = every_joined Readable _ _ (code_readable t a ret h.0) (waiting_readable ts (a + size t) h.1)

module _ (P : Program) (acc : Accepted P) where
  called_few : (f s w : ℕ) → Called P f s w → Few f s w
  called_few f s w c = omega (arith, c.all, (every_there (Sound P) P acc.sound f c.function c.there).few_arguments)

  body_readable : (B : List ℕ) (ret : ℕ) (F : Function) (a : ℕ) → Sound P F → Every Readable (code B ret F.body a ret)
  body_readable B ret F a h = code_readable (Called P) called_few (length F.sorts) B ret F.body a ret h.shaped

  bodies_readable : (B : List ℕ) (ret : ℕ) (Q : Program) (a : ℕ) → Every (Sound P) Q → Every Readable (bodies_code B ret Q a)
  unfolding bodies_code
  bodies_readable B ret [] a h = every_none Readable
  bodies_readable B ret (F ∷ Q) a h = every_joined Readable _ _ (body_readable B ret F a (every_first (Sound P) F Q h)) (bodies_readable B ret Q (a + size F.body) (every_rest (Sound P) F Q h))

ret_readable : Every Readable (RET ∷ [])
unfolding Every Readable
ret_readable = (tt, tt)

pub readable : (P : Program) → Accepted P → Every Readable (translation P)
unfolding translation
readable [] acc = absurd (omega (arith, acc.some_function))
readable (F ∷ P) acc =
    let Q = F ∷ P in
    let n = size (initial Q) in
    let ret = ret_address Q in
    let B = body_entrances Q n in
    every_joined Readable _ _
    (code_readable (Called Q) (called_few Q acc) (length F.sorts) B ret (initial Q) 0 ret (initial_shaped F P (every_first (Sound Q) F P acc.sound).few_strict))
    (every_joined Readable _ _ (bodies_readable Q acc B ret Q n acc.sound) ret_readable)
