-- One instruction's words, by the tests that the code makes. Assumes nothing.
use mathlib.Core.Path.{◌≡◌, refl, ap, sym, ◌∙◌, subst}
use mathlib.Core.List.{List, [], ◌∷◌, ◌++◌, append-nil}
use Prim.Native.Nat.{◌*◌, ℕ, zero, suc, ◌+◌, ◌-◌, ◌^◌, ◌≤◌, min}
use native.Mathlib.Omega.{arith}
use native.Mathlib.Numerals.{add-one}
use lib.ListN.{length, get_or, take, drop, replicate}
use Rattle.meaning.specs.Arithmetic.{Op, constant, add, sub, mul, div, rem, eq, lt, and, or, neg, op_number, op_constant}
use Rattle.meaning.specs.Numbers.{instruction_words}
use Rattle.meaning.specs.Terms.{Term, arg, op, cond, call}
use Rattle.meaning.specs.Code.{size, sizes, count, entrance, entrances, unsorted, SELECT, CALL, used_words, twelve}
use Rattle.word.specs.Operated.{operation_number}
use Rattle.table.specs.Symbols.{op_symbol}
use Rattle.table.specs.declared.Signature.{Signature}
use Rattle.table.specs.declared.Symbol.{Symbol}
use Rattle.table.specs.declared.Symbol.TheVariants.{Unknown, Argument, Constant, Operation, Not, Cond, Function}
use Rattle.accepted.specs.Accepted.{Shaped}
use Rattle.meaning.specs.Numbers.{most_arguments}
use Rattle.entrances.specs.View.{root, row, strict_at, instruction_of}
use Rattle.entrances.specs.Entrances.{written_at, Told, TermAt, RowAt, Entrance, Passed, Entrances}
use Rattle.entrances.proofs.Held.{symbol_is, end_is, row_at, first_at, others_at, joined_others, deeper}
use Rattle.accepted.proofs.Reading.{clash}
use Rattle.accepted.proofs.Readable.{entrances_count}
use Rattle.coding.specs.Coding.{words_of, executed, Selects, Calls, Stored}

-- Unused words are 0.
zeros : (m r : ℕ) → m ≤ r → take {A = ℕ} m (replicate r 0) ≡ replicate m 0
zeros zero r h = refl
zeros (suc m) zero h = absurd (omega (arith, h))
zeros (suc m) (suc r) h = ap (λ (l : List ℕ). 0 ∷ l) (zeros m r (omega (arith, h)))

filled_up : (m r : ℕ) (ws : List ℕ) → m ≤ r → length ws ≤ m → take m (ws ++ replicate r 0) ≡ ws ++ drop (length ws) (replicate m 0)
filled_up m r [] h l = zeros m r h
filled_up zero r (w ∷ ws) h l = absurd (omega (arith, l))
filled_up (suc m) r (w ∷ ws) h l = ap (λ (xs : List ℕ). w ∷ xs) (filled_up m r ws (omega (arith, h)) (omega (arith, l)))

module _ (H : List Signature) (W : List Symbol) (E : List ℕ) where
  pub select_is : (a d m n x y : ℕ) → m ≡ get_or E a 0 → n ≡ get_or E m 0 → Entrance H W m d x → Entrance H W n d y →
      Selects H W E a d (3 ∷ 0 ∷ x ∷ y ∷ 0 ∷ 0 ∷ 0 ∷ 0 ∷ 0 ∷ 0 ∷ 0 ∷ 0 ∷ [])
  unfolding Selects Entrance used_words twelve
  select_is a d m n x y p q i j t u v h =
      let on-yes = others_at h in
      let on-no = others_at on-yes in
      let e : m ≡ a + size t = p ∙ end_is (first_at h) in
      let f : n ≡ a + size t + size u = q ∙ ap (λ (k : ℕ). get_or E k 0) e ∙ end_is (first_at on-yes) in
      rw ((rw e at i) E u (first_at on-yes), (rw f at j) E v (first_at on-no))

  pub call_is : (e e' k k' a end end' b d first : ℕ) (r : List ℕ) → e' ≡ e → k' ≡ k → end' ≡ end → Passed E a k' first →
      Entrances H W E first end' d 0 (0 ∷ 0 ∷ 0 ∷ 0 ∷ 0 ∷ 0 ∷ 0 ∷ 0 ∷ []) r → Calls H W E e k a end b d (4 ∷ b ∷ e' ∷ k' ∷ (r ++ []))
  unfolding Calls Passed Entrances used_words twelve
  call_is e e' k k' a end end' b d first r i j n p q ss ws h l few m =
      let f : first ≡ a + sizes ss = p H W d ss ws h (j ∙ l) in
      let es = entrances ws (a + sizes ss) in
      let long : length es ≡ count ws = entrances_count ws (a + sizes ss) in
      let put : r ≡ es ++ drop (length es) (0 ∷ 0 ∷ 0 ∷ 0 ∷ 0 ∷ 0 ∷ 0 ∷ 0 ∷ [])
      = rw f at q ws (joined_others ss ws h) (n ∙ m ∙ omega arith) (omega (arith, few)) in
      rw (append-nil r, put, i, j, l) (ap (λ (xs : List ℕ). 4 ∷ b ∷ e ∷ count ss ∷ xs) (sym (filled_up 8 12 es (omega arith) (omega (arith, long, few)))))

-- The words of the instruction of an argument, a constant or an operation, as the code has them.
abbrev pub plain_words : Symbol → ℕ → List ℕ
plain_words Unknown b = twelve []
plain_words (Argument i) b = twelve (1 ∷ b ∷ min (i + 1) (2 ^ 32 - 1) ∷ [])
plain_words (Constant s v) b = executed 0 v b
plain_words (Operation o) b = executed (operation_number o) 0 b
plain_words Not b = executed 10 0 b
plain_words Cond b = []
plain_words (Function f) b = []

abbrev pub Plain : Symbol → Type 0
Plain Unknown = Unit {0}
Plain (Argument i) = Unit {0}
Plain (Constant s v) = Unit {0}
Plain (Operation o) = Unit {0}
Plain Not = Unit {0}
Plain Cond = ⊥
Plain (Function f) = ⊥

op_plain : (o : Op) → Plain (op_symbol o)
unfolding op_symbol
op_plain (constant s v) = tt
op_plain add = tt
op_plain sub = tt
op_plain mul = tt
op_plain div = tt
op_plain rem = tt
op_plain eq = tt
op_plain lt = tt
op_plain and = tt
op_plain or = tt
op_plain neg = tt

op_words : (o : Op) (b : ℕ) → plain_words (op_symbol o) b ≡ executed (op_number (unsorted o)) (op_constant (unsorted o)) b
unfolding op_symbol op_number op_constant unsorted twelve
op_words (constant s v) b = refl
op_words add b = refl
op_words sub b = refl
op_words mul b = refl
op_words div b = refl
op_words rem b = refl
op_words eq b = refl
op_words lt b = refl
op_words and b = refl
op_words or b = refl
op_words neg b = refl

plain_is : (H : List Signature) (B : List ℕ) (t : Term) (a b : ℕ) → Shaped (Told H) most_arguments t → Plain (root t) → plain_words (root t) b ≡ words_of (instruction_of B t a b)
unfolding root instruction_of used_words Shaped twelve
plain_is H B (arg i) a b h p = let same : min (i + 1) (2 ^ 32 - 1) ≡ suc i = omega (arith, h) in rw same refl
plain_is H B (op o ts) a b h p = op_words o b
plain_is H B (cond t x y) a b h p = absurd p
plain_is H B (call f ss ws) a b h p = absurd p

-- The instruction of the symbol x at a, stored.
module _ (H : List Signature) (B : List ℕ) (W : List Symbol) (E : List ℕ) (a b d : ℕ) (x : Symbol) (r c c' : List ℕ) (here : get_or W a Unknown ≡ x) (s : c' ≡ written_at (instruction_words * a) r c) where
  symbol : {t : Term} → TermAt H W E a d t → root t ≡ x
  symbol h = sym (symbol_is h) ∙ here

  stored : (t : Term) → r ≡ words_of (instruction_of B t a b) → c' ≡ written_at (instruction_words * a) (words_of (instruction_of B t a b)) c
  stored t e = s ∙ ap (λ (xs : List ℕ). written_at (instruction_words * a) xs c) e

  pub stored_plain : Plain x → r ≡ plain_words x b → Stored H B W E a b d c c'
  unfolding Stored
  stored_plain p e t h =
      let x-is = symbol h in
      stored t (e ∙ ap (λ (y : Symbol). plain_words y b) (sym x-is) ∙ plain_is H B t a b h.shaped (subst Plain (sym x-is) p))

  row_here : (t : Term) → TermAt H W E a d t → RowAt H W E (a + 1) d (row t)
  row_here t h = subst (λ (n : ℕ). RowAt H W E n d (row t)) (sym (add-one a)) (deeper (d - 1) d (omega arith) (row_at h))

  pub stored_select : x ≡ Cond → Selects H W E (a + 1) d r → Stored H B W E a b d c c'
  unfolding Stored instruction_of root Selects row
  stored_select e p (arg i) h = let q : Argument i ≡ Cond = symbol h ∙ e in clash (cc)
  stored_select e p (op o ts) h = absurd (subst Plain (symbol h ∙ e) (op_plain o))
  stored_select e p (cond t u v) h =
      stored (cond t u v)
      (subst (λ (n : ℕ). r ≡ words_of (SELECT (entrance u (n + size t)) (entrance v (n + size t + size u)))) (add-one a) (p t u v (row_here (cond t u v) h)))
  stored_select e p (call f ss ws) h = let q : Function f ≡ Cond = symbol h ∙ e in clash (cc)

  pub stored_call : (f : ℕ) → x ≡ Function f → Calls H W E (get_or B f 0) (strict_at H f) (a + 1) (get_or E a 0) b d r → Stored H B W E a b d c c'
  unfolding Stored instruction_of root Shaped Calls row size
  stored_call f e g (arg i) h = let q : Argument i ≡ Function f = symbol h ∙ e in clash (cc)
  stored_call f e g (op o ts) h = absurd (subst Plain (symbol h ∙ e) (op_plain o))
  stored_call f e g (cond t u v) h = let q : Cond ≡ Function f = symbol h ∙ e in clash (cc)
  stored_call f e g (call k ss ws) h =
      let same : f ≡ k = let q : Function k ≡ Function f = symbol h ∙ e in cc in
      let past : get_or E a 0 ≡ a + 1 + (sizes ss + sizes ws) = end_is h ∙ omega arith in
      let is : r ≡ words_of (CALL (get_or B f 0) (count ss) (entrances ws (a + 1 + sizes ss)) b)
      = g ss ws (row_here (call k ss ws) h) (ap (strict_at H) same ∙ h.shaped.0.strict) h.shaped.0.few past in
      stored (call k ss ws)
      (subst (λ (n : ℕ). r ≡ words_of (CALL (get_or B k 0) (count ss) (entrances ws (n + sizes ss)) b)) (add-one a)
      (subst (λ (n : ℕ). r ≡ words_of (CALL (get_or B n 0) (count ss) (entrances ws (a + 1 + sizes ss)) b)) same is))
