-- The code of a term and of a row of terms, by the tests that the code makes. Assumes nothing.
use mathlib.Core.Path.{◌≡◌, refl, ap, sym, ◌∙◌, subst}
use mathlib.Core.List.{List, [], ◌∷◌, ◌++◌, append_assoc}
use Prim.Native.Nat.{ℕ, zero, suc, ◌+◌, ◌-◌, ◌*◌, ◌≤◌, ◌<◌}
use native.Mathlib.Omega.{arith}
use native.Mathlib.Numerals.{add-one}
use lib.ListN.{length, get_or}
use Rattle.meaning.specs.Numbers.{instruction_words}
use Rattle.meaning.specs.Terms.{Term, arg, op, cond, call, Terms, nil, cons}
use Rattle.meaning.specs.Code.{size, sizes, count, Instruction, code, used_words, twelve, code_words}
use Rattle.meaning.specs.Arithmetic.{Op, constant, add, sub, mul, div, rem, eq, lt, and, or, neg}
use Rattle.table.specs.Symbols.{op_symbol}
use Rattle.table.specs.declared.Signature.{Signature}
use Rattle.table.specs.declared.Symbol.{Symbol}
use Rattle.table.specs.declared.Symbol.TheVariants.{Unknown}
use Rattle.accepted.proofs.Length.{length_code}
use Rattle.entrances.specs.View.{root, row, lead, leads_of, after, follower_of, instruction_of, row_code}
use Rattle.entrances.specs.Entrances.{written_at, RowAt, Follower}
use Rattle.entrances.proofs.View.{some_size, size_view, lead_few, code_view}
use Rattle.accepted.proofs.Length.{twelve_long, words_long}
use Rattle.entrances.proofs.Held.{symbol_is, end_is, leads_are, within, not_too_deep, row_at, first_at, others_at}
use Rattle.entrances.proofs.Laws.{written_none, written_more}
use Rattle.coding.specs.Coding.{words_of, others_of, Stored, Emitted, EmittedRow}

-- The words of code after code.
pub words_joined : (is js : List Instruction) → code_words (is ++ js) ≡ code_words is ++ code_words js
unfolding code_words
words_joined [] js = refl
words_joined (i ∷ is) js =
    ap (λ (l : List ℕ). twelve (used_words i) ++ l) (words_joined is js) ∙ sym (append_assoc (twelve (used_words i)) (code_words is) (code_words js))

-- What follows the others, by the symbol.
op_others : (o : Op) (b ret : ℕ) → others_of (op_symbol o) b ret ≡ b
unfolding others_of op_symbol
op_others (constant s v) b ret = refl
op_others add b ret = refl
op_others sub b ret = refl
op_others mul b ret = refl
op_others div b ret = refl
op_others rem b ret = refl
op_others eq b ret = refl
op_others lt b ret = refl
op_others and b ret = refl
op_others or b ret = refl
op_others neg b ret = refl

after_view : (ret : ℕ) (t : Term) (b : ℕ) → others_of (root t) b ret ≡ after ret t b
unfolding others_of root after
after_view ret (arg i) b = refl
after_view ret (op o ts) b = op_others o b ret
after_view ret (cond t x y) b = refl
after_view ret (call f ss ws) b = refl

module _ (H : List Signature) (B : List ℕ) (W : List Symbol) (E : List ℕ) (a b d : ℕ) (c : List ℕ) where
  pub emit_deep : d ≡ 0 → Emitted H B W E a b d c c
  unfolding Emitted
  emit_deep z t h = absurd (omega (arith, not_too_deep h))

  pub emit_out : length W ≤ a → Emitted H B W E a b d c c
  unfolding Emitted
  emit_out z t h = absurd (omega (arith, within h, some_size t))

module _ (H : List Signature) (B : List ℕ) (W : List Symbol) (E : List ℕ) (a end k home others d : ℕ) (c : List ℕ) where
  pub row_end : end ≤ a → EmittedRow H B W E a end k home others d c c
  unfolding EmittedRow row_code size code_words
  row_end z nil h l f = written_none (instruction_words * a) c
  row_end z (cons t ts) h l f = absurd (omega (arith, l, some_size t))

  pub row_stuck : (past : ℕ) → a < end → past ≡ get_or E a 0 → past ≤ a → EmittedRow H B W E a end k home others d c c
  unfolding EmittedRow size
  row_stuck past z p o nil h l f = absurd (omega (arith, l))
  row_stuck past z p o (cons t ts) h l f = absurd (omega (arith, end_is (first_at h), some_size t))

module _ (H : List Signature) (B : List ℕ) (W : List Symbol) (E : List ℕ) (a b d : ℕ) (c : List ℕ) where
  -- the instruction of the symbol at a, then its row of arguments
  pub emit_more : (c₁ c₂ : List ℕ) → instruction_words * a ≤ length c → Stored H B W E a b d c c₁ →
      EmittedRow H B W E (a + 1) (get_or E a 0) (leads_of H (get_or W a Unknown)) a (others_of (get_or W a Unknown) b (length W)) (d - 1) c₁ c₂ → Emitted H B W E a b d c c₂
  unfolding Emitted EmittedRow Stored code_words
  emit_more c₁ c₂ l s g t h =
      let ret = length W in
      let ks : leads_of H (get_or W a Unknown) ≡ lead t = leads_are h in
      let os : others_of (get_or W a Unknown) b ret ≡ after ret t b
      = ap (λ (x : Symbol). others_of x b ret) (symbol_is h) ∙ after_view ret t b in
      let past : get_or E a 0 ≡ a + 1 + sizes (row t) = end_is h ∙ omega (arith, size_view t) in
      let here : RowAt H W E (a + 1) (d - 1) (row t) = subst (λ (n : ℕ). RowAt H W E n (d - 1) (row t)) (sym (add-one a)) (row_at h) in
      let long : instruction_words * (a + 1) ≡ instruction_words * a + instruction_words = omega arith in
      let xs = words_of (instruction_of B t a b) in
      let ys = code_words (row_code B ret (lead t) (row t) (suc a) a (after ret t b)) in
      g (row t) here past (omega (arith, ks, lead_few t))
      ∙ rw (s t h, ks, os, long, code_view B ret t a b, add-one a) (written_more c (instruction_words * a) instruction_words xs ys (twelve_long (used_words (instruction_of B t a b))) l)

row_more_code : (B : List ℕ) (ret k : ℕ) (t : Term) (ts : Terms) (a home others : ℕ) →
    row_code B ret k (cons t ts) a home others ≡ code B ret t a (follower_of k ts (a + size t) home others) ++ row_code B ret (k - 1) ts (a + size t) home others
unfolding row_code follower_of
row_more_code B ret zero t ts a home others = refl
row_more_code B ret (suc k) t ts a home others =
    ap (λ (n : ℕ). code B ret t a (follower_of (suc k) ts (a + size t) home others) ++ row_code B ret n ts (a + size t) home others) (omega arith)

module _ (H : List Signature) (B : List ℕ) (W : List Symbol) (E : List ℕ) (a end k home others d : ℕ) (c : List ℕ) where
  pub row_more : (past b j : ℕ) (c₁ c₂ : List ℕ) → a < end → instruction_words * length W ≤ length c → past ≡ get_or E a 0 → Follower H W k past home others d b →
      Emitted H B W E a b d c c₁ → j ≡ k - 1 → EmittedRow H B W E past end j home others d c₁ c₂ → EmittedRow H B W E a end k home others d c c₂
  unfolding Emitted EmittedRow Follower size count
  row_more past b j c₁ c₂ z r p v i q g nil h l f = absurd (omega (arith, l))
  row_more past b j c₁ c₂ z r p v i q g (cons t ts) h l f =
      let ret = length W in
      let e : past ≡ a + size t = p ∙ end_is (first_at h) in
      let next : b ≡ follower_of k ts (a + size t) home others = rw e at v E ts (others_at h) f in
      let first : c₁ ≡ written_at (instruction_words * a) (code_words (code B ret t a b)) c = i t (first_at h) in
      let rest : c₂ ≡ written_at (instruction_words * (a + size t)) (code_words (row_code B ret j ts (a + size t) home others)) c₁
      = rw e at g ts (others_at h) (l ∙ omega arith) (omega (arith, q, f)) in
      let long : instruction_words * (a + size t) ≡ instruction_words * a + instruction_words * size t = omega arith in
      let room : instruction_words * a ≤ length c = omega (arith, within (first_at h)) in
      let size_is : length (code_words (code B ret t a b)) ≡ instruction_words * size t
      = words_long (code B ret t a b) ∙ ap (λ (n : ℕ). instruction_words * n) (length_code B ret t a b) in
      rest
      ∙ rw (first, long) (written_more c (instruction_words * a) (instruction_words * size t) (code_words (code B ret t a b)) (code_words (row_code B ret j ts (a + size t) home others)) size_is room)
      ∙ ap (λ (l : List ℕ). written_at (instruction_words * a) l c)
      (sym (words_joined (code B ret t a b) (row_code B ret j ts (a + size t) home others))
      ∙ ap code_words (rw (next, q) (sym (row_more_code B ret k t ts a home others))))
