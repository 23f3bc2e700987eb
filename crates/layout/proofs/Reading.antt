-- What the words at an address decode to, by the twelve of them. Assumes nothing.
use Rattle.std.specs.Prelude.{slice_range}
use mathlib.Core.Path.{◌≡◌, sym, ◌∙◌}
use mathlib.Core.Option.{none}
use mathlib.Core.List.{List}
use Prim.Native.Nat.{ℕ, ◌+◌, ◌-◌, ◌*◌, ◌≤◌, ◌<◌}
use native.Mathlib.Nat.{add-zero}
use native.Mathlib.Omega.{arith}
use lib.ListN.{length, get_or, drop}
use lib.Seq.{get_or-take, get_or-drop}
use borrow.Author.Tests.{ne_eqb, lt-ltb, le-ltb}
use Rattle.meaning.specs.Numbers.{instruction_words, most_arguments}
use Rattle.layout.specs.Decoding.{eval_kind, exec_kind, select_kind, call_kind, ret_kind, a_call, of_kind, decode}
use Rattle.layout.proofs.Rows.{row_same}

-- words that agree decode alike
pub of_kind_same : (w v : List ℕ) (a b : ℕ) → ((j : ℕ) → j < instruction_words → get_or v (b + j) 0 ≡ get_or w (a + j) 0) → of_kind (get_or v b 0) v b ≡ of_kind (get_or w a 0) w a
unfolding of_kind a_call
of_kind_same w v a b s =
    let z : get_or v b 0 ≡ get_or w a 0 = rw (add-zero b, add-zero a) at (s 0 (omega arith)) in
    let f : (j : ℕ) → j < most_arguments - get_or w (a + 3) 0 → get_or v (b + 4 + j) 0 ≡ get_or w (a + 4 + j) 0 = λ j h. shifted j (omega arith) in
    rw (z, s 1 (omega arith), s 2 (omega arith), s 3 (omega arith), row_same w v (a + 4) (b + 4) (most_arguments - get_or w (a + 3) 0) f)
  where
    shifted : (j : ℕ) → 4 + j < instruction_words → get_or v (b + 4 + j) 0 ≡ get_or w (a + 4 + j) 0
    shifted j h =
        let p : b + 4 + j ≡ b + (4 + j) = omega arith in
        let q : a + 4 + j ≡ a + (4 + j) = omega arith in
        rw (p, q) (s (4 + j) h)

pub reads_nothing : (code : List ℕ) (a : ℕ) → length code < instruction_words * a + instruction_words → decode code a ≡ none
unfolding decode
reads_nothing code a h = rw (lt-ltb (length code) (instruction_words * a + instruction_words) h)

pub reads_words : (code : List ℕ) (a : ℕ) (words : List ℕ) → instruction_words * a + instruction_words ≤ length code → words ≡ slice_range code (instruction_words * a) (instruction_words * a + instruction_words)
    → decode code a ≡ of_kind (get_or words 0 0) words 0
unfolding decode
reads_words code a words fits e =
    rw (le-ltb (length code) (instruction_words * a + instruction_words) fits) (sym (of_kind_same code words (instruction_words * a) 0 (λ j h. word j h)))
  where
    word : (j : ℕ) → j < instruction_words → get_or words (0 + j) 0 ≡ get_or code (instruction_words * a + j) 0
    word j h =
        let p : 0 + j ≡ j = omega arith in
        let q : instruction_words * a + instruction_words - instruction_words * a ≡ instruction_words = omega arith in
        rw (p, e, q) (get_or-take instruction_words (drop (instruction_words * a) code) j 0 h ∙ get_or-drop (instruction_words * a) code j 0)

-- words that begin with no kind of instruction
pub of_kind_none : (k : ℕ) (w : List ℕ) (a : ℕ) → (k ≡ eval_kind → ⊥) → (k ≡ exec_kind → ⊥) → (k ≡ select_kind → ⊥) → (k ≡ call_kind → ⊥) → (k ≡ ret_kind → ⊥) → of_kind k w a ≡ none
unfolding of_kind
of_kind_none k w a p q r s t = simp (ne_eqb _ _ p, ne_eqb _ _ q, ne_eqb _ _ r, ne_eqb _ _ s, ne_eqb _ _ t)
