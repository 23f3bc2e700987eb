-- The program's output is settled by the first 16,514 bytes of its input: the longest first line with its end, and one byte more than the longest
-- text. Assumes nothing.
use Rattle.std.specs.Prelude.{if◌then◌else◌}
use mathlib.Core.Path.{◌≡◌, refl, ap, sym, ◌∙◌}
use mathlib.Core.Bool.{Bool, true, false}
use mathlib.Core.List.{List, [], ◌∷◌}
use Prim.Native.Nat.{ℕ, zero, suc, ◌+◌, ◌≤◌, ◌<◌, min}
use native.Mathlib.Omega.{arith}
use native.Mathlib.Decide.{dec_le}
use lib.Dec.{eqb}
use lib.ListN.{length, take, drop, length-take, length-drop}
use lib.Seq.{take_all, take-take}
use borrow.Author.Tests.{lt-leb}
use Rattle.meaning.specs.Numbers.{LONG, most_bytes}
use Rattle.meaning.specs.Text.{Field, refused, pieces, tab, line_end, ◌>>=◌, ◌>>◌, judge_length}
use Rattle.meaning.specs.Check.{check}
use Rattle.meaning.specs.Answers.{run_answer, admit_run, answered}
use Rattle.meaning.specs.Program.{Order, malformed, is_first_line, first_line_bytes, limit_and_arguments, order_of, answer_order, printed, output}
use Rattle.fields.specs.Fields.{span}
use Rattle.order.proofs.Laws.{order_unended, order_ended}

abbrev pub most_input : ℕ
most_input = first_line_bytes + 1 + (most_bytes + 1)

-- where the first line of a part ends
span_step : (n m k : ℕ) (t : Bool) → m ≡ min n k → (if t then 0 else suc m) ≡ min (suc n) (if t then 0 else suc k)
span_step n m k true h = omega arith
span_step n m k false h = omega arith

span_take : (b n : ℕ) (s : List ℕ) → span b (take n s) ≡ min n (span b s)
unfolding span
span_take b zero s = omega arith
span_take b (suc n) [] = omega arith
span_take b (suc n) (x ∷ xs) = span_step n (span b (take n xs)) (span b xs) (eqb x b) (span_take b n xs)

-- a first line that does not end in time
not_first : (p : List ℕ) (o : Order) → first_line_bytes < length p → (if is_first_line p then o else malformed) ≡ malformed
unfolding is_first_line
not_first p o h = simp (lt-leb (length p) first_line_bytes h)

late : (s : List ℕ) → first_line_bytes < span line_end s → order_of s ≡ malformed
late s h =
    elim (dec_le (length s) (span line_end s)) [
      | yes l ↦ order_unended s l
      | no l ↦ (order_ended s (span line_end s) refl (omega arith) ∙ not_first (take (span line_end s) s) _ (omega (arith, length-take (span line_end s) s)))
    ]

-- texts that are too long are answered alike
too_long : (text : List ℕ) → most_bytes < length text → check text ≡ refused LONG 0 0
unfolding check judge_length ◌>>◌
too_long text h = simp (lt-leb (length text) most_bytes h)

alike : (fs : List Field) (text text' : List ℕ) → most_bytes < length text → most_bytes < length text' → answer_order (limit_and_arguments fs text) ≡ answer_order (limit_and_arguments fs text')
unfolding limit_and_arguments answer_order run_answer admit_run answered ◌>>=◌
alike [] text text' h k = refl
alike (f ∷ fs) text text' h k = rw (too_long text h, too_long text' k)

pub enough : (input : List ℕ) → output (take most_input input) ≡ output input
unfolding output
enough s = elim (dec_le (length s) most_input) [
  | yes l ↦ ap output (take_all most_input s l)
  | no l ↦ ap printed (elim (dec_le (span line_end s) first_line_bytes) [
    | yes k ↦ in_time k (omega arith)
    | no k ↦ ap answer_order (late (take most_input s) (omega (arith, span_take line_end most_input s)) ∙ sym (late s (omega arith)))
  ])
]
  where
    pick : (b : Bool) (fs : List Field) (text text' : List ℕ) → most_bytes < length text → most_bytes < length text'
        → answer_order (if b then limit_and_arguments fs text else malformed) ≡ answer_order (if b then limit_and_arguments fs text' else malformed)
    pick true fs text text' h k = alike fs text text' h k
    pick false fs text text' h k = refl

    in_time : span line_end s ≤ first_line_bytes → most_input < length s → answer_order (order_of (take most_input s)) ≡ answer_order (order_of s)
    in_time k l =
        let e = span line_end s in
        let t = take most_input s in
        let n : length t ≡ most_input = length-take most_input s ∙ omega arith in
        rw (order_ended t e (span_take line_end most_input s ∙ omega arith) (omega arith), order_ended s e refl (omega arith), take-take e most_input s (omega arith))
        (pick (is_first_line (take e s)) (pieces tab (take e s)) (drop (e + 1) t) (drop (e + 1) s)
        (omega (arith, length-drop (e + 1) t)) (omega (arith, length-drop (e + 1) s)))
