-- A turn of the loop: what is left to run is the whole run. Assumes nothing.
use mathlib.Core.Path.{◌≡◌, refl, sym, ap, ◌∙◌}
use mathlib.Core.Bool.{true}
use mathlib.Core.Option.{Option, none, some}
use mathlib.Core.List.{List}
use Prim.Native.Nat.{ℕ, zero, suc, ◌+◌, ◌-◌, ◌≤◌, ◌<◌}
use native.Mathlib.Omega.{arith}
use lib.ListN.{length, drop}
use borrow.Author.Tests.{ne_eqb}
use Rattle.std.specs.Prelude.{Result, Ok, Err}
use Rattle.meaning.specs.Numbers.{no, work_words}
use Rattle.meaning.specs.Code.{Instruction, EVAL, EXEC, SELECT, CALL, RET}
use Rattle.meaning.specs.Machine.{State, no_step, zero_division, Ending, run, top, rewrites}
use Rattle.meaning.specs.Answers.{ran}
use Rattle.meaning.specs.declared.Number.{Number}
use Rattle.meaning.specs.declared.Number.TheVariants.{Halt, Fuel, Deep, Stuck, Zero}
use Rattle.layout.specs.Decoding.{decode}
use Rattle.layout.specs.Layout.{values, holds, Good, Comes, would_be_high}
use Rattle.layout.proofs.Levels.{not_high}
use Rattle.layout.proofs.Runs.{run_halt, run_fuel, run_next, run_stuck, run_deep, run_zero}
use Rattle.kinds.specs.declared.Registers.{Registers}
use Rattle.kinds.specs.Met.{counted, obeys, Obeyed, is_made, is_deep, is_stuck, is_zero}
use Rattle.machine.specs.Ends.{value_of, answered}

abbrev holding : List ℕ → Registers → State
holding w s = holds w s.at s.env s.high s.held s.deep

-- what holds whenever a turn begins: of a run whose whole is this ending, what is left to run is the whole
pub record On (code w₀ : List ℕ) (limit : ℕ) (whole : Ending) (w : List ℕ) (s : Registers) : Type 0 where
  pub same : length w ≡ length w₀
  pub kept : drop work_words w ≡ drop work_words w₀
  pub left : s.tally.steps ≤ limit
  pub fewer : s.tally.rewrites ≤ s.tally.steps
  pub good : Good w s.env s.high s.deep
  pub runs : run (decode code) (limit - s.tally.steps) (holds w s.at s.env s.high s.held s.deep) s.tally.steps s.tally.rewrites ≡ whole

-- the value of a run that has stopped
top_value : (v : List ℕ) (held d : ℕ) → value_of 0 held d ≡ top (values v held d)
unfolding top values no
top_value v held zero = refl
top_value v held (suc n) = rw (ne_eqb (suc n) 0 (λ q. omega arith))

module _ (code w₀ : List ℕ) (limit : ℕ) (whole : Ending) (w : List ℕ) (s : Registers) (i : On code w₀ limit whole w s) where
  abbrev steps : ℕ
  steps = s.tally.steps

  pub ends_halt : s.high ≡ 0 → answered Halt s ≡ ran whole
  unfolding ran no
  ends_halt e =
      rw (← i.runs, run_halt (decode code) w s.at s.env s.held s.deep steps s.tally.rewrites s.high (limit - steps) e)
      (ap (λ (x : ℕ). record { number = 0; value = x; line = 0; field = 0; steps = steps; rewrites = s.tally.rewrites }) (top_value w s.held s.deep))

  module _ (z : s.high ≡ 0 → ⊥) where
    pub ends_fuel : limit ≤ steps → answered Fuel s ≡ ran whole
    unfolding ran no
    ends_fuel l = rw (← i.runs, run_fuel (decode code) w s.at s.env s.held s.deep steps s.tally.rewrites s.high (limit - steps) (omega arith) (omega arith))

    module _ (l : steps < limit) where
      abbrev one : ℕ
      one = rewrites (decode code s.at)

      one_less : limit - steps ≡ suc (limit - (steps + 1))
      one_less = omega arith

      -- a step that was not made
      ends_deep : would_be_high (obeys (decode code s.at) w s) ≡ true → answered Deep s ≡ ran whole
      unfolding ran no
      ends_deep o = rw (← i.runs, run_deep (decode code) w s.at s.env s.held s.deep steps s.tally.rewrites s.high (limit - steps) (limit - (steps + 1)) (omega arith) one_less o)

      ends_stuck : obeys (decode code s.at) w s ≡ no_step → answered Stuck s ≡ ran whole
      unfolding ran no
      ends_stuck o = rw (← i.runs, run_stuck (decode code) w s.at s.env s.held s.deep steps s.tally.rewrites s.high (limit - steps) (limit - (steps + 1)) (omega arith) one_less o)

      ends_zero : obeys (decode code s.at) w s ≡ zero_division → answered Zero s ≡ ran whole
      unfolding ran no
      ends_zero o = rw (← i.runs, run_zero (decode code) w s.at s.env s.held s.deep steps s.tally.rewrites s.high (limit - steps) (limit - (steps + 1)) (omega arith) one_less o)

      module _ (v : List ℕ) (r : Result Registers Number) (m : Obeyed (decode code s.at) s r w v) where
        pub stops : (n : Number) → r ≡ Err n → (answered n s ≡ ran whole) × (drop work_words v ≡ drop work_words w₀)
        stops n e = by m
          where
            by : Obeyed (decode code s.at) s r w v → (answered n s ≡ ran whole) × (drop work_words v ≡ drop work_words w₀)
            by (is_made t q c k) = absurd (cc)
            by (is_deep o q k) = let f : n ≡ Deep = cc in rw (f, k) (ends_deep o, i.kept)
            by (is_stuck o q k) = let f : n ≡ Stuck = cc in rw (f, k) (ends_stuck o, i.kept)
            by (is_zero o q k) = let f : n ≡ Zero = cc in rw (f, k) (ends_zero o, i.kept)

        rewrites_few : one ≤ 1
        unfolding rewrites
        rewrites_few = by (decode code s.at)
          where
            by : (x : Option Instruction) → rewrites x ≤ 1
            by none = omega arith
            by (some (EVAL a b)) = omega arith
            by (some (EXEC a b)) = omega arith
            by (some (SELECT a b)) = omega arith
            by (some (CALL a k ws b)) = omega arith
            by (some RET) = omega arith

        -- a step that was made
        made : (t : Registers) → length v ≡ length w → Comes (obeys (decode code s.at) w s) w v t.at t.env t.high t.held t.deep → t.tally ≡ counted one s.tally → On code w₀ limit whole v t
        made t same c k = record {
          same = same ∙ i.same;
          kept = c.kept ∙ i.kept;
          left = rw k (omega arith);
          fewer = rw k (omega (arith, rewrites_few, i.fewer));
          good = c.good;
          runs =
              rw k (
              sym (run_next (decode code) w s.at s.env s.held s.deep steps s.tally.rewrites s.high (limit - steps) (limit - (steps + 1)) (omega arith) one_less (holding v t) c.step (not_high v t.at t.env t.high t.held t.deep c.good))
              ∙ i.runs);
        }

        pub turns : (t : Registers) → r ≡ Ok t → length v ≡ length w → On code w₀ limit whole v t × (limit - t.tally.steps < limit - steps)
        turns t e same = by m
          where
            by : Obeyed (decode code s.at) s r w v → On code w₀ limit whole v t × (limit - t.tally.steps < limit - steps)
            by (is_deep o q k) = absurd (cc)
            by (is_stuck o q k) = absurd (cc)
            by (is_zero o q k) = absurd (cc)
            by (is_made u q c k) = let f : u ≡ t = cc in rw (← f) (made u same c k, rw k (omega arith))
