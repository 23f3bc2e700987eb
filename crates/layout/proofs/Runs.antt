-- A run by its first step, from a state that words hold. Assumes nothing.
use mathlib.Core.Path.{◌≡◌, ◌∙◌}
use mathlib.Core.Bool.{true, false}
use mathlib.Core.Option.{Option}
use mathlib.Core.List.{List}
use Prim.Native.Nat.{ℕ, zero, suc, ◌+◌, ◌≤◌}
use native.Mathlib.Omega.{arith}
use Rattle.meaning.specs.Numbers.{HALT, FUEL, DEEP, STUCK, ZERO}
use Rattle.meaning.specs.Code.{Instruction}
use Rattle.meaning.specs.Machine.{State, Next, next, no_step, zero_division, Ending, ended, run, after_step, unless_high, obey, rewrites, top, too_high}
use Rattle.layout.specs.Layout.{place, returns, values, environments, holds, would_be_high}

module _ (code : ℕ → Option Instruction) (w : List ℕ) (a e held d n r : ℕ) where
  pub run_halt : (h left : ℕ) → h ≡ 0 → run code left (holds w a e h held d) n r ≡ ended HALT (top (values w held d)) n r
  unfolding run holds place
  run_halt h zero q = rw q
  run_halt h (suc m) q = rw q

  pub run_fuel : (h left : ℕ) → 1 ≤ h → left ≡ 0 → run code left (holds w a e h held d) n r ≡ ended FUEL 0 n r
  unfolding run holds place
  run_fuel zero left z q = absurd (omega arith)
  run_fuel (suc h) left z q = rw q

  module _ (h left m : ℕ) (z : 1 ≤ h) (q : left ≡ suc m) where
    abbrev stepped : Next
    stepped = obey (code a) (returns w h) (values w held d) (environments w e h)

    run_by : run code left (holds w a e h held d) n r ≡ after_step stepped n r λ s. run code m s (n + 1) (r + rewrites (code a))
    unfolding run holds place
    run_by = by h z left q
      where
        by : (h : ℕ) → 1 ≤ h → (left : ℕ) → left ≡ suc m → run code left (holds w a e h held d) n r ≡ after_step (obey (code a) (returns w h) (values w held d) (environments w e h)) n r λ s. run code m s (n + 1) (r + rewrites (code a))
        by zero z left q = absurd (omega arith)
        by (suc h) z left q = rw q

    pub run_next : (s : State) → stepped ≡ next s → too_high s ≡ false → run code left (holds w a e h held d) n r ≡ run code m s (n + 1) (r + rewrites (code a))
    unfolding after_step unless_high
    run_next s o l = run_by ∙ rw (o, l)

    pub run_stuck : stepped ≡ no_step → run code left (holds w a e h held d) n r ≡ ended STUCK 0 n r
    unfolding after_step
    run_stuck o = run_by ∙ rw o

    pub run_zero : stepped ≡ zero_division → run code left (holds w a e h held d) n r ≡ ended ZERO 0 n r
    unfolding after_step
    run_zero o = run_by ∙ rw o

    deep_by : (f : State → Ending) (o : Next) → would_be_high o ≡ true → after_step o n r f ≡ ended DEEP 0 n r
    unfolding after_step unless_high would_be_high
    deep_by f no_step q = absurd (let z : ◌≡◌ {A = ℕ} 0 1 = cc in omega arith)
    deep_by f zero_division q = absurd (let z : ◌≡◌ {A = ℕ} 0 1 = cc in omega arith)
    deep_by f (next s) q = rw q

    pub run_deep : would_be_high stepped ≡ true → run code left (holds w a e h held d) n r ≡ ended DEEP 0 n r
    run_deep o = run_by ∙ deep_by (λ s. run code m s (n + 1) (r + rewrites (code a))) stepped o
