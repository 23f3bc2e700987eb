-- Where the machine without limits stops, divides by 0, meets the step limit or meets the height limit. Assumes nothing.
use Rattle.std.specs.Prelude.{◌≡◌, ◌⊎◌, true, false, List, ℕ, suc, ◌+◌, ◌≤◌, ◌<◌}
use Rattle.meaning.specs.Numbers.{most_height}
use Rattle.meaning.specs.Terms.{Program}
use Rattle.meaning.specs.Machine.{State, next, zero_division}
use Rattle.theorems.specs.Unlimited.{step, code_of, machine_after, rewrites_after, has_stopped, value_of, data_height, return_height}

-- "a step would make a stack 513 high"
abbrev pub first_too_high : ℕ
first_too_high = most_height + 1

-- In the first n steps of the machine without limits neither stack passes 512.
abbrev pub LowUntil : Program → List ℕ → ℕ → Type 0
LowUntil P args n = (k : ℕ) (s : State) → k ≤ n → machine_after P args k ≡ next s → (data_height s ≤ most_height) × (return_height s ≤ most_height)

-- Somewhere it really passes 512.
pub record Passes (P : Program) (args : List ℕ) : Type 0 where
  pub after : ℕ
  pub there : State
  pub made : machine_after P args after ≡ next there
  pub high : (most_height < data_height there) ⊎ (most_height < return_height there)

-- The machine without limits stops after so many steps and rewrites, with the value v.
pub record Stops (P : Program) (args : List ℕ) (v steps rewrites : ℕ) : Type 0 where
  pub there : State
  pub made : machine_after P args steps ≡ next there
  pub stopped : has_stopped there ≡ true
  pub its_value : value_of there ≡ v
  pub rewritten : rewrites_after P args steps ≡ rewrites

-- After so many steps and rewrites its next step divides by 0.
pub record DividesByZero (P : Program) (args : List ℕ) (steps rewrites : ℕ) : Type 0 where
  pub there : State
  pub made : machine_after P args steps ≡ next there
  pub divides : step (code_of P) there ≡ zero_division
  pub rewritten : rewrites_after P args steps ≡ rewrites

-- It does so before it meets a limit.
pub record DividesInLimits (P : Program) (args : List ℕ) (limit steps rewrites : ℕ) : Type 0 where
  pub divides : DividesByZero P args steps rewrites
  pub in_steps : steps < limit
  pub low : LowUntil P args steps

-- It stops before it meets a limit.
pub record StopsInLimits (P : Program) (args : List ℕ) (limit v steps rewrites : ℕ) : Type 0 where
  pub stops : Stops P args v steps rewrites
  pub in_steps : steps ≤ limit
  pub low : LowUntil P args steps

-- It has made `limit` steps and has not stopped, no stack having passed 512 before.
pub record MeetsStepLimit (P : Program) (args : List ℕ) (limit steps rewrites : ℕ) : Type 0 where
  pub all_made : steps ≡ limit
  pub there : State
  pub made : machine_after P args steps ≡ next there
  pub not_stopped : has_stopped there ≡ false
  pub rewritten : rewrites_after P args steps ≡ rewrites
  pub low : LowUntil P args steps

-- Its next step makes the data or the return stack 513 high, and the limit is not met.
pub record MeetsHeightLimit (P : Program) (args : List ℕ) (limit steps rewrites : ℕ) : Type 0 where
  pub in_steps : steps < limit
  pub there : State
  pub made : machine_after P args (suc steps) ≡ next there
  pub high : (data_height there ≡ first_too_high) ⊎ (return_height there ≡ first_too_high)
  pub rewritten : rewrites_after P args steps ≡ rewrites
  pub low : LowUntil P args steps
