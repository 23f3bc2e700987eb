-- What a step's answer says of the machine's step. Assumes nothing.
use Rattle.std.specs.Prelude.{◌≡◌, true, List, ◌∷◌, ℕ, ◌+◌, ◌≤◌, ◌<◌, ◌^◌, Result, Ok, Err}
use Rattle.std.proofs.Math.Option.{Option}
use Rattle.meaning.specs.Numbers.{DEEP, STUCK, ZERO}
use Rattle.meaning.specs.Said.{said}
use Rattle.meaning.specs.Code.{Instruction}
use Rattle.meaning.specs.Machine.{state, at, Next, next, no_step, zero_division, obey, rewrites}
use Rattle.meaning.specs.declared.Number.{Number}
use Rattle.layout.specs.Layout.{returns, values, environments, Good, Comes, would_be_high, opened}
use Rattle.kinds.specs.declared.Tally.{Tally}
use Rattle.kinds.specs.declared.Registers.{Registers}

abbrev pub none_done : Tally
none_done = record { steps = 0; rewrites = 0 }

-- one step more, with n rewrites
abbrev pub counted : ℕ → Tally → Tally
counted n t = record { steps = t.steps + 1; rewrites = t.rewrites + n }

-- A step that is still to come is within the step limit, a number of 32 bits.
abbrev pub Few : Tally → Type 0
Few t = (t.steps < 2 ^ 32) × (t.rewrites ≤ t.steps)

-- the machine has not stopped, and its words and registers are in order
pub record Running (w : List ℕ) (s : Registers) : Type 0 where
  pub good : Good w s.env s.high s.deep
  pub going : 1 ≤ s.high
  pub few : Few s.tally

-- the machine's own step by this instruction, from the state that words and registers hold
abbrev pub obeys : Option Instruction → List ℕ → Registers → Next
obeys i w s = obey i (returns w s.high) (values w s.held s.deep) (environments w s.env s.high)

-- the step that pushes v and goes on at b
abbrev pub pushing : List ℕ → Registers → ℕ → ℕ → Next
pushing w s v b = next (state (at b) (returns w s.high) (v ∷ values w s.held s.deep) (environments w s.env s.high))

-- the step that goes on at a in the environment below the first frame, and afterwards at b
abbrev pub opening : List ℕ → Registers → ℕ → ℕ → Next
opening w s a b = next (opened w a b s.env s.high s.held s.deep)

-- Of the machine's step o, with the tally t after it, from words w: it was made, and the registers s that r answers and v hold what it comes to;
-- or it would make a stack 513 high; or there is none; or it would divide by 0. "A step not made is not counted": no registers are answered, but why.
pub data Met (t : Tally) (o : Next) (r : Result Registers Number) (w v : List ℕ) : Type 0 where
  is_made : (s : Registers) → r ≡ Ok s → Comes o w v s.at s.env s.high s.held s.deep → s.tally ≡ t → Met t o r w v
  is_deep : would_be_high o ≡ true → r ≡ Err (said DEEP) → v ≡ w → Met t o r w v
  is_stuck : o ≡ no_step → r ≡ Err (said STUCK) → v ≡ w → Met t o r w v
  is_zero : o ≡ zero_division → r ≡ Err (said ZERO) → v ≡ w → Met t o r w v

-- .. of the machine's step by this instruction, and its own count of rewrites
abbrev pub Obeyed : Option Instruction → Registers → Result Registers Number → List ℕ → List ℕ → Type 0
Obeyed i s r w v = Met (counted (rewrites i) s.tally) (obeys i w s) r w v
