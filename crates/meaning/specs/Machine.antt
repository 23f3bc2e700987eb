-- Document 01, 'Machine': states, one step, and a run with a limit, as document 000 has them (definitions 69 and 72). Assumes nothing.
use Rattle.std.specs.Prelude.{Bool, true, false, ◌||◌, List, [], ◌∷◌, ◌++◌, map, ℕ, zero, suc, ◌+◌, ltb, length}
use Rattle.std.proofs.Math.Option.{Option, none, some}
use Rattle.std.proofs.Math.ListN.{get_elem?}
use Rattle.meaning.specs.Arithmetic.{Op, domain, Applied, gives, by_zero, unfit, apply}
use Rattle.meaning.specs.Numbers.{Number, HALT, FUEL, DEEP, STUCK, ZERO, most_height}
use Rattle.meaning.specs.Terms.{Program}
use Rattle.meaning.specs.Code.{Instruction, EVAL, EXEC, SELECT, CALL, RET, entrance, initial, translation}

-- What a frame holds for an argument: its value, or the entrance of its term where it waits.
pub data Slot : Type 0 where
  value : ℕ → Slot
  waiting : ℕ → Slot

-- A frame has a slot for each argument of a call.
abbrev pub Frame : Type 0
Frame = List Slot

-- "environments, each a chain of frames"
abbrev pub Environment : Type 0
Environment = List Frame

-- Where the machine goes on: an address, or nowhere.
pub data Place : Type 0 where
  stop : Place
  at : ℕ → Place

-- "address, return stack, data stack, stack of environments". The top of a stack is its head.
pub data State : Type 0 where
  state : Place → List Place → List ℕ → List Environment → State

-- What one step comes to: a state, or there is no such step, or it would divide by 0.
pub data Next : Type 0 where
  next : State → Next
  no_step : Next
  zero_division : Next

-- k values off the data stack, the one that was pushed first leading.
unfoldable pub taken : ℕ → List ℕ → List ℕ → Option (List ℕ × List ℕ)
taken zero vs ds = some (vs, ds)
taken (suc k) vs [] = none
taken (suc k) vs (d ∷ ds) = taken k (d ∷ vs) ds

-- "EVAL of a value pushes it; of a waiting argument, pushes the next address and continues at its entrance in the environment below that frame."
unfoldable pub look_at : Option Slot → ℕ → List Place → List ℕ → Frame → Environment → List Environment → Next
look_at none b rs ds f e es = no_step
look_at (some (value v)) b rs ds f e es = next (state (at b) rs (v ∷ ds) ((f ∷ e) ∷ es))
look_at (some (waiting a)) b rs ds f e es = next (state (at a) (at b ∷ rs) ds (e ∷ (f ∷ e) ∷ es))

-- The argument is looked for in the first frame of the current environment.
unfoldable pub look_up : ℕ → ℕ → List Place → List ℕ → List Environment → Next
look_up i b rs ds [] = no_step
look_up i b rs ds ([] ∷ es) = no_step
look_up i b rs ds ((f ∷ e) ∷ es) = look_at (get_elem? f i) b rs ds f e es

-- EXEC puts the value of its operation in the place of the values that it takes.
unfoldable pub push_result : Applied → ℕ → List Place → List ℕ → List Environment → Next
push_result unfit b rs ds es = no_step
push_result by_zero b rs ds es = zero_division
push_result (gives v) b rs ds es = next (state (at b) rs (v ∷ ds) es)

-- An operation with the values that it takes off the stack.
unfoldable pub execute : Op → Option (List ℕ × List ℕ) → ℕ → List Place → List Environment → Next
execute o none b rs es = no_step
execute o (some p) b rs es = push_result (apply o p.0) b rs p.1 es

-- SELECT takes a yes/no and goes on at that branch.
unfoldable pub choose : ℕ → ℕ → List Place → List ℕ → List Environment → Next
choose x y rs [] es = no_step
choose x y rs (zero ∷ ds) es = next (state (at y) rs ds es)
choose x y rs (suc zero ∷ ds) es = next (state (at x) rs ds es)
choose x y rs (suc (suc v) ∷ ds) es = no_step

-- "CALL takes the strict values, adds the waiting entrances as a new frame on the current environment, and pushes the next address."
unfoldable pub enter : Option (List ℕ × List ℕ) → ℕ → List ℕ → ℕ → List Place → Environment → List Environment → Next
enter none a ws b rs e es = no_step
enter (some p) a ws b rs e es = next (state (at a) (at b ∷ rs) p.1 (((map value p.0 ++ map waiting ws) ∷ e) ∷ e ∷ es))

-- The frame is added to the environment on top.
unfoldable pub call_body : ℕ → ℕ → List ℕ → ℕ → List Place → List ℕ → List Environment → Next
call_body a k ws b rs ds [] = no_step
call_body a k ws b rs ds (e ∷ es) = enter (taken k [] ds) a ws b rs e es

-- "RET goes back in both stacks."
unfoldable pub go_back : List Place → List ℕ → List Environment → Next
go_back [] ds es = no_step
go_back (p ∷ rs) ds [] = no_step
go_back (p ∷ rs) ds (e ∷ es) = next (state p rs ds es)

-- One step, by the instruction at the machine's address.
unfoldable pub obey : Option Instruction → List Place → List ℕ → List Environment → Next
obey none rs ds es = no_step
obey (some (EVAL i b)) rs ds es = look_up i b rs ds es
obey (some (EXEC o b)) rs ds es = execute o (taken (length (domain o)) [] ds) b rs es
obey (some (SELECT x y)) rs ds es = choose x y rs ds es
obey (some (CALL a k ws b)) rs ds es = call_body a k ws b rs ds es
obey (some RET) rs ds es = go_back rs ds es

-- "rewrites are the EXEC, SELECT and CALL steps": 1 for such a step, 0 for another.
unfoldable pub rewrites : Option Instruction → ℕ
rewrites none = 0
rewrites (some (EVAL i b)) = 0
rewrites (some (EXEC o b)) = 1
rewrites (some (SELECT x y)) = 1
rewrites (some (CALL a k ws b)) = 1
rewrites (some RET) = 0

-- "data or return stack would be 513 high"
unfoldable pub too_high : State → Bool
too_high (state p rs ds es) = ltb most_height (length ds) || ltb most_height (length rs)

-- How a run ends: number, value, steps, rewrites. "value is 0 unless HALT"
pub data Ending : Type 0 where
  ended : Number → ℕ → ℕ → ℕ → Ending

-- What the data stack has on top.
unfoldable pub top : List ℕ → ℕ
top [] = 0
top (d ∷ ds) = d

-- What a step that can be made leads to, and what one that cannot.
unfoldable pub unless_high : Bool → ℕ → ℕ → State → (State → Ending) → Ending
unless_high true n r s go_on = ended DEEP 0 n r
unless_high false n r s go_on = go_on s

unfoldable pub after_step : Next → ℕ → ℕ → (State → Ending) → Ending
after_step no_step n r go_on = ended STUCK 0 n r
after_step zero_division n r go_on = ended ZERO 0 n r
after_step (next s) n r go_on = unless_high (too_high s) n r s go_on

-- "Before each step: stopped, HALT; steps done equal the limit, FUEL; data or return stack would be 513 high, DEEP; no such step, STUCK. A step not
-- made is not counted. Steps and rewrites of a run are carried from step to step." ZERO is "judged after FUEL"; a division never makes a stack higher, so
-- DEEP and ZERO do not meet. `left` is what the limit leaves, n and r what was done so far.
unfoldable pub run : (ℕ → Option Instruction) → ℕ → State → ℕ → ℕ → Ending
run code zero (state stop rs ds es) n r = ended HALT (top ds) n r
run code zero (state (at a) rs ds es) n r = ended FUEL 0 n r
run code (suc left) (state stop rs ds es) n r = ended HALT (top ds) n r
run code (suc left) (state (at a) rs ds es) n r =
    after_step (obey (code a) rs ds es) n r λ s. run code left s (n + 1) (r + rewrites (code a))

-- "It starts at the entrance of address 0 with one return entry (stop) and one frame holding the argument values."
unfoldable pub start : ℕ → List ℕ → State
start a vs = state (at a) (stop ∷ []) [] ((map value vs ∷ []) ∷ [])

-- The run of a program at argument values.
unfoldable pub run_program : Program → List ℕ → ℕ → Ending
run_program P vs limit =
    let is = translation P in
    run (get_elem? is) limit (start (entrance (initial P) 0) vs) 0 0
