-- The machine without limits: document 000's machine, which goes on for as long as there is a next step. Its state after n steps, what it made
-- on the way, and how high its stacks stand. Assumes nothing.
use Rattle.std.specs.Prelude.{◌≡◌, refl, Bool, true, false, List, [], ◌∷◌, ℕ, zero, suc, ◌+◌, length, if◌then◌else◌}
use Rattle.std.proofs.Math.Option.{Option, none, some}
use Prim.Native.String.{String}
use Rattle.std.proofs.Math.ListN.{get_elem?}
use Rattle.meaning.specs.Arithmetic.{apply, of_none, of_one, of_two, unless_zero, of_divided, sum, difference, product, quotient, remainder, equal, less, both, either, opposite}
use Rattle.meaning.specs.Terms.{Program}
use Rattle.meaning.specs.Check.{check_text, found}
use Rattle.meaning.specs.Code.{Instruction, EVAL, EXEC, SELECT, CALL, RET, entrance, initial, translation, translate_text}
use Rattle.meaning.specs.Machine.{Slot, value, waiting, Environment, stop, at, State, state, Next, next, no_step, zero_division, taken, look_at, look_up, push_result, execute, choose, enter, call_body, go_back, obey, rewrites, start, top}

-- One step; a machine that has stopped makes none, and one that would divide by 0 makes none either.
unfoldable pub step : (ℕ → Option Instruction) → State → Next
step code (state stop rs ds es) = no_step
step code (state (at a) rs ds es) = obey (code a) rs ds es

-- What follows of a step: `otherwise` where there was none.
unfoldable pub from_next : {A : Type 0} → Next → A → (State → A) → A
from_next no_step otherwise go_on = otherwise
from_next zero_division otherwise go_on = otherwise
from_next (next s) otherwise go_on = go_on s

-- The state n steps after s, where as many can be made.
unfoldable pub state_after : (ℕ → Option Instruction) → ℕ → State → Next
state_after code zero s = next s
state_after code (suc n) s = from_next (step code s) no_step (state_after code n)

-- How often something is done in n steps from s; `done` says it of one step, from the state before it.
unfoldable pub done_in : (ℕ → Option Instruction) → (State → ℕ) → ℕ → State → ℕ
done_in code done zero s = 0
done_in code done (suc n) s = from_next (step code s) 0 λ s'. done s + done_in code done n s'

-- The next step of a state.

-- The instruction that it obeys; none once the machine has stopped.
unfoldable pub instruction_at : (ℕ → Option Instruction) → State → Option Instruction
instruction_at code (state stop rs ds es) = none
instruction_at code (state (at a) rs ds es) = code a

-- Whether it is a rewrite, as document 01 counts them: 1 or 0.
unfoldable pub rewrites_at : (ℕ → Option Instruction) → State → ℕ
rewrites_at code s = rewrites (instruction_at code s)

-- Whether it is a call.
unfoldable pub calls : Option Instruction → ℕ
calls none = 0
calls (some (EVAL i b)) = 0
calls (some (EXEC o b)) = 0
calls (some (SELECT x y)) = 0
calls (some (CALL a k ws b)) = 1
calls (some RET) = 0

-- The same from a state.
unfoldable pub calls_at : (ℕ → Option Instruction) → State → ℕ
calls_at code s = calls (instruction_at code s)

-- Whether it is a return.
unfoldable pub returns : Option Instruction → ℕ
returns none = 0
returns (some (EVAL i b)) = 0
returns (some (EXEC o b)) = 0
returns (some (SELECT x y)) = 0
returns (some (CALL a k ws b)) = 0
returns (some RET) = 1

-- The same from a state.
unfoldable pub returns_at : (ℕ → Option Instruction) → State → ℕ
returns_at code s = returns (instruction_at code s)

-- A waiting lookup is an EVAL that finds a waiting argument in the first frame of the current environment. Whether what it finds waits:
unfoldable pub is_waiting : Option Slot → ℕ
is_waiting none = 0
is_waiting (some (value v)) = 0
is_waiting (some (waiting a)) = 1

-- What an EVAL of argument i finds.
unfoldable pub looked_at : ℕ → List Environment → Option Slot
looked_at i [] = none
looked_at i ([] ∷ es) = none
looked_at i ((f ∷ e) ∷ es) = get_elem? f i

-- Whether a step is a waiting lookup.
unfoldable pub waiting_lookups : Option Instruction → List Environment → ℕ
waiting_lookups none es = 0
waiting_lookups (some (EVAL i b)) es = is_waiting (looked_at i es)
waiting_lookups (some (EXEC o b)) es = 0
waiting_lookups (some (SELECT x y)) es = 0
waiting_lookups (some (CALL a k ws b)) es = 0
waiting_lookups (some RET) es = 0

-- The stack of environments of a state.
unfoldable pub environments : State → List Environment
environments (state p rs ds es) = es

-- The same from a state.
unfoldable pub waiting_lookups_at : (ℕ → Option Instruction) → State → ℕ
waiting_lookups_at code s = waiting_lookups (instruction_at code s) (environments s)

-- What a state holds.

-- Whether the machine has stopped in it.
unfoldable pub has_stopped : State → Bool
has_stopped (state stop rs ds es) = true
has_stopped (state (at a) rs ds es) = false

-- The value on top of the data stack.
unfoldable pub value_of : State → ℕ
value_of (state p rs ds es) = top ds

-- How high the return stack stands,
unfoldable pub return_height : State → ℕ
return_height (state p rs ds es) = length rs

-- the data stack,
unfoldable pub data_height : State → ℕ
data_height (state p rs ds es) = length ds

-- and the stack of environments.
unfoldable pub environment_height : State → ℕ
environment_height (state p rs ds es) = length es

-- A program at its argument values.

-- The code of a program, by address.
unfoldable pub code_of : Program → ℕ → Option Instruction
code_of P = get_elem? (translation P)

-- The state that it starts in.
unfoldable pub start_of : Program → List ℕ → State
start_of P args = start (entrance (initial P) 0) args

-- The state after n steps.
abbrev pub machine_after : Program → List ℕ → ℕ → Next
machine_after P args n = state_after (code_of P) n (start_of P args)

-- The rewrites made in n steps,
abbrev pub rewrites_after : Program → List ℕ → ℕ → ℕ
rewrites_after P args n = done_in (code_of P) (rewrites_at (code_of P)) n (start_of P args)

-- the calls,
abbrev pub calls_after : Program → List ℕ → ℕ → ℕ
calls_after P args n = done_in (code_of P) (calls_at (code_of P)) n (start_of P args)

-- the returns,
abbrev pub returns_after : Program → List ℕ → ℕ → ℕ
returns_after P args n = done_in (code_of P) (returns_at (code_of P)) n (start_of P args)

-- and the waiting lookups.
abbrev pub waiting_lookups_after : Program → List ℕ → ℕ → ℕ
waiting_lookups_after P args n = done_in (code_of P) (waiting_lookups_at (code_of P)) n (start_of P args)

-- After n steps of a text: the value on top once the machine has stopped, then rewrites, calls, waiting lookups and returns.
unfoldable pub counts_of : String → List ℕ → ℕ → List ℕ
unfolding translate_text apply of_none of_one of_two unless_zero of_divided sum difference product quotient remainder equal less both either opposite taken look_at look_up push_result execute choose enter call_body go_back obey rewrites start top step from_next state_after done_in instruction_at rewrites_at calls calls_at returns returns_at is_waiting looked_at waiting_lookups environments waiting_lookups_at has_stopped value_of code_of start_of
counts_of text args n =
    let P = found (check_text text) in
    from_next (machine_after P args n) [] λ s.
    if has_stopped s then value_of s ∷ rewrites_after P args n ∷ calls_after P args n ∷ waiting_lookups_after P args n ∷ returns_after P args n ∷ [] else []

-- DIF 2 and DIF 0 at 3 and 4294967290: both arguments are looked up by value, or wait; the last return stops.
pub dif_counts : counts_of "DIF\t2\tnn\tn\t-\ta\tb\n" (3 ∷ 4294967290 ∷ []) 8 ∷ counts_of "DIF\t0\tnn\tn\t-\ta\tb\n" (3 ∷ 4294967290 ∷ []) 10 ∷ []
    ≡ (9 ∷ 2 ∷ 1 ∷ 0 ∷ 2 ∷ []) ∷ (9 ∷ 2 ∷ 1 ∷ 2 ∷ 4 ∷ []) ∷ []
unfolding counts_of
dif_counts = refl
