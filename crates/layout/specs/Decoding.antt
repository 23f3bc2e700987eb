-- From words back to instructions: what the machine reads at an address of any code words.
-- Assumes nothing.
use Rattle.std.proofs.Math.Option.{Option, none, some}
use Rattle.std.specs.Prelude.{List, [], ◌∷◌, ℕ, zero, suc, ◌+◌, ◌-◌, ◌*◌, ltb, eqb, length, get_or, if◌then◌else◌}
use Rattle.meaning.specs.Arithmetic.{number, Op, constant, add, sub, mul, div, rem, eq, lt, and, or, neg}
use Rattle.meaning.specs.Numbers.{instruction_words, most_arguments}
use Rattle.meaning.specs.Code.{Instruction, EVAL, EXEC, SELECT, CALL, RET}

-- The kinds of instruction.
abbrev pub eval_kind : ℕ
eval_kind = 1

abbrev pub exec_kind : ℕ
exec_kind = 2

abbrev pub select_kind : ℕ
select_kind = 3

abbrev pub call_kind : ℕ
call_kind = 4

abbrev pub ret_kind : ℕ
ret_kind = 5

-- Where an instruction's words stand after its kind.
abbrev pub next_word : ℕ
next_word = 1

abbrev pub position_word : ℕ
position_word = 2

abbrev pub operation_word : ℕ
operation_word = 2

abbrev pub constant_word : ℕ
constant_word = 3

abbrev pub yes_word : ℕ
yes_word = 2

abbrev pub no_word : ℕ
no_word = 3

abbrev pub body_word : ℕ
body_word = 2

abbrev pub count_word : ℕ
count_word = 3

abbrev pub entrance_words : ℕ
entrance_words = 4

-- n words from a on
unfoldable pub row : List ℕ → ℕ → ℕ → List ℕ
row w a zero = []
row w a (suc n) = get_or w a 0 ∷ row w (suc a) n

-- the words before the first 0: "CALL does not say how many arguments wait", and 0 is no entrance of a waiting argument
unfoldable pub leading : List ℕ → List ℕ
leading [] = []
leading (zero ∷ ws) = []
leading (suc a ∷ ws) = suc a ∷ leading ws

-- "operation (0 constant, then 1 to 10 for `+ - * / % = < & | !`), constant's value"
unfoldable pub operation : ℕ → ℕ → Option Op
operation k v =
    if eqb k 0 then some (constant number v) else
    (if eqb k 1 then some add else
    (if eqb k 2 then some sub else
    (if eqb k 3 then some mul else
    (if eqb k 4 then some div else
    (if eqb k 5 then some rem else
    (if eqb k 6 then some eq else
    (if eqb k 7 then some lt else
    (if eqb k 8 then some and else
    (if eqb k 9 then some or else
    (if eqb k 10 then some neg else none))))))))))

-- An argument position is counted from 1.
unfoldable pub an_eval : ℕ → ℕ → Option Instruction
an_eval zero b = none
an_eval (suc i) b = some (EVAL i b)

unfoldable pub an_exec : Option Op → ℕ → Option Instruction
an_exec none b = none
an_exec (some o) b = some (EXEC o b)

-- of k strict values; the words left for entrances are as many as the strict ones leave
unfoldable pub a_call : List ℕ → ℕ → ℕ → Option Instruction
a_call code base k =
    if ltb most_arguments k then none else
    some (CALL (get_or code (base + body_word) 0) k (leading (row code (base + entrance_words) (most_arguments - k))) (get_or code (base + next_word) 0))

-- The instruction whose words begin at `base`, kind by kind ..
abbrev pub eval_at : List ℕ → ℕ → Option Instruction
eval_at code base = an_eval (get_or code (base + position_word) 0) (get_or code (base + next_word) 0)

abbrev pub exec_at : List ℕ → ℕ → Option Instruction
exec_at code base = an_exec (operation (get_or code (base + operation_word) 0) (get_or code (base + constant_word) 0)) (get_or code (base + next_word) 0)

abbrev pub select_at : List ℕ → ℕ → Option Instruction
select_at code base = some (SELECT (get_or code (base + yes_word) 0) (get_or code (base + no_word) 0))

abbrev pub call_at : List ℕ → ℕ → Option Instruction
call_at code base = a_call code base (get_or code (base + count_word) 0)

-- .. and of this kind.
unfoldable pub of_kind : ℕ → List ℕ → ℕ → Option Instruction
of_kind kind code base =
    if eqb kind eval_kind then eval_at code base else
    (if eqb kind exec_kind then exec_at code base else
    (if eqb kind select_kind then select_at code base else
    (if eqb kind call_kind then call_at code base else
    (if eqb kind ret_kind then some RET else none))))

-- the instruction at an address; none where the words end before it does, or where they are no instruction's
unfoldable pub decode : List ℕ → ℕ → Option Instruction
decode code a =
    if ltb (length code) (instruction_words * a + instruction_words) then none else
    of_kind (get_or code (instruction_words * a) 0) code (instruction_words * a)

-- the address at which the initial term is entered: that of its first argument where its strict count is not 0, else its own
unfoldable pub first_entrance : List ℕ → ℕ
first_entrance code = if eqb (get_or code count_word 0) 0 then 0 else 1
