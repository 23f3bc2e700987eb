-- How src/ says what the definitions say: the enum Number in place of a name of Numbers, a refusal as the struct Refusal. Assumes nothing.
use Rattle.std.specs.Prelude.{ℕ, length, Result, Ok, Err}
use Rattle.meaning.specs.Numbers.{no}
use Rattle.meaning.specs.Numbers as names
use Rattle.meaning.specs.Text.{Verdict, fine, refused}
use Rattle.meaning.specs.Terms.{Program}
use Rattle.meaning.specs.Code.{translation}
use Rattle.meaning.specs.declared.Number.{Number}
use Rattle.meaning.specs.declared.Number.TheVariants.{Halt, Long, Line, Count, Name, Term, Nest, Args, Room, Fuel, Deep, Stuck, Zero, Unknown, Sort, Short}
use Rattle.meaning.specs.declared.Refusal.{Refusal}
use Rattle.meaning.specs.declared.Accepted.{Accepted}
use Rattle.meaning.specs.declared.Checked.{Checked}
use Rattle.meaning.specs.declared.Answer.{Answer}

-- A name of Numbers as src/ has it.
abbrev pub said : names.Number → Number
said names.HALT = Halt
said names.LONG = Long
said names.LINE = Line
said names.COUNT = Count
said names.NAME = Name
said names.TERM = Term
said names.NEST = Nest
said names.ARGS = Args
said names.ROOM = Room
said names.FUEL = Fuel
said names.DEEP = Deep
said names.STUCK = Stuck
said names.ZERO = Zero
said names.UNKNOWN = Unknown
said names.SORT = Sort
said names.SHORT = Short

-- Its number.
abbrev pub number_word : Number → ℕ
number_word Halt = 0
number_word Long = 1
number_word Line = 2
number_word Count = 3
number_word Name = 4
number_word Term = 5
number_word Nest = 6
number_word Args = 7
number_word Room = 8
number_word Fuel = 9
number_word Deep = 10
number_word Stuck = 11
number_word Zero = 12
number_word Unknown = 13
number_word Sort = 14
number_word Short = 15

-- What Check and Translate answer for a refusal, and what Run does.
abbrev pub checked_refusal : Refusal → Checked
checked_refusal r = record { number = number_word r.number; line = r.line; field = r.field; functions = 0; instructions = 0 }

abbrev pub answered_refusal : Refusal → Answer
answered_refusal r = record { number = number_word r.number; value = 0; line = r.line; field = r.field; steps = 0; rewrites = 0 }

-- A refusal of the definitions.
abbrev pub refusal : names.Number → ℕ → ℕ → Refusal
refusal n line field = record { number = said n; line = line; field = field }

-- What a test of a text comes to, in the words of src/: what it finds, or the refusal.
unfoldable pub found : {A B : Type 0} → (A → B) → Verdict A → Result B Refusal
found f (fine a) = Ok (f a)
found f (refused n line field) = Err (refusal n line field)

-- What an accepted program has.
abbrev pub accepted : Program → Accepted
accepted P = record { functions = length P; instructions = length (translation P) }

-- What Check and Translate answer for what a text comes to.
abbrev pub checked_result : Result Accepted Refusal → Checked
checked_result (Ok a) = record { number = number_word Halt; line = 0; field = 0; functions = a.functions; instructions = a.instructions }
checked_result (Err r) = checked_refusal r
