-- Document 01, 'Numbers the engine answers with', last part: what Check, Translate and Run answer, and what every lent slice holds afterwards.
-- A lent slice is a list of words or heads; of a slice whose contents do not matter only the length is taken. Assumes nothing.
use Rattle.std.specs.Prelude.{Bool, true, false, ◌&&◌, List, [], ◌∷◌, ℕ, ◌+◌, ◌*◌, leb, length, replicate}
use Rattle.meaning.specs.Basics.{written_over}
use Rattle.meaning.specs.Arithmetic.{Sort, number, yes_no}
use Rattle.meaning.specs.Numbers.{no, HALT, ARGS, ROOM, instruction_words, work_words}
use Rattle.meaning.specs.Text.{Verdict, fine, refused, ◌>>=◌, ◌>>◌, Passed}
use Rattle.meaning.specs.Terms.{Program}
use Rattle.meaning.specs.Check.{check}
use Rattle.meaning.specs.Code.{size, initial, translation, code_words}
use Rattle.meaning.specs.Machine.{Ending, ended, run_program}
use Rattle.meaning.specs.declared.Head.{Head}
use Rattle.meaning.specs.declared.Checked.{Checked}
use Rattle.meaning.specs.declared.Answer.{Answer}

-- Check.

-- "argument count, strict count, result sort (n 0, b 1), address of the body's first symbol"
unfoldable pub sort_number : Sort → ℕ
sort_number number = 0
sort_number yes_no = 1

-- One head a function, the first body at address a.
unfoldable pub heads_from : ℕ → Program → List Head
heads_from a [] = []
heads_from a (F ∷ P) =
    record { args = length F.sorts; strict = F.strict; result = sort_number F.result; body = a }
    ∷ heads_from (a + size F.body) P

-- The heads of a program: the first body stands after the initial term.
unfoldable pub heads_of : Program → List Head
heads_of P = heads_from (size (initial P)) P

-- "ROOM: a lent slice is too short"
unfoldable pub judge_room : Bool → Passed
judge_room true = fine tt
judge_room false = refused ROOM 0 0

-- "Check needs one head a function"
unfoldable pub admit_check : List ℕ → ℕ → Verdict Program
admit_check text heads = check text >>= λ P. judge_room (leb (length P) heads) >> fine P

-- "Check answers number, line, field, functions, instructions (the last two 0 when refused)."
unfoldable pub checked : Verdict Program → Checked
checked (fine P) = record { number = no HALT; line = 0; field = 0; functions = length P; instructions = length (translation P) }
checked (refused n line field) = record { number = no n; line = line; field = field; functions = 0; instructions = 0 }

-- "After 1 to 8 every lent slice is unchanged"; "on acceptance the needed heads and code words are written, the rest unchanged".
unfoldable pub with_heads : Verdict Program → List Head → List Head
with_heads (fine P) heads = written_over (heads_of P) heads
with_heads (refused n line field) heads = heads

-- The same for code words.
unfoldable pub with_code : Verdict Program → List ℕ → List ℕ
with_code (fine P) code = written_over (code_words (translation P)) code
with_code (refused n line field) code = code

-- What Check answers for a text and a number of lent heads, and what those hold afterwards.
unfoldable pub check_answer : List ℕ → ℕ → Checked
check_answer text heads = checked (admit_check text heads)

-- What the lent heads hold after Check.
unfoldable pub check_heads : List ℕ → List Head → List Head
check_heads text heads = with_heads (admit_check text (length heads)) heads

-- Translate.

-- "Translate needs 12 words of 32 bits an instruction"
abbrev pub code_fits : Program → ℕ → Bool
code_fits P code = leb (instruction_words * length (translation P)) code

-- A text that Translate accepts, so many code words being lent.
unfoldable pub admit_translate : List ℕ → ℕ → Verdict Program
admit_translate text code = check text >>= λ P. judge_room (code_fits P code) >> fine P

-- "Translate answers as Check does."
unfoldable pub translate_answer : List ℕ → ℕ → Checked
translate_answer text code = checked (admit_translate text code)

-- What the lent code holds afterwards.
unfoldable pub translate_code : List ℕ → List ℕ → List ℕ
translate_code text code = with_code (admit_translate text (length code)) code

-- Run.

-- "ARGS: wrong number of arguments, or a yes/no above 1"
unfoldable pub fits : Sort → ℕ → Bool
fits number v = true
fits yes_no v = leb v 1

-- As many values as sorts, each fitting its own.
unfoldable pub all_fit : List Sort → List ℕ → Bool
all_fit [] [] = true
all_fit [] (v ∷ vs) = false
all_fit (s ∷ S) [] = false
all_fit (s ∷ S) (v ∷ vs) = fits s v && all_fit S vs

-- Whether values fit the entry.
unfoldable pub fitting : Program → List ℕ → Bool
fitting [] vs = false
fitting (F ∷ P) vs = all_fit F.sorts vs

-- Refused unless the arguments fit.
unfoldable pub judge_arguments : Bool → Passed
judge_arguments true = fine tt
judge_arguments false = refused ARGS 0 0

-- "7, 8, then the run"; "Run needs those and 8,192 words for work"
unfoldable pub admit_run : List ℕ → List ℕ → ℕ → ℕ → Verdict Program
admit_run text args code work = check text >>= λ P. judge_arguments (fitting P args) >> judge_room (code_fits P code && leb work_words work) >> fine P

-- "Run answers number, value, line, field, steps, rewrites; value is 0 unless HALT. After 1 to 8 .. steps and rewrites are 0."
unfoldable pub ran : Ending → Answer
ran (ended n v steps rewrites) = record { number = no n; value = v; line = 0; field = 0; steps = steps; rewrites = rewrites }

-- The answer: the run's, or the refusal.
unfoldable pub answered : Verdict Program → List ℕ → ℕ → Answer
answered (fine P) args limit = ran (run_program P args limit)
answered (refused n line field) args limit = record { number = no n; value = 0; line = line; field = field; steps = 0; rewrites = 0 }

-- What Run answers for a text, arguments, a limit, and so many words of code and work.
unfoldable pub run_answer : List ℕ → List ℕ → ℕ → ℕ → ℕ → Answer
run_answer text args limit code work = answered (admit_run text args code work) args limit

-- "After 0, 9, 10 or 11 from Run the code words are as Translate leaves them, the first 8,192 work words are 0, the others unchanged." ZERO "leaves memory as
-- FUEL does".
unfoldable pub run_code : List ℕ → List ℕ → List ℕ → ℕ → List ℕ
run_code text args code work = with_code (admit_run text args (length code) work) code

-- As many words as a run works with, all 0.
unfoldable pub zero_words : List ℕ
zero_words = replicate work_words 0

-- The work words after a run, or unchanged.
unfoldable pub cleared : Verdict Program → List ℕ → List ℕ
cleared (fine P) work = written_over zero_words work
cleared (refused n line field) work = work

-- What the lent work words hold after Run.
unfoldable pub run_work : List ℕ → List ℕ → ℕ → List ℕ → List ℕ
run_work text args code work = cleared (admit_run text args code (length work)) work
