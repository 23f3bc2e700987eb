-- What the program answers in the memory that it is lent. Assumes nothing.
use Rattle.std.specs.Prelude.{◌≡◌, refl, List, ℕ}
use Rattle.meaning.specs.Numbers.{no, ARGS, work_words}
use Rattle.meaning.specs.Answers.{run_answer, run_code, run_work}
use Rattle.meaning.specs.Program.{Order, malformed, order, order_of, answer_order, most_code_words, printed, output}
use Rattle.meaning.specs.declared.Answer.{Answer}

abbrev pub malformed_answer : Answer
malformed_answer = record { number = no ARGS; value = 0; line = 0; field = 0; steps = 0; rewrites = 0 }

-- The answer to an order with so many words of code and of work.
unfoldable pub answer_in : Order → ℕ → ℕ → Answer
answer_in malformed code work = malformed_answer
answer_in (order limit args text) code work = run_answer text args limit code work

-- What the words of code and of work hold afterwards.
unfoldable pub code_in : Order → List ℕ → ℕ → List ℕ
code_in malformed code work = code
code_in (order limit args text) code work = run_code text args code work

unfoldable pub work_in : Order → ℕ → List ℕ → List ℕ
work_in malformed code work = work
work_in (order limit args text) code work = run_work text args code work

-- With the words that the program lends it is document 01's output.
with_enough : (o : Order) → answer_in o most_code_words work_words ≡ answer_order o
unfolding answer_in answer_order
with_enough malformed = refl
with_enough (order limit args text) = refl

pub program_output : (input : List ℕ) → printed (answer_in (order_of input) most_code_words work_words) ≡ output input
unfolding output
program_output input = rw (with_enough (order_of input))
