-- What the contracts of Check, Translate and Run allow for one input: an answer, and what the lent slices hold afterwards. Assumes nothing.
use Rattle.std.specs.Prelude.{◌≡◌, true, List, ℕ, ◌*◌, ◌≤◌, length}
use Rattle.meaning.specs.Numbers.{instruction_words, work_words}
use Rattle.meaning.specs.Text.{fine}
use Rattle.meaning.specs.Terms.{Program}
use Rattle.meaning.specs.Check.{check}
use Rattle.meaning.specs.Code.{translation}
use Rattle.meaning.specs.Answers.{fitting, check_answer, check_heads, translate_answer, translate_code, run_answer, run_code, run_work}
use Rattle.meaning.specs.declared.Head.{Head}
use Rattle.meaning.specs.declared.Checked.{Checked}
use Rattle.meaning.specs.declared.Answer.{Answer}

-- Check, at a text and lent heads.
pub record CheckAllows (text : List ℕ) (heads : List Head) (answer : Checked) (heads-after : List Head) : Type 0 where
  pub answered : answer ≡ check_answer text (length heads)
  pub written : heads-after ≡ check_heads text heads

-- Translate, at a text and lent code words.
pub record TranslateAllows (text code : List ℕ) (answer : Checked) (code-after : List ℕ) : Type 0 where
  pub answered : answer ≡ translate_answer text (length code)
  pub written : code-after ≡ translate_code text code

-- Run, at a text, arguments, a step limit, and lent words of code and of work.
pub record RunAllows (text args : List ℕ) (limit : ℕ) (code work : List ℕ) (answer : Answer) (code-after work-after : List ℕ) : Type 0 where
  pub answered : answer ≡ run_answer text args limit (length code) (length work)
  pub written : code-after ≡ run_code text args code (length work)
  pub cleared : work-after ≡ run_work text args (length code) work

-- What Run admits to the machine: "an accepted text, fitting arguments and enough memory"
pub record Admitted (text args : List ℕ) (code work : ℕ) (P : Program) : Type 0 where
  pub accepted : check text ≡ fine P
  pub fits : fitting P args ≡ true
  pub code_room : instruction_words * length (translation P) ≤ code
  pub work_room : work_words ≤ work
