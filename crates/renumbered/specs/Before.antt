-- The engine by any table from what is wrong at a field to its number: the lines of meaning's pages Terms, Check and Answers in which a number comes from
-- `wrong_number`, with that table in its place (`by_our_table` in specs/Theorems.antt). By the table of document 01 it is the engine before. Assumes nothing.
use Rattle.std.specs.Prelude.{◌&&◌, List, [], ◌∷◌, map, ℕ, ◌+◌, ◌-◌, leb, length}
use Rattle.meaning.specs.Numbers.{Number, TERM, NEST, work_words}
use Rattle.meaning.specs.Text.{Verdict, fine, refused, ◌>>=◌, ◌>>◌, Line, lines, judge_length, judge_shape, judge_counts, judge_names}
use Rattle.meaning.specs.Terms.{Term, Function, Program, Read, got, fault, read_body}
use Rattle.meaning.specs.Answers.{judge_room, judge_arguments, fitting, code_fits, checked, with_heads, with_code, answered, cleared}
use Rattle.meaning.specs.declared.Head.{Head}
use Rattle.meaning.specs.declared.Checked.{Checked}
use Rattle.meaning.specs.declared.Answer.{Answer}
use Rattle.meaning.specs.declared.Wrong.{Wrong}
use Rattle.meaning.specs.declared.Wrong.TheVariants.{UnknownSymbol, LackingArgument, OtherSort, EarlyEnd, LeftOver, TooDeep}

-- Document 01's table: "5 TERM: a body is not one term of its sort", "6 NEST: a symbol at depth 33".
unfoldable pub before : Wrong → Number
before UnknownSymbol = TERM
before LackingArgument = TERM
before OtherSort = TERM
before EarlyEnd = TERM
before LeftOver = TERM
before TooDeep = NEST

module _ (number : Wrong → Number) where
  unfoldable pub function_by : ℕ → Line → Read Term → Verdict Function
  function_by l h (got t ys) = fine (record { sorts = h.sorts; strict = h.strict; result = h.result; body = t })
  function_by l h (fault w ys) = refused (number w) l (5 + length h.body - length ys)

  unfoldable pub bodies_by : List Line → ℕ → List Line → Verdict Program
  bodies_by H l [] = fine []
  bodies_by H l (h ∷ hs) = function_by l h (read_body H h) >>= λ F. bodies_by H (l + 1) hs >>= λ P. fine (F ∷ P)

  unfoldable pub check_by : List ℕ → Verdict Program
  check_by text = do
    judge_length text
    judge_shape text
    judge_counts (lines text)
    judge_names 1 [] (map (λ h. h.name) (lines text))
    bodies_by (lines text) 1 (lines text)

  unfoldable pub admit_check_by : List ℕ → ℕ → Verdict Program
  admit_check_by text heads = check_by text >>= λ P. judge_room (leb (length P) heads) >> fine P

  unfoldable pub admit_translate_by : List ℕ → ℕ → Verdict Program
  admit_translate_by text code = check_by text >>= λ P. judge_room (code_fits P code) >> fine P

  unfoldable pub admit_run_by : List ℕ → List ℕ → ℕ → ℕ → Verdict Program
  admit_run_by text args code work = check_by text >>= λ P. judge_arguments (fitting P args) >> judge_room (code_fits P code && leb work_words work) >> fine P

  -- What Check, Translate and Run answer, and what the lent slices hold afterwards.
  abbrev pub check_answer_by : List ℕ → ℕ → Checked
  check_answer_by text heads = checked (admit_check_by text heads)

  abbrev pub check_heads_by : List ℕ → List Head → List Head
  check_heads_by text heads = with_heads (admit_check_by text (length heads)) heads

  abbrev pub translate_answer_by : List ℕ → ℕ → Checked
  translate_answer_by text code = checked (admit_translate_by text code)

  abbrev pub translate_code_by : List ℕ → List ℕ → List ℕ
  translate_code_by text code = with_code (admit_translate_by text (length code)) code

  abbrev pub run_answer_by : List ℕ → List ℕ → ℕ → ℕ → ℕ → Answer
  run_answer_by text args limit code work = answered (admit_run_by text args code work) args limit

  abbrev pub run_code_by : List ℕ → List ℕ → List ℕ → ℕ → List ℕ
  run_code_by text args code work = with_code (admit_run_by text args (length code) work) code

  abbrev pub run_work_by : List ℕ → List ℕ → ℕ → List ℕ → List ℕ
  run_work_by text args code work = cleared (admit_run_by text args code (length work)) work
