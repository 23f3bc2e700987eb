-- Document 01, 'Figures': every row and every checked text, from the bytes of the text to the six fields of Run's answer. Assumes nothing.
use Rattle.std.specs.Prelude.{◌≡◌, refl, List, [], ◌∷◌, map, ℕ}
use Prim.Native.String.{String}
use Rattle.meaning.specs.Basics.{bytes}
use Rattle.meaning.specs.Numbers.{no, work_words}
use Rattle.meaning.specs.Arithmetic.{apply, of_none, of_one, of_two, unless_zero, of_divided, sum, difference, product, quotient, remainder, equal, less, both, either, opposite}
use Rattle.meaning.specs.Check.{check_text}
use Rattle.meaning.specs.Code.{size, count, entrance, entrances, unsorted, code, bodies_code, body_entrances, bodies_size, own, initial, ret_address, translation}
use Rattle.meaning.specs.Machine.{taken, look_at, look_up, push_result, execute, choose, enter, call_body, go_back, obey, rewrites, too_high, top, unless_high, after_step, run, start, run_program}
use Rattle.meaning.specs.Answers.{run_answer, admit_run, answered, ran, judge_arguments, judge_room, fitting, all_fit, fits}
use Rattle.meaning.specs.Program.{most_code_words}

-- Number, value, line, field, steps, rewrites of Run with enough memory lent.
unfoldable pub six_fields : String → List ℕ → ℕ → List ℕ
unfolding check_text size count entrance entrances unsorted code bodies_code body_entrances bodies_size own initial ret_address translation apply of_none of_one of_two unless_zero of_divided sum difference product quotient remainder equal less both either opposite taken look_at look_up push_result execute choose enter call_body go_back obey rewrites too_high top unless_high after_step run start run_program run_answer admit_run answered ran judge_arguments judge_room fitting all_fit fits no
six_fields text args limit =
    let r = run_answer (bytes text) args limit most_code_words work_words in
    r.number ∷ r.value ∷ r.line ∷ r.field ∷ r.steps ∷ r.rewrites ∷ []

pub record Row : Type 0 where
  pub text : String
  pub args : List ℕ
  pub limit : ℕ
  pub answer : List ℕ

abbrev runs : String → List ℕ → ℕ → List ℕ → Row
runs t vs n r = record { text = t; args = vs; limit = n; answer = r }

-- A checked text: number, line, field.
abbrev refuses : String → ℕ → ℕ → ℕ → Row
refuses t n l f = record { text = t; args = []; limit = 100; answer = n ∷ 0 ∷ l ∷ f ∷ 0 ∷ 0 ∷ [] }

-- A run: answer, value, steps, rewrites.
abbrev answers : ℕ → ℕ → ℕ → ℕ → List ℕ
answers n v s r = n ∷ v ∷ 0 ∷ 0 ∷ s ∷ r ∷ []

abbrev pair : String
pair = "USE\t1\tnn\tn\tGAP\ta\tLOOP\tb\nGAP\t1\tnn\tn\tcond\t<\ta\t9\ta\tb\nLOOP\t0\tn\tn\tLOOP\t+\ta\t1\n"

abbrev pub starred_rows : List Row
starred_rows =
    runs "ID\t1\tn\tn\ta\n" (7 ∷ []) 100 (answers 0 7 5 1)
    ∷ runs "ID\t0\tn\tn\ta\n" (7 ∷ []) 100 (answers 0 7 6 1)
    ∷ runs "DIF\t2\tnn\tn\t-\ta\tb\n" (3 ∷ 4294967290 ∷ []) 100 (answers 0 9 8 2)
    ∷ runs "DIF\t0\tnn\tn\t-\ta\tb\n" (3 ∷ 4294967290 ∷ []) 100 (answers 0 9 10 2)
    ∷ runs pair (5 ∷ 7 ∷ []) 12 (answers 0 5 12 5)
    ∷ runs pair (5 ∷ 7 ∷ []) 11 (answers 9 0 11 5)
    ∷ runs pair (5 ∷ 7 ∷ []) 0 (answers 9 0 0 0)
    ∷ runs "DIV\t2\tnn\tn\t/\ta\tb\n" (7 ∷ 0 ∷ []) 100 (answers 12 0 5 1)
    ∷ refuses "" 2 1 1
    ∷ refuses "ID\t1\tn\tn\ta" 2 1 0
    ∷ refuses "X\t2\tn\tn\ta\n" 2 1 3
    ∷ refuses "X\t0\tn\tn\tb\n" 13 1 5
    ∷ refuses "X\t0\tn\tn\t+\ta\n" 15 1 7
    ∷ refuses "X\t0\tn\tn\ta\ta\n" 5 1 6
    ∷ []

-- Every starred row is right.
pub starred : map (λ r. six_fields r.text r.args r.limit) starred_rows ≡ map (λ r. r.answer) starred_rows
unfolding six_fields
starred = refl

-- The rows without a star.
abbrev pub other_rows : List Row
other_rows =
    runs pair (9 ∷ 7 ∷ []) 518 (answers 10 0 517 513)
    ∷ runs pair (9 ∷ 7 ∷ []) 517 (answers 9 0 517 513)
    ∷ refuses "X\t0\tn\tb\ta\n" 14 1 5
    ∷ refuses "X\t0\tn\tn\t4294967296\n" 13 1 5
    ∷ runs "X\t0\tn\tn\t4294967295\n" (7 ∷ []) 100 (answers 0 4294967295 4 2)
    ∷ runs "X\t0\tn\tb\t!\t!\t!\t!\t!\t!\t!\t!\t!\t!\t!\t!\t!\t!\t!\t!\t!\t!\t!\t!\t!\t!\t!\t!\t!\t!\t!\t!\t!\t!\t!\ttrue\n" (7 ∷ []) 100 (answers 0 0 35 33)
    ∷ refuses "X\t0\tn\tb\t!\t!\t!\t!\t!\t!\t!\t!\t!\t!\t!\t!\t!\t!\t!\t!\t!\t!\t!\t!\t!\t!\t!\t!\t!\t!\t!\t!\t!\t!\t!\t!\ttrue\n" 6 1 37
    ∷ refuses "X\t0\tn\tb\t!\t!\t!\t!\t!\t!\t!\t!\t!\t!\t!\t!\t!\t!\t!\t!\t!\t!\t!\t!\t!\t!\t!\t!\t!\t!\t!\t!\t!\t!\t!\t!\n" 15 1 37
    ∷ []

pub others : map (λ r. six_fields r.text r.args r.limit) other_rows ≡ map (λ r. r.answer) other_rows
unfolding six_fields
others = refl

-- The definitions compute at length: 10,000 steps.
pub ten_thousand_steps : six_fields "W\t1\tn\tn\tcond\t<\ta\t1\ta\t+\tW\t-\ta\t1\tW\t-\ta\t1\n" (13 ∷ []) 10000 ≡ answers 9 0 10000 6506
unfolding six_fields
ten_thousand_steps = refl

-- The largest limit.
pub largest_limit : six_fields "ID\t1\tn\tn\ta\n" (7 ∷ []) 4294967295 ≡ answers 0 7 5 1
unfolding six_fields
largest_limit = refl
