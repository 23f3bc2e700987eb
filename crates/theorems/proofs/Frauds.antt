-- Each fraud is caught at a text of one line: `ID 1 n n a` at 7 and at 8, `ID 0 n n a` and `X 0 n n + 7 0` at 7, DIF at 3 and 4294967290. Assumes nothing.
use mathlib.Core.Path.{◌≡◌, refl, ap, ◌∙◌}
use mathlib.Core.List.{List, [], ◌∷◌}
use Prim.Native.Nat.{ℕ, zero, suc}
use Prim.Native.String.{String}
use native.Mathlib.Omega.{arith}
use lib.ListN.{length, replicate, length-replicate}
use Rattle.meaning.specs.Basics.{bytes, written_over}
use Rattle.meaning.specs.Numbers.{work_words}
use Rattle.meaning.specs.Code.{translate_text, code_words, used_words, twelve}
use Rattle.meaning.specs.Program.{most_code_words}
use Rattle.meaning.specs.Answers.{run_answer, heads_from, heads_of, judge_room, admit_check, with_heads, check_heads, admit_translate, with_code, translate_code}
use Rattle.meaning.specs.declared.Head.{Head}
use Rattle.meaning.specs.declared.Answer.{Answer}
use Rattle.starred.specs.Table.{six_fields}
use Rattle.theorems.specs.Frauds.{ARun, Runs, NoRunRefusesAll, NoRunAnswersOneValue, NoCheckWritesNothing, NoTranslateWritesNothing, NoRunIdles, NoRunInventsSteps, NoRunInventsRewrites, NoRunLosesHours}
use Rattle.theorems.proofs.Splitting.{clash}

unfoldable fields : Answer → List ℕ
fields r = r.number ∷ r.value ∷ r.line ∷ r.field ∷ r.steps ∷ r.rewrites ∷ []

unfoldable zeros : ℕ → List ℕ
zeros n = replicate n 0

lent : (text args : List ℕ) (limit n m : ℕ) → run_answer text args limit (length (zeros n)) (length (zeros m)) ≡ run_answer text args limit n m
unfolding zeros
lent text args limit n m = ap (λ k. run_answer text args limit k (length (replicate m 0))) (length-replicate {A = ℕ} n 0) ∙ ap (λ k. run_answer text args limit n k) (length-replicate {A = ℕ} m 0)

-- What a Run answers with enough memory lent.
unfoldable at : ARun → String → List ℕ → ℕ → Answer
at f text args limit = f.answer (bytes text) args limit (zeros most_code_words) (zeros work_words)

settled : (f : ARun) → Runs f → (text : String) (args : List ℕ) (limit : ℕ) → fields (at f text args limit) ≡ six_fields text args limit
unfolding fields six_fields at
settled f meets text args limit =
    ap fields ((meets (bytes text) args limit (zeros most_code_words) (zeros work_words)).answered ∙ lent (bytes text) args limit most_code_words work_words)

unfoldable nth : ℕ → List ℕ → ℕ
nth i [] = 0
nth zero (x ∷ xs) = x
nth (suc i) (x ∷ xs) = nth i xs

-- The answer's number, value, steps and rewrites, by what the definitions compute.
record Answers (f : ARun) (text : String) (args : List ℕ) (limit number value steps rewrites : ℕ) : Type 0 where
  number_is : (at f text args limit).number ≡ number
  value_is : (at f text args limit).value ≡ value
  steps_are : (at f text args limit).steps ≡ steps
  rewrites_are : (at f text args limit).rewrites ≡ rewrites

by_figure : (f : ARun) → Runs f → (text : String) (args : List ℕ) (limit n v s r : ℕ) → six_fields text args limit ≡ n ∷ v ∷ 0 ∷ 0 ∷ s ∷ r ∷ [] → Answers f text args limit n v s r
unfolding fields nth
by_figure f meets text args limit n v s r figure =
    let e = settled f meets text args limit ∙ figure in
    record { number_is = ap (nth 0) e; value_is = ap (nth 1) e; steps_are = ap (nth 4) e; rewrites_are = ap (nth 5) e }

id_at_7 : (f : ARun) → Runs f → Answers f "ID\t1\tn\tn\ta\n" (7 ∷ []) 100 0 7 5 1
unfolding six_fields
id_at_7 f meets = by_figure f meets "ID\t1\tn\tn\ta\n" (7 ∷ []) 100 0 7 5 1 refl

id_at_8 : (f : ARun) → Runs f → Answers f "ID\t1\tn\tn\ta\n" (8 ∷ []) 100 0 8 5 1
unfolding six_fields
id_at_8 f meets = by_figure f meets "ID\t1\tn\tn\ta\n" (8 ∷ []) 100 0 8 5 1 refl

id_for_a_step : (f : ARun) → Runs f → Answers f "ID\t1\tn\tn\ta\n" (7 ∷ []) 1 9 0 1 0
unfolding six_fields
id_for_a_step f meets = by_figure f meets "ID\t1\tn\tn\ta\n" (7 ∷ []) 1 9 0 1 0 refl

id_waiting : (f : ARun) → Runs f → Answers f "ID\t0\tn\tn\ta\n" (7 ∷ []) 100 0 7 6 1
unfolding six_fields
id_waiting f meets = by_figure f meets "ID\t0\tn\tn\ta\n" (7 ∷ []) 100 0 7 6 1 refl

sum_of_constants : (f : ARun) → Runs f → Answers f "X\t0\tn\tn\t+\t7\t0\n" (7 ∷ []) 100 0 7 6 4
unfolding six_fields
sum_of_constants f meets = by_figure f meets "X\t0\tn\tn\t+\t7\t0\n" (7 ∷ []) 100 0 7 6 4 refl

dif_over_the_top : (f : ARun) → Runs f → Answers f "DIF\t2\tnn\tn\t-\ta\tb\n" (3 ∷ 4294967290 ∷ []) 100 0 9 8 2
unfolding six_fields
dif_over_the_top f meets = by_figure f meets "DIF\t2\tnn\tn\t-\ta\tb\n" (3 ∷ 4294967290 ∷ []) 100 0 9 8 2 refl

pub no_run_refuses_all : NoRunRefusesAll
unfolding at
no_run_refuses_all f meets refuses = refuses _ _ _ _ _ (id_at_7 f meets).number_is

pub no_run_answers_one_value : NoRunAnswersOneValue
unfolding at
no_run_answers_one_value f meets v one =
    let a = id_at_7 f meets in
    let b = id_at_8 f meets in
    let at_7 = one _ _ _ _ _ a.number_is in
    let at_8 = one _ _ _ _ _ b.number_is in
    clash (cc (a.value_is, b.value_is, at_7, at_8))

pub no_run_idles : NoRunIdles
unfolding at
no_run_idles f meets idles =
    let same = idles (bytes "ID\t1\tn\tn\ta\n") (7 ∷ []) 1 100 (zeros most_code_words) (zeros work_words) (omega arith) (omega arith) in
    clash (cc (same, (id_for_a_step f meets).rewrites_are, (id_at_7 f meets).rewrites_are))

pub no_run_invents_steps : NoRunInventsSteps
unfolding at
no_run_invents_steps f meets invented invents =
    let a = id_at_7 f meets in
    let b = id_waiting f meets in
    let five = invents _ _ _ _ _ a.number_is in
    let six = invents _ _ _ _ _ b.number_is in
    clash (cc (five, six, a.steps_are, b.steps_are, a.value_is, b.value_is, a.rewrites_are, b.rewrites_are))

pub no_run_invents_rewrites : NoRunInventsRewrites
unfolding at
no_run_invents_rewrites f meets invented invents =
    let a = id_waiting f meets in
    let b = sum_of_constants f meets in
    let once = invents _ _ _ _ _ a.number_is in
    let often = invents _ _ _ _ _ b.number_is in
    clash (cc (once, often, a.steps_are, b.steps_are, a.value_is, b.value_is, a.rewrites_are, b.rewrites_are))

-- A head that no function has, and the arguments of the first head.
abbrev noise : Head
noise = record { args = 9; strict = 9; result = 9; body = 9 }

unfoldable first_args : List Head → ℕ
first_args [] = 0
first_args (h ∷ hs) = h.args

id_head : first_args (check_heads (bytes "ID\t1\tn\tn\ta\n") (noise ∷ [])) ≡ 1
unfolding translate_text first_args heads_from heads_of judge_room admit_check with_heads check_heads written_over
id_head = refl

pub no_check_writes_nothing : NoCheckWritesNothing
unfolding first_args
no_check_writes_nothing f meets same =
    let text = bytes "ID\t1\tn\tn\ta\n" in
    clash (cc (id_head, ap first_args (meets text (noise ∷ [])).written, ap first_args (same text (noise ∷ []))))

id_first_word : nth 0 (translate_code (bytes "ID\t1\tn\tn\ta\n") (zeros 48)) ≡ 4
unfolding translate_text nth zeros code_words used_words twelve judge_room admit_translate with_code translate_code written_over
id_first_word = refl

pub no_translate_writes_nothing : NoTranslateWritesNothing
unfolding nth zeros
no_translate_writes_nothing f meets same =
    let text = bytes "ID\t1\tn\tn\ta\n" in
    clash (cc (id_first_word, ap (nth 0) (meets text (zeros 48)).written, ap (nth 0) (same text (zeros 48))))

pub no_run_loses_hours : NoRunLosesHours
unfolding at
no_run_loses_hours f meets loses =
    let a = dif_over_the_top f meets in
    let none = loses 3 4294967290 100 (zeros most_code_words) (zeros work_words) a.number_is in
    clash (cc (none, a.value_is))
