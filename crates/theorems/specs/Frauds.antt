-- The frauds that document 01 names ('How tight a statement has to be'), as functions of any shape from what goes in to what comes out. None of them meets
-- its contract: proofs/Frauds.antt proves each statement under the name that its comment gives. Assumes nothing.
use Rattle.std.specs.Prelude.{◌≡◌, List, [], ◌∷◌, ℕ, ◌-◌, ◌≤◌}
use Rattle.meaning.specs.Basics.{bytes}
use Rattle.meaning.specs.declared.Head.{Head}
use Rattle.meaning.specs.declared.Checked.{Checked}
use Rattle.meaning.specs.declared.Answer.{Answer}
use Rattle.theorems.specs.Outcomes.{CheckAllows, TranslateAllows, RunAllows}

-- A Check as a function: its answer and the heads afterwards.
pub record ACheck : Type 0 where
  pub answer : List ℕ → List Head → Checked
  pub heads : List ℕ → List Head → List Head

-- A Translate: its answer and the code words afterwards.
pub record ATranslate : Type 0 where
  pub answer : List ℕ → List ℕ → Checked
  pub code : List ℕ → List ℕ → List ℕ

-- A Run at a text, arguments, a step limit, and lent words of code and of work: its answer, and those words afterwards.
pub record ARun : Type 0 where
  pub answer : List ℕ → List ℕ → ℕ → List ℕ → List ℕ → Answer
  pub code : List ℕ → List ℕ → ℕ → List ℕ → List ℕ → List ℕ
  pub work : List ℕ → List ℕ → ℕ → List ℕ → List ℕ → List ℕ

-- That it meets its contract at every input.
abbrev pub Checks : ACheck → Type 0
Checks f = (text : List ℕ) (heads : List Head) → CheckAllows text heads (f.answer text heads) (f.heads text heads)

abbrev pub Translates : ATranslate → Type 0
Translates f = (text code : List ℕ) → TranslateAllows text code (f.answer text code) (f.code text code)

abbrev pub Runs : ARun → Type 0
Runs f =
    (text args : List ℕ) (limit : ℕ) (code work : List ℕ)
    → RunAllows text args limit code work (f.answer text args limit code work) (f.code text args limit code work) (f.work text args limit code work)

-- `no_run_refuses_all`. "a Run that refuses all": it never answers 0.
abbrev pub NoRunRefusesAll : Type 0
NoRunRefusesAll =
    (f : ARun) → Runs f
    → ((text args : List ℕ) (limit : ℕ) (code work : List ℕ) → (f.answer text args limit code work).number ≡ 0 → ⊥)
    → ⊥

-- `no_run_answers_one_value`. "or answers one value": wherever it halts.
abbrev pub NoRunAnswersOneValue : Type 0
NoRunAnswersOneValue =
    (f : ARun) → Runs f → (v : ℕ)
    → ((text args : List ℕ) (limit : ℕ) (code work : List ℕ) → (f.answer text args limit code work).number ≡ 0 → (f.answer text args limit code work).value ≡ v)
    → ⊥

-- `no_check_writes_nothing`, `no_translate_writes_nothing`. "a Translate or Check that writes nothing": the lent slice is as before, at every input.
abbrev pub NoCheckWritesNothing : Type 0
NoCheckWritesNothing = (f : ACheck) → Checks f → ((text : List ℕ) (heads : List Head) → f.heads text heads ≡ heads) → ⊥

abbrev pub NoTranslateWritesNothing : Type 0
NoTranslateWritesNothing = (f : ATranslate) → Translates f → ((text code : List ℕ) → f.code text code ≡ code) → ⊥

-- `no_run_idles`. "a Run that finds the value at its first step and idles through the rest": from the first step on no rewrite is added.
abbrev pub NoRunIdles : Type 0
NoRunIdles =
    (f : ARun) → Runs f
    → ((text args : List ℕ) (limit more : ℕ) (code work : List ℕ) → 1 ≤ limit → limit ≤ more
    → (f.answer text args limit code work).rewrites ≡ (f.answer text args more code work).rewrites)
    → ⊥

-- `no_run_invents_steps`, `no_run_invents_rewrites`. "invented step or rewrite counts": made up from the rest of the answer.
abbrev pub NoRunInventsSteps : Type 0
NoRunInventsSteps =
    (f : ARun) → Runs f → (invented : ℕ → ℕ → ℕ)
    → ((text args : List ℕ) (limit : ℕ) (code work : List ℕ) →
    let answer = f.answer text args limit code work in
    answer.number ≡ 0 → answer.steps ≡ invented answer.value answer.rewrites)
    → ⊥

abbrev pub NoRunInventsRewrites : Type 0
NoRunInventsRewrites =
    (f : ARun) → Runs f → (invented : ℕ → ℕ → ℕ)
    → ((text args : List ℕ) (limit : ℕ) (code work : List ℕ) →
    let answer = f.answer text args limit code work in
    answer.number ≡ 0 → answer.rewrites ≡ invented answer.value answer.steps)
    → ⊥

-- `no_run_loses_hours`. The engine that came with the rules (document 00): "its subtraction stopped at zero". (So does `-` here.)
abbrev pub NoRunLosesHours : Type 0
NoRunLosesHours =
    (f : ARun) → Runs f
    → ((later earlier limit : ℕ) (code work : List ℕ) →
    let answer = f.answer (bytes "DIF\t2\tnn\tn\t-\ta\tb\n") (later ∷ earlier ∷ []) limit code work in
    answer.number ≡ 0 → answer.value ≡ later - earlier)
    → ⊥
