-- From what reading tells to what Check, Translate and Run come to, and from that to what they answer. Assumes nothing.
use Rattle.std.proofs.Common.{◌≡◌, ◌<◌, ◌^◌, ℕ, List, length, Result, refl, ap, ◌∙◌, arith}
use Rattle.std.specs.Prelude.{IfOk, MatchResult}
use Rattle.meaning.specs.Text.{Verdict, fine, refused, Passed, ◌>>=◌, ◌>>◌}
use Rattle.meaning.specs.Terms.{Program}
use Rattle.meaning.specs.Check.{check}
use Rattle.meaning.specs.Machine.{run_program}
use Rattle.meaning.specs.Answers.{check_answer, check_heads, admit_check, translate_answer, translate_code, admit_translate, run_answer, run_code, run_work, answered, ran}
use Rattle.meaning.specs.Said.{found, accepted, checked_result, answered_refusal}
use Rattle.meaning.specs.declared.Accepted.{Accepted}
use Rattle.meaning.specs.declared.Refusal.{Refusal}
use Rattle.meaning.specs.declared.Checked.{Checked}
use Rattle.meaning.specs.declared.Answer.{Answer}
use Rattle.meaning.specs.declared.Head.{Head}
use Rattle.meaning.proofs.Said.{checked_found, number_said}
use Rattle.accepted.specs.Accepted as programs
use Rattle.accepted.proofs.Accepted.{accepted as is_accepted}
use Rattle.accepted.proofs.Length.{translation_few}
use Rattle.answers.specs.Outcomes.{CheckOutcome, TranslateOutcome, RunOutcome}

module _ (text : List ℕ) where
  -- What is found has counts that are words.
  counts : (x : Verdict Program) → ((P : Program) → x ≡ fine P → programs.Accepted P) → IfOk (found accepted x) (λ a. (a.functions < 2 ^ 32) × (a.instructions < 2 ^ 32))
  unfolding found
  counts (fine P) h = (omega (arith, (h P refl).few_functions), omega (arith, translation_few P (h P refl)))
  counts (refused n l k) h = tt

  passed : (y : Passed) (Q P : Program) → (y >> fine Q) ≡ fine P → Q ≡ P
  unfolding ◌>>◌
  passed (fine _) Q P e = cc
  passed (refused n l k) Q P e = absurd (cc)

  admitted : (x : Verdict Program) (test : Program → Passed) (P : Program) → (x >>= λ Q. test Q >> fine Q) ≡ fine P → x ≡ fine P
  unfolding ◌>>=◌
  admitted (fine Q) test P e = ap fine (passed (test Q) Q P e)
  admitted (refused n l k) test P e = absurd (cc)

  -- Check.
  module _ (hs hs' : List Head) (r : Result Accepted Refusal) (o : CheckOutcome text hs r hs') where
    pub check_counts : IfOk r (λ a. (a.functions < 2 ^ 32) × (a.instructions < 2 ^ 32))
    unfolding CheckOutcome admit_check
    check_counts = rw o.0 (counts (admit_check text (length hs)) (λ P e. is_accepted text P (admitted (check text) _ P e)))

    pub check_answers : (x : Checked) → x ≡ checked_result r → (x ≡ check_answer text (length hs)) × (hs' ≡ check_heads text hs)
    unfolding CheckOutcome check_answer
    check_answers x e = (e ∙ ap checked_result o.0 ∙ checked_found _, o.1)

  -- Translate.
  module _ (code code' : List ℕ) (r : Result Accepted Refusal) (o : TranslateOutcome text code r code') where
    pub translate_counts : IfOk r (λ a. (a.functions < 2 ^ 32) × (a.instructions < 2 ^ 32))
    unfolding TranslateOutcome admit_translate
    translate_counts = rw o.0 (counts (admit_translate text (length code)) (λ P e. is_accepted text P (admitted (check text) _ P e)))

    pub translate_answers : (x : Checked) → x ≡ checked_result r → (x ≡ translate_answer text (length code)) × (code' ≡ translate_code text code)
    unfolding TranslateOutcome translate_answer
    translate_answers x e = (e ∙ ap checked_result o.0 ∙ checked_found _, o.1)

  -- Run.
  module _ (args : List ℕ) (limit : ℕ) (code work code' work' : List ℕ) (r : Result Answer Refusal) (o : RunOutcome text args limit code work r code' work') where
    of_verdict : (v : Verdict Program) (x : Answer) → MatchResult (found (λ P. ran (run_program P args limit)) v) (λ a. x ≡ a) (λ e. x ≡ answered_refusal e) → x ≡ answered v args limit
    unfolding found answered
    of_verdict (fine P) x e = e
    of_verdict (refused n l k) x e = e ∙ rw (number_said n) refl

    pub run_answers : (x : Answer) → MatchResult r (λ a. x ≡ a) (λ e. x ≡ answered_refusal e)
        → (x ≡ run_answer text args limit (length code) (length work)) × (code' ≡ run_code text args code (length work)) × (work' ≡ run_work text args (length code) work)
    unfolding RunOutcome run_answer
    run_answers x e = (of_verdict _ x (rw o.0 at e), o.1, o.2)
