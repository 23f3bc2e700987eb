-- The statements of specs/Theorems.antt, proved. Assumes nothing.
use mathlib.Core.Path.{◌≡◌, ap, sym, ◌∙◌}
use mathlib.Core.Logic.{◌⊎◌, inl, inr, ◌↔◌}
use mathlib.Core.List.{List}
use Prim.Native.Nat.{ℕ}
use native.Mathlib.Omega.{arith}
use lib.ListN.{length}
use Rattle.meaning.specs.Numbers.{Number}
use Rattle.meaning.specs.Text.{Verdict, fine, refused}
use Rattle.meaning.specs.Terms.{Program}
use Rattle.meaning.specs.Check.{check}
use Rattle.meaning.specs.Answers.{with_heads, with_code, cleared, admit_check, admit_translate, admit_run, check_answer, check_heads, translate_answer, translate_code, run_answer, run_code, run_work}
use Rattle.meaning.specs.declared.Checked.{Checked}
use Rattle.meaning.specs.declared.Answer.{Answer}
use Rattle.renumbered.specs.Before.{before, check_by, admit_check_by, admit_translate_by, admit_run_by}
use Rattle.renumbered.specs.Theorems.{Told, CheckedAlike, AnsweredAlike, AcceptedAsBefore, AnswersAsBefore, MemoryAsBefore, RefusedAsBefore, ByOurTable}
use Rattle.renumbered.proofs.Verdicts.{Alike, alike_itself, alike_bind, alike_check, same_check, alike_checked, alike_answered, alike_written, no_heads, no_code, no_work}

-- What each of the three admits.

heads_alike : (text : List ℕ) (heads : ℕ) → Alike (admit_check_by before text heads) (admit_check text heads)
unfolding admit_check_by admit_check
heads_alike text heads = alike_bind (check_by before text) (check text) _ _ (alike_check text) (λ P. alike_itself _)

code_alike : (text : List ℕ) (code : ℕ) → Alike (admit_translate_by before text code) (admit_translate text code)
unfolding admit_translate_by admit_translate
code_alike text code = alike_bind (check_by before text) (check text) _ _ (alike_check text) (λ P. alike_itself _)

run_alike : (text args : List ℕ) (code work : ℕ) → Alike (admit_run_by before text args code work) (admit_run text args code work)
unfolding admit_run_by admit_run
run_alike text args code work = alike_bind (check_by before text) (check text) _ _ (alike_check text) (λ P. alike_itself _)

-- The statements.

not_fine : {A B : Type 0} {a : A} {n : Number} {l k : ℕ} → refused n l k ≡ fine a → B
not_fine h = let z : ◌≡◌ {A = ℕ} 0 1 = cc in absurd (omega arith)

fine_before : {P : Program} (x y : Verdict Program) → Alike x y → (x ≡ fine P) ↔ (y ≡ fine P)
unfolding Alike
fine_before (fine P) (fine Q) e = (λ h. ap fine (sym e) ∙ h, λ h. ap fine e ∙ h)
fine_before (fine P) (refused m i j) e = absurd e
fine_before (refused n l k) (fine Q) e = absurd e
fine_before (refused n l k) (refused m i j) e = (not_fine, not_fine)

pub accepted_as_before : AcceptedAsBefore
accepted_as_before text P = fine_before (check_by before text) (check text) (alike_check text)

pub answers_as_before : AnswersAsBefore
unfolding check_answer translate_answer run_answer
answers_as_before = (
  λ text heads. alike_checked (admit_check_by before text heads) (admit_check text heads) (heads_alike text heads),
  λ text code. alike_checked (admit_translate_by before text code) (admit_translate text code) (code_alike text code),
  λ text args limit code work. alike_answered (admit_run_by before text args code work) (admit_run text args code work) args limit (run_alike text args code work),
)

pub memory_as_before : MemoryAsBefore
unfolding check_heads translate_code run_code run_work
memory_as_before = (
  λ text heads. alike_written (λ x. with_heads x heads) (no_heads heads) _ _ (heads_alike text (length heads)),
  λ text code. alike_written (λ x. with_code x code) (no_code code) _ _ (code_alike text (length code)),
  λ text args code work. alike_written (λ x. with_code x code) (no_code code) _ _ (run_alike text args (length code) work),
  λ text args code work. alike_written (λ x. cleared x work) (no_work work) _ _ (run_alike text args code (length work)),
)

zero_before : {a b : ℕ} → (a ≡ b) ⊎ Told a b → (a ≡ 0) ↔ (b ≡ 0)
zero_before (inl e) = (λ h. sym e ∙ h, λ h. e ∙ h)
zero_before (inr e) = (λ h. absurd (omega arith), λ h. absurd (omega arith))

checked_number : {old now : Checked} → CheckedAlike old now → (old.number ≡ now.number) ⊎ Told old.number now.number
checked_number (inl e) = inl (ap (λ (r : Checked). r.number) e)
checked_number (inr e) = inr e.0

answered_number : {old now : Answer} → AnsweredAlike old now → (old.number ≡ now.number) ⊎ Told old.number now.number
answered_number (inl e) = inl (ap (λ (r : Answer). r.number) e)
answered_number (inr e) = inr e.0

pub refused_as_before : RefusedAsBefore
refused_as_before = (
  λ text heads. zero_before (checked_number (answers_as_before.0 text heads)),
  λ text code. zero_before (checked_number (answers_as_before.1 text code)),
  λ text args limit code work. zero_before (answered_number (answers_as_before.2 text args limit code work)),
)

-- What follows a check follows it by either table.
pub by_our_table : ByOurTable
unfolding admit_check_by admit_translate_by admit_run_by admit_check admit_translate admit_run check_answer check_heads translate_answer translate_code run_answer run_code run_work
by_our_table = (
  same_check,
  λ text heads. rw (same_check text),
  λ text heads. rw (same_check text),
  λ text code. rw (same_check text),
  λ text code. rw (same_check text),
  λ text args limit code work. rw (same_check text),
  λ text args code work. rw (same_check text),
  λ text args code work. rw (same_check text),
)
