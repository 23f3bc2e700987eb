-- What is known once a text is read, and what Check, Translate and Run then come to. Assumes nothing.
use Rattle.std.specs.Prelude.{◌≡◌, List, ℕ, Result, length}
use Rattle.meaning.specs.Text.{fine}
use Rattle.meaning.specs.Terms.{Program}
use Rattle.meaning.specs.Check.{check}
use Rattle.meaning.specs.Machine.{run_program}
use Rattle.meaning.specs.Answers.{admit_check, check_heads, admit_translate, translate_code, admit_run, ran, run_code, run_work}
use Rattle.meaning.specs.Said.{found, accepted}
use Rattle.meaning.specs.declared.Accepted.{Accepted}
use Rattle.meaning.specs.declared.Refusal.{Refusal}
use Rattle.meaning.specs.declared.Answer.{Answer}
use Rattle.meaning.specs.declared.Head.{Head}
use Rattle.table.specs.Table.{Holds}
use Rattle.table.specs.declared.Signature.{Signature}
use Rattle.table.specs.declared.Symbol.{Symbol}

-- Reading the text has answered r, and where the text is accepted its table stands in the slices.
pub record IsRead (text : List ℕ) (r : Result Accepted Refusal) (symbols : List Symbol) (ends : List ℕ) (heads : List Signature) (bodies : List ℕ) : Type 0 where
  pub answer : r ≡ found accepted (check text)
  pub held : (P : Program) → check text ≡ fine P → Holds P symbols ends heads bodies

-- What is found, and the heads afterwards, are Check's.
unfoldable pub CheckOutcome : List ℕ → List Head → Result Accepted Refusal → List Head → Type 0
CheckOutcome text heads r heads' = (r ≡ found accepted (admit_check text (length heads))) × (heads' ≡ check_heads text heads)

-- What is found, and the code afterwards, are Translate's.
unfoldable pub TranslateOutcome : List ℕ → List ℕ → Result Accepted Refusal → List ℕ → Type 0
TranslateOutcome text code r code' = (r ≡ found accepted (admit_translate text (length code))) × (code' ≡ translate_code text code)

-- What is found, and the code and the work words afterwards, are Run's.
unfoldable pub RunOutcome : List ℕ → List ℕ → ℕ → List ℕ → List ℕ → Result Answer Refusal → List ℕ → List ℕ → Type 0
RunOutcome text args limit code work r code' work' =
    (r ≡ found (λ P. ran (run_program P args limit)) (admit_run text args (length code) (length work))) × (code' ≡ run_code text args code (length work))
    × (work' ≡ run_work text args (length code) work)
