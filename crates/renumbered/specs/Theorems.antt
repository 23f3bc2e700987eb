-- Document 02, c): "Places stay as they are .. and leave memory as 5 does". What a caller of the engine before request c) sees of it, from the bytes of a
-- text to the fields of the answers and the lent slices. proofs/Numbers.antt proves each statement under the name that its comment gives. Assumes nothing.
use Rattle.std.specs.Prelude.{◌≡◌, ◌⊎◌, ◌↔◌, List, ℕ, ◌≤◌}
use Rattle.meaning.specs.Text.{fine}
use Rattle.meaning.specs.Terms.{Program, wrong_number}
use Rattle.meaning.specs.Check.{check}
use Rattle.meaning.specs.Answers.{check_answer, check_heads, translate_answer, translate_code, run_answer, run_code, run_work}
use Rattle.meaning.specs.declared.Head.{Head}
use Rattle.meaning.specs.declared.Checked.{Checked}
use Rattle.meaning.specs.declared.Answer.{Answer}
use Rattle.renumbered.specs.Before.{before, check_by, check_answer_by, check_heads_by, translate_answer_by, translate_code_by, run_answer_by, run_code_by, run_work_by}

-- A number before and now: 5 where it is 13, 14 or 15 now.
abbrev pub Told : ℕ → ℕ → Type 0
Told old now = (old ≡ 5) × (13 ≤ now) × (now ≤ 15)

-- Answers that are equal, or differ in such a number alone.
abbrev pub CheckedAlike : Checked → Checked → Type 0
CheckedAlike old now =
    (old ≡ now)
    ⊎ (Told old.number now.number × (old.line ≡ now.line) × (old.field ≡ now.field) × (old.functions ≡ now.functions) × (old.instructions ≡ now.instructions))

abbrev pub AnsweredAlike : Answer → Answer → Type 0
AnsweredAlike old now =
    (old ≡ now)
    ⊎ (Told old.number now.number × (old.value ≡ now.value) × (old.line ≡ now.line) × (old.field ≡ now.field) × (old.steps ≡ now.steps) × (old.rewrites ≡ now.rewrites))

-- `accepted_as_before`. The same texts are accepted, and hold the same program. Rules out: a text that a new number lets in, or keeps out.
abbrev pub AcceptedAsBefore : Type 0
AcceptedAsBefore = (text : List ℕ) (P : Program) → (check_by before text ≡ fine P) ↔ (check text ≡ fine P)

-- `answers_as_before`. Each answer is what it was, or it was 5 and is 13, 14 or 15 now at the same place. Rules out: another place, another number
-- for a fault that was not 5, a count that a refusal leaves.
abbrev pub AnswersAsBefore : Type 0
AnswersAsBefore =
    ((text : List ℕ) (heads : ℕ) → CheckedAlike (check_answer_by before text heads) (check_answer text heads))
    × ((text : List ℕ) (code : ℕ) → CheckedAlike (translate_answer_by before text code) (translate_answer text code))
    × ((text args : List ℕ) (limit code work : ℕ) → AnsweredAlike (run_answer_by before text args limit code work) (run_answer text args limit code work))

-- `memory_as_before`. All that is written is what it was. Rules out: a slice that a new number leaves otherwise than 5 did.
abbrev pub MemoryAsBefore : Type 0
MemoryAsBefore =
    ((text : List ℕ) (heads : List Head) → check_heads_by before text heads ≡ check_heads text heads)
    × ((text code : List ℕ) → translate_code_by before text code ≡ translate_code text code)
    × ((text args code : List ℕ) (work : ℕ) → run_code_by before text args code work ≡ run_code text args code work)
    × ((text args : List ℕ) (code : ℕ) (work : List ℕ) → run_work_by before text args code work ≡ run_work text args code work)

-- `refused_as_before`. A caller that tests for 0 alone sees no change.
abbrev pub RefusedAsBefore : Type 0
RefusedAsBefore =
    ((text : List ℕ) (heads : ℕ) → ((check_answer_by before text heads).number ≡ 0) ↔ ((check_answer text heads).number ≡ 0))
    × ((text : List ℕ) (code : ℕ) → ((translate_answer_by before text code).number ≡ 0) ↔ ((translate_answer text code).number ≡ 0))
    × ((text args : List ℕ) (limit code work : ℕ) → ((run_answer_by before text args limit code work).number ≡ 0) ↔ ((run_answer text args limit code work).number ≡ 0))

-- `by_our_table`. The engine by meaning's own table is meaning's: before and now differ in the table and in nothing else.
abbrev pub ByOurTable : Type 0
ByOurTable =
    ((text : List ℕ) → check_by wrong_number text ≡ check text)
    × ((text : List ℕ) (heads : ℕ) → check_answer_by wrong_number text heads ≡ check_answer text heads)
    × ((text : List ℕ) (heads : List Head) → check_heads_by wrong_number text heads ≡ check_heads text heads)
    × ((text : List ℕ) (code : ℕ) → translate_answer_by wrong_number text code ≡ translate_answer text code)
    × ((text code : List ℕ) → translate_code_by wrong_number text code ≡ translate_code text code)
    × ((text args : List ℕ) (limit code work : ℕ) → run_answer_by wrong_number text args limit code work ≡ run_answer text args limit code work)
    × ((text args code : List ℕ) (work : ℕ) → run_code_by wrong_number text args code work ≡ run_code text args code work)
    × ((text args : List ℕ) (code : ℕ) (work : List ℕ) → run_work_by wrong_number text args code work ≡ run_work text args code work)
