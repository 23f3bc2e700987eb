-- A text, arguments or memory are refused with one of the numbers 1 to 8 or 13 to 15; so another answer of Run comes from a run of an admitted text.
-- Assumes nothing.
use mathlib.Core.Path.{◌≡◌, refl, ap, sym, ◌∙◌, subst}
use mathlib.Core.Logic.{◌⊎◌, inl, inr}
use mathlib.Core.Bool.{Bool, true, false, ◌&&◌}
use mathlib.Core.List.{List, [], ◌∷◌}
use Prim.Native.Nat.{ℕ, ◌*◌, ◌≤◌, ◌<◌}
use native.Mathlib.Omega.{arith}
use lib.Dec.{leb}
use lib.ListN.{length, get_or}
use borrow.Author.Tests.{leb-true, le-leb}
use Rattle.meaning.specs.Numbers.{Number, no, HALT, LONG, LINE, COUNT, NAME, TERM, NEST, ARGS, ROOM, FUEL, DEEP, STUCK, ZERO, UNKNOWN, SORT, SHORT, instruction_words, work_words}
use Rattle.meaning.specs.Text.{Verdict, fine, refused, ◌>>=◌, ◌>>◌}
use Rattle.meaning.specs.Terms.{Program}
use Rattle.meaning.specs.Check.{check}
use Rattle.meaning.specs.Code.{translation}
use Rattle.meaning.specs.Machine.{Ending, ended, run_program}
use Rattle.meaning.specs.Answers.{judge_room, judge_arguments, fitting, code_fits, admit_run, ran, answered, run_answer}
use Rattle.meaning.specs.declared.Answer.{Answer}
use Rattle.accepted.proofs.Refused.{Refuses, Proper, bind_proper, then_proper, check_proper}
use Rattle.theorems.specs.Outcomes.{Admitted}
use Rattle.theorems.proofs.Splitting.{clash}
use Rattle.accepted.proofs.Lines.{both}
use Rattle.accepted.proofs.Accepted.{fine_bind, fine_same}
use Rattle.theorems.proofs.Acceptance.{both_fine}

arguments_proper : (b : Bool) → Proper (judge_arguments b)
unfolding judge_arguments Proper no Refuses
arguments_proper true = tt
arguments_proper false = inl (omega arith)

room_proper : (b : Bool) → Proper (judge_room b)
unfolding judge_room Proper no Refuses
room_proper true = tt
room_proper false = inl (omega arith)

run_proper : (text args : List ℕ) (code work : ℕ) → Proper (admit_run text args code work)
unfolding admit_run Proper
run_proper text args code work =
    bind_proper (check text) _ (check_proper text)
    (λ P. then_proper (judge_arguments (fitting P args) >> judge_room (code_fits P code && leb work_words work)) (fine P)
    (then_proper (judge_arguments (fitting P args)) (judge_room (code_fits P code && leb work_words work)) (arguments_proper (fitting P args)) (room_proper (code_fits P code && leb work_words work))) tt)

-- Admitted is what Run's tests come to.

arguments_fine : (b : Bool) {u : Unit {0}} → judge_arguments b ≡ fine u → b ≡ true
unfolding judge_arguments
arguments_fine true e = refl
arguments_fine false e = clash (cc)

room_fine : (b : Bool) {u : Unit {0}} → judge_room b ≡ fine u → b ≡ true
unfolding judge_room
room_fine true e = refl
room_fine false e = clash (cc)

admitted_of : (text args : List ℕ) (code work : ℕ) {P : Program} → admit_run text args code work ≡ fine P → Admitted text args code work P
unfolding admit_run
admitted_of text args code work {P} e =
    let p = fine_bind (check text) (λ Q. judge_arguments (fitting Q args) >> judge_room (code_fits Q code && leb work_words work) >> fine Q) e in
    let Q = p.0 in
    let parts = both_fine (judge_arguments (fitting Q args) >> judge_room (code_fits Q code && leb work_words work)) (fine Q) p.2 in
    let tests = both_fine (judge_arguments (fitting Q args)) (judge_room (code_fits Q code && leb work_words work)) parts.1 in
    let room = both (code_fits Q code) (leb work_words work) (room_fine (code_fits Q code && leb work_words work) tests.2) in
    subst (Admitted text args code work) (fine_same parts.2)
    (record {
      accepted = p.1;
      fits = arguments_fine (fitting Q args) tests.1;
      code_room = leb-true (instruction_words * length (translation Q)) code room.0;
      work_room = leb-true work_words work room.1;
    })

of_admitted : {text args : List ℕ} {code work : ℕ} {P : Program} → Admitted text args code work P → admit_run text args code work ≡ fine P
unfolding admit_run ◌>>=◌ ◌>>◌ judge_arguments judge_room
of_admitted {text} {args} {code} {work} {P} A =
    ap (λ x. x >>= λ Q. judge_arguments (fitting Q args) >> judge_room (code_fits Q code && leb work_words work) >> fine Q) A.accepted
    ∙ ap (λ b. judge_arguments b >> judge_room (code_fits P code && leb work_words work) >> fine P) A.fits
    ∙ ap (λ b. judge_room (b && leb work_words work) >> fine P) (le-leb (instruction_words * length (translation P)) code A.code_room)
    ∙ ap (λ b. judge_room b >> fine P) (le-leb work_words work A.work_room)

-- The answer to an admitted text is how its run ends.
pub admitted_answer : {text args : List ℕ} {code work : ℕ} {P : Program} (limit : ℕ) {n : Number} {v s r : ℕ} → Admitted text args code work P
    → run_program P args limit ≡ ended n v s r →
    let answer = run_answer text args limit code work in
    (answer.number ≡ no n) × (answer.value ≡ v) × (answer.steps ≡ s) × (answer.rewrites ≡ r)
unfolding run_answer answered ran
admitted_answer {text} {args} {code} {work} limit {n} {v} {s} {r} A e =
    let h : run_answer text args limit code work ≡ ran (ended n v s r) = ap (λ x. answered x args limit) (of_admitted A) ∙ ap ran e in
    (ap (λ (a : Answer). a.number) h, ap (λ (a : Answer). a.value) h, ap (λ (a : Answer). a.steps) h, ap (λ (a : Answer). a.rewrites) h)

-- The number names the ending.

numbers : List Number
numbers = HALT ∷ LONG ∷ LINE ∷ COUNT ∷ NAME ∷ TERM ∷ NEST ∷ ARGS ∷ ROOM ∷ FUEL ∷ DEEP ∷ STUCK ∷ ZERO ∷ UNKNOWN ∷ SORT ∷ SHORT ∷ []

numbered : (n : Number) → get_or numbers (no n) HALT ≡ n
unfolding numbers no
numbered HALT = refl
numbered LONG = refl
numbered LINE = refl
numbered COUNT = refl
numbered NAME = refl
numbered TERM = refl
numbered NEST = refl
numbered ARGS = refl
numbered ROOM = refl
numbered FUEL = refl
numbered DEEP = refl
numbered STUCK = refl
numbered ZERO = refl
numbered UNKNOWN = refl
numbered SORT = refl
numbered SHORT = refl

number_once : (n m : Number) → no n ≡ no m → n ≡ m
number_once n m e = sym (numbered n) ∙ ap (λ k. get_or numbers k HALT) e ∙ numbered m

ended_so : (x : Ending) (n : Number) → (ran x).number ≡ no n → x ≡ ended n (ran x).value (ran x).steps (ran x).rewrites
unfolding ran
ended_so (ended m v s r) n e = ap (λ k. ended k v s r) (number_once m n e)

-- An answer whose number is none of those comes from a run.
pub answer_runs : (text args : List ℕ) (limit code work : ℕ) (n : Number) → (no n < 1) ⊎ ((8 < no n) × (no n < 13))
    → (run_answer text args limit code work).number ≡ no n
    → (P : Program) × Admitted text args code work P
    × (run_program P args limit ≡ ended n (run_answer text args limit code work).value (run_answer text args limit code work).steps (run_answer text args limit code work).rewrites)
unfolding run_answer answered Proper Refuses
answer_runs text args limit code work n l e = of (admit_run text args code work) refl (run_proper text args code work) e
  where
    of : (x : Verdict Program) → admit_run text args code work ≡ x → Proper x → (answered x args limit).number ≡ no n
        → (P : Program) × Admitted text args code work P × (run_program P args limit ≡ ended n (answered x args limit).value (answered x args limit).steps (answered x args limit).rewrites)
    of (fine P) h p k = (P, admitted_of text args code work h, ended_so (run_program P args limit) n k)
    of (refused m i j) h p k = absurd (out_of l p k)
      where
        out_of : {a b : ℕ} → (b < 1) ⊎ ((8 < b) × (b < 13)) → ((1 ≤ a) × (a ≤ 8)) ⊎ ((13 ≤ a) × (a ≤ 15)) → a ≡ b → ⊥
        out_of (inl h) (inl u) w = omega arith
        out_of (inl h) (inr u) w = omega arith
        out_of (inr h) (inl u) w = omega arith
        out_of (inr h) (inr u) w = omega arith
