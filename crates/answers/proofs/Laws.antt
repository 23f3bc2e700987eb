-- What Check, Translate and Run come to and leave in memory, by the tests that the code makes, in its order. Assumes nothing.
use mathlib.Core.Path.{◌≡◌, refl, ap, sym, ◌∙◌}
use mathlib.Core.Bool.{Bool, true, false, ◌&&◌, false≢true}
use mathlib.Core.List.{List, [], ◌∷◌, ◌++◌}
use Prim.Native.Nat.{ℕ, suc, ◌+◌, ◌*◌, ◌/◌, ◌%◌, ◌≤◌, ◌<◌}
use native.Mathlib.Omega.{arith}
use native.Mathlib.Numerals.{add-one}
use native.Mathlib.Decide.{ℕ_discrete}
use lib.ListN.{length, get_or, take, drop, drop_of_length-le, length-append, length-map}
use lib.Seq.{drop-cons, length-take-le}
use borrow.Author.Tests.{eq-eqb, ne_eqb, le-leb, lt-leb}
use mathlib.Core.Logic.{inl, inr}
use Rattle.std.specs.Prelude.{IfOk, Result, Ok, Err, Some, None, slice_get}
use Rattle.std.proofs.Math.Bool.{and-false}
use Rattle.meaning.specs.Basics.{written_over}
use Rattle.meaning.specs.Arithmetic.{Sort, number, yes_no}
use Rattle.meaning.specs.Numbers.{no, ARGS, ROOM, most_functions, instruction_words, work_words}
use Rattle.meaning.specs.Text.{Verdict, fine, refused, ◌>>=◌, ◌>>◌}
use Rattle.meaning.specs.Terms.{Program}
use Rattle.meaning.specs.Code.{size, initial, translation, code_words}
use Rattle.meaning.specs.Machine.{start, run, run_program}
use Rattle.meaning.specs.Answers.{checked, admit_check, admit_translate, admit_run, judge_room, judge_arguments, with_code, cleared, answered, ran, fits, all_fit, fitting, zero_words, translate_answer, translate_code, with_heads, heads_of, check_heads, run_answer, run_code, run_work}
use Rattle.meaning.specs.Check.{check}
use Rattle.meaning.specs.Said.{refusal, found, accepted, checked_refusal, answered_refusal}
use Rattle.meaning.specs.declared.Refusal.{Refusal}
use Rattle.meaning.proofs.Said.{found_fine, found_refused}
use Rattle.meaning.specs.declared.Accepted.{Accepted}
use Rattle.meaning.specs.declared.Answer.{Answer}
use Rattle.meaning.specs.declared.Head.{Head}
use Rattle.table.specs.Symbols.{sort_in, sort_of_bit, mask, signature, no_head}
use Rattle.table.specs.Table.{signatures, addresses, Begins, Holds}
use Rattle.table.specs.declared.Signature.{Signature}
use Rattle.table.specs.declared.Symbol.{Symbol}
use Rattle.table.proofs.Masks.{lowest_sort, other_sorts}
use Rattle.accepted.specs.Accepted.{Every}
use Rattle.accepted.specs.Accepted as programs
use Rattle.accepted.proofs.Accepted.{accepted as is_accepted}
use Rattle.accepted.proofs.Length.{words_of_written}
use Rattle.accepted.proofs.Refused.{Refuses, Proper, check_proper}
use Rattle.heads.specs.Heads.{heads_list}
use Rattle.heads.proofs.Laws.{addresses_length, heads_meant, heads_length}
use Rattle.coding.specs.Coding.{Translated}
use Rattle.layout.specs.Decoding.{decode, first_entrance}
use Rattle.layout.proofs.Translated.{run_translated}
use Rattle.answers.specs.Outcomes.{IsRead, CheckOutcome, TranslateOutcome, RunOutcome}
use Rattle.answers.specs.Fitting.{fits_sort, masked, fits_signature}

-- Arguments.

pub masked_end : (m : ℕ) (vs : List ℕ) (i : ℕ) → length vs ≤ i → true ≡ masked m (drop i vs)
unfolding masked
masked_end m vs i h = rw (drop_of_length-le vs h)

pub masked_step : (m : ℕ) (vs : List ℕ) (i : ℕ) → i < length vs → masked m (drop i vs) ≡ (fits_sort (sort_of_bit (m % 2)) (get_or vs i 0) && masked (m / 2) (drop (i + 1) vs))
unfolding masked
masked_step m vs i h = rw (drop-cons vs i 0 h, add-one)

sort_fits : (s : Sort) (v : ℕ) → fits_sort (sort_in s) v ≡ fits s v
unfolding fits_sort fits
sort_fits number v = refl
sort_fits yes_no v = refl

masked_fits : (S : List Sort) (vs : List ℕ) → length vs ≡ length S → masked (mask S) vs ≡ all_fit S vs
unfolding masked mask all_fit
masked_fits [] [] e = refl
masked_fits [] (v ∷ vs) e = absurd (omega arith)
masked_fits (s ∷ S) [] e = absurd (omega arith)
masked_fits (s ∷ S) (v ∷ vs) e =
    rw (lowest_sort s (mask S), other_sorts s (mask S), sort_fits s v, masked_fits S vs (omega arith))

not_as_many : (S : List Sort) (vs : List ℕ) → (length vs ≡ length S → ⊥) → all_fit S vs ≡ false
unfolding all_fit
not_as_many [] [] h = absurd (h refl)
not_as_many [] (v ∷ vs) h = refl
not_as_many (s ∷ S) [] h = refl
not_as_many (s ∷ S) (v ∷ vs) h = rw (not_as_many S vs (λ e. h (ap suc e))) (and-false (fits s v))

signature_fits : (S : List Sort) (k : ℕ) (r : Sort) (vs : List ℕ) → fits_signature (signature S k r) vs ≡ all_fit S vs
unfolding fits_signature
signature_fits S k r vs = elim (ℕ_discrete (length vs) (length S)) [
  | Dec.yes q ↦ simp (eq-eqb (length vs) (length S) q) (masked_fits S vs q)
  | Dec.no q ↦ simp (ne_eqb (length vs) (length S) q) (sym (not_as_many S vs q))
]

-- The entry's signature stands first in the table, and says whether arguments fit.
no_entry : (P : Program) (heads : List Signature) → programs.Accepted P → Begins heads (signatures P) → slice_get heads 0 ≡ None → ⊥
unfolding signatures
no_entry [] heads ok h e = omega (arith, ok.some_function)
no_entry (F ∷ P) heads ok h e = let q : slice_get heads 0 ≡ Some (signature F.sorts F.strict F.result) = ap (λ (l : List Signature). slice_get l 0) h.whole in absurd (cc)

first_fits : (P : Program) (heads : List Signature) (g : Signature) (vs : List ℕ) → programs.Accepted P → Begins heads (signatures P) → slice_get heads 0 ≡ Some g → fits_signature g vs ≡ fitting P vs
unfolding signatures fitting Every
first_fits [] heads g vs ok h e = absurd (omega (arith, ok.some_function))
first_fits (F ∷ P) heads g vs ok h e =
    let q : slice_get heads 0 ≡ Some (signature F.sorts F.strict F.result) = ap (λ (l : List Signature). slice_get l 0) h.whole in
    let same : g ≡ signature F.sorts F.strict F.result = cc in
    rw same (signature_fits F.sorts F.strict F.result vs)

pub entry_fits : (P : Program) (heads : List Signature) (vs : List ℕ) → programs.Accepted P → Begins heads (signatures P) → fits_signature (get_or heads 0 no_head) vs ≡ fitting P vs
unfolding signatures fitting Every
entry_fits [] heads vs ok h = absurd (omega (arith, ok.some_function))
entry_fits (F ∷ P) heads vs ok h = rw h.whole (signature_fits F.sorts F.strict F.result vs)

pub few_fit : (P : Program) (vs : List ℕ) → programs.Accepted P → fitting P vs ≡ true → length vs ≤ 8
unfolding fitting Every
few_fit [] vs ok h = absurd (false≢true h)
few_fit (F ∷ P) vs ok h = elim (ℕ_discrete (length vs) (length F.sorts)) [
  | Dec.yes q ↦ omega (arith, ok.sound.0.few_arguments)
  | Dec.no q ↦ absurd (false≢true (sym (not_as_many F.sorts vs q) ∙ h))
]

many_fit : (P : Program) (vs : List ℕ) → programs.Accepted P → 8 < length vs → fitting P vs ≡ false
unfolding fitting Every
many_fit [] vs ok h = refl
many_fit (F ∷ P) vs ok h = not_as_many F.sorts vs (λ e. omega (arith, ok.sound.0.few_arguments))

begins_within : {A : Type 0} (xs ys : List A) → Begins xs ys → length ys ≤ length xs
begins_within xs ys b = omega (arith, ap length b.whole, length-append ys b.rest)

-- By what the code knows: reading the text answered r.
module _ (text : List ℕ) (symbols : List Symbol) (ends : List ℕ) (heads : List Signature) (bodies : List ℕ) (r : Result Accepted Refusal) (I : IsRead text r symbols ends heads bodies) where
  -- A text that is refused: nothing is written.
  module _ (e : Refusal) (q : r ≡ Err e) where
    pub check_refused : (hs : List Head) → CheckOutcome text hs (Err e) hs
    unfolding CheckOutcome admit_check check_heads with_heads ◌>>=◌ found
    check_refused hs = let p = found_refused accepted (check text) e (sym I.answer ∙ q) in (rw p.1 (ap Err p.2), rw p.1 refl)

    pub translate_refused : (code : List ℕ) → TranslateOutcome text code (Err e) code
    unfolding TranslateOutcome admit_translate translate_code with_code ◌>>=◌ found
    translate_refused code = let p = found_refused accepted (check text) e (sym I.answer ∙ q) in (rw p.1 (ap Err p.2), rw p.1 refl)

    pub run_refused : (args : List ℕ) (limit : ℕ) (code work : List ℕ) → RunOutcome text args limit code work (Err e) code work
    unfolding RunOutcome admit_run run_code run_work with_code cleared ◌>>=◌ found
    run_refused args limit code work = let p = found_refused accepted (check text) e (sym I.answer ∙ q) in (rw p.1 (ap Err p.2), rw p.1 refl, rw p.1 refl)

  -- A text that is accepted, and a tells of its program.
  module _ (a : Accepted) (q : r ≡ Ok a) where
    P : Program
    P = (found_fine accepted (check text) a (sym I.answer ∙ q)).0

    judged : check text ≡ fine P
    unfolding P
    judged = (found_fine accepted (check text) a (sym I.answer ∙ q)).1

    counted : a ≡ accepted P
    unfolding P
    counted = (found_fine accepted (check text) a (sym I.answer ∙ q)).2

    held : Holds P symbols ends heads bodies
    held = I.held P judged

    ok : programs.Accepted P
    ok = is_accepted text P judged

    functions : a.functions ≡ length P
    functions = ap (λ (x : Accepted). x.functions) counted

    instructions : a.instructions ≡ length (translation P)
    instructions = ap (λ (x : Accepted). x.instructions) counted

    -- Arrays that hold the signatures and addresses reach as far as the functions.
    pub heads_within : (a.functions ≤ length heads) × (a.functions ≤ length bodies)
    unfolding signatures addresses
    heads_within = (
      omega (arith, functions, begins_within heads (signatures P) held.heads_held, length-map P (λ F. signature F.sorts F.strict F.result)),
      omega (arith, functions, begins_within bodies (addresses P) held.bodies_held, addresses_length P (size (initial P))),
    )

    -- Check.
    module _ (hs : List Head) where
      pub check_room : length hs < a.functions → CheckOutcome text hs (Err (refusal ROOM 0 0)) hs
      unfolding CheckOutcome admit_check ◌>>=◌ ◌>>◌ judge_room found check_heads with_heads
      check_room h =
          let k = lt-leb (length P) (length hs) (omega (arith, functions)) in
          (rw judged (simp k), rw judged (simp k))

      pub check_done : (hs' : List Head) → a.functions ≤ length hs → hs' ≡ heads_list (take a.functions heads) bodies ++ drop (length (take a.functions heads)) hs → CheckOutcome text hs (Ok a) hs'
      unfolding CheckOutcome admit_check ◌>>=◌ ◌>>◌ judge_room found check_heads with_heads written_over
      check_done hs' h w =
          let k = le-leb (length P) (length hs) (omega (arith, functions)) in
          let long : length (take a.functions heads) ≡ length P = length-take-le a.functions heads heads_within.0 ∙ functions in
          let e : hs' ≡ heads_of P ++ drop (length (heads_of P)) hs
          = w ∙ rw (heads_meant heads bodies a.functions P functions held.heads_held held.bodies_held, long, heads_length P) in
          (rw judged (simp k (ap Ok counted)), rw judged (simp k e))

    written : (code code' : List ℕ) → a.instructions ≤ length code / 12 → Translated symbols ends heads a.instructions code code' → code' ≡ written_over (code_words (translation P)) code
    unfolding Translated
    written code code' h t = t P bodies ok held instructions (omega (arith, h, instructions))

    -- Translate.
    module _ (code : List ℕ) where
      pub translate_room : length code / 12 < a.instructions → TranslateOutcome text code (Err (refusal ROOM 0 0)) code
      unfolding TranslateOutcome admit_translate translate_code ◌>>=◌ ◌>>◌ judge_room found with_code
      translate_room h =
          let k = lt-leb (instruction_words * length (translation P)) (length code) (omega (arith, instructions)) in
          (rw judged (simp k), rw judged (simp k))

      pub translate_done : (code' : List ℕ) → a.instructions ≤ length code / 12 → Translated symbols ends heads a.instructions code code' → TranslateOutcome text code (Ok a) code'
      unfolding TranslateOutcome admit_translate translate_code ◌>>=◌ ◌>>◌ judge_room found with_code
      translate_done code' h t =
          let k = le-leb (instruction_words * length (translation P)) (length code) (omega (arith, instructions)) in
          (rw judged (simp k (ap Ok counted)), rw judged (simp k (written code code' h t)))

    -- Run.
    module _ (args : List ℕ) (limit : ℕ) (code work : List ℕ) where
      pub run_without_entry : slice_get heads 0 ≡ None → RunOutcome text args limit code work (Err (refusal ARGS 0 0)) code work
      run_without_entry e = absurd (no_entry P heads ok held.heads_held e)

      refused_arguments : fitting P args ≡ false → RunOutcome text args limit code work (Err (refusal ARGS 0 0)) code work
      unfolding RunOutcome run_code run_work admit_run ◌>>=◌ ◌>>◌ judge_arguments found with_code cleared
      refused_arguments f = (rw judged (simp f), rw judged (simp f), rw judged (simp f))

      pub run_many : 8 < length args → RunOutcome text args limit code work (Err (refusal ARGS 0 0)) code work
      run_many h = refused_arguments (many_fit P args ok h)

      module _ (g : Signature) (first : slice_get heads 0 ≡ Some g) where
        fits_so : (b : Bool) → b ≡ fits_signature g args → fitting P args ≡ b
        fits_so b h = sym (h ∙ first_fits P heads g args ok held.heads_held first)

        pub run_arguments : (b : Bool) → b ≡ fits_signature g args → b ≡ false → RunOutcome text args limit code work (Err (refusal ARGS 0 0)) code work
        run_arguments b h f = refused_arguments (fits_so b h ∙ f)

        module _ (b : Bool) (h : b ≡ fits_signature g args) (t : b ≡ true) where
          fit : fitting P args ≡ true
          fit = fits_so b h ∙ t

          pub run_code_room : length code / 12 < a.instructions → RunOutcome text args limit code work (Err (refusal ROOM 0 0)) code work
          unfolding RunOutcome run_code run_work admit_run ◌>>=◌ ◌>>◌ judge_arguments judge_room found with_code cleared
          run_code_room l =
              let k = lt-leb (instruction_words * length (translation P)) (length code) (omega (arith, instructions)) in
              (rw judged (simp (fit, k)), rw judged (simp (fit, k)), rw judged (simp (fit, k)))

          pub never_many : 8 < length args → ⊥
          never_many m = omega (arith, few_fit P args ok fit)

          module _ (l : a.instructions ≤ length code / 12) where
            pub run_work_room : length work < work_words → RunOutcome text args limit code work (Err (refusal ROOM 0 0)) code work
            unfolding RunOutcome run_code run_work admit_run ◌>>=◌ ◌>>◌ judge_arguments judge_room found with_code cleared
            run_work_room w =
                let k = le-leb (instruction_words * length (translation P)) (length code) (omega (arith, instructions)) in
                let k' = lt-leb work_words (length work) w in
                (rw judged (simp (fit, k, k')), rw judged (simp (fit, k, k')), rw judged (simp (fit, k, k')))

            pub run_done : (code' work' : List ℕ) (r : Answer) → work_words ≤ length work → Translated symbols ends heads a.instructions code code'
                → r ≡ ran (run (decode (take (12 * a.instructions) code')) limit (start (first_entrance (take (12 * a.instructions) code')) args) 0 0) → work' ≡ written_over zero_words work
                → RunOutcome text args limit code work (Ok r) code' work'
            unfolding RunOutcome run_code run_work admit_run ◌>>=◌ ◌>>◌ judge_arguments judge_room found with_code cleared
            run_done code' work' r w made q z =
                let k = le-leb (instruction_words * length (translation P)) (length code) (omega (arith, instructions)) in
                let k' = le-leb work_words (length work) w in
                let c = written code code' l made in
                let s : take (12 * a.instructions) code' ≡ code_words (translation P) = ap (take (12 * a.instructions)) c ∙ ap (λ n. take (12 * n) (written_over (code_words (translation P)) code)) instructions ∙ words_of_written (translation P) code in
                let e : r ≡ ran (run_program P args limit)
                = q ∙ ap (λ x. ran (run (decode x) limit (start (first_entrance x) args) 0 0)) s ∙ ap ran (run_translated P ok args limit) in
                (rw judged (simp (fit, k, k') (ap Ok e)), rw judged (simp (fit, k, k') c), rw judged (simp (fit, k, k') z))

-- Where a text is accepted, its functions are no more than the table's signatures and addresses.
module _ (text : List ℕ) (symbols : List Symbol) (ends : List ℕ) (heads : List Signature) (bodies : List ℕ) where
  pub counts_within : (r : Result Accepted Refusal) → IsRead text r symbols ends heads bodies → IfOk r (λ a. (a.functions ≤ length heads) × (a.functions ≤ length bodies))
  counts_within (Ok a) I = heads_within text symbols ends heads bodies (Ok a) I a refl
  counts_within (Err e) I = tt

-- An answer 0 is an accepted text.
of_verdict : (x : Verdict Program) → Proper x → (checked x).number ≡ 0 → (P : Program) × (x ≡ fine P)
unfolding checked Proper Refuses
of_verdict (fine P) h e = (P, refl)
of_verdict (refused n l f) (inl h) e = absurd (omega arith)
of_verdict (refused n l f) (inr h) e = absurd (omega arith)

pub accepted_text : (text : List ℕ) → (checked (check text)).number ≡ 0 → (P : Program) × (check text ≡ fine P)
accepted_text text e = of_verdict (check text) (check_proper text) e

-- An answer tells of no more functions than a text can have.
fewer : (x : Verdict Program) → ((P : Program) → x ≡ fine P → length P ≤ most_functions) → (checked x).functions ≤ most_functions
unfolding checked
fewer (fine P) h = h P refl
fewer (refused n l f) h = omega arith

pub few_functions : (text : List ℕ) → (checked (check text)).functions ≤ most_functions
few_functions text = fewer (check text) (λ P e. (is_accepted text P e).few_functions)

-- By the definitions alone: a text is accepted, and the lent memory is too short.
module _ (text : List ℕ) (P : Program) (e : check text ≡ fine P) (code : List ℕ) where
  -- Translate.
  pub translate_short : length code / 12 < length (translation P) → (checked_refusal (refusal ROOM 0 0) ≡ translate_answer text (length code)) × (code ≡ translate_code text code)
  unfolding translate_answer translate_code admit_translate ◌>>=◌ ◌>>◌ judge_room checked with_code no
  translate_short h =
      let k = lt-leb (instruction_words * length (translation P)) (length code) (omega arith) in
      (rw e (simp k), rw e (simp k))

  -- Run.
  module _ (args : List ℕ) (limit : ℕ) (work : List ℕ) (a : fitting P args ≡ true) where
    abbrev NoRoom : Type 0
    NoRoom = (answered_refusal (refusal ROOM 0 0) ≡ run_answer text args limit (length code) (length work)) × (code ≡ run_code text args code (length work)) × (work ≡ run_work text args (length code) work)

    pub run_code_short : length code / 12 < length (translation P) → NoRoom
    unfolding run_answer run_code run_work admit_run ◌>>=◌ ◌>>◌ judge_arguments judge_room answered with_code cleared no
    run_code_short h =
        let k = lt-leb (instruction_words * length (translation P)) (length code) (omega arith) in
        (rw e (simp (a, k)), rw e (simp (a, k)), rw e (simp (a, k)))

    pub run_work_short : length (translation P) ≤ length code / 12 → length work < work_words → NoRoom
    unfolding run_answer run_code run_work admit_run ◌>>=◌ ◌>>◌ judge_arguments judge_room answered with_code cleared no
    run_work_short h w =
        let k = le-leb (instruction_words * length (translation P)) (length code) (omega arith) in
        let k' = lt-leb work_words (length work) w in
        (rw e (simp (a, k, k')), rw e (simp (a, k, k')), rw e (simp (a, k, k')))
