-- Laws of lines: field by field, line by line, signatures, packed names, and the scan. Assumes nothing.
use Rattle.std.specs.Prelude.{if◌then◌else◌, Option, Some, None, Result, Ok, Err}
use Rattle.std.specs.Result.{MatchResult, IsErrAnd}
use Rattle.std.specs.Option.{MatchOption}
use Rattle.std.proofs.Common.{Bor, ◌⊎◌, inl, inr}
use Rattle.std.proofs.lemmas.Bool.{false≢true}
use Rattle.std.specs.List.{list_any, fold}
use Rattle.std.proofs.Common.{bit_or, ◌%◌, take_all}
use Rattle.std.proofs.lemmas.Grind.{fold-append}
use Rattle.std.proofs.lemmas.Nat.{or_shifted, shl_whole}
use Rattle.std.specs.Int.{from_bool}
use Rattle.std.proofs.lemmas.List.{reverse-append}
use mathlib.Core.Path.{◌≡◌, refl, ap, sym, ◌∙◌, subst}
use mathlib.Core.List.{List, [], ◌∷◌, map, reverse}
use mathlib.Core.Bool.{Bool, true, false, ◌&&◌, ◌||◌}
use Prim.Native.Nat.{ℕ, zero, suc, ◌+◌, ◌-◌, ◌*◌, ◌^◌, ◌<◌, ◌≤◌}
use native.Mathlib.Omega.{arith}
use native.Mathlib.Nat.{pow-succ', pow-le-pow_right}
use native.Mathlib.Numerals.{add-one}
use lib.ListN.{length, get_or, drop, take, set, drop_of_length-le, length-drop, length-map, length-set}
use lib.Seq.{drop-cons, length-take-le, take-suc, get_or-drop, get_or-take}
use lib.Dec.{leb, eqb}
use borrow.Author.Tests.{le-leb, lt-leb, leb-true, leb-false, eqb-true, eqb-false, eq-eqb, ne_eqb}
use Rattle.meaning.specs.Basics.{all}
use Rattle.meaning.specs.Arithmetic.{number, yes_no}
use Rattle.meaning.specs.Numbers.{LINE, COUNT, NAME}
use Rattle.meaning.specs.Said.{found, refusal}
use Rattle.meaning.specs.declared.Refusal.{Refusal}
use Rattle.meaning.proofs.Said.{found_refused}
use Rattle.lines.specs.declared.Counted.{Counted}
use Rattle.meaning.specs.Text.{Field, fine, refused, Passed, Line, pieces, onto_first, is_visible, is_name, is_capital, is_count, are_sorts, is_sort, is_result, value, value_from, forms, first_wrong, wrong_field, judge_line, judge_lines, judge_shape, sort_of, line_of, all_but_last, lines, judge_symbols, judge_counts}
use Rattle.meaning.specs.Answers.{sort_number}
use Rattle.table.specs.Symbols.{signature, mask}
use Rattle.table.proofs.Symbols.{sort_small}
use Rattle.table.specs.declared.Signature.{Signature}
use Rattle.fields.specs.Fields.{span, rest, visible_span, occurrences, count_of, packed, is_name_byte}
use Rattle.accepted.proofs.Lines.{judged}
use Rattle.fields.proofs.Laws.{and_left, and_right, first_piece, next_piece, no_piece, piece_count, sight_end, sight_tab, sight_other, sight_none}
use Rattle.lines.specs.Lines.{shown, outcome, judged_line, body_fields, raw_lines, Right, part, Parted, total, line_signature, name_number, misfit, Scan, is_held, judge_packed}
use Rattle.lines.proofs.Splice.{sets, sets_on, sets_splice}

-- All that is left.
pub rest_all : (s : List ℕ) (i : ℕ) → take (length s - i) (drop i s) ≡ drop i s
rest_all s i = take_all (length s - i) (drop i s) (omega (arith, length-drop i s))

-- Field by field.

module _ (l : List ℕ) (at e : ℕ) (h : at < length l) (q : e ≡ at + 1 + span 9 (drop (at + 1) l)) where
  pub opened : rest 9 (drop at l) ≡ part l (at + 1) e ∷ rest 9 (drop e l)
  opened = next_piece 9 l at (at + 1) e h refl q

-- The first ends at e.
pub first_cut : (b : ℕ) (l : List ℕ) (e : ℕ) → e ≡ 0 + span b (drop 0 l) → pieces b l ≡ take e l ∷ rest b (drop e l)
first_cut b l e q = let n : e ≡ span b l = omega (arith, q) in rw n (first_piece b l)

pub first_rest : (l : List ℕ) (e : ℕ) → e ≡ 0 + span 9 (drop 0 l) → pieces 9 l ≡ take e l ∷ rest 9 (take (length l - e) (drop e l))
first_rest l e q = rw (rest_all l e) (first_cut 9 l e q)

pub first_field : (l : List ℕ) (e : ℕ) → e ≡ 0 + span 9 (drop 0 l) → pieces 9 l ≡ part l 0 e ∷ rest 9 (drop e l)
first_field l e q = let m : e - 0 ≡ e = omega arith in rw m (first_cut 9 l e q)

-- The fields after a tab, one after the other.
pub no_field : (l : List ℕ) → length l ≡ 0 → rest 9 l ≡ []
no_field l h = no_piece 9 l 0 (omega (arith, h))

pub one_field : (l : List ℕ) (e : ℕ) → (length l ≡ 0 → ⊥) → e ≡ 1 + span 9 (drop 1 l) → rest 9 l ≡ take (e - 1) (drop 1 l) ∷ rest 9 (take (length l - e) (drop e l))
one_field l e h q = rw (rest_all l e) (next_piece 9 l 0 1 e (omega (arith, h)) (omega arith) q)

judged_wrong : (w n : ℕ) → 0 < w → Err w ≡ outcome w n
unfolding outcome
judged_wrong zero n h = absurd (omega arith)
judged_wrong (suc w) n h = refl

past : (e a : ℕ) → (e ≡ a → ⊥) → a ≤ e → a < e
past e a z h = by_order (leb e a) refl
  where
    by_order : (t : Bool) → leb e a ≡ t → a < e
    by_order true p = absurd (z (omega (arith, leb-true e a p)))
    by_order false p = leb-false e a p

-- The fields of a body by their visible bytes, which end at e.
module _ (l : List ℕ) (at e : ℕ) (h : at < length l) (q : e ≡ at + 1 + visible_span (drop (at + 1) l)) where
  abbrev stop : ℕ
  stop = at + 1 + span 9 (drop (at + 1) l)

  abbrev field : Field
  field = take (span 9 (drop (at + 1) l)) (drop (at + 1) l)

  seen : rest 9 (drop at l) ≡ field ∷ rest 9 (drop stop l)
  seen =
      let n : stop - (at + 1) ≡ span 9 (drop (at + 1) l) = omega arith in
      next_piece 9 l at (at + 1) stop h refl refl ∙ ap (λ (k : ℕ). take k (drop (at + 1) l) ∷ rest 9 (drop stop l)) n

  -- k symbols stand before it.
  not_visible : (k n : ℕ) → is_visible field ≡ false → Err (5 + k) ≡ outcome (first_wrong (5 + k) [] (rest 9 (drop at l))) n
  unfolding first_wrong
  not_visible k n v = rw (seen, v) (judged_wrong (5 + k) n (omega arith))

  pub empty_field : (k n : ℕ) → e ≡ at + 1 → Err (5 + k) ≡ outcome (first_wrong (5 + k) [] (rest 9 (drop at l))) n
  empty_field k n z = not_visible k n (sight_none l (at + 1) e (omega arith) q z)

  pub spoilt_field : (k n : ℕ) → e < length l → (get_or l e 0 ≡ 9 → ⊥) → Err (5 + k) ≡ outcome (first_wrong (5 + k) [] (rest 9 (drop at l))) n
  spoilt_field k n o t = not_visible k n (sight_other l (at + 1) e (omega arith) q o t)

  stop_is : at + 1 ≤ e → span 9 (drop (at + 1) l) ≡ e - (at + 1) → stop ≡ e
  stop_is m n = omega arith

  -- All are n.
  pub last_field : (k n : ℕ) → k + length (rest 9 (drop at l)) ≡ n → length l ≤ e → e ≤ length l → (e ≡ at + 1 → ⊥) → at + 1 ≤ e → Ok (k + 1) ≡ outcome (first_wrong (5 + k) [] (rest 9 (drop at l))) n
  unfolding outcome first_wrong
  last_field k n c o p z m =
      let y = sight_end l (at + 1) e (omega arith) q o p (past e (at + 1) z m) in
      let none : rest 9 (drop stop l) ≡ [] = ap (λ (i : ℕ). rest 9 (drop i l)) (stop_is m y.0) ∙ no_piece 9 l e o in
      let one : k + 1 ≡ n = omega (arith, c, ap length seen, ap length none) in
      rw (seen, y.1, none, one)

  pub good_field : (k n : ℕ) → e < length l → get_or l e 0 ≡ 9 → (e ≡ at + 1 → ⊥) → at + 1 ≤ e →
      (length (rest 9 (drop at l)) ≡ suc (length (rest 9 (drop e l)))) × (outcome (first_wrong (5 + (k + 1)) [] (rest 9 (drop e l))) n ≡ outcome (first_wrong (5 + k) [] (rest 9 (drop at l))) n)
  unfolding first_wrong
  good_field k n o t z m =
      let y = sight_tab l (at + 1) e (omega arith) q o t (past e (at + 1) z m) in
      let f : 5 + (k + 1) ≡ 5 + k + 1 = omega arith in
      (ap length seen ∙ rw (stop_is m y.0), rw (seen, y.1, stop_is m y.0, f))

pub no_symbols : (l : List ℕ) (at k n : ℕ) → k + length (rest 9 (drop at l)) ≡ n → length l ≤ at → Ok k ≡ outcome (first_wrong (5 + k) [] (rest 9 (drop at l))) n
unfolding outcome first_wrong
no_symbols l at k n c h =
    let none : rest 9 (drop at l) ≡ [] = no_piece 9 l at h in
    let all : k ≡ n = omega (arith, c, ap length none) in
    rw (none, all)

-- What becomes of the next field: none is left, or it is looked at.
looked_at : {X : Type 0} (o : Option (Bor Field)) (F G : List Field) (u : Field → X) (d r : X) (P : Bor Field → Type 0) → MatchOption o ((F ≡ []) × (G ≡ [])) (λ x. F ≡ x.now ∷ G) → MatchOption o (r ≡ d) P →
    ((x : Bor Field) → P x → r ≡ u x.now) → ((F ≡ []) × (r ≡ d)) ⊎ ((f : Field) × (F ≡ f ∷ G) × (r ≡ u f))
looked_at None F G u d r P steps ran k = inl (steps.0, ran)
looked_at (Some x) F G u d r P steps ran k = inr (x.now, steps, k x ran)

-- A test of it passes, or not.
module _ (o : Option (Bor Field)) (F G : List Field) (test : Field → Bool) (r : Bool) (P : Bor Field → Type 0) (steps : MatchOption o ((F ≡ []) × (G ≡ [])) (λ x. F ≡ x.now ∷ G)) (ran : MatchOption o (r ≡ false) P)
    (k : (x : Bor Field) → P x → r ≡ test x.now) where
  pub passes : r ≡ true → (f : Field) × (F ≡ f ∷ G) × (test f ≡ true)
  passes e = elim (looked_at o F G test false r P steps ran k) [ inl n ↦ absurd (false≢true (sym n.1 ∙ e)) | inr y ↦ (y.0, y.1, sym y.2 ∙ e) ]

  pub fails : r ≡ false → (F ≡ []) ⊎ ((f : Field) × (F ≡ f ∷ G) × (test f ≡ false))
  fails e = elim (looked_at o F G test false r P steps ran k) [ inl n ↦ inl n.0 | inr y ↦ inr (y.0, y.1, sym y.2 ∙ e) ]

-- It is a digit, or not.
module _ (o : Option (Bor Field)) (F G : List Field) (r : Option ℕ) (P : Bor Field → Type 0) (steps : MatchOption o ((F ≡ []) × (G ≡ [])) (λ x. F ≡ x.now ∷ G)) (ran : MatchOption o (r ≡ None) P)
    (k : (x : Bor Field) → P x → r ≡ count_of x.now) where
  pub counts_as : (s : ℕ) → r ≡ Some s → (f : Field) × (F ≡ f ∷ G) × (count_of f ≡ Some s)
  counts_as s e = elim (looked_at o F G count_of None r P steps ran k) [ inl n ↦ cc (n.1, e) | inr y ↦ (y.0, y.1, sym y.2 ∙ e) ]

  pub counts_none : r ≡ None → (F ≡ []) ⊎ ((f : Field) × (F ≡ f ∷ G) × (count_of f ≡ None))
  counts_none e = elim (looked_at o F G count_of None r P steps ran k) [ inl n ↦ inl n.0 | inr y ↦ inr (y.0, y.1, sym y.2 ∙ e) ]

-- What field 2 is.
count_found : (t : Bool) (v s : ℕ) → ◌≡◌ {A = Option ℕ} (if t then Some v else None) (Some s) → (t ≡ true) × (v ≡ s)
count_found true v s e = (refl, cc)
count_found false v s e = cc

count_missing : (t : Bool) (v : ℕ) → ◌≡◌ {A = Option ℕ} (if t then Some v else None) None → t ≡ false
count_missing true v e = cc
count_missing false v e = refl

-- A line by its first fields.
module _ (fs : List Field) (name : Field) (after_name : List Field) (p : fs ≡ name ∷ after_name) where
  pub name_wrong : is_name name ≡ false → Err 1 ≡ judged_line fs
  unfolding judged_line outcome wrong_field forms first_wrong
  name_wrong x = rw (p, x)

  module _ (named : is_name name ≡ true) where
    strict_lacks : after_name ≡ [] → Err 2 ≡ judged_line fs
    unfolding judged_line outcome wrong_field forms first_wrong
    strict_lacks x = rw (p, x, named)

    module _ (strict : Field) (after_strict : List Field) (q : after_name ≡ strict ∷ after_strict) where
      strict_wrong : count_of strict ≡ None → Err 2 ≡ judged_line fs
      unfolding judged_line outcome wrong_field forms first_wrong count_of
      strict_wrong x = rw (p, q, named, count_missing (is_count strict) (value strict) x)

      module _ (s : ℕ) (counted : count_of strict ≡ Some s) where
        is_counted : (is_count strict ≡ true) × (value strict ≡ s)
        unfolding count_of
        is_counted = count_found (is_count strict) (value strict) s counted

        sorts_lack : after_strict ≡ [] → Err 3 ≡ judged_line fs
        unfolding judged_line outcome wrong_field forms first_wrong
        sorts_lack x = rw (p, q, x, named, is_counted.0)

        module _ (sorts : Field) (after_sorts : List Field) (r : after_strict ≡ sorts ∷ after_sorts) where
          at_sorts : judged_line (name ∷ strict ∷ sorts ∷ after_sorts) ≡ judged_line fs
          at_sorts = sym (ap judged_line (rw (p, q, r)))

          sorts_wrong : are_sorts s sorts ≡ false → Err 3 ≡ judged_line fs
          unfolding judged_line outcome wrong_field forms first_wrong
          sorts_wrong x = let y : Err 3 ≡ judged_line (name ∷ strict ∷ sorts ∷ after_sorts) = rw (named, is_counted.0, is_counted.1, x) in y ∙ at_sorts

          module _ (sorted : are_sorts s sorts ≡ true) where
            result_lacks : after_sorts ≡ [] → Err 4 ≡ judged_line fs
            unfolding judged_line outcome wrong_field forms first_wrong
            result_lacks x = let y : Err 4 ≡ judged_line (name ∷ strict ∷ sorts ∷ []) = rw (named, is_counted.0, is_counted.1, sorted) in y ∙ ap (λ (more : List Field). judged_line (name ∷ strict ∷ sorts ∷ more)) (sym x) ∙ at_sorts

            module _ (res : Field) (body : List Field) (t : after_sorts ≡ res ∷ body) where
              at_result : judged_line (name ∷ strict ∷ sorts ∷ res ∷ body) ≡ judged_line fs
              at_result = rw (← t) at_sorts

              result_wrong : is_result res ≡ false → Err 4 ≡ judged_line fs
              unfolding judged_line outcome wrong_field forms first_wrong
              result_wrong x = let y : Err 4 ≡ judged_line (name ∷ strict ∷ sorts ∷ res ∷ body) = rw (named, is_counted.0, is_counted.1, sorted, x) in y ∙ at_result

              module _ (resulting : is_result res ≡ true) where
                pub body_lacks : body ≡ [] → Err 5 ≡ judged_line fs
                unfolding judged_line outcome wrong_field forms first_wrong
                body_lacks x = let y : Err 5 ≡ judged_line (name ∷ strict ∷ sorts ∷ res ∷ []) = rw (named, is_counted.0, is_counted.1, sorted, resulting) in y ∙ ap (λ (more : List Field). judged_line (name ∷ strict ∷ sorts ∷ res ∷ more)) (sym x) ∙ at_result

                pub body_judged : (f : Field) (more : List Field) → body ≡ f ∷ more → outcome (first_wrong 5 [] body) (length body) ≡ judged_line fs
                unfolding judged_line wrong_field forms first_wrong
                body_judged f more x =
                    let y : outcome (first_wrong 5 [] (f ∷ more)) (length (f ∷ more)) ≡ judged_line (name ∷ strict ∷ sorts ∷ res ∷ f ∷ more) = rw (named, is_counted.0, is_counted.1, sorted, resulting) in
                    rw x y ∙ at_result

-- A field that is not there or not of its form.
module _ (fs : List Field) (name : Field) (after_name : List Field) (p : fs ≡ name ∷ after_name) (named : is_name name ≡ true) where
  pub no_strict : (gs : List Field) → (after_name ≡ []) ⊎ ((f : Field) × (after_name ≡ f ∷ gs) × (count_of f ≡ None)) → Err 2 ≡ judged_line fs
  no_strict gs (inl e) = strict_lacks fs name after_name p named e
  no_strict gs (inr y) = strict_wrong fs name after_name p named y.0 gs y.1 y.2

  module _ (strict : Field) (after_strict : List Field) (q : after_name ≡ strict ∷ after_strict) (s : ℕ) (counted : count_of strict ≡ Some s) where
    pub no_sorts : (gs : List Field) → (after_strict ≡ []) ⊎ ((f : Field) × (after_strict ≡ f ∷ gs) × (are_sorts s f ≡ false)) → Err 3 ≡ judged_line fs
    no_sorts gs (inl e) = sorts_lack fs name after_name p named strict after_strict q s counted e
    no_sorts gs (inr y) = sorts_wrong fs name after_name p named strict after_strict q s counted y.0 gs y.1 y.2

    module _ (sorts : Field) (after_sorts : List Field) (r : after_strict ≡ sorts ∷ after_sorts) (sorted : are_sorts s sorts ≡ true) where
      pub no_result : (gs : List Field) → (after_sorts ≡ []) ⊎ ((f : Field) × (after_sorts ≡ f ∷ gs) × (is_result f ≡ false)) → Err 4 ≡ judged_line fs
      no_result gs (inl e) = result_lacks fs name after_name p named strict after_strict q s counted sorts after_sorts r sorted e
      no_result gs (inr y) = result_wrong fs name after_name p named strict after_strict q s counted sorts after_sorts r sorted y.0 gs y.1 y.2

-- What was judged, told by the answer.
wrong_is : (w n k : ℕ) → Err k ≡ outcome w n → (k ≡ w) × (k ≡ 0 → ⊥)
unfolding outcome
wrong_is zero n k e = cc
wrong_is (suc w) n k e = let h : k ≡ suc w = cc in (h, λ z. omega arith)

sound_is : (w n k : ℕ) → Ok k ≡ outcome w n → (w ≡ 0) × (k ≡ n)
unfolding outcome
sound_is zero n k e = (refl, cc)
sound_is (suc w) n k e = cc

-- Line by line.

-- The function that a line is.
abbrev pub as_line : Field → Line
as_line p = line_of (pieces 9 p)

pub lines_raw : (s : List ℕ) → lines s ≡ map (λ p. line_of (pieces 9 p)) (raw_lines s)
unfolding lines raw_lines
lines_raw s = refl

judged_bad : (l w : ℕ) (others : Passed) → (w ≡ 0 → ⊥) → judge_line l w others ≡ refused LINE l w
unfolding judge_line
judged_bad l zero others z = absurd (z refl)
judged_bad l (suc k) others z = refl

pub shape_none : (t : List ℕ) → length t ≡ 0 → judge_shape t ≡ refused LINE 1 1
unfolding judge_shape
shape_none [] e = refl
shape_none (x ∷ t) e = absurd (omega (arith, e))

pub shape_some : (t : List ℕ) → (length t ≡ 0 → ⊥) → judge_lines 1 (pieces 10 (drop 0 t)) ≡ judge_shape t
unfolding judge_shape
shape_some [] e = absurd (e refl)
shape_some (x ∷ t) e = refl

-- The lines of a text, one after the other: the first ends at e.
module _ (t : List ℕ) (e : ℕ) (q : e ≡ 0 + span 10 (drop 0 t)) where
  pub no_line : length t ≤ e → raw_lines t ≡ []
  unfolding raw_lines all_but_last
  no_line o = rw (first_cut 10 t e q, no_piece 10 t e o)

  -- What stands after the byte 10.
  after_line : e < length t → rest 10 (drop e t) ≡ take (span 10 (drop (e + 1) t)) (drop (e + 1) t) ∷ rest 10 (drop (span 10 (drop (e + 1) t)) (drop (e + 1) t))
  unfolding rest
  after_line o = rw (drop-cons t e 0, ← add-one e) (first_piece 10 (drop (e + 1) t))

  pub first_line : e < length t → raw_lines t ≡ take e t ∷ raw_lines (take (length t - (e + 1)) (drop (e + 1) t))
  unfolding raw_lines all_but_last
  first_line o = rw (rest_all t (e + 1), first_cut 10 t e q, after_line o, first_piece 10 (drop (e + 1) t))

-- Whether no byte is left after the last byte 10.
unfoldable pub is_closed : List Field → Bool
is_closed [] = true
is_closed ([] ∷ []) = true
is_closed ((x ∷ xs) ∷ []) = false
is_closed (p ∷ q ∷ ps) = is_closed (q ∷ ps)

-- The lines of a text judged one after the other, and what is left after them.
unfoldable pub judge_each : ℕ → List Field → Bool → Passed
judge_each l [] closed = if closed then fine tt else refused LINE l 0
judge_each l (p ∷ ps) closed = judge_line l (wrong_field (pieces 9 p)) (judge_each (l + 1) ps closed)

each_line : (l : ℕ) (ps : List Field) → judge_lines l ps ≡ judge_each l (all_but_last ps) (is_closed ps)
unfolding judge_lines judge_each all_but_last is_closed
each_line l [] = refl
each_line l ([] ∷ []) = refl
each_line l ((x ∷ xs) ∷ []) = refl
each_line l (p ∷ q ∷ ps) = ap (judge_line l (wrong_field (pieces 9 p))) (each_line (l + 1) (q ∷ ps))

pub shape_each : (t : List ℕ) → (length t ≡ 0 → ⊥) → judge_shape t ≡ judge_each 1 (raw_lines t) (is_closed (pieces 10 t))
unfolding raw_lines
shape_each t h = sym (shape_some t h) ∙ each_line 1 (pieces 10 t)

closed_on : (x y : ℕ) (ps : List Field) (s t : Bool) → 0 < length ps →
    is_closed (if s then [] ∷ (if t then [] ∷ ps else onto_first y ps) else onto_first x (if t then [] ∷ ps else onto_first y ps)) ≡ is_closed (if t then [] ∷ ps else onto_first y ps)
unfolding onto_first is_closed
closed_on x y [] s t h = absurd (omega (arith, h))
closed_on x y (p ∷ ps) true true h = refl
closed_on x y (p ∷ ps) false true h = refl
closed_on x y (p ∷ ps) true false h = refl
closed_on x y (p ∷ []) false false h = refl
closed_on x y (p ∷ q ∷ ps) false false h = refl

-- A text that is not empty is closed where its last byte is a byte 10.
pub closed_by : (t : List ℕ) → (length t ≡ 0 → ⊥) → eqb (get_or t (length t - 1) 0) 10 ≡ is_closed (pieces 10 t)
unfolding pieces is_closed onto_first
closed_by [] h = absurd (h refl)
closed_by (x ∷ []) h = by_test (eqb x 10)
  where
    by_test : (t : Bool) → t ≡ is_closed (if t then [] ∷ [] ∷ [] else (x ∷ []) ∷ [])
    by_test true = refl
    by_test false = refl
closed_by (x ∷ y ∷ t) h =
    let n : suc (suc (length t)) - 1 ≡ suc (suc (length t) - 1) = omega arith in
    rw n (closed_by (y ∷ t) (λ e. omega (arith, e)) ∙ sym (closed_on x y (pieces 10 t) (eqb x 10) (eqb y 10) (omega (arith, piece_count 10 t))))

-- A text whose shape passes has only lines of the right shape.
right_lines : (l : ℕ) (ps : List Field) → judge_lines l ps ≡ fine tt → Right (all_but_last ps)
unfolding judge_lines all_but_last Right
right_lines l [] e = tt
right_lines l (p ∷ []) e = tt
right_lines l (p ∷ q ∷ ps) e =
    let k = judged l (wrong_field (pieces 9 p)) (judge_lines (l + 1) (q ∷ ps)) e in
    (k.0, right_lines (l + 1) (q ∷ ps) k.1)

pub right_shape : (t : List ℕ) → judge_shape t ≡ fine tt → Right (raw_lines t)
unfolding judge_shape raw_lines
right_shape [] e = let z : ◌≡◌ {A = ℕ} 0 1 = cc in absurd (omega arith)
right_shape (x ∷ t) e = right_lines 1 (pieces 10 (x ∷ t)) e

-- Counted.

pub body_tabs : (l : List ℕ) (n : ℕ) → n ≡ occurrences 9 l → n - 3 ≡ body_fields l
unfolding body_fields
body_tabs l n x = omega (arith, length-drop 4 (pieces 9 l), piece_count 9 l)

pub over_functions : (L : List Line) (n : ℕ) → n ≡ length L → 64 < n → Err (refusal COUNT 65 0) ≡ shown (judge_counts L)
unfolding judge_counts found
over_functions L n x h = rw (lt-leb (length L) 64 (omega (arith, x)))

pub few_functions : (L : List Line) (n : ℕ) → n ≡ length L → n ≤ 64 → judge_symbols 1 0 L ≡ judge_counts L
unfolding judge_counts
few_functions L n x h = rw (le-leb (length L) 64 (omega (arith, x)))

all_symbols : (l seen : ℕ) (L : List Line) → seen + total L ≤ 1024 → judge_symbols l seen L ≡ fine tt
unfolding judge_symbols total
all_symbols l seen [] h = refl
all_symbols l seen (k ∷ L) h = rw (le-leb (seen + length k.body) 1024 (omega (arith, h))) (all_symbols (l + 1) (seen + length k.body) L (omega (arith, h)))

pub few_symbols : (L : List Line) (n : ℕ) → n ≡ total L → n ≤ 1024 → Ok tt ≡ shown (judge_symbols 1 0 L)
unfolding found
few_symbols L n x h = rw (all_symbols 1 0 L (omega (arith, x)))

pub body_length : (p : Field) → length (line_of (pieces 9 p)).body ≡ body_fields p
unfolding line_of body_fields
body_length p = refl

pub symbols_begin : (t : List ℕ) → judge_symbols (0 + 1) 0 (map as_line (raw_lines t)) ≡ judge_symbols 1 0 (lines t)
symbols_begin t = let n : 0 + 1 ≡ 1 = omega arith in rw (n, lines_raw t)

pub symbols_done : (l seen : ℕ) (ps : List Field) → ps ≡ [] → Ok tt ≡ shown (judge_symbols l seen (map as_line ps))
unfolding judge_symbols found
symbols_done l seen ps e = rw e

module _ (l seen n : ℕ) (p : Field) (ps qs : List Field) (x : n ≡ body_fields p) (y : ps ≡ p ∷ qs) where
  pub over_symbols : 1024 < seen + n → seen ≤ 1024 → Err (refusal COUNT l (1029 - seen)) ≡ shown (judge_symbols l seen (map as_line ps))
  unfolding judge_symbols found
  over_symbols h o =
      let m : 1029 - seen ≡ 4 + (1025 - seen) = omega arith in
      rw (y, body_length p, ← x, lt-leb (seen + n) 1024 h, m)

  pub some_symbols : seen + n ≤ 1024 → judge_symbols (l + 1) (seen + n) (map as_line qs) ≡ judge_symbols l seen (map as_line ps)
  unfolding judge_symbols
  some_symbols h = rw (y, body_length p, ← x, le-leb (seen + n) 1024 h)

-- NAME by packed names.

-- Whether a name is one of some, as the library's `contains` tests it.
held_as : (M : List ℕ) (n : ℕ) → list_any (λ m. eqb m n) M ≡ is_held n M
unfolding is_held
held_as [] n = refl
held_as (m ∷ M) n = rw (held_as M n) (ap (λ (t : Bool). t || is_held n M) (either_way (eqb m n) (eqb n m) refl refl))
  where
    either_way : (s t : Bool) → eqb m n ≡ s → eqb n m ≡ t → s ≡ t
    either_way true true p q = refl
    either_way false false p q = refl
    either_way true false p q = absurd (eqb-false n m q (sym (eqb-true m n p)))
    either_way false true p q = absurd (eqb-false m n p (sym (eqb-true n m q)))

module _ (M : List ℕ) (n l : ℕ) where
  pub names_end : length M ≤ n → Ok tt ≡ shown (judge_packed l (take n M) (drop n M))
  unfolding judge_packed found
  names_end h = rw (drop_of_length-le M h)

  pub name_again : (v : Bool) → n < length M → v ≡ list_any (λ m. eqb m (get_or M n 0)) (take n M) → v ≡ true → Err (refusal NAME l 1) ≡ shown (judge_packed l (take n M) (drop n M))
  unfolding judge_packed found
  name_again v h x e = rw (drop-cons M n 0, ← (x ∙ held_as (take n M) (get_or M n 0)), e)

  pub name_new : (v : Bool) → n < length M → v ≡ list_any (λ m. eqb m (get_or M n 0)) (take n M) → v ≡ false → judge_packed (l + 1) (take (n + 1) M) (drop (n + 1) M) ≡ judge_packed l (take n M) (drop n M)
  unfolding judge_packed
  name_new v h x e = rw (drop-cons M n 0, ← (x ∙ held_as (take n M) (get_or M n 0)), e, add-one n, take-suc M n 0)

-- Sorts as a mask.

sort_bit_is : (x : ℕ) → from_bool (eqb x 98) ≡ sort_number (sort_of x)
unfolding sort_number sort_of
sort_bit_is x = by_test (eqb x 98)
  where
    by_test : (t : Bool) → from_bool t ≡ sort_number (if t then yes_no else number)
    by_test true = refl
    by_test false = refl

-- A mask has as many bits as there are sorts.
mask_below : (f : List ℕ) → mask (map sort_of f) < 2 ^ length f
unfolding mask
mask_below [] = omega arith
mask_below (x ∷ f) = rw (pow-succ' 2 (length f)) (omega (arith, mask_below f, sort_small (sort_of x)))

-- One more sort below those of a mask, as the code puts it: by a shift and an or.
abbrev pub onto_mask : ℕ → ℕ → ℕ
onto_mask m x = bit_or (m * 2 % 4294967296) (from_bool (eqb x 98))

-- The sorts from the last to the first, one after the other.
pub mask_fold : (f : List ℕ) → length f ≤ 8 → fold onto_mask 0 (reverse f) ≡ mask (map sort_of f)
unfolding mask
mask_fold [] l = refl
mask_fold (x ∷ f) l =
    let below : mask (map sort_of f) < 128 = omega (arith, mask_below f, pow-le-pow_right {n = 2} (omega arith) {i = length f} {j = 7} (omega (arith, l))) in
    let whole : mask (map sort_of f) * 2 % 4294967296 ≡ mask (map sort_of f) * 2 = shl_whole (mask (map sort_of f)) 7 1 32 below (omega arith) in
    rw (reverse-append (x ∷ []) f, fold-append onto_mask 0 (reverse f) (x ∷ []), mask_fold f (omega (arith, l)), whole, sort_bit_is x, or_shifted (mask (map sort_of f)) 1 (sort_number (sort_of x)) (omega (arith, sort_small (sort_of x)))) (omega arith)

-- The forms of a line of the right shape.

unfoldable pub Visible : List Field → Type 0
Visible [] = Unit {0}
Visible (f ∷ fs) = (is_visible f ≡ true) × Visible fs

pub record Forms (fs : List Field) : Type 0 where
  pub enough : 5 ≤ length fs
  pub name_form : is_name (get_or fs 0 []) ≡ true
  pub strict_form : is_count (get_or fs 1 []) ≡ true
  pub sorts_form : are_sorts (value (get_or fs 1 [])) (get_or fs 2 []) ≡ true
  pub result_form : is_result (get_or fs 3 []) ≡ true
  pub body_form : Visible (drop 4 fs)

right_if : (t : Bool) (n k : ℕ) → (if t then n else suc k) ≡ 0 → (t ≡ true) × (n ≡ 0)
right_if true n k e = (refl, e)
right_if false n k e = absurd (omega (arith, e))

right_body : (k : ℕ) (fs : List Field) → first_wrong (suc k) [] fs ≡ 0 → Visible fs
unfolding first_wrong Visible
right_body k [] e = tt
right_body k (f ∷ fs) e =
    let p = right_if (is_visible f) (first_wrong (suc k + 1) [] fs) k e in
    let q : suc k + 1 ≡ suc (suc k) = omega arith in
    (p.0, right_body (suc k) fs (ap (λ (n : ℕ). first_wrong n [] fs) (sym q) ∙ p.1))

pub right_forms : (fs : List Field) → wrong_field fs ≡ 0 → Forms fs
unfolding wrong_field forms first_wrong Visible
right_forms [] e = absurd (omega (arith, e))
right_forms (a ∷ []) e = absurd (omega (arith, (right_if (is_name a) 2 0 e).1))
right_forms (a ∷ b ∷ []) e = absurd (omega (arith, (right_if (is_count b) 3 1 (right_if (is_name a) _ 0 e).1).1))
right_forms (a ∷ b ∷ c ∷ []) e = absurd (omega (arith, (right_if (are_sorts (value b) c) 4 2 (right_if (is_count b) _ 1 (right_if (is_name a) _ 0 e).1).1).1))
right_forms (a ∷ b ∷ c ∷ d ∷ []) e = absurd (omega (arith, (right_if (is_result d) 5 3 (right_if (are_sorts (value b) c) _ 2 (right_if (is_count b) _ 1 (right_if (is_name a) _ 0 e).1).1).1).1))
right_forms (a ∷ b ∷ c ∷ d ∷ f ∷ fs) e =
    let p = right_if (is_name a) _ 0 e in
    let q = right_if (is_count b) _ 1 p.1 in
    let r = right_if (are_sorts (value b) c) _ 2 q.1 in
    let s = right_if (is_result d) _ 3 r.1 in
    let t = right_if (is_visible f) (first_wrong 6 [] fs) 4 s.1 in
    record { enough = omega arith; name_form = p.0; strict_form = q.0; sorts_form = r.0; result_form = s.0; body_form = (t.0, right_body 5 fs t.1) }

-- A piece is left: there is a byte.
byte_left : (l : List ℕ) (at n : ℕ) → n + 1 ≤ length (rest 9 (drop at l)) → at < length l
byte_left l at n h = by_order (leb (length l) at) refl
  where
    by_order : (t : Bool) → leb (length l) at ≡ t → at < length l
    by_order true p = absurd (omega (arith, h, ap length (no_piece 9 l at (leb-true (length l) at p))))
    by_order false p = leb-false (length l) at p

module _ (l : List ℕ) (e : ℕ) (q : e ≡ 0 + span 9 (drop 0 l)) (w : wrong_field (pieces 9 l) ≡ 0) where
  enough_1 : 4 ≤ length (rest 9 (drop e l))
  enough_1 = omega (arith, ap length (first_field l e q), (right_forms (pieces 9 l) w).enough)

  pub tab_1 : e < length l
  tab_1 = byte_left l e 3 enough_1

  module _ (e2 : ℕ) (q2 : e2 ≡ e + 1 + span 9 (drop (e + 1) l)) where
    enough_2 : 3 ≤ length (rest 9 (drop e2 l))
    enough_2 = omega (arith, ap length (opened l e e2 tab_1 q2), enough_1)

    pub tab_2 : e2 < length l
    tab_2 = byte_left l e2 2 enough_2

    module _ (e3 : ℕ) (q3 : e3 ≡ e2 + 1 + span 9 (drop (e2 + 1) l)) where
      enough_3 : 2 ≤ length (rest 9 (drop e3 l))
      enough_3 = omega (arith, ap length (opened l e2 e3 tab_2 q3), enough_2)

      pub tab_3 : e3 < length l
      tab_3 = byte_left l e3 1 enough_3

      pub tab_4 : (e4 : ℕ) → e4 ≡ e3 + 1 + span 9 (drop (e3 + 1) l) → Parted l e e2 e3 e4
      tab_4 e4 q4 =
          record {
            name_strict = omega arith;
            strict_sorts = omega arith;
            sorts_result = omega arith;
            result_body = byte_left l e4 0 (omega (arith, ap length (opened l e3 e4 tab_3 q4), enough_3));
            fields = first_field l e q ∙ rw (opened l e e2 tab_1 q2, opened l e2 e3 tab_2 q3, opened l e3 e4 tab_3 q4);
          }

-- What a line of the right shape signs with.
one_of : (f : Field) → is_count f ≡ true → (length f ≡ 1) × (48 ≤ get_or f 0 0) × (get_or f 0 0 ≤ 56) × (value f ≡ get_or f 0 0 - 48)
unfolding is_count value_from
one_of [] e = let z : ◌≡◌ {A = ℕ} 0 1 = cc in absurd (omega arith)
one_of (x ∷ []) e =
    (refl, leb-true 48 x (and_left (leb 48 x) (leb x 56) e), leb-true x 56 (and_right (leb 48 x) (leb x 56) e), omega arith)
one_of (x ∷ y ∷ f) e = let z : ◌≡◌ {A = ℕ} 0 1 = cc in absurd (omega arith)

pub few_sorts : (s : ℕ) (f : Field) → are_sorts s f ≡ true → length f ≤ 8
unfolding are_sorts
few_sorts s f e = leb-true (length f) 8 (and_right (leb 1 (length f)) (leb (length f) 8) (and_left (leb 1 (length f) && leb (length f) 8) _ e))

pub strict_few : (s : ℕ) (f : Field) → are_sorts s f ≡ true → s ≤ length f
unfolding are_sorts
strict_few s f e = leb-true s (length f) (and_left (leb s (length f)) (all is_sort f) (and_right (leb 1 (length f) && leb (length f) 8) _ e))

one_result : (f : Field) → is_result f ≡ true → 1 ≤ length f
unfolding is_result
one_result [] e = let z : ◌≡◌ {A = ℕ} 0 1 = cc in absurd (omega arith)
one_result (x ∷ []) e = omega arith
one_result (x ∷ y ∷ f) e = omega arith

short_name : (f : Field) → is_name f ≡ true → length f ≤ 8
unfolding is_name
short_name [] e = omega arith
short_name (x ∷ f) e = omega (arith, leb-true (length f) 7 (and_left (leb (length f) 7) (all is_name_byte f) (and_right (is_capital x) (leb (length f) 7 && all is_name_byte f) e)))

part_head : (l : List ℕ) (a e : ℕ) → a < e → get_or (part l a e) 0 0 ≡ get_or l a 0
part_head l a e h =
    get_or-take (e - a) (drop a l) 0 0 (omega arith) ∙ get_or-drop a l 0 0 ∙ ap (λ (k : ℕ). get_or l k 0) (plus_zero a)
  where
    plus_zero : (a : ℕ) → a + 0 ≡ a
    plus_zero a = omega arith

module _ (l : List ℕ) (a b c d : ℕ) (p : Parted l a b c d) (w : wrong_field (pieces 9 l) ≡ 0) where
  shaped : Forms (part l 0 a ∷ part l (a + 1) b ∷ part l (b + 1) c ∷ part l (c + 1) d ∷ rest 9 (drop d l))
  shaped = right_forms _ (ap wrong_field (sym p.fields) ∙ w)

  digit_part : (length (part l (a + 1) b) ≡ 1) × (48 ≤ get_or (part l (a + 1) b) 0 0) × (get_or (part l (a + 1) b) 0 0 ≤ 56) × (value (part l (a + 1) b) ≡ get_or (part l (a + 1) b) 0 0 - 48)
  digit_part = one_of (part l (a + 1) b) shaped.strict_form

  part_length : (i j : ℕ) → j ≤ length l → length (part l i j) ≡ j - i
  part_length i j h = length-take-le (j - i) (drop i l) (omega (arith, length-drop i l))

  digit_head : get_or (part l (a + 1) b) 0 0 ≡ get_or l (a + 1) 0
  digit_head = part_head l (a + 1) b (omega (arith, digit_part.0, part_length (a + 1) b (omega (arith, p.strict_sorts, p.sorts_result, p.result_body)), p.name_strict))

  result_head : get_or (part l (c + 1) d) 0 0 ≡ get_or l (c + 1) 0
  result_head = part_head l (c + 1) d (omega (arith, one_result (part l (c + 1) d) shaped.result_form, part_length (c + 1) d (omega (arith, p.result_body)), p.sorts_result))

  pub strict_digit : (48 ≤ get_or l (a + 1) 0) × (get_or l (a + 1) 0 ≤ 56) × (length (part l (b + 1) c) ≤ 8)
  strict_digit = (omega (arith, digit_part.1, digit_head), omega (arith, digit_part.2, digit_head), few_sorts _ (part l (b + 1) c) shaped.sorts_form)

  whole : part l 0 a ≡ take a l
  whole = let n : a - 0 ≡ a = omega arith in rw n

  pub name_fits_8 : length (take a l) ≤ 8
  name_fits_8 = short_name (take a l) (ap is_name (sym whole) ∙ shaped.name_form)

  pub named_by : packed (take a l) ≡ name_number (line_of (pieces 9 l))
  unfolding name_number line_of
  named_by = rw (p.fields, whole)

  pub signed : signature (map sort_of (part l (b + 1) c)) (get_or l (a + 1) 0 - 48) (sort_of (get_or l (c + 1) 0)) ≡ line_signature (line_of (pieces 9 l))
  unfolding line_signature line_of
  signed =
      let v : value (part l (a + 1) b) ≡ get_or l (a + 1) 0 - 48 = digit_part.3 ∙ ap (λ (k : ℕ). k - 48) digit_head in
      rw (p.fields, v, result_head)

-- The first line is right, and the others are.
pub right_here : (ps : List Field) (p : Field) (qs : List Field) → Right ps → ps ≡ p ∷ qs → (wrong_field (pieces 9 p) ≡ 0) × Right qs
unfolding Right
right_here ps p qs r e = subst Right e r

-- A body has no more fields than the text has bytes.
occurs_by : (b x : ℕ) (xs : List ℕ) (t : Bool) → occurrences b xs ≤ length xs → (if t then suc (occurrences b xs) else occurrences b xs) ≤ suc (length xs)
occurs_by b x xs true h = omega arith
occurs_by b x xs false h = omega arith

occurs_within : (b : ℕ) (s : List ℕ) → occurrences b s ≤ length s
unfolding occurrences
occurs_within b [] = omega arith
occurs_within b (x ∷ xs) = occurs_by b x xs (eqb x b) (occurs_within b xs)

pub fields_within : (p : Field) → length (pieces 9 p) ≤ length p + 1
fields_within p = omega (arith, piece_count 9 p, occurs_within 9 p)

pub body_less : (p : Field) → body_fields p ≤ length p
unfolding body_fields
body_less p = omega (arith, length-drop 4 (pieces 9 p), fields_within p)

-- All bodies together have no more symbols than the text has bytes.
abbrev pub lengths : List Field → ℕ
lengths [] = 0
lengths (p ∷ ps) = length p + lengths ps

lengths_by : (x : ℕ) (ps : List Field) (n : ℕ) (t : Bool) → lengths ps + length ps ≤ suc n → lengths (if t then [] ∷ ps else onto_first x ps) + length (if t then [] ∷ ps else onto_first x ps) ≤ suc (suc n)
unfolding onto_first
lengths_by x ps n true h = omega (arith, h)
lengths_by x [] n false h = omega arith
lengths_by x (p ∷ ps) n false h = omega (arith, h)

-- A byte between each piece and the next.
lengths_within : (b : ℕ) (s : List ℕ) → lengths (pieces b s) + length (pieces b s) ≤ suc (length s)
unfolding pieces
lengths_within b [] = omega arith
lengths_within b (x ∷ s) = lengths_by x (pieces b s) (length s) (eqb x b) (lengths_within b s)

lengths_less : (ps : List Field) → lengths (all_but_last ps) + length (all_but_last ps) ≤ lengths ps + length ps - 1
unfolding all_but_last
lengths_less [] = omega arith
lengths_less (p ∷ []) = omega arith
lengths_less (p ∷ q ∷ ps) = omega (arith, lengths_less (q ∷ ps))

pub raw_within : (t : List ℕ) → lengths (raw_lines t) + length (raw_lines t) ≤ length t
unfolding raw_lines
raw_within t = omega (arith, lengths_less (pieces 10 t), lengths_within 10 t)

total_lengths : (ps : List Field) → total (map (λ p. line_of (pieces 9 p)) ps) ≤ lengths ps
unfolding total
total_lengths [] = omega arith
total_lengths (p ∷ ps) = omega (arith, total_lengths ps, body_length p, body_less p)

total_within : (t : List ℕ) → total (lines t) ≤ length t
total_within t = omega (arith, ap total (lines_raw t), total_lengths (raw_lines t), raw_within t)

-- Of lines of the right shape each field has a byte and one after it, and four stand before the body: eight bytes a line and two a symbol.
visible_some : (fs : List Field) → Visible fs → length fs ≤ lengths fs
unfolding Visible is_visible
visible_some [] v = omega arith
visible_some (f ∷ fs) v = omega (arith, visible_some fs v.1, leb-true 1 (length f) (and_left (leb 1 (length f)) _ v.0))

name_some : (f : Field) → is_name f ≡ true → 1 ≤ length f
unfolding is_name
name_some [] e = let z : ◌≡◌ {A = ℕ} 0 1 = cc in absurd (omega arith)
name_some (x ∷ f) e = omega arith

sorts_some : (s : ℕ) (f : Field) → are_sorts s f ≡ true → 1 ≤ length f
unfolding are_sorts
sorts_some s f e = leb-true 1 (length f) (and_left (leb 1 (length f)) _ (and_left (leb 1 (length f) && leb (length f) 8) _ e))

fields_some : (fs : List Field) → Forms fs → length fs ≤ lengths fs
fields_some [] k = omega arith
fields_some (a ∷ []) k = absurd (omega (arith, k.enough))
fields_some (a ∷ b ∷ []) k = absurd (omega (arith, k.enough))
fields_some (a ∷ b ∷ c ∷ []) k = absurd (omega (arith, k.enough))
fields_some (a ∷ b ∷ c ∷ d ∷ fs) k =
    omega (arith, name_some a k.name_form, (one_of b k.strict_form).0, sorts_some (value b) c k.sorts_form, one_result d k.result_form, visible_some fs k.body_form)

line_bytes : (p : Field) → wrong_field (pieces 9 p) ≡ 0 → 7 + 2 * body_fields p ≤ length p
unfolding body_fields
line_bytes p w =
    let k = right_forms (pieces 9 p) w in
    omega (arith, fields_some (pieces 9 p) k, lengths_within 9 p, length-drop 4 (pieces 9 p), k.enough)

right_bytes : (ps : List Field) → Right ps → 8 * length ps + 2 * total (map (λ p. line_of (pieces 9 p)) ps) ≤ lengths ps + length ps
unfolding Right total
right_bytes [] r = omega arith
right_bytes (p ∷ ps) r = omega (arith, right_bytes ps r.1, body_length p, line_bytes p r.0)

pub shaped_within : (t : List ℕ) → Right (raw_lines t) → 8 * length (lines t) + 2 * total (lines t) ≤ length t
shaped_within t r =
    omega (arith, ap total (lines_raw t), ap length (lines_raw t), length-map (raw_lines t) (λ p. line_of (pieces 9 p)), right_bytes (raw_lines t) r, raw_within t)

-- What `map_err` was given where it answers an error, and where it answers none.
pub err_before : {E F A : Type 0} (r : Result A E) (s : Result A F) (P Q : E → F → Type 0) (x : F) → MatchResult r (λ a. s ≡ Ok a) (λ e. IsErrAnd s (P e)) → s ≡ Err x → ((e : E) → P e x → Q e x) →
    (e : E) × (r ≡ Err e) × Q e x
err_before (Ok a) s P Q x m e k = cc
err_before (Err d) s P Q x m e k = (d, refl, k d (rw e at m))

pub ok_before : {E F A : Type 0} (r : Result A E) (s : Result A F) (P : E → F → Type 0) (a : A) → MatchResult r (λ a. s ≡ Ok a) (λ e. IsErrAnd s (P e)) → s ≡ Ok a → r ≡ Ok a
ok_before (Ok b) s P a m e = cc
ok_before (Err d) s P a m e = absurd (rw e at m)

-- The scan, line by line: what was written before line n, counted from 0, and what is still to come.

pub record Scanning (text names₀ names : List ℕ) (heads₀ heads : List Signature) (left : List Field) (n symbols : ℕ) : Type 0 where
  pub place : n + (lengths left + length left) ≤ length text
  pub shape : judge_each (n + 1) left (is_closed (pieces 10 text)) ≡ judge_shape text
  pub lines_left : n + length left ≡ length (lines text)
  pub symbols_left : symbols + total (map as_line left) ≡ total (lines text)
  pub names_length : length names ≡ length names₀
  pub heads_length : length heads ≡ length heads₀
  pub names_left : sets names n (map name_number (map as_line left)) ≡ sets names₀ 0 (map name_number (lines text))
  pub heads_left : sets heads n (map line_signature (map as_line left)) ≡ sets heads₀ 0 (map line_signature (lines text))

pub scan_begins : (t names : List ℕ) (heads : List Signature) → (length t ≡ 0 → ⊥) → Scanning t names names heads heads (raw_lines t) 0 0
scan_begins t names heads h =
    let n : 0 + 1 ≡ 1 = omega arith in
    let e : map as_line (raw_lines t) ≡ lines t = sym (lines_raw t) in
    record {
      place = omega (arith, raw_within t);
      shape = rw n (sym (shape_each t h));
      lines_left = omega (arith, ap length e, length-map (raw_lines t) as_line);
      symbols_left = omega (arith, ap total e);
      names_length = refl;
      heads_length = refl;
      names_left = rw e;
      heads_left = rw e;
    }

-- A refused shape.
shape_refused : (t names names' : List ℕ) (heads heads' : List Signature) (l k : ℕ) → judge_shape t ≡ refused LINE l k → Scan t names names' heads heads' (Err (misfit l k))
unfolding found
shape_refused t names names' heads heads' l k x =
    record {
      shape_judged = rw x;
      names_filled = λ y m. cc;
      heads_filled = λ y m. cc;
    }

pub scan_refused : (t names names' : List ℕ) (heads heads' : List Signature) (l k : ℕ) (r : Result Counted Refusal) → r ≡ Err (misfit l k) → Err (refusal LINE l k) ≡ shown (judge_shape t) → Scan t names names' heads heads' r
unfolding found
scan_refused t names names' heads heads' l k r e x =
    let p = found_refused (λ _. tt) (judge_shape t) (misfit l k) (sym x) in
    record {
      shape_judged = rw (e, p.1) (ap Err p.2);
      names_filled = λ y m. let n = p.1 in cc;
      heads_filled = λ y m. let n = p.1 in cc;
    }

pub scan_empty : (t names : List ℕ) (heads : List Signature) → length t ≡ 0 → Scan t names names heads heads (Err (misfit 1 1))
scan_empty t names heads e = shape_refused t names names heads heads 1 1 (shape_none t e)

-- No line is left: the text is closed, or it is not.
module _ (t names₀ names : List ℕ) (heads₀ heads : List Signature) (left : List Field) (n symbols : ℕ) (i : Scanning t names₀ names heads₀ heads left n symbols) (none : left ≡ []) (some : length t ≡ 0 → ⊥) where
  ends : judge_each (n + 1) [] (eqb (get_or t (length t - 1) 0) 10) ≡ judge_shape t
  ends = rw (closed_by t some) (ap (λ (ps : List Field). judge_each (n + 1) ps (is_closed (pieces 10 t))) (sym none) ∙ i.shape)

  pub scan_open : (get_or t (length t - 1) 0 ≡ 10 → ⊥) → Scan t names₀ names heads₀ heads (Err (misfit (n + 1) 0))
  unfolding judge_each
  scan_open o = shape_refused t names₀ names heads₀ heads (n + 1) 0 (sym ends ∙ rw (ne_eqb (get_or t (length t - 1) 0) 10 o))

  pub scan_ends : get_or t (length t - 1) 0 ≡ 10 → Scan t names₀ names heads₀ heads (Ok (record { functions = n; symbols = symbols }))
  unfolding judge_each total sets found
  scan_ends o =
      let c : n ≡ length (lines t) = omega (arith, i.lines_left, ap length none) in
      let s : symbols ≡ total (lines t) = omega (arith, i.symbols_left, ap (λ (ps : List Field). total (map as_line ps)) none) in
      let j : judge_shape t ≡ fine tt = sym ends ∙ rw (eq-eqb (get_or t (length t - 1) 0) 10 o) in
      record {
        shape_judged = rw (j, c, s);
        names_filled = λ y m. sym (ap (λ (ps : List Field). sets names n (map name_number (map as_line ps))) none) ∙ i.names_left ∙ sets_splice names₀ 0 (map name_number (lines t)) (omega (arith, m, length-map (lines t) name_number));
        heads_filled = λ y m. sym (ap (λ (ps : List Field). sets heads n (map line_signature (map as_line ps))) none) ∙ i.heads_left ∙ sets_splice heads₀ 0 (map line_signature (lines t)) (omega (arith, m, length-map (lines t) line_signature));
      }

-- One line.
module _ (t names₀ names : List ℕ) (heads₀ heads : List Signature) (left : List Field) (n symbols : ℕ) (i : Scanning t names₀ names heads₀ heads left n symbols) (p : Field) (next : List Field) (e : left ≡ p ∷ next) where
  pub scan_wrong : (w : ℕ) (r : Result ℕ ℕ) → r ≡ Err w → r ≡ judged_line (pieces 9 p) → Scan t names₀ names heads₀ heads (Err (misfit (n + 1) w))
  unfolding judged_line judge_each
  scan_wrong w r x y =
      let k = wrong_is (wrong_field (pieces 9 p)) _ w (sym x ∙ y) in
      shape_refused t names₀ names heads₀ heads (n + 1) w (sym i.shape ∙ rw (e, ← k.0) (judged_bad (n + 1) w _ k.1))

  module _ (w : ℕ) (r : Result ℕ ℕ) (x : r ≡ Ok w) (y : r ≡ judged_line (pieces 9 p)) where
    sound_part : (wrong_field (pieces 9 p) ≡ 0) × (w ≡ body_fields p)
    unfolding judged_line body_fields
    sound_part = sound_is (wrong_field (pieces 9 p)) _ w (sym x ∙ y)

    pub scan_right : wrong_field (pieces 9 p) ≡ 0
    scan_right = sound_part.0

    next_total : total (map as_line left) ≡ w + total (map as_line next)
    unfolding total
    next_total = ap (λ (ps : List Field). total (map as_line ps)) e ∙ ap (λ (k : ℕ). k + total (map as_line next)) (body_length p ∙ sym sound_part.1)

    pub scan_room : symbols + w ≤ length t
    scan_room = omega (arith, i.symbols_left, next_total, total_within t)

    pub scan_on : (names' : List ℕ) (heads' : List Signature) → names' ≡ set names n (name_number (as_line p)) → heads' ≡ set heads n (line_signature (as_line p)) → Scanning t names₀ names' heads₀ heads' next (n + 1) (symbols + w)
    unfolding judge_each judge_line
    scan_on names' heads' a b =
        record {
          place = omega (arith, i.place, ap lengths e, ap length e);
          shape = sym (rw (e, scan_right)) ∙ i.shape;
          lines_left = omega (arith, i.lines_left, ap length e);
          symbols_left = omega (arith, i.symbols_left, next_total);
          names_length = ap length a ∙ length-set names n _ ∙ i.names_length;
          heads_length = ap length b ∙ length-set heads n _ ∙ i.heads_length;
          names_left = sets_on names names' n _ _ _ a (ap (λ (ps : List Field). map name_number (map as_line ps)) e) ∙ i.names_left;
          heads_left = sets_on heads heads' n _ _ _ b (ap (λ (ps : List Field). map line_signature (map as_line ps)) e) ∙ i.heads_left;
        }
