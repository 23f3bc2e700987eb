-- Laws of Check's core: the order of refusals, arrays that fit, and the table of an accepted text. Assumes nothing.
use Rattle.std.specs.Prelude.{Result, Ok, Err}
use Rattle.std.proofs.Common.{◌≡◌, ℕ, ◌+◌, ◌*◌, ◌<◌, ◌≤◌, List, [], ◌∷◌, ◌++◌, map, length, get_or, take, drop, refl, ap, sym, ◌∙◌, subst, arith}
use Rattle.std.specs.List.{range_with_len}
use Rattle.std.proofs.lemmas.List.{map-append, length-map}
use Rattle.std.proofs.lemmas.List.FromFn.{length-range_with_len}
use Rattle.std.proofs.lemmas.Bool.{lt-leb, le-leb}
use Rattle.meaning.specs.Numbers.{LONG, most_bytes, most_functions}
use Rattle.meaning.specs.Text.{Field, Line, Verdict, pieces, line_of, value, sort_of, is_among, fine, refused, Passed, ◌>>◌, judge_length, judge_shape, judge_counts, judge_names, lines}
use Rattle.meaning.specs.Terms.{Function, Program, read_bodies}
use Rattle.meaning.specs.Code.{size, initial, translation, bodies_size, ret_address}
use Rattle.meaning.specs.Check.{check}
use Rattle.meaning.specs.Said.{refusal, found, accepted}
use Rattle.meaning.specs.declared.Refusal.{Refusal}
use Rattle.meaning.proofs.Said.{found_fine, found_refused}
use Rattle.table.specs.Table.{bodies_symbols, bodies_ends, table_symbols, table_ends, signatures, addresses, addresses_from, Begins, Holds}
use Rattle.table.specs.declared.Sort.TheVariants.{Number}
use Rattle.table.specs.declared.Signature.{Signature}
use Rattle.table.specs.declared.Symbol.{Symbol}
use Rattle.table.specs.declared.Symbol.TheVariants.{Argument, Function as Call}
use Rattle.accepted.specs.Accepted.{Accepted, Every}
use Rattle.accepted.proofs.Accepted as theorem
use Rattle.accepted.proofs.Initial.{initial_size}
use Rattle.accepted.proofs.Length.{translation_length}
use Rattle.accepted.proofs.Lines.{Lined, symbols, shape_lines, counts_few}
use Rattle.lines.specs.Splice.{splice}
use Rattle.lines.specs.Lines.{shown, is_held, judge_packed, Right, raw_lines, total, line_signature, name_number, counts_of, Scan}
use Rattle.lines.proofs.Splice.{splice_more, take_splice}
use Rattle.lines.proofs.Laws.{as_line, lines_raw, right_forms, few_sorts, right_shape, shaped_within}
use Rattle.fields.specs.Fields.{packed}
use Rattle.fields.proofs.Laws.{packed_same}
use Rattle.symbols.proofs.Names.{Names, Name}
use Rattle.bodies.specs.Bodies.{Finishes}
use Rattle.bodies.proofs.Laws.{names, named_lines, names_packed}
use Rattle.lines.specs.declared.Counted.{Counted}
use Rattle.reading.specs.Reading.{Counted as Sized, initial_room, Fit}
use Rattle.reading.proofs.Programs.{Of, of_bodies, sizes_of, of_length, of_signatures, initial_symbols, initial_ends}

-- The order of refusals.

stopped : {B : Type 0} (g : Unit {0} → B) (p : Passed) (next : Verdict Program) (e : Refusal) → Err e ≡ found g p → Err e ≡ found accepted (p >> next)
unfolding found ◌>>◌
stopped g (fine t) next e x = absurd (cc x)
stopped g (refused n l k) next e x = cc

on : (p : Passed) (next : Verdict Program) → p ≡ fine tt → p >> next ≡ next
unfolding ◌>>◌
on p next e = rw e

module _ (t : List ℕ) where
  pub too_long : most_bytes < length t → Err (refusal LONG 0 0) ≡ found accepted (check t)
  unfolding check judge_length ◌>>◌ found
  too_long h = rw (lt-leb (length t) 16384 h)

  pub not_long : length t ≤ most_bytes → check t ≡ (judge_shape t >> (judge_counts (lines t) >> (judge_names 1 [] (map (λ h. h.name) (lines t)) >> read_bodies (lines t) 1 (lines t))))
  unfolding check judge_length ◌>>◌
  not_long h = rw (le-leb (length t) 16384 h)

  module _ (short : length t ≤ most_bytes) {B : Type 0} (g : Unit {0} → B) (e : Refusal) where
    pub misshapen : Err e ≡ found g (judge_shape t) → Err e ≡ found accepted (check t)
    misshapen x = rw (not_long short) (stopped g (judge_shape t) _ e x)

    pub miscounted : judge_shape t ≡ fine tt → Err e ≡ found g (judge_counts (lines t)) → Err e ≡ found accepted (check t)
    miscounted s x = rw (not_long short, on (judge_shape t) _ s) (stopped g (judge_counts (lines t)) _ e x)

    pub misnamed : judge_shape t ≡ fine tt → judge_counts (lines t) ≡ fine tt → Err e ≡ found g (judge_names 1 [] (map (λ h. h.name) (lines t))) → Err e ≡ found accepted (check t)
    misnamed s c x = rw (not_long short, on (judge_shape t) _ s, on (judge_counts (lines t)) _ c) (stopped g _ _ e x)

  all_pass : length t ≤ most_bytes → judge_shape t ≡ fine tt → judge_counts (lines t) ≡ fine tt → judge_names 1 [] (map (λ h. h.name) (lines t)) ≡ fine tt → check t ≡ read_bodies (lines t) 1 (lines t)
  all_pass h s c n = not_long h ∙ on (judge_shape t) _ s ∙ on (judge_counts (lines t)) _ c ∙ on _ _ n

-- A text that is refused has no program.
pub no_program : {A : Type 0} (v : Verdict Program) (e : Refusal) (P : Program) → Err e ≡ found accepted v → v ≡ fine P → A
no_program v e P x y = let z = found_refused accepted v e (sym x) in absurd (cc (z.1, y))

-- What has passed.

symbols_total : (hs : List Line) → symbols hs ≡ total hs
unfolding symbols total
symbols_total [] = refl
symbols_total (h ∷ hs) = ap (λ (n : ℕ). length h.body + n) (symbols_total hs)

-- How many arguments the first of some functions has.
abbrev pub first_count : List Signature → ℕ
first_count H = (get_or H 0 (record { sorts = record { count = 0; mask = 0 }; strict = 0; result = Number })).sorts.count

few_of : (ps : List Field) → Right ps → 0 < length (map as_line ps) → first_count (map line_signature (map as_line ps)) ≤ 8
unfolding Right line_signature line_of
few_of [] r o = absurd (omega (arith, o))
few_of (p ∷ ps) r o =
    let F = right_forms (pieces 9 p) r.0 in
    rw (length-map (get_or (pieces 9 p) 2 []) sort_of) (few_sorts (value (get_or (pieces 9 p) 1 [])) (get_or (pieces 9 p) 2 []) F.sorts_form)

pub first_few : (t : List ℕ) (S : List Signature) → Right (raw_lines t) → 0 < length (lines t) → S ≡ map line_signature (lines t) → first_count S ≤ 8
first_few t S r o s = rw (s, lines_raw t) (few_of (raw_lines t) r (rw (← lines_raw t) o))

few_first : (L : List Line) → 1 ≤ length L → Every Lined L → first_count (map line_signature L) ≤ 8
unfolding line_signature Every
few_first [] o l = absurd (omega (arith, o))
few_first (h ∷ L) o l = l.0.few_arguments

-- NAME by packed names is NAME.

held_is : (f : Field) (E : List Field) → Name f → Names E → is_held (packed f) (map packed E) ≡ is_among f E
unfolding is_held is_among Names
held_is f [] p q = refl
held_is f (n ∷ E) p q = rw (← packed_same f n p.made_of q.0.made_of, held_is f E p q.1)

names_more : (E : List Field) (n : Field) → Names E → Name n → Names (E ++ (n ∷ []))
unfolding Names
names_more [] n p q = (q, tt)
names_more (m ∷ E) n p q = (p.0, names_more E n p.1 q)

packed_is : (l : ℕ) (E N : List Field) → Names E → Names N → judge_packed l (map packed E) (map packed N) ≡ judge_names l E N
unfolding judge_packed judge_names Names
packed_is l E [] p q = refl
packed_is l E (n ∷ N) p q =
    rw (held_is n E q.0 p, ← map-append packed E (n ∷ []), packed_is (l + 1) (E ++ (n ∷ [])) N (names_more E n p q.0) q.1)

named : (t : List ℕ) → Right (raw_lines t) → Names (names (lines t))
named t r = subst (λ (H : List Line). Names (names H)) (sym (lines_raw t)) (named_lines (raw_lines t) r)

pub names_are : (t M : List ℕ) → Right (raw_lines t) → M ≡ map name_number (lines t) → judge_packed 1 [] M ≡ judge_names 1 [] (map (λ h. h.name) (lines t))
unfolding Names
names_are t M r e =
    ap (judge_packed 1 []) (e ∙ names_packed (lines t)) ∙ packed_is 1 [] (map (λ h. h.name) (lines t)) tt (named t r)

-- A text whose shape and counts pass, and arrays that begin with the names and signatures of its lines where they are long enough.
module _ {t N N1 : List ℕ} {H H1 : List Signature} {c : Counted} (r : Scan t N N1 H H1 (Ok c)) where
  pub shaped : judge_shape t ≡ fine tt
  shaped = (found_fine _ _ c (sym r.shape_judged)).1

  pub counted : c ≡ counts_of t
  counted = (found_fine _ _ c (sym r.shape_judged)).2

  pub reach : c.functions ≡ length (lines t)
  reach = ap (λ (d : Counted). d.functions) counted

  module _ (k : Ok tt ≡ shown (judge_counts (lines t))) where
    pub counts_pass : judge_counts (lines t) ≡ fine tt
    counts_pass = (found_fine _ _ tt (sym k)).1

    pub few : Sized t
    few = let n = counts_few (lines t) counts_pass in (shaped, n.0, omega (arith, n.1, symbols_total (lines t)))

    module _ {b : List ℕ} {w : List Symbol} {e : List ℕ} (f : Fit t N H b w e) where
      pub names_reach : c.functions ≤ length N
      names_reach = omega (arith, reach, f.names_fit few)

      pub heads_reach : c.functions ≤ length H
      heads_reach = omega (arith, reach, f.heads_fit few)

      pub names_part : take c.functions N1 ≡ map name_number (lines t)
      names_part =
          rw reach
          (ap (take (length (lines t))) (r.names_filled shaped (f.names_fit few)) ∙ take_splice N (length (lines t)) (map name_number (lines t)) (length-map (lines t) name_number))

      pub names_few : length (take c.functions N1) ≤ most_functions
      names_few = omega (arith, few.1, ap length names_part, length-map (lines t) name_number)

      pub heads_all : H1 ≡ splice H 0 (map line_signature (lines t))
      heads_all = r.heads_filled shaped (f.heads_fit few)

      pub heads_part : take c.functions H1 ≡ map line_signature (lines t)
      heads_part =
          rw reach
          (ap (take (length (lines t))) heads_all ∙ take_splice H (length (lines t)) (map line_signature (lines t)) (length-map (lines t) line_signature))

      pub some_head : 0 < length (take c.functions H1)
      some_head = omega (arith, (shape_lines t shaped).some_line, ap length heads_part, length-map (lines t) line_signature)

      pub entry : first_count (take c.functions H1) ≡ first_count (map line_signature (lines t))
      entry = ap first_count heads_part

      pub entry_few : first_count (take c.functions H1) ≤ 8
      entry_few = let k = shape_lines t shaped in omega (arith, entry, few_first (lines t) k.some_line k.each)

      pub passes : length t ≤ most_bytes → Ok tt ≡ shown (judge_packed 1 [] (take c.functions N1)) → check t ≡ read_bodies (lines t) 1 (lines t)
      passes h x = all_pass t h shaped counts_pass (sym (names_are t _ (right_shape t shaped) names_part) ∙ (found_fine _ _ tt (sym x)).1)

      pub names_repeat : {e : Refusal} → Err e ≡ shown (judge_packed 1 [] (take c.functions N1)) → Err e ≡ shown (judge_names 1 [] (map (λ h. h.name) (lines t)))
      names_repeat x = x ∙ ap shown (names_are t _ (right_shape t shaped) names_part)

-- Arrays that fit a text of at most 2 n bytes: where its shape passes, a line takes eight bytes and a symbol two more.
module _ (t N : List ℕ) (H : List Signature) (b : List ℕ) (w : List Symbol) (e : List ℕ) where
  bytes : Sized t → 8 * length (lines t) + 2 * total (lines t) ≤ length t
  bytes k = shaped_within t (right_shape t k.0)

  pub fits_half : (n : ℕ) → length t ≤ 2 * n → n ≤ 4 * length N → n ≤ 4 * length H → n ≤ 4 * length b → n + initial_room ≤ length w → n + initial_room ≤ length e → Fit t N H b w e
  fits_half n m p q r x z =
      record {
        names_fit = λ k. omega (arith, bytes k, m, p);
        heads_fit = λ k. omega (arith, bytes k, m, q);
        room = λ k. record { bodies_fit = omega (arith, bytes k, m, r); symbols_fit = omega (arith, bytes k, m, x); ends_fit = omega (arith, bytes k, m, z) };
      }

-- Arrays as long as those that fit.
module _ (t N N1 : List ℕ) (H H1 : List Signature) (x : length N1 ≡ length N) (y : length H1 ≡ length H) where
  pub still_fit : (b : List ℕ) (w : List Symbol) (e : List ℕ) → Fit t N H b w e → Fit t N1 H1 b w e
  still_fit b w e f = record { names_fit = λ k. omega (arith, f.names_fit k, x); heads_fit = λ k. omega (arith, f.heads_fit k, y); room = f.room }

-- The table of an accepted text.

begun : {A : Type 0} (c c1 c2 xs ys : List A) (n : ℕ) → n ≡ length xs → c1 ≡ splice c 0 xs → c2 ≡ splice c1 n ys → Begins c2 (xs ++ ys)
begun c c1 c2 xs ys n l p q =
    let e : 0 + n ≡ n = omega arith in
    record { rest = drop (length (xs ++ ys)) c; whole = q ∙ rw p (ap (λ (k : ℕ). splice (splice c 0 xs) k ys) (sym e) ∙ splice_more c 0 n xs ys (sym l) (omega arith)) }

-- A slice that was written from its beginning.
written : {A : Type 0} (c c1 xs : List A) → c1 ≡ splice c 0 xs → Begins c1 xs
written c c1 xs e = record { rest = drop (length xs) c; whole = e }

module _ (w w1 w2 : List Symbol) (e e1 e2 b b1 : List ℕ) (H H1 : List Signature) (n first : ℕ) (f : first ≡ n + 1) (x : w1 ≡ splice w 0 (Call 0 ∷ map Argument (range_with_len 0 n))) (z : e1 ≡ splice e 0 ((n + 1) ∷ range_with_len 2 n)) where
  tabled : (F : Function) (P : Program) → length F.sorts ≡ n → F.strict ≤ length F.sorts → H1 ≡ splice H 0 (signatures (F ∷ P)) → b1 ≡ splice b 0 (addresses_from first (F ∷ P)) →
      w2 ≡ splice w1 first (bodies_symbols (F ∷ P)) → e2 ≡ splice e1 first (bodies_ends (F ∷ P) first) → Holds (F ∷ P) w2 e2 H1 b1
  unfolding table_symbols table_ends addresses
  tabled F P l k s p q u =
      let d : size (initial (F ∷ P)) ≡ first = omega (arith, initial_size F P k, l, f) in
      let g : F.strict ≤ n = omega (arith, k, l) in
      record {
        symbols_held = rw (initial_symbols F P n l g) (begun w w1 w2 (Call 0 ∷ map Argument (range_with_len 0 n)) (bodies_symbols (F ∷ P)) first (omega (arith, f, length-map (range_with_len 0 n) Argument, length-range_with_len 0 n)) x q);
        ends_held = rw (initial_ends F P n l g, d) (begun e e1 e2 ((n + 1) ∷ range_with_len 2 n) (bodies_ends (F ∷ P) first) first (omega (arith, f, length-range_with_len 2 n)) z u);
        heads_held = written H H1 (signatures (F ∷ P)) s;
        bodies_held = written b b1 _ (rw d p);
      }

  held : (L : List Line) (P : Program) → Accepted P → Of P L → n ≡ first_count (map line_signature L) → H1 ≡ splice H 0 (map line_signature L) → b1 ≡ splice b 0 (addresses_from first P) →
      w2 ≡ splice w1 first (bodies_symbols P) → e2 ≡ splice e1 first (bodies_ends P first) → (Holds P w2 e2 H1 b1) × (size (initial P) ≡ first)
  unfolding Of Every line_signature
  held L [] a k m s p q u = absurd (omega (arith, a.some_function))
  held [] (F ∷ P) a k m s p q u = absurd k
  held (h ∷ L) (F ∷ P) a k m s p q u =
      let o = a.sound.0 in
      let c : length F.sorts ≡ n = ap length k.0 ∙ sym m in
      (tabled F P c o.few_strict (s ∙ ap (splice H 0) (sym (of_signatures (F ∷ P) (h ∷ L) k))) p q u, omega (arith, initial_size F P o.few_strict, c, f))

  -- The verdict on the bodies, and what reading them came to.
  module _ (t : List ℕ) (functions : ℕ) (l : functions ≡ length (lines t)) (m : n ≡ first_count (map line_signature (lines t))) (s : H1 ≡ splice H 0 (map line_signature (lines t))) (pass : check t ≡ read_bodies (lines t) 1 (lines t)) (end : ℕ) where
    done_by : (V : Verdict Program) → check t ≡ V → Finishes 0 first b b1 w1 w2 e1 e2 V (Ok end) →
        (Ok (record { functions = functions; instructions = end + 1 }) ≡ found accepted V) × ((P : Program) → V ≡ fine P → Holds P w2 e2 H1 b1)
    unfolding Finishes found ret_address
    done_by (refused i l k) q o = absurd (cc o)
    done_by (fine P) q o =
        let a = theorem.accepted t P q in
        let k = of_bodies (lines t) 1 (lines t) P (sym pass ∙ q) in
        let h = held (lines t) P a k m s o.1 o.2 o.3 in
        let c : functions ≡ length P = l ∙ sym (of_length P (lines t) k) in
        let d : end ≡ first + bodies_size P = cc in
        let i : end + 1 ≡ length (translation P) = omega (arith, translation_length P, h.1, d) in
        (rw (c, i), λ Q j. let same : P ≡ Q = cc in subst (λ (R : Program). Holds R w2 e2 H1 b1) same h.0)

    pub done : Finishes 0 first b b1 w1 w2 e1 e2 (read_bodies (lines t) 1 (lines t)) (Ok end) →
        (Ok (record { functions = functions; instructions = end + 1 }) ≡ found accepted (check t)) × ((P : Program) → check t ≡ fine P → Holds P w2 e2 H1 b1)
    done o = done_by (check t) refl (subst (λ (V : Verdict Program). Finishes 0 first b b1 w1 w2 e1 e2 V (Ok end)) (sym pass) o)

-- The address after the last body.
pub end_few : (t : List ℕ) (l first end : ℕ) (b b1 : List ℕ) (w w1 : List Symbol) (e e1 : List ℕ) (V : Verdict Program) → check t ≡ V → first ≤ 9 → Finishes l first b b1 w w1 e e1 V (Ok end) → end ≤ 1033
unfolding Finishes
end_few t l first end b b1 w w1 e e1 (refused n i k) q h o = absurd (cc o)
end_few t l first end b b1 w w1 e e1 (fine P) q h o =
    let d : end ≡ first + bodies_size P = cc in omega (arith, h, d, (theorem.accepted t P q).few_symbols)

end_by : (L : List Line) (first end : ℕ) (b b1 : List ℕ) (w w1 : List Symbol) (e e1 : List ℕ) (V : Verdict Program) → read_bodies L 1 L ≡ V → Finishes 0 first b b1 w w1 e e1 V (Ok end) → end ≡ first + total L
unfolding Finishes
end_by L first end b b1 w w1 e e1 (fine P) q o = let d : end ≡ first + bodies_size P = cc in d ∙ ap (λ (n : ℕ). first + n) (sizes_of L 1 L P q)
end_by L first end b b1 w w1 e e1 (refused n l k) q o = absurd (cc o)

pub end_is : (L : List Line) (first end : ℕ) (b b1 : List ℕ) (w w1 : List Symbol) (e e1 : List ℕ) (g : Result ℕ Refusal) → Finishes 0 first b b1 w w1 e e1 (read_bodies L 1 L) g → g ≡ Ok end → end ≡ first + total L
end_is L first end b b1 w w1 e e1 g o d =
    end_by L first end b b1 w w1 e e1 (read_bodies L 1 L) refl (subst (λ (r : Result ℕ Refusal). Finishes 0 first b b1 w w1 e e1 (read_bodies L 1 L) r) d o)

-- A body is refused.
pub unread : (l from : ℕ) (b b1 : List ℕ) (w w1 : List Symbol) (e e1 : List ℕ) (V : Verdict Program) (x : Refusal) → Finishes l from b b1 w w1 e e1 V (Err x) → Err x ≡ found accepted V
unfolding Finishes found
unread l from b b1 w w1 e e1 (fine P) x o = absurd (cc o.0)
unread l from b b1 w w1 e e1 (refused n i k) x o = cc
