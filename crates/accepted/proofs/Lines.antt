-- What the lines of a text are like that passes the tests of shape and of counts. Assumes nothing.
use Rattle.std.specs.Prelude.{if◌then◌else◌}
use mathlib.Core.Path.{◌≡◌, refl}
use mathlib.Core.Bool.{Bool, true, false, ◌&&◌}
use mathlib.Core.List.{List, [], ◌∷◌, map}
use Prim.Native.Nat.{ℕ, zero, suc, ◌+◌, ◌≤◌}
use native.Mathlib.Omega.{arith}
use lib.Dec.{leb, eqb}
use lib.ListN.{length, length-map}
use borrow.Author.Tests.{leb-true}
use Rattle.meaning.specs.Basics.{all}
use Rattle.meaning.specs.Numbers.{most_functions, most_symbols, most_arguments}
use Rattle.meaning.specs.Text.{fine, refused, Passed, Field, Line, tab, line_end, pieces, onto_first, is_name, is_count, are_sorts, is_sort, forms, first_wrong, wrong_field, judge_line, judge_lines, judge_shape, value, sort_of, line_of, all_but_last, lines, judge_symbols, judge_counts}
use Rattle.accepted.specs.Accepted.{Every}
use Rattle.accepted.proofs.Reading.{clash}

-- A line that passes: 1 to 8 arguments, the strict ones among them.
pub record Lined (h : Line) : Type 0 where
  pub some_argument : 1 ≤ length h.sorts
  pub few_arguments : length h.sorts ≤ most_arguments
  pub few_strict : h.strict ≤ length h.sorts

pub both : (a b : Bool) → (a && b) ≡ true → (a ≡ true) × (b ≡ true)
both true b e = (refl, e)
both false b e = clash (cc)

sorts_lined : (strict : ℕ) (f : Field) → are_sorts strict f ≡ true → (1 ≤ length f) × (length f ≤ most_arguments) × (strict ≤ length f)
unfolding are_sorts
sorts_lined strict f e =
    let p = both (leb 1 (length f) && leb (length f) most_arguments) (leb strict (length f) && all is_sort f) e in
    let q = both (leb 1 (length f)) (leb (length f) most_arguments) p.0 in
    let r = both (leb strict (length f)) (all is_sort f) p.1 in
    (leb-true 1 (length f) q.0, leb-true (length f) most_arguments q.1, leb-true strict (length f) r.0)

line_lined : (fs : List Field) → wrong_field fs ≡ 0 → Lined (line_of fs)
unfolding wrong_field forms first_wrong line_of
line_lined [] e = absurd (omega (arith, e))
line_lined (f ∷ []) e = absurd (named (is_name f) e)
  where
    named : (b : Bool) → ◌≡◌ {A = ℕ} (if b then 2 else 1) 0 → ⊥
    named true e = omega (arith, e)
    named false e = omega (arith, e)
line_lined (f ∷ g ∷ []) e = absurd (named (is_name f) (is_count g) e)
  where
    named : (b c : Bool) → ◌≡◌ {A = ℕ} (if b then (if c then 3 else 2) else 1) 0 → ⊥
    named true true e = omega (arith, e)
    named true false e = omega (arith, e)
    named false c e = omega (arith, e)
line_lined (f ∷ g ∷ s ∷ fs) e =
    let p = sorts_lined (value g) s (sorted (is_name f) (is_count g) (are_sorts (value g) s) _ e) in
    record { some_argument = rw (length-map s sort_of) p.0; few_arguments = rw (length-map s sort_of) p.1; few_strict = rw (length-map s sort_of) p.2 }
  where
    sorted : (b c d : Bool) (x : ℕ) → (if b then (if c then (if d then x else 3) else 2) else 1) ≡ 0 → d ≡ true
    sorted true true true x e = refl
    sorted true true false x e = absurd (omega (arith, e))
    sorted true false d x e = absurd (omega (arith, e))
    sorted false c d x e = absurd (omega (arith, e))

abbrev line_in : Field → Line
line_in p = line_of (pieces tab p)

pub judged : (l n : ℕ) (others : Passed) → judge_line l n others ≡ fine tt → (n ≡ 0) × (others ≡ fine tt)
unfolding judge_line
judged l zero others e = (refl, e)
judged l (suc n) others e = clash (cc)

lines_lined : (l : ℕ) (ps : List Field) → judge_lines l ps ≡ fine tt → Every Lined (map line_in (all_but_last ps))
unfolding judge_lines all_but_last Every
lines_lined l [] e = tt
lines_lined l ([] ∷ []) e = tt
lines_lined l ((x ∷ xs) ∷ []) e = tt
lines_lined l (p ∷ q ∷ ps) e =
    let r = judged l (wrong_field (pieces tab p)) (judge_lines (l + 1) (q ∷ ps)) e in
    (line_lined (pieces tab p) r.0, lines_lined (l + 1) (q ∷ ps) r.1)

-- There is a line.
some_line : (l : ℕ) (ps : List Field) → judge_lines l ps ≡ fine tt → (ps ≡ [] → ⊥) → (ps ≡ [] ∷ [] → ⊥) → 1 ≤ length (map line_in (all_but_last ps))
unfolding judge_lines all_but_last
some_line l [] e n m = absurd (n refl)
some_line l ([] ∷ []) e n m = absurd (m refl)
some_line l ((x ∷ xs) ∷ []) e n m = clash (cc)
some_line l (p ∷ q ∷ ps) e n m = omega arith

onto_some : (x : ℕ) (ps : List Field) → onto_first x ps ≡ [] → ⊥
unfolding onto_first
onto_some x [] e = clash (cc)
onto_some x (p ∷ ps) e = clash (cc)

onto_full : (x : ℕ) (ps : List Field) → onto_first x ps ≡ [] ∷ [] → ⊥
unfolding onto_first
onto_full x [] e = clash (cc)
onto_full x (p ∷ ps) e = clash (cc)

some_piece : (b : ℕ) (xs : List ℕ) → pieces b xs ≡ [] → ⊥
unfolding pieces
some_piece b [] e = clash (cc)
some_piece b (x ∷ xs) e = by (eqb x b) e
  where
    by : (c : Bool) → (if c then [] ∷ pieces b xs else onto_first x (pieces b xs)) ≡ [] → ⊥
    by true e = clash (cc)
    by false e = onto_some x (pieces b xs) e

more_pieces : (b x : ℕ) (xs : List ℕ) → pieces b (x ∷ xs) ≡ [] ∷ [] → ⊥
unfolding pieces
more_pieces b x xs e = by (eqb x b) e
  where
    tail_same : {A : Type 0} {a c : A} {xs ys : List A} → a ∷ xs ≡ c ∷ ys → xs ≡ ys
    tail_same e = cc

    by : (c : Bool) → (if c then [] ∷ pieces b xs else onto_first x (pieces b xs)) ≡ [] ∷ [] → ⊥
    by true e = some_piece b xs (tail_same e)
    by false e = onto_full x (pieces b xs) e

-- The lines of a text that passes the test of shape.
pub record Lines (H : List Line) : Type 0 where
  pub some_line : 1 ≤ length H
  pub each : Every Lined H

pub shape_lines : (text : List ℕ) → judge_shape text ≡ fine tt → Lines (lines text)
unfolding judge_shape lines
shape_lines [] e = clash (cc)
shape_lines (x ∷ xs) e =
    let ps = pieces line_end (x ∷ xs) in
    record { some_line = some_line 1 ps e (some_piece line_end (x ∷ xs)) (more_pieces line_end x xs); each = lines_lined 1 ps e }

-- Counts.
unfoldable pub symbols : List Line → ℕ
symbols [] = 0
symbols (h ∷ hs) = length h.body + symbols hs

fine_if : (b : Bool) (x : Passed) (n : Rattle.meaning.specs.Numbers.Number) (l k : ℕ) → (if b then x else refused n l k) ≡ fine tt → (b ≡ true) × (x ≡ fine tt)
fine_if true x n l k e = (refl, e)
fine_if false x n l k e = clash (cc)

symbols_few : (l seen : ℕ) (hs : List Line) → seen ≤ most_symbols → judge_symbols l seen hs ≡ fine tt → seen + symbols hs ≤ most_symbols
unfolding judge_symbols symbols
symbols_few l seen [] h e = omega (arith, h)
symbols_few l seen (g ∷ hs) h e =
    let n = seen + length g.body in
    let p = fine_if (leb n most_symbols) (judge_symbols (l + 1) n hs) _ _ _ e in
    omega (arith, symbols_few (l + 1) n hs (leb-true n most_symbols p.0) p.1)

pub counts_few : (hs : List Line) → judge_counts hs ≡ fine tt → (length hs ≤ most_functions) × (symbols hs ≤ most_symbols)
unfolding judge_counts
counts_few hs e =
    let p = fine_if (leb (length hs) most_functions) (judge_symbols 1 0 hs) _ _ _ e in
    (leb-true (length hs) most_functions p.0, omega (arith, symbols_few 1 0 hs (omega arith) p.1))
