-- A text is refused, if at all, with one of the numbers 1 to 8 or 13 to 15. Assumes nothing.
use Rattle.std.specs.Prelude.{if◌then◌else◌}
use mathlib.Core.Bool.{Bool, true, false}
use mathlib.Core.Logic.{◌⊎◌, inl, inr}
use mathlib.Core.List.{List, [], ◌∷◌, map}
use Prim.Native.Nat.{ℕ, zero, suc, ◌+◌, ◌≤◌}
use native.Mathlib.Omega.{arith}
use lib.Dec.{leb}
use lib.ListN.{length}
use Rattle.meaning.specs.Numbers.{no, LONG, COUNT, NAME, most_bytes, most_functions, most_symbols}
use Rattle.meaning.specs.Text.{Verdict, fine, refused, ◌>>=◌, ◌>>◌, Passed, Field, Line, pieces, tab, line_end, wrong_field, judge_line, judge_lines, judge_shape, judge_length, judge_symbols, judge_counts, judge_names, is_among, lines}
use Rattle.meaning.specs.Terms.{Term, wrong_number, Read, got, fault, read_body, function_of, read_bodies}
use Rattle.meaning.specs.Check.{check}
use Rattle.meaning.specs.declared.Wrong.{Wrong}
use Rattle.meaning.specs.declared.Wrong.TheVariants.{UnknownSymbol, LackingArgument, OtherSort, EarlyEnd, LeftOver, TooDeep}

-- The numbers of refusals.
unfoldable pub Refuses : ℕ → Type 0
Refuses n = ((1 ≤ n) × (n ≤ 8)) ⊎ ((13 ≤ n) × (n ≤ 15))

-- Refused, if at all, with one of them.
unfoldable pub Proper : {A : Type 0} → Verdict A → Type 0
Proper (fine a) = Unit {0}
Proper (refused n l f) = Refuses (no n)

pub bind_proper : {A B : Type 0} (m : Verdict A) (f : A → Verdict B) → Proper m → ((a : A) → Proper (f a)) → Proper (m >>= f)
unfolding Proper ◌>>=◌
bind_proper (fine a) f h k = k a
bind_proper (refused n l i) f h k = h

pub then_proper : {A B : Type 0} (m : Verdict A) (x : Verdict B) → Proper m → Proper x → Proper (m >> x)
unfolding Proper ◌>>◌
then_proper (fine a) x h k = k
then_proper (refused n l i) x h k = h

test_proper : {A : Type 0} (b : Bool) (x y : Verdict A) → Proper x → Proper y → Proper (if b then x else y)
test_proper true x y h k = h
test_proper false x y h k = k

length_proper : (text : List ℕ) → Proper (judge_length text)
unfolding judge_length Proper no Refuses
length_proper text = test_proper (leb (length text) most_bytes) (fine tt) (refused LONG 0 0) tt (inl (omega arith))

line_proper : (l n : ℕ) (others : Passed) → Proper others → Proper (judge_line l n others)
unfolding judge_line Proper no Refuses
line_proper l zero others h = h
line_proper l (suc n) others h = inl (omega arith)

lines_proper : (l : ℕ) (ps : List Field) → Proper (judge_lines l ps)
unfolding judge_lines Proper no Refuses
lines_proper l [] = tt
lines_proper l ([] ∷ []) = tt
lines_proper l ((x ∷ xs) ∷ []) = inl (omega arith)
lines_proper l (p ∷ q ∷ ps) = line_proper l (wrong_field (pieces tab p)) (judge_lines (l + 1) (q ∷ ps)) (lines_proper (l + 1) (q ∷ ps))

shape_proper : (text : List ℕ) → Proper (judge_shape text)
unfolding judge_shape Proper no Refuses
shape_proper [] = inl (omega arith)
shape_proper (x ∷ xs) = lines_proper 1 (pieces line_end (x ∷ xs))

symbols_proper : (l seen : ℕ) (hs : List Line) → Proper (judge_symbols l seen hs)
unfolding judge_symbols Proper no Refuses
symbols_proper l seen [] = tt
symbols_proper l seen (h ∷ hs) =
    test_proper (leb (seen + length h.body) most_symbols) (judge_symbols (l + 1) (seen + length h.body) hs) _ (symbols_proper (l + 1) (seen + length h.body) hs) (inl (omega arith))

counts_proper : (hs : List Line) → Proper (judge_counts hs)
unfolding judge_counts Proper no Refuses
counts_proper hs =
    test_proper (leb (length hs) most_functions) (judge_symbols 1 0 hs) (refused COUNT (most_functions + 1) 0) (symbols_proper 1 0 hs) (inl (omega arith))

names_proper : (l : ℕ) (earlier ns : List Field) → Proper (judge_names l earlier ns)
unfolding judge_names Proper no Refuses
names_proper l earlier [] = tt
names_proper l earlier (n ∷ ns) = test_proper (is_among n earlier) (refused NAME l 1) _ (inl (omega arith)) (names_proper (l + 1) _ ns)

wrong_proper : (w : Wrong) → Refuses (no (wrong_number w))
unfolding wrong_number no Refuses
wrong_proper UnknownSymbol = inr (omega arith)
wrong_proper LackingArgument = inr (omega arith)
wrong_proper OtherSort = inr (omega arith)
wrong_proper EarlyEnd = inr (omega arith)
wrong_proper LeftOver = inl (omega arith)
wrong_proper TooDeep = inl (omega arith)

function_proper : (l : ℕ) (h : Line) (x : Read Term) → Proper (function_of l h x)
unfolding function_of Proper
function_proper l h (got t ys) = tt
function_proper l h (fault w ys) = wrong_proper w

bodies_proper : (H : List Line) (l : ℕ) (hs : List Line) → Proper (read_bodies H l hs)
unfolding read_bodies Proper
bodies_proper H l [] = tt
bodies_proper H l (h ∷ hs) =
    bind_proper (function_of l h (read_body H h)) _ (function_proper l h (read_body H h))
    (λ F. bind_proper (read_bodies H (l + 1) hs) (λ P. fine (F ∷ P)) (bodies_proper H (l + 1) hs) (λ P. tt))

pub check_proper : (text : List ℕ) → Proper (check text)
unfolding check
check_proper text =
    let H = lines text in
    then_proper (judge_length text) _ (length_proper text)
    (then_proper (judge_shape text) _ (shape_proper text)
    (then_proper (judge_counts H) _ (counts_proper H) (then_proper (judge_names 1 [] (map (λ h. h.name) H)) _ (names_proper 1 [] (map (λ h. h.name) H)) (bodies_proper H 1 H))))
