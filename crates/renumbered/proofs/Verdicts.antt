-- Verdicts by two tables agree but for the number: through tests, bodies and texts to the answers. Assumes nothing.
use mathlib.Core.Path.{◌≡◌, refl, ap, subst}
use mathlib.Core.Logic.{◌⊎◌, inl, inr}
use mathlib.Core.List.{List, [], ◌∷◌, map}
use Prim.Native.Nat.{ℕ, ◌+◌}
use native.Mathlib.Omega.{arith}
use Rattle.meaning.specs.Numbers.{Number, no}
use Rattle.meaning.specs.Text.{Verdict, fine, refused, ◌>>=◌, ◌>>◌, Line, lines, judge_length, judge_shape, judge_counts, judge_names}
use Rattle.meaning.specs.Terms.{Term, Program, Read, got, fault, read_body, wrong_number, function_of, read_bodies}
use Rattle.meaning.specs.Check.{check}
use Rattle.meaning.specs.Answers.{checked, with_heads, with_code, answered, cleared}
use Rattle.meaning.specs.declared.Head.{Head}
use Rattle.meaning.specs.declared.Wrong.{Wrong}
use Rattle.meaning.specs.declared.Wrong.TheVariants.{UnknownSymbol, LackingArgument, OtherSort, EarlyEnd, LeftOver, TooDeep}
use Rattle.renumbered.specs.Before.{before, function_by, bodies_by, check_by}
use Rattle.renumbered.specs.Theorems.{Told, CheckedAlike, AnsweredAlike}

-- Two numbers that are one, or 5 before and 13, 14 or 15 now; two verdicts that differ in such numbers alone.
unfoldable pub Renamed : Number → Number → Type 0
Renamed n m = (n ≡ m) ⊎ Told (no n) (no m)

unfoldable pub Alike : {A : Type 0} → Verdict A → Verdict A → Type 0
Alike (fine a) (fine b) = a ≡ b
Alike (fine a) (refused m i j) = ⊥
Alike (refused n l k) (fine b) = ⊥
Alike (refused n l k) (refused m i j) = Renamed n m × (l ≡ i) × (k ≡ j)

pub alike_itself : {A : Type 0} (x : Verdict A) → Alike x x
unfolding Alike Renamed
alike_itself (fine a) = refl
alike_itself (refused n l k) = (inl refl, refl, refl)

pub alike_bind : {A B : Type 0} (x y : Verdict A) (f g : A → Verdict B) → Alike x y → ((a : A) → Alike (f a) (g a)) → Alike (x >>= f) (y >>= g)
unfolding Alike ◌>>=◌
alike_bind (fine a) (fine b) f g e h = subst (λ c. Alike (f a) (g c)) e (h a)
alike_bind (fine a) (refused m i j) f g e h = absurd e
alike_bind (refused n l k) (fine b) f g e h = absurd e
alike_bind (refused n l k) (refused m i j) f g e h = e

alike_then : {A B : Type 0} (x : Verdict A) (y z : Verdict B) → Alike y z → Alike (x >> y) (x >> z)
unfolding Alike Renamed ◌>>◌
alike_then (fine a) y z e = e
alike_then (refused n l k) y z e = (inl refl, refl, refl)

-- Before and now.

renamed : (w : Wrong) → Renamed (before w) (wrong_number w)
unfolding Renamed before wrong_number no
renamed UnknownSymbol = inr (omega arith)
renamed LackingArgument = inr (omega arith)
renamed OtherSort = inr (omega arith)
renamed EarlyEnd = inr (omega arith)
renamed LeftOver = inl refl
renamed TooDeep = inl refl

alike_function : (l : ℕ) (h : Line) (x : Read Term) → Alike (function_by before l h x) (function_of l h x)
unfolding function_by function_of Alike
alike_function l h (got t ys) = refl
alike_function l h (fault w ys) = (renamed w, refl, refl)

alike_bodies : (H : List Line) (l : ℕ) (hs : List Line) → Alike (bodies_by before H l hs) (read_bodies H l hs)
unfolding bodies_by read_bodies Alike
alike_bodies H l [] = refl
alike_bodies H l (h ∷ hs) =
    alike_bind (function_by before l h (read_body H h)) (function_of l h (read_body H h)) _ _ (alike_function l h (read_body H h))
    (λ F. alike_bind (bodies_by before H (l + 1) hs) (read_bodies H (l + 1) hs) _ _ (alike_bodies H (l + 1) hs) (λ P. alike_itself (fine (F ∷ P))))

pub alike_check : (text : List ℕ) → Alike (check_by before text) (check text)
unfolding check_by check
alike_check text =
    alike_then (judge_length text) _ _
    (alike_then (judge_shape text) _ _
    (alike_then (judge_counts (lines text)) _ _
    (alike_then (judge_names 1 [] (map (λ h. h.name) (lines text))) _ _ (alike_bodies (lines text) 1 (lines text)))))

-- By meaning's own table.

same_function : (l : ℕ) (h : Line) (x : Read Term) → function_by wrong_number l h x ≡ function_of l h x
unfolding function_by function_of
same_function l h (got t ys) = refl
same_function l h (fault w ys) = refl

same_bodies : (H : List Line) (l : ℕ) (hs : List Line) → bodies_by wrong_number H l hs ≡ read_bodies H l hs
unfolding bodies_by read_bodies
same_bodies H l [] = refl
same_bodies H l (h ∷ hs) = rw (same_function l h (read_body H h), same_bodies H (l + 1) hs)

pub same_check : (text : List ℕ) → check_by wrong_number text ≡ check text
unfolding check_by check
same_check text = rw (same_bodies (lines text) 1 (lines text))

-- From verdicts to answers.

pub alike_checked : (x y : Verdict Program) → Alike x y → CheckedAlike (checked x) (checked y)
unfolding Alike Renamed checked
alike_checked (fine P) (fine Q) e = inl (ap (λ R. checked (fine R)) e)
alike_checked (fine P) (refused m i j) e = absurd e
alike_checked (refused n l k) (fine Q) e = absurd e
alike_checked (refused n l k) (refused m i j) (inl e, p, q) = inl (rw (e, p, q))
alike_checked (refused n l k) (refused m i j) (inr e, p, q) = inr (e, p, q, refl, refl)

pub alike_answered : (x y : Verdict Program) (args : List ℕ) (limit : ℕ) → Alike x y → AnsweredAlike (answered x args limit) (answered y args limit)
unfolding Alike Renamed answered
alike_answered (fine P) (fine Q) args limit e = inl (ap (λ R. answered (fine R) args limit) e)
alike_answered (fine P) (refused m i j) args limit e = absurd e
alike_answered (refused n l k) (fine Q) args limit e = absurd e
alike_answered (refused n l k) (refused m i j) args limit (inl e, p, q) = inl (rw (e, p, q))
alike_answered (refused n l k) (refused m i j) args limit (inr e, p, q) = inr (e, refl, p, q, refl, refl)

-- From verdicts to memory: the number is not looked at.

module _ {B : Type 0} (write : Verdict Program → B) (nothing : (n m : Number) (l k i j : ℕ) → write (refused n l k) ≡ write (refused m i j)) where
  pub alike_written : (x y : Verdict Program) → Alike x y → write x ≡ write y
  unfolding Alike
  alike_written (fine P) (fine Q) e = ap (λ R. write (fine R)) e
  alike_written (fine P) (refused m i j) e = absurd e
  alike_written (refused n l k) (fine Q) e = absurd e
  alike_written (refused n l k) (refused m i j) e = nothing n m l k i j

pub no_heads : (heads : List Head) (n m : Number) (l k i j : ℕ) → with_heads (refused n l k) heads ≡ with_heads (refused m i j) heads
unfolding with_heads
no_heads heads n m l k i j = refl

pub no_code : (code : List ℕ) (n m : Number) (l k i j : ℕ) → with_code (refused n l k) code ≡ with_code (refused m i j) code
unfolding with_code
no_code code n m l k i j = refl

pub no_work : (work : List ℕ) (n m : Number) (l k i j : ℕ) → cleared (refused n l k) work ≡ cleared (refused m i j) work
unfolding cleared
no_work work n m l k i j = refl
