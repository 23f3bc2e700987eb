-- What an accepted program is like: every term has its sort, and every operation and call the terms that it takes. Then no operation is without a
-- value unless it divides by 0, no condition above 1 and no argument missing. Assumes nothing.
use mathlib.Core.Path.{◌≡◌, refl, ap, subst}
use mathlib.Core.Bool.{Bool, true, false, ◌&&◌, ◌||◌}
use mathlib.Core.Logic.{◌⊎◌, inl, inr}
use mathlib.Core.Option.{some}
use mathlib.Core.List.{List, [], ◌∷◌, ◌++◌}
use Prim.Native.Nat.{ℕ, zero, suc, ◌≤◌, ◌<◌}
use native.Mathlib.Omega.{arith}
use lib.Dec.{eqb, ltb}
use lib.ListN.{length, take, drop, get_elem?, take-append-drop, length-take}
use Rattle.meaning.specs.Arithmetic.{Sort, number, yes_no, Op, constant, add, sub, mul, div, rem, eq, lt, and, or, neg, domain, range, Applied, gives, by_zero, apply, of_none, of_one, of_two, unless_zero, of_divided, truth, is_yes, equal, less, both, either, opposite}
use Rattle.meaning.specs.Numbers.{most_arguments}
use Rattle.meaning.specs.Terms.{Term, arg, op, cond, call, Terms, nil, cons, Function, Program}
use Rattle.meaning.specs.Code.{count}
use Rattle.theorems.proofs.Splitting.{clash}
use Rattle.theorems.proofs.Trees.{Argument, given, waits, Chain, bottom, push, call_frame, all_wait}

-- The values of a sort: any number, and a yes/no below 2.
unfoldable pub OfSort : Sort → ℕ → Type 0
OfSort number v = Unit {0}
OfSort yes_no v = v < 2

unfoldable pub OfSorts : List Sort → List ℕ → Type 0
OfSorts [] [] = Unit {0}
OfSorts [] (v ∷ vs) = ⊥
OfSorts (s ∷ S) [] = ⊥
OfSorts (s ∷ S) (v ∷ vs) = OfSort s v × OfSorts S vs

-- A constant is a value of its sort.
unfoldable pub ConstantSorted : Op → Type 0
ConstantSorted (constant s v) = OfSort s v
ConstantSorted add = Unit {0}
ConstantSorted sub = Unit {0}
ConstantSorted mul = Unit {0}
ConstantSorted div = Unit {0}
ConstantSorted rem = Unit {0}
ConstantSorted eq = Unit {0}
ConstantSorted lt = Unit {0}
ConstantSorted and = Unit {0}
ConstantSorted or = Unit {0}
ConstantSorted neg = Unit {0}

module _ (P : Program) where
  -- A term of sort s over arguments of the sorts G, and a row of terms of the sorts S.
  unfoldable mutual
    pub TermSorted : Term → List Sort → Sort → Type 0
    TermSorted (arg i) G s = get_elem? G i ≡ some s
    TermSorted (op o ts) G s = (range o ≡ s) × ConstantSorted o × RowSorted ts G (domain o)
    TermSorted (cond t x y) G s = TermSorted t G yes_no × TermSorted x G s × TermSorted y G s
    TermSorted (call f ss ws) G s =
        (F : Function) × (get_elem? P f ≡ some F) × (F.result ≡ s) × RowSorted ss G (take F.strict F.sorts) × RowSorted ws G (drop F.strict F.sorts)

    pub RowSorted : Terms → List Sort → List Sort → Type 0
    RowSorted nil G [] = Unit {0}
    RowSorted nil G (s ∷ S) = ⊥
    RowSorted (cons t ts) G [] = ⊥
    RowSorted (cons t ts) G (s ∷ S) = TermSorted t G s × RowSorted ts G S

  -- Every body has its function's sort, and at most eight arguments are strict.
  abbrev pub Sorted : Type 0
  Sorted = (f : ℕ) (F : Function) → get_elem? P f ≡ some F → (F.strict ≤ most_arguments) × TermSorted F.body F.sorts F.result

  -- A frame whose arguments have the sorts S, those that wait being over arguments of the sorts G.
  unfoldable pub ArgumentSorted : Argument → List Sort → Sort → Type 0
  ArgumentSorted (given v) G s = OfSort s v
  ArgumentSorted (waits t) G s = TermSorted t G s

  unfoldable pub FrameSorted : List Argument → List Sort → List Sort → Type 0
  FrameSorted [] G [] = Unit {0}
  FrameSorted [] G (s ∷ S) = ⊥
  FrameSorted (x ∷ f) G [] = ⊥
  FrameSorted (x ∷ f) G (s ∷ S) = ArgumentSorted x G s × FrameSorted f G S

  unfoldable pub ChainSorted : Chain → List Sort → Type 0
  ChainSorted (bottom vs) S = OfSorts S vs
  ChainSorted (push f e) S = (G : List Sort) × ChainSorted e G × FrameSorted f G S

-- Every argument of a sort is there.

pub value_there : (S : List Sort) (vs : List ℕ) (i : ℕ) {s : Sort} → OfSorts S vs → get_elem? S i ≡ some s
    → (v : ℕ) × (get_elem? vs i ≡ some v) × OfSort s v
unfolding OfSorts
value_there [] [] i g h = clash (cc)
value_there [] (v ∷ vs) i g h = absurd g
value_there (s ∷ S) [] i g h = absurd g
value_there (x ∷ S) (v ∷ vs) zero {s} g h = let same : x ≡ s = cc in (v, refl, subst (λ y. OfSort y v) same g.0)
value_there (s ∷ S) (v ∷ vs) (suc i) g h = value_there S vs i g.1 h

pub argument_there : (P : Program) (f : List Argument) (G S : List Sort) (i : ℕ) {s : Sort} → FrameSorted P f G S → get_elem? S i ≡ some s
    → (x : Argument) × (get_elem? f i ≡ some x) × ArgumentSorted P x G s
unfolding FrameSorted
argument_there P [] G [] i g h = clash (cc)
argument_there P (x ∷ f) G [] i g h = absurd g
argument_there P [] G (s ∷ S) i g h = absurd g
argument_there P (x ∷ f) G (y ∷ S) zero {s} g h = let same : y ≡ s = cc in (x, refl, subst (λ z. ArgumentSorted P x G z) same g.0)
argument_there P (x ∷ f) G (y ∷ S) (suc i) g h = argument_there P f G S i g.1 h

-- The frame of a call has the sorts of its function.

all_wait_sorted : (P : Program) (ws : Terms) (G S : List Sort) → RowSorted P ws G S → FrameSorted P (all_wait ws) G S
unfolding RowSorted FrameSorted all_wait ArgumentSorted
all_wait_sorted P nil G [] h = tt
all_wait_sorted P nil G (s ∷ S) h = absurd h
all_wait_sorted P (cons t ws) G [] h = absurd h
all_wait_sorted P (cons t ws) G (s ∷ S) h = (h.0, all_wait_sorted P ws G S h.1)

two_parts_sorted : (P : Program) (vs : List ℕ) (ws : Terms) (G S S' : List Sort) → OfSorts S vs → RowSorted P ws G S'
    → FrameSorted P (call_frame vs ws) G (S ++ S')
unfolding OfSorts FrameSorted call_frame ArgumentSorted
two_parts_sorted P [] ws G [] S' g h = all_wait_sorted P ws G S' h
two_parts_sorted P [] ws G (s ∷ S) S' g h = absurd g
two_parts_sorted P (v ∷ vs) ws G [] S' g h = absurd g
two_parts_sorted P (v ∷ vs) ws G (s ∷ S) S' g h = (g.0, two_parts_sorted P vs ws G S S' g.1 h)

pub call_frame_sorted : (P : Program) (F : Function) (vs : List ℕ) (ws : Terms) (G : List Sort) → OfSorts (take F.strict F.sorts) vs
    → RowSorted P ws G (drop F.strict F.sorts)
    → FrameSorted P (call_frame vs ws) G F.sorts
call_frame_sorted P F vs ws G g h =
    subst (λ S. FrameSorted P (call_frame vs ws) G S) (take-append-drop F.strict F.sorts) (two_parts_sorted P vs ws G (take F.strict F.sorts) (drop F.strict F.sorts) g h)

-- How many terms an operation and a call work out.

row_count : (P : Program) (ts : Terms) (G S : List Sort) → RowSorted P ts G S → count ts ≡ length S
unfolding RowSorted count
row_count P nil G [] h = refl
row_count P nil G (s ∷ S) h = absurd h
row_count P (cons t ts) G [] h = absurd h
row_count P (cons t ts) G (s ∷ S) h = ap suc (row_count P ts G S h.1)

pub two_at_most : (o : Op) → length (domain o) ≤ 2
unfolding domain
two_at_most (constant s v) = omega arith
two_at_most add = omega arith
two_at_most sub = omega arith
two_at_most mul = omega arith
two_at_most div = omega arith
two_at_most rem = omega arith
two_at_most eq = omega arith
two_at_most lt = omega arith
two_at_most and = omega arith
two_at_most or = omega arith
two_at_most neg = omega arith

pub few_strict : (P : Program) → Sorted P → (f : ℕ) (F : Function) (ss : Terms) (G : List Sort) → get_elem? P f ≡ some F
    → RowSorted P ss G (take F.strict F.sorts) → count ss ≤ most_arguments
few_strict P ok f F ss G h k = omega (arith, row_count P ss G (take F.strict F.sorts) k, length-take F.strict F.sorts, (ok f F h).0)

-- An operation at values of its sorts has a value, of its own sort, unless it divides by 0.

truth_below : (b : Bool) → truth b < 2
truth_below true = omega arith
truth_below false = omega arith

abbrev pub Result : Sort → Applied → Type 0
Result r x = ((v : ℕ) × (x ≡ gives v) × OfSort r v) ⊎ (x ≡ by_zero)

two_sorted : (s s' r : Sort) (f : ℕ → ℕ → ℕ) → ((a b : ℕ) → OfSort r (f a b)) → (vs : List ℕ) → OfSorts (s ∷ s' ∷ []) vs → Result r (of_two f vs)
unfolding OfSorts of_two
two_sorted s s' r f h [] g = absurd g
two_sorted s s' r f h (a ∷ []) g = absurd g.1
two_sorted s s' r f h (a ∷ b ∷ []) g = inl (f a b, refl, h a b)
two_sorted s s' r f h (a ∷ b ∷ x ∷ vs) g = absurd g.1.1

divided_sorted : (s s' : Sort) (f : ℕ → ℕ → ℕ) (vs : List ℕ) → OfSorts (s ∷ s' ∷ []) vs → Result number (of_divided f vs)
unfolding OfSort OfSorts of_divided unless_zero
divided_sorted s s' f [] g = absurd g
divided_sorted s s' f (a ∷ []) g = absurd g.1
divided_sorted s s' f (a ∷ zero ∷ []) g = inr refl
divided_sorted s s' f (a ∷ suc b ∷ []) g = inl (f a (suc b), refl, tt)
divided_sorted s s' f (a ∷ b ∷ x ∷ vs) g = absurd g.1.1

one_sorted : (s r : Sort) (f : ℕ → ℕ) → ((a : ℕ) → OfSort r (f a)) → (vs : List ℕ) → OfSorts (s ∷ []) vs → Result r (of_one f vs)
unfolding OfSorts of_one
one_sorted s r f h [] g = absurd g
one_sorted s r f h (a ∷ []) g = inl (f a, refl, h a)
one_sorted s r f h (a ∷ b ∷ vs) g = absurd g.1

none_sorted : (r : Sort) (w : ℕ) → OfSort r w → (vs : List ℕ) → OfSorts [] vs → Result r (of_none w vs)
unfolding OfSorts of_none
none_sorted r w h [] g = inl (w, refl, h)
none_sorted r w h (a ∷ vs) g = absurd g

pub apply_sorted : (o : Op) → ConstantSorted o → (vs : List ℕ) → OfSorts (domain o) vs → Result (range o) (apply o vs)
unfolding apply domain range OfSort ConstantSorted equal less both either opposite
apply_sorted (constant s w) k vs g = none_sorted s w k vs g
apply_sorted add k vs g = two_sorted number number number _ (λ a b. tt) vs g
apply_sorted sub k vs g = two_sorted number number number _ (λ a b. tt) vs g
apply_sorted mul k vs g = two_sorted number number number _ (λ a b. tt) vs g
apply_sorted div k vs g = divided_sorted number number _ vs g
apply_sorted rem k vs g = divided_sorted number number _ vs g
apply_sorted eq k vs g = two_sorted number number yes_no equal (λ a b. truth_below (eqb a b)) vs g
apply_sorted lt k vs g = two_sorted number number yes_no less (λ a b. truth_below (ltb a b)) vs g
apply_sorted and k vs g = two_sorted yes_no yes_no yes_no both (λ a b. truth_below (is_yes a && is_yes b)) vs g
apply_sorted or k vs g = two_sorted yes_no yes_no yes_no either (λ a b. truth_below (is_yes a || is_yes b)) vs g
apply_sorted neg k vs g = one_sorted yes_no yes_no opposite (λ a. truth_below (eqb a 0)) vs g

pub result_sorted : (r : Sort) {x : Applied} {v : ℕ} → Result r x → x ≡ gives v → OfSort r v
result_sorted r {x} {v} (inl w) h = let same : w.0 ≡ v = one w.1 in subst (OfSort r) same w.2
  where
    one : {u : ℕ} → x ≡ gives u → u ≡ v
    one k = cc
result_sorted r (inr z) h = clash (cc)
