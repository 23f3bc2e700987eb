-- The initial term of a program: its size, its depth, and that its symbols have the arguments they take. Assumes nothing.
use mathlib.Core.Path.{◌≡◌, refl, ap}
use mathlib.Core.List.{[], ◌∷◌}
use Prim.Native.Nat.{ℕ, zero, suc, ◌+◌, ◌-◌, ◌≤◌}
use native.Mathlib.Omega.{arith}
use lib.ListN.{length}
use Rattle.meaning.specs.Numbers.{most_depth}
use Rattle.meaning.specs.Terms.{Function, Program}
use Rattle.meaning.specs.Code.{size, sizes, count, own, initial}
use Rattle.accepted.specs.Accepted.{depth, depths, Shaped, AllShaped, Called}

pub own_sizes : (n i : ℕ) → sizes (own n i) ≡ n
unfolding own size
own_sizes zero i = refl
own_sizes (suc n) i = omega (arith, own_sizes n (suc i))

pub own_count : (n i : ℕ) → count (own n i) ≡ n
unfolding own count
own_count zero i = refl
own_count (suc n) i = ap suc (own_count n (suc i))

pub initial_size : (F : Function) (P : Program) → F.strict ≤ length F.sorts → size (initial (F ∷ P)) ≡ suc (length F.sorts)
unfolding initial size
initial_size F P h =
    let n = length F.sorts - F.strict in
    omega (arith, own_sizes F.strict 0, own_sizes n F.strict)

own_deep : (n i : ℕ) → depths (own n i) ≤ 1
unfolding own depth
own_deep zero i = omega arith
own_deep (suc n) i = omega (arith, own_deep n (suc i))

pub initial_deep : (P : Program) → depth (initial P) ≤ most_depth
unfolding initial depth
initial_deep [] = omega arith
initial_deep (F ∷ P) = omega (arith, own_deep F.strict 0, own_deep (length F.sorts - F.strict) F.strict)

pub own_shaped : (C : ℕ → ℕ → ℕ → Type 0) (m n i : ℕ) → i + n ≤ m → AllShaped C m (own n i)
unfolding own Shaped
own_shaped C m zero i h = tt
own_shaped C m (suc n) i h = (omega (arith, h), own_shaped C m n (suc i) (omega (arith, h)))

pub initial_shaped : (F : Function) (P : Program) → F.strict ≤ length F.sorts → Shaped (Called (F ∷ P)) (length F.sorts) (initial (F ∷ P))
unfolding initial Shaped
initial_shaped F P h =
    let m = length F.sorts in
    let n = m - F.strict in
    let all : F.strict + n ≡ m = omega (arith, h) in
    let c : Called (F ∷ P) 0 F.strict n = record { function = F; there = refl; strict = refl; all = all } in
    (rw (own_count F.strict 0, own_count n F.strict) c, own_shaped (Called (F ∷ P)) m F.strict 0 (omega (arith, h)), own_shaped (Called (F ∷ P)) m n F.strict (omega arith))
