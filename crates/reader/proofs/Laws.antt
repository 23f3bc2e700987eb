-- Laws of the distance to the first byte b. Assumes nothing.
use Rattle.std.specs.Prelude.{if◌then◌else◌}
use mathlib.Core.Path.{◌≡◌, refl}
use mathlib.Core.List.{List, [], ◌∷◌}
use mathlib.Core.Bool.{Bool, true, false, not}
use Prim.Native.Nat.{ℕ, suc, ◌+◌, ◌-◌, ◌≤◌}
use native.Mathlib.Omega.{arith}
use lib.ListN.{length, take, drop, drop_of_length-le, length-drop}
use lib.Seq.{take_all}
use lib.Dec.{eqb}
use Rattle.std.specs.List.{prefix_len}
use Rattle.reader.specs.Span.{span}

-- the bytes from a place on, as a borrowed range has them
pub rest_all : (s : List ℕ) (i : ℕ) → take (length s - i) (drop i s) ≡ drop i s
rest_all s i = take_all (length s - i) (drop i s) (omega (arith, length-drop i s))

-- past the end
pub span_end : (b : ℕ) (s : List ℕ) (i : ℕ) → length s ≤ i → i ≡ i + span b (drop i s)
unfolding span
span_end b s i h = rw (drop_of_length-le s h) (omega arith)

-- as many as the first bytes that are other than b
span_by : (m n : ℕ) (t : Bool) → m ≡ n → (if not t then 1 + m else 0) ≡ (if t then 0 else suc n)
span_by m n true e = refl
span_by m n false e = omega (arith, e)

pub span_is : (b : ℕ) (s : List ℕ) → prefix_len (λ x. not (eqb x b)) s ≡ span b s
unfolding span
span_is b [] = refl
span_is b (x ∷ xs) = span_by (prefix_len (λ x. not (eqb x b)) xs) (span b xs) (eqb x b) (span_is b xs)

-- it stays within the bytes
below_by : (n m : ℕ) (t : Bool) → n ≤ m → (if t then 0 else suc n) ≤ suc m
below_by n m true h = omega arith
below_by n m false h = omega arith

pub span_within : (b : ℕ) (s : List ℕ) → span b s ≤ length s
unfolding span
span_within b [] = omega arith
span_within b (x ∷ xs) = below_by (span b xs) (length xs) (eqb x b) (span_within b xs)
