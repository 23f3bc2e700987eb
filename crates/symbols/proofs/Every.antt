-- A test that antt computes at each of the first n numbers holds at each of them. Assumes nothing.
use mathlib.Core.Path.{◌∙◌, subst, sym}
use mathlib.Core.Bool.{Bool, true, false, ◌&&◌}
use Prim.Native.Nat.{ℕ, zero, suc, ◌+◌, ◌<◌}
use native.Mathlib.Nat.{add-zero, zero-add, add-suc, suc-add, le_of_suc-le-suc, not-suc-le-zero}
use lib.Dec.{T}

pub first_of : (a b : Bool) → T (a && b) → T a
first_of true b t = tt
first_of false b t = t

pub second_of : (a b : Bool) → T (a && b) → T b
second_of true b t = t
second_of false b t = absurd t

-- The test passes at n numbers from i on.
abbrev pub every : (ℕ → Bool) → ℕ → ℕ → Bool
every test i zero = true
every test i (suc n) = test i && every test (suc i) n

from : (test : ℕ → Bool) (n i : ℕ) → T (every test i n) → (k : ℕ) → k < n → T (test (i + k))
from test zero i t k h = absurd (not-suc-le-zero h)
from test (suc n) i t zero h = subst (λ (m : ℕ). T (test m)) (sym (add-zero i)) (first_of (test i) (every test (suc i) n) t)
from test (suc n) i t (suc k) h =
    subst (λ (m : ℕ). T (test m)) (suc-add i k ∙ sym (add-suc i k))
    (from test n (suc i) (second_of (test i) (every test (suc i) n) t) k (le_of_suc-le-suc h))

pub at : (test : ℕ → Bool) (n : ℕ) → T (every test 0 n) → (k : ℕ) → k < n → T (test k)
at test n t k h = subst (λ (m : ℕ). T (test m)) (zero-add k) (from test n 0 t k h)
