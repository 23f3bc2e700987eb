-- The whole product of two words of k bits fits twice as many; a division by 0, and by another number. Assumes nothing.
use Rattle.std.specs.Prelude.{Some, None}
use mathlib.Core.Path.{◌≡◌, refl, subst⁻¹}
use Prim.Native.Nat.{ℕ, zero, suc, ◌+◌, ◌*◌, ◌^◌, ◌<◌}
use native.Mathlib.Nat.{lt_of_le_of_lt, le_of_lt, mul-le-mul_left, mul-lt-mul_of_pos_right}
use lib.Pow.{pow_pos, pow-add}
use Rattle.word.specs.Operated.{divides}

pub whole_product_fits : (k : ℕ) {a b : ℕ} → a < 2 ^ k → b < 2 ^ k → a * b < 2 ^ (k + k)
whole_product_fits k {a} {b} ha hb =
    subst⁻¹ (λ (n : ℕ). a * b < n) (pow-add 2 k k)
    (lt_of_le_of_lt (mul-le-mul_left a (le_of_lt hb)) (mul-lt-mul_of_pos_right ha (pow_pos k)))

pub divides_none : (f : ℕ → ℕ → ℕ) (a b : ℕ) → b ≡ 0 → None ≡ divides f a b
unfolding divides
divides_none f a b e = rw e

pub divides_some : (f : ℕ → ℕ → ℕ) (a b : ℕ) → (b ≡ 0 → ⊥) → Some (f a b) ≡ divides f a b
unfolding divides
divides_some f a zero n = absurd (n refl)
divides_some f a (suc b) n = refl
