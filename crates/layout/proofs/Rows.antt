-- Laws of rows of words. Assumes nothing.
use mathlib.Core.Path.{◌≡◌, refl, ap, ◌∙◌}
use mathlib.Core.List.{List, [], ◌∷◌, ◌++◌}
use Prim.Native.Nat.{ℕ, zero, suc, ◌+◌, ◌-◌, ◌≤◌, ◌<◌}
use native.Mathlib.Nat.{add-zero, sub-zero}
use native.Mathlib.Omega.{arith}
use lib.ListN.{length, get_or, take, drop}
use Rattle.layout.specs.Decoding.{row, leading}

pub row_same : (w v : List ℕ) (a b n : ℕ) → ((i : ℕ) → i < n → get_or v (b + i) 0 ≡ get_or w (a + i) 0) → row v b n ≡ row w a n
unfolding row
row_same w v a b zero s = refl
row_same w v a b (suc n) s =
    let z : 0 < suc n = omega arith in
    let head : get_or v b 0 ≡ get_or w a 0 = rw (add-zero b, add-zero a) at (s 0 z) in
    let tail : row v (suc b) n ≡ row w (suc a) n = row_same w v (suc a) (suc b) n (λ i h. moved i (s (suc i) (omega arith))) in
    rw (head, tail)
  where
    moved : (i : ℕ) → get_or v (b + suc i) 0 ≡ get_or w (a + suc i) 0 → get_or v (suc b + i) 0 ≡ get_or w (suc a + i) 0
    moved i e =
        let p : suc b + i ≡ b + suc i = omega arith in
        let q : suc a + i ≡ a + suc i = omega arith in
        rw (p, q) e

pub getD_row : (w : List ℕ) (a n i : ℕ) → i < n → get_or (row w a n) i 0 ≡ get_or w (a + i) 0
unfolding row
getD_row w a zero i h = absurd (omega arith)
getD_row w a (suc n) zero h = rw add-zero
getD_row w a (suc n) (suc i) h = let e : a + suc i ≡ suc a + i = omega arith in rw e (getD_row w (suc a) n i (omega arith))

pub row_snoc : (w : List ℕ) (a n : ℕ) → row w a (suc n) ≡ row w a n ++ (get_or w (a + n) 0 ∷ [])
unfolding row
row_snoc w a zero = rw (add-zero a)
row_snoc w a (suc n) = let e : a + suc n ≡ suc a + n = omega arith in ap (λ (l : List ℕ). get_or w a 0 ∷ l) (rw e (row_snoc w (suc a) n))

pub take_row : (w : List ℕ) (a n k : ℕ) → k ≤ n → take k (row w a n) ≡ row w a k
unfolding row
take_row w a n zero h = refl
take_row w a zero (suc k) h = absurd (omega arith)
take_row w a (suc n) (suc k) h = ap (λ (l : List ℕ). get_or w a 0 ∷ l) (take_row w (suc a) n k (omega arith))

pub drop_row : (w : List ℕ) (a n k : ℕ) → k ≤ n → drop k (row w a n) ≡ row w (a + k) (n - k)
unfolding row
drop_row w a n zero h = rw (add-zero a, sub-zero n)
drop_row w a zero (suc k) h = absurd (omega arith)
drop_row w a (suc n) (suc k) h =
    let e : a + suc k ≡ suc a + k = omega arith in
    let f : suc n - suc k ≡ n - k = omega arith in
    rw (e, f) (drop_row w (suc a) n k (omega arith))

pub row_behind : (x : ℕ) (xs : List ℕ) (a n : ℕ) → row (x ∷ xs) (suc a) n ≡ row xs a n
unfolding row
row_behind x xs a zero = refl
row_behind x xs a (suc n) = ap (λ (l : List ℕ). get_or xs a 0 ∷ l) (row_behind x xs (suc a) n)

pub row_all : (xs : List ℕ) → row xs 0 (length xs) ≡ xs
unfolding row
row_all [] = refl
row_all (x ∷ xs) = ap (λ (l : List ℕ). x ∷ l) (row_behind x xs 0 (length xs) ∙ row_all xs)

-- words up to the first 0
pub leading_cons : (x : ℕ) (ws : List ℕ) → (x ≡ 0 → ⊥) → leading (x ∷ ws) ≡ x ∷ leading ws
unfolding leading
leading_cons zero ws h = absurd (h refl)
leading_cons (suc n) ws h = refl

pub leading_none : (c : List ℕ) (a n : ℕ) → get_or c a 0 ≡ 0 → leading (row c a n) ≡ []
unfolding leading row
leading_none c a zero e = refl
leading_none c a (suc n) e = rw e

pub leading_more : (c : List ℕ) (a m n : ℕ) → m ≡ suc n → (get_or c a 0 ≡ 0 → ⊥) → leading (row c a m) ≡ get_or c a 0 ∷ leading (row c (suc a) n)
unfolding row
leading_more c a m n e h = rw e (leading_cons (get_or c a 0) (row c (suc a) n) h)
