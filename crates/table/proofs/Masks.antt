-- Sorts of a list by the bits of their mask. Assumes nothing.
use Rattle.std.specs.Prelude.{Some}
use Rattle.std.specs.List.{slice_get}
use Rattle.std.proofs.Common.{◌≡◌, ℕ, zero, suc, ◌+◌, ◌*◌, ◌/◌, ◌%◌, ◌^◌, ◌<◌, ◌≤◌, List, [], ◌∷◌, map, length, Bool, true, false, refl, ap, ◌∙◌, arith}
use Rattle.std.proofs.lemmas.Bool.{lt-leb, le-leb, leb-true, leb-false}
use native.Mathlib.Nat.{pow-succ', div-div-eq-div-mul}
use lib.Dec.{leb}
use Rattle.meaning.specs.Arithmetic.{Sort, number, yes_no}
use Rattle.meaning.specs.Answers.{sort_number}
use Rattle.table.specs.Symbols.{sort_in, sort_of_bit, mask, sorts_in, sort_at}

-- The first sort stands in the lowest bit,
pub lowest_sort : (s : Sort) (n : ℕ) → sort_of_bit ((sort_number s + 2 * n) % 2) ≡ sort_in s
unfolding sort_number
lowest_sort number n = let e : (0 + 2 * n) % 2 ≡ 0 = omega arith in ap sort_of_bit e
lowest_sort yes_no n = let e : (1 + 2 * n) % 2 ≡ 1 = omega arith in ap sort_of_bit e

-- and the others above it.
pub other_sorts : (s : Sort) (n : ℕ) → (sort_number s + 2 * n) / 2 ≡ n
unfolding sort_number
other_sorts number n = omega arith
other_sorts yes_no n = omega arith

next_bit : (r : Sort) (G : List Sort) (i : ℕ) → mask (r ∷ G) / 2 ^ suc i ≡ mask G / 2 ^ i
unfolding mask
next_bit r G i =
    rw (pow-succ' 2 i, ← div-div-eq-div-mul (sort_number r + 2 * mask G) 2 (2 ^ i), other_sorts r (mask G))

first_sort : (r : Sort) (G : List Sort) → sort_at (sorts_in (r ∷ G)) 0 ≡ Some (sort_in r)
unfolding mask
first_sort r G =
    let e : (sort_number r + 2 * mask G) / 1 ≡ sort_number r + 2 * mask G = omega arith in
    rw (lt-leb (suc (length G)) 0 (omega arith), e) (ap Some (lowest_sort r (mask G)))

next_sort : (r : Sort) (G : List Sort) (i : ℕ) → length G < 32 → sort_at (sorts_in (r ∷ G)) (suc i) ≡ sort_at (sorts_in G) i
next_sort r G i h = by_test (leb (length G) i) refl
  where
    by_test : (t : Bool) → leb (length G) i ≡ t → sort_at (sorts_in (r ∷ G)) (suc i) ≡ sort_at (sorts_in G) i
    by_test true e = let l = leb-true (length G) i e in rw (le-leb (suc (length G)) (suc i) (omega arith), e)
    by_test false e =
        let l = leb-false (length G) i e in
        rw (lt-leb (suc (length G)) (suc i) (omega arith), lt-leb 32 (suc i) (omega arith), e, lt-leb 32 i (omega arith), next_bit r G i)

-- The i-th sort of at most 32.
pub sort_at_is : (G : List Sort) (i : ℕ) → length G ≤ 32 → sort_at (sorts_in G) i ≡ slice_get (map sort_in G) i
sort_at_is [] i h = rw (le-leb 0 i (omega arith))
sort_at_is (r ∷ G) zero h = first_sort r G
sort_at_is (r ∷ G) (suc i) h = next_sort r G i (omega (arith, h)) ∙ sort_at_is G i (omega (arith, h))
