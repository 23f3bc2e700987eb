-- The examples of the arithmetic page (src/lib.rt), in its order, computed: operation by number, two values, result. Assumes nothing.
use Rattle.std.specs.Prelude.{◌≡◌, refl, [], ◌∷◌, Some, None}
use Rattle.meaning.specs.Arithmetic.{sum, difference, product, quotient, remainder, equal, less, both, either, opposite}
use Rattle.word.specs.Operated.{divides, operated}

pub examples :
    operated 1 4294967295 1 ∷
    operated 2 3 4294967290 ∷
    operated 3 65536 65537 ∷
    operated 4 4294967295 2 ∷
    operated 4 7 0 ∷
    operated 5 4294967295 10 ∷
    operated 5 7 0 ∷
    operated 6 4294967295 4294967295 ∷
    operated 6 4294967295 0 ∷
    operated 7 3 4294967290 ∷
    operated 8 1 0 ∷
    operated 9 1 0 ∷
    Some (opposite 1) ∷
    [] ≡
    Some 0 ∷ Some 9 ∷ Some 65536 ∷ Some 2147483647 ∷ None ∷ Some 5 ∷ None ∷ Some 1 ∷ Some 0 ∷ Some 1 ∷ Some 0 ∷ Some 1 ∷ Some 0 ∷ []
unfolding operated divides sum difference product quotient remainder equal less both either opposite
examples = refl
