-- Arguments against a signature. Assumes nothing.
use Rattle.std.specs.Prelude.{Bool, true, ◌&&◌, List, [], ◌∷◌, ℕ, ◌/◌, ◌%◌, leb, eqb, length}
use Rattle.table.specs.Symbols.{sort_of_bit}
use Rattle.table.specs.declared.Signature.{Signature}
use Rattle.table.specs.declared.Sort.{Sort}
use Rattle.table.specs.declared.Sort.TheVariants.{Number, YesNo}

-- A value fits a sort; values fit sorts that are a mask, the first in the lowest bit.
unfoldable pub fits_sort : Sort → ℕ → Bool
fits_sort Number v = true
fits_sort YesNo v = leb v 1

unfoldable pub masked : ℕ → List ℕ → Bool
masked m [] = true
masked m (v ∷ vs) = fits_sort (sort_of_bit (m % 2)) v && masked (m / 2) vs

-- The values fit a function of this signature: as many as it takes, each fitting its sort.
unfoldable pub fits_signature : Signature → List ℕ → Bool
fits_signature g vs = eqb (length vs) g.sorts.count && masked g.sorts.mask vs
