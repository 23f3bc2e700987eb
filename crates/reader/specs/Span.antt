-- How far it is to the first byte b. Assumes nothing.
use Rattle.std.specs.Prelude.{List, [], ◌∷◌, ℕ, suc, eqb, if◌then◌else◌}

-- How many bytes stand before the first byte b; all of them where there is none.
unfoldable pub span : ℕ → List ℕ → ℕ
span b [] = 0
span b (x ∷ xs) = if eqb x b then 0 else suc (span b xs)
