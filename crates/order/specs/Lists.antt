-- Arguments as src/ holds them. Assumes nothing.
use Rattle.std.specs.Prelude.{List, [], ◌∷◌, ◌++◌, ℕ, leb, length, take, if◌then◌else◌, Option, Some, None}
use Rattle.meaning.specs.Numbers.{most_arguments}
use Rattle.order.specs.declared.list.ArgumentList.{ArgumentList}

abbrev pub values_of : ArgumentList → List ℕ
values_of a = take a.count a.values

-- The arguments vs and one more; none where they are as many as there can be.
unfoldable pub with_argument : List ℕ → ℕ → Option (List ℕ)
with_argument vs v = if leb most_arguments (length vs) then None else Some (vs ++ (v ∷ []))
