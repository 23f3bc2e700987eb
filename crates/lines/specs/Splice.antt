-- A list with others in the place of some of its elements: what a lent slice holds once a part of it is written. Assumes nothing.
use Rattle.std.specs.Prelude.{List, ◌++◌, ℕ, length, take, drop}

-- xs with ys in the place of what stands from k on.
abbrev pub splice : {A : Type 0} → List A → ℕ → List A → List A
splice xs k ys = take k xs ++ (ys ++ drop (length ys) (drop k xs))
