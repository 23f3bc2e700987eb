-- What the other pages use of tests and lists. Assumes nothing.
use Rattle.std.specs.Prelude.{◌≡◌, refl, Bool, true, ◌&&◌, List, [], ◌∷◌, ◌++◌, ℕ, leb, length, drop}
use Prim.Native.Char.{Char, code}
use Prim.Native.String.{String, [] as []ˢ, ◌∷◌ as ◌∷ˢ◌}

-- Whether x is one of the numbers from a to b.
abbrev pub between : ℕ → ℕ → ℕ → Bool
between a b x = leb a x && leb x b

-- Whether every element passes a test.
unfoldable pub all : (ℕ → Bool) → List ℕ → Bool
all test [] = true
all test (x ∷ xs) = test x && all test xs

-- A list with `ys` in the place of its beginning, the rest unchanged: what a lent slice holds once its needed part is written.
unfoldable pub written_over : {A : Type 0} → List A → List A → List A
written_over ys xs = ys ++ drop (length ys) xs

pub two_words_over_four : written_over {A = ℕ} (7 ∷ 8 ∷ []) (1 ∷ 2 ∷ 3 ∷ 4 ∷ []) ≡ 7 ∷ 8 ∷ 3 ∷ 4 ∷ []
unfolding written_over
two_words_over_four = refl

-- The byte of one character, and the bytes of a text as the pages write it.
abbrev pub byte : Char → ℕ
byte c = code c

abbrev pub bytes : String → List ℕ
bytes []ˢ = []
bytes (c ∷ˢ s) = byte c ∷ bytes s
