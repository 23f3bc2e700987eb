-- Fields by place: where a piece of a text ends and what stands after it; a field's digit, decimal and number. Assumes nothing.
use Rattle.std.specs.Prelude.{Bool, ◌||◌, List, [], ◌∷◌, ℕ, suc, ◌+◌, ◌-◌, ◌*◌, leb, ltb, eqb, if◌then◌else◌, Option, Some, None}
use Rattle.meaning.specs.Basics.{between, byte}
use Rattle.meaning.specs.Arithmetic.{modulus}
use Rattle.meaning.specs.Text.{Field, pieces, is_capital, is_digit, is_count, value}
use Rattle.meaning.specs.Terms.{is_decimal}
-- Where a piece ends: the reader's, passed on.
unfoldable pub use Rattle.reader.specs.Span.{span}

-- The pieces after the first byte b: none where there is no byte b.
unfoldable pub rest : ℕ → List ℕ → List Field
rest b [] = []
rest b (x ∷ xs) = pieces b xs

-- How many visible bytes stand at the beginning.
unfoldable pub visible_span : List ℕ → ℕ
visible_span [] = 0
visible_span (x ∷ xs) = if between 33 126 x then suc (visible_span xs) else 0

unfoldable pub occurrences : ℕ → List ℕ → ℕ
occurrences b [] = 0
occurrences b (x ∷ xs) = if eqb x b then suc (occurrences b xs) else occurrences b xs

abbrev pub is_name_byte : ℕ → Bool
is_name_byte y = is_capital y || is_digit y

-- The digit that a field is.
unfoldable pub count_of : Field → Option ℕ
count_of f = if is_count f then Some (value f) else None

-- The decimal that a field is.
unfoldable pub decimal_of : Field → Option ℕ
decimal_of f = if is_decimal f then Some (value f) else None

-- The same from the left, given up at the first byte that is no digit and once the value is too large.
unfoldable pub digits_from : ℕ → Field → Option ℕ
digits_from v [] = Some v
digits_from v (x ∷ xs) =
    if ltb x (byte "0")
    then None
    else if ltb (byte "9") x
    then None
    else if leb modulus (v * 10 + (x - byte "0"))
    then None
    else digits_from (v * 10 + (x - byte "0")) xs

-- A field as one number, its first byte the lowest digit of base 256.
unfoldable pub packed : Field → ℕ
packed [] = 0
packed (x ∷ xs) = x + 256 * packed xs
