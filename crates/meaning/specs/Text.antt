-- Document 01, 'Rule text': bytes, fields and lines, and what is wrong with a line's shape, with the counts or with the names. Assumes nothing.
use Rattle.std.specs.Prelude.{◌≡◌, refl, Bool, true, false, ◌&&◌, ◌||◌, List, [], ◌∷◌, ◌++◌, map, ℕ, zero, suc, ◌+◌, ◌-◌, ◌*◌, leb, eqb, length, get_or, drop, if◌then◌else◌}
use Rattle.meaning.specs.Basics.{between, all, byte, bytes}
use Rattle.meaning.specs.Arithmetic.{Sort, number, yes_no}
use Rattle.meaning.specs.Numbers.{Number, LONG, LINE, COUNT, NAME, most_bytes, most_functions, most_symbols, most_arguments}

-- What a test of a text comes to: it goes on with what was found, or the text is refused with number, line and field.
-- "Places are line and field, from 1; those not named are 0."
pub data Verdict (A : Type 0) : Type 0 where
  fine : A → Verdict A
  refused : Number → ℕ → ℕ → Verdict A

-- One test after the other: the first refusal stands.
infixl 20 ◌>>=◌
infixl 20 ◌>>◌
unfoldable pub ◌>>=◌ : {A B : Type 0} → Verdict A → (A → Verdict B) → Verdict B
fine a >>= go_on = go_on a
refused n line field >>= go_on = refused n line field

unfoldable pub ◌>>◌ : {A B : Type 0} → Verdict A → Verdict B → Verdict B
fine a >> next = next
refused n line field >> next = refused n line field

-- A test that finds nothing but a fault.
abbrev pub Passed : Type 0
Passed = Verdict (Unit {0})

-- Fields.

-- A field or a line is a list of bytes.
abbrev pub Field : Type 0
Field = List ℕ

-- The byte that parts fields, and the one that ends a line.
abbrev pub tab : ℕ
tab = 9

abbrev pub line_end : ℕ
line_end = 10

-- The pieces of a text between the bytes b: one more than there are bytes b.
unfoldable pub onto_first : ℕ → List Field → List Field
onto_first x [] = (x ∷ []) ∷ []
onto_first x (p ∷ ps) = (x ∷ p) ∷ ps

unfoldable pub pieces : ℕ → List ℕ → List Field
pieces b [] = [] ∷ []
pieces b (x ∷ xs) = if eqb x b then [] ∷ pieces b xs else onto_first x (pieces b xs)

pub three_fields : pieces tab (bytes "ID\t\tn") ≡ bytes "ID" ∷ [] ∷ bytes "n" ∷ []
unfolding pieces onto_first
three_fields = refl

-- "empty, holds a byte outside 33 to 126"
unfoldable pub is_visible : Field → Bool
is_visible f = leb 1 (length f) && all (between 33 126) f

-- "name: a capital, then up to seven capitals or digits"
abbrev pub is_capital : ℕ → Bool
is_capital = between (byte "A") (byte "Z")

abbrev pub is_digit : ℕ → Bool
is_digit = between (byte "0") (byte "9")

-- A name, eight bytes at most.
unfoldable pub is_name : Field → Bool
is_name [] = false
is_name (x ∷ xs) = is_capital x && (leb (length xs) 7 && all (λ y. is_capital y || is_digit y) xs)

-- "strict count, one digit 0 to 8"
unfoldable pub is_count : Field → Bool
is_count [] = false
is_count (x ∷ []) = between (byte "0") (byte "8") x
is_count (x ∷ y ∷ ys) = false

-- "argument sorts, 1 to 8 letters, each n (number) or b (yes/no)"; "a strict count above the number of sorts counts against field 3"
abbrev pub is_sort : ℕ → Bool
is_sort x = eqb x (byte "n") || eqb x (byte "b")

-- The sorts of a function with that strict count.
unfoldable pub are_sorts : ℕ → Field → Bool
are_sorts strict f = between 1 most_arguments (length f) && (leb strict (length f) && all is_sort f)

-- "result sort, n or b"
unfoldable pub is_result : Field → Bool
is_result [] = false
is_result (x ∷ []) = is_sort x
is_result (x ∷ y ∷ ys) = false

-- The number that digits stand for.
unfoldable pub value_from : ℕ → Field → ℕ
value_from v [] = v
value_from v (x ∷ xs) = value_from (v * 10 + (x - byte "0")) xs

-- The number that a field of digits stands for.
abbrev pub value : Field → ℕ
value = value_from 0

-- Lines.

-- The forms of fields 1 to 5; each field after those is visible too.
unfoldable pub forms : ℕ → List (Field → Bool)
forms strict = is_name ∷ is_count ∷ are_sorts strict ∷ is_result ∷ is_visible ∷ []

-- "the first field that is empty, holds a byte outside 33 to 126, or is wrong in form (fields 1 to 4) .. Fewer than five fields: one past the last."
-- Counted from k; 0 where none is wrong.
unfoldable pub first_wrong : ℕ → List (Field → Bool) → List Field → ℕ
first_wrong k [] [] = 0
first_wrong k [] (f ∷ fs) = if is_visible f then first_wrong (k + 1) [] fs else k
first_wrong k (form ∷ more) [] = k
first_wrong k (form ∷ more) (f ∷ fs) = if form f then first_wrong (k + 1) more fs else k

-- The same of a whole line.
unfoldable pub wrong_field : List Field → ℕ
wrong_field fs = first_wrong 1 (forms (value (get_or fs 1 []))) fs

-- "LINE: empty text is line 1 field 1. Otherwise lines in order. A last line without byte 10 gives field 0 before its fields are judged."
-- The last of the pieces is what stands after the last byte 10.
unfoldable pub judge_line : ℕ → ℕ → Passed → Passed
judge_line l zero others = others
judge_line l (suc k) others = refused LINE l (suc k)

-- The lines from line l on.
unfoldable pub judge_lines : ℕ → List Field → Passed
judge_lines l [] = fine tt
judge_lines l ([] ∷ []) = fine tt
judge_lines l ((x ∷ xs) ∷ []) = refused LINE l 0
judge_lines l (p ∷ q ∷ ps) = judge_line l (wrong_field (pieces tab p)) (judge_lines (l + 1) (q ∷ ps))

-- LINE, over all lines.
unfoldable pub judge_shape : List ℕ → Passed
judge_shape [] = refused LINE 1 1
judge_shape (x ∷ xs) = judge_lines 1 (pieces line_end (x ∷ xs))

-- A line of the right shape: one function.
pub record Line : Type 0 where
  pub name : Field
  pub strict : ℕ
  pub sorts : List Sort
  pub result : Sort
  pub body : List Field

-- The sort of a letter.
unfoldable pub sort_of : ℕ → Sort
sort_of x = if eqb x (byte "b") then yes_no else number

-- What the fields of such a line say.
unfoldable pub line_of : List Field → Line
line_of fs =
    record {
      name = get_or fs 0 [];
      strict = value (get_or fs 1 []);
      sorts = map sort_of (get_or fs 2 []);
      result = sort_of (get_or (get_or fs 3 []) 0 0);
      body = drop 4 fs;
    }

-- The pieces that a byte 10 ends: all but the last.
unfoldable pub all_but_last : List Field → List Field
all_but_last [] = []
all_but_last (p ∷ []) = []
all_but_last (p ∷ q ∷ ps) = p ∷ all_but_last (q ∷ ps)

-- "One function a line, fields parted by one tab, each line ended by byte 10."
unfoldable pub lines : List ℕ → List Line
lines text = map (λ p. line_of (pieces tab p)) (all_but_last (pieces line_end text))

-- "LONG: text over 16,384 bytes"
unfoldable pub judge_length : List ℕ → Passed
judge_length text = if leb (length text) most_bytes then fine tt else refused LONG 0 0

-- "COUNT: line 65 field 0; else the 1,025th body symbol." `seen` body symbols stand above line l.
unfoldable pub judge_symbols : ℕ → ℕ → List Line → Passed
judge_symbols l seen [] = fine tt
judge_symbols l seen (h ∷ hs) =
    if leb (seen + length h.body) most_symbols
    then judge_symbols (l + 1) (seen + length h.body) hs
    else refused COUNT l (4 + (most_symbols + 1 - seen))

-- COUNT.
unfoldable pub judge_counts : List Line → Passed
judge_counts hs = if leb (length hs) most_functions then judge_symbols 1 0 hs else refused COUNT (most_functions + 1) 0

-- Whether two fields are the same bytes, and whether a field is one of several.
unfoldable pub same : Field → Field → Bool
same [] [] = true
same [] (y ∷ ys) = false
same (x ∷ xs) [] = false
same (x ∷ xs) (y ∷ ys) = eqb x y && same xs ys

unfoldable pub is_among : Field → List Field → Bool
is_among f [] = false
is_among f (n ∷ ns) = same f n || is_among f ns

-- "NAME: field 1 of the first line that repeats an earlier name."
unfoldable pub judge_names : ℕ → List Field → List Field → Passed
judge_names l earlier [] = fine tt
judge_names l earlier (n ∷ ns) = if is_among n earlier then refused NAME l 1 else judge_names (l + 1) (earlier ++ (n ∷ [])) ns
