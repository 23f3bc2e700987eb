-- Document 01, 'The program': from standard input to the one line of output. Assumes nothing.
use Rattle.std.specs.Prelude.{◌≡◌, refl, Bool, true, ◌&&◌, List, [], ◌∷◌, ◌++◌, map, ℕ, ◌+◌, ◌*◌, ◌/◌, ◌%◌, leb, eqb, length, drop, if◌then◌else◌}
use Rattle.meaning.specs.Basics.{byte, bytes}
use Rattle.meaning.specs.Numbers.{no, ARGS, most_symbols, most_arguments, instruction_words, work_words}
use Rattle.meaning.specs.Text.{Field, pieces, tab, line_end, value}
use Rattle.meaning.specs.Terms.{is_decimal}
use Rattle.meaning.specs.Answers.{run_answer}
use Rattle.meaning.specs.declared.Answer.{Answer}

-- What standard input asks for: a run of a text at a limit and arguments, or its first line is malformed.
pub data Order : Type 0 where
  malformed : Order
  order : ℕ → List ℕ → List ℕ → Order

-- Whether every field is a decimal.
unfoldable pub are_decimals : List Field → Bool
are_decimals [] = true
are_decimals (f ∷ fs) = is_decimal f && are_decimals fs

-- The longest first line.
abbrev pub first_line_bytes : ℕ
first_line_bytes = 128

-- "A first line over 128 bytes before its byte 10, .. or not one to nine decimals below 2^32 without leading zeros"
unfoldable pub is_first_line : Field → Bool
is_first_line p = leb (length p) first_line_bytes && (leb (length (pieces tab p)) (1 + most_arguments) && are_decimals (pieces tab p))

-- The first decimal is the limit, the others are the arguments.
unfoldable pub limit_and_arguments : List Field → List ℕ → Order
limit_and_arguments [] text = malformed
limit_and_arguments (f ∷ fs) text = order (value f) (map value fs) text

-- "a first line with the step limit and the arguments in decimal, tab-parted; the rest is the text"; "without byte 10" there is but one piece.
unfoldable pub ordered : List Field → List ℕ → Order
ordered [] input = malformed
ordered (p ∷ []) input = malformed
ordered (p ∷ q ∷ ps) input = if is_first_line p then limit_and_arguments (pieces tab p) (drop (length p + 1) input) else malformed

-- What the bytes of standard input ask for.
unfoldable pub order_of : List ℕ → Order
order_of input = ordered (pieces line_end input) input

-- A number below 2^32 in decimal.
unfoldable pub without_zeros : List ℕ → List ℕ
without_zeros [] = []
without_zeros (d ∷ []) = d ∷ []
without_zeros (d ∷ e ∷ ds) = if eqb d (byte "0") then without_zeros (e ∷ ds) else d ∷ e ∷ ds

-- The places of ten digits.
abbrev pub ten_places : List ℕ
ten_places = 1000000000 ∷ 100000000 ∷ 10000000 ∷ 1000000 ∷ 100000 ∷ 10000 ∷ 1000 ∷ 100 ∷ 10 ∷ 1 ∷ []

-- Its digits.
unfoldable pub decimal : ℕ → List ℕ
decimal n = without_zeros (map (λ p. byte "0" + n / p % 10) ten_places)

pub decimals : decimal 0 ∷ decimal 7 ∷ decimal 4294967295 ∷ [] ≡ bytes "0" ∷ bytes "7" ∷ bytes "4294967295" ∷ []
unfolding decimal without_zeros
decimals = refl

-- "Output is one line: number, value, line, field, steps, rewrites.": each a decimal with the byte after it.
unfoldable pub printed_field : ℕ → ℕ → List ℕ
printed_field n end = decimal n ++ (end ∷ [])

unfoldable pub printed : Answer → List ℕ
printed r =
    printed_field r.number tab
    ++ (printed_field r.value tab
    ++ (printed_field r.line tab
    ++ (printed_field r.field tab ++ (printed_field r.steps tab ++ printed_field r.rewrites line_end))))

-- The program lends as many code words as any text needs: the body symbols, the entry on its arguments, and RET.
abbrev pub most_code_words : ℕ
most_code_words = instruction_words * (most_symbols + (1 + most_arguments) + 1)

-- "prints ARGS before all else"
unfoldable pub answer_order : Order → Answer
answer_order malformed = record { number = no ARGS; value = 0; line = 0; field = 0; steps = 0; rewrites = 0 }
answer_order (order limit args text) = run_answer text args limit most_code_words work_words

-- What the program writes for what it reads.
unfoldable pub output : List ℕ → List ℕ
output input = printed (answer_order (order_of input))
