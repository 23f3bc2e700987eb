-- Symbols by packed names. Assumes nothing.
use Rattle.std.specs.Prelude.{◌≡◌, true, List, [], ◌∷◌, ℕ, ◌+◌, ◌<◌, ltb, eqb, length, get_or, if◌then◌else◌}
use Rattle.meaning.specs.Basics.{bytes}
use Rattle.meaning.specs.Arithmetic.{number, yes_no, constant}
use Rattle.meaning.specs.Numbers.{most_arguments}
use Rattle.meaning.specs.Text.{Field, value, is_name}
use Rattle.meaning.specs.Terms.{Symbol, argument, operation, condition, function, unknown, is_decimal, symbol}
use Rattle.fields.specs.Fields.{packed}

-- A symbol that a text can spell: its arguments are a to h.
unfoldable pub Spelt : Symbol → Type 0
Spelt (argument i) = i < most_arguments
Spelt (operation o) = Unit {0}
Spelt condition = Unit {0}
Spelt (function k) = Unit {0}
Spelt unknown = Unit {0}

unfoldable pub AllSpelt : List Symbol → Type 0
AllSpelt [] = Unit {0}
AllSpelt (y ∷ ys) = Spelt y × AllSpelt ys

-- Fields that are all names.
unfoldable pub Named : List Field → Type 0
Named [] = Unit {0}
Named (n ∷ N) = (is_name n ≡ true) × Named N

-- "function names": the first of the packed names that a packed field is, counted from i.
unfoldable pub named_as : ℕ → List ℕ → ℕ → Symbol
named_as i [] p = unknown
named_as i (n ∷ ns) p = if eqb p n then function i else named_as (i + 1) ns p

-- The symbol that one byte is whatever names there are.
unfoldable pub short_symbol : ℕ → Symbol
short_symbol b = symbol [] (b ∷ [])

-- A symbol, or else another where it is unknown.
unfoldable pub or_else : Symbol → Symbol → Symbol
or_else (argument i) y = argument i
or_else (operation o) y = operation o
or_else condition y = condition
or_else (function f) y = function f
or_else unknown y = y

unfoldable pub one_byte_symbol : List ℕ → Field → Symbol
one_byte_symbol M f = or_else (short_symbol (get_or f 0 0)) (named_as 0 M (packed f))

unfoldable pub decimal_or : Field → Symbol → Symbol
decimal_or f y = if is_decimal f then operation (constant number (value f)) else y

unfoldable pub some_bytes_symbol : List ℕ → Field → Symbol
unfolding packed
some_bytes_symbol M f =
    if eqb (packed f) (packed (bytes "true"))
    then operation (constant yes_no 1)
    else if eqb (packed f) (packed (bytes "false"))
    then operation (constant yes_no 0)
    else if eqb (packed f) (packed (bytes "cond"))
    then condition
    else decimal_or f (named_as 0 M (packed f))

-- The symbol that a field is, where the functions have the packed names M.
unfoldable pub symbol_by : List ℕ → Field → Symbol
symbol_by M f =
    if eqb (length f) 1
    then one_byte_symbol M f
    else if ltb 8 (length f)
    then decimal_or f unknown
    else some_bytes_symbol M f
