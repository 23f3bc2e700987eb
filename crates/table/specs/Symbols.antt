-- Sorts, signatures and symbols of the definitions as src/ has them. Assumes nothing.
use Rattle.std.specs.Prelude.{List, [], ◌∷◌, ℕ, ◌+◌, ◌*◌, ◌/◌, ◌%◌, ◌^◌, leb, eqb, length, if◌then◌else◌, Option, Some, None}
use Rattle.meaning.specs.Arithmetic as means
use Rattle.meaning.specs.Arithmetic.{Op, constant, add, sub, mul, div, rem, eq, lt, and, or, neg}
use Rattle.meaning.specs.Terms as terms
use Rattle.meaning.specs.Terms.{argument, operation, condition, function, unknown}
use Rattle.meaning.specs.Answers.{sort_number}
use Rattle.word.specs.declared.Operation.TheVariants.{Plus, Minus, Times, Divided, LeftOver, Same, Below, And, Or}
use Rattle.table.specs.declared.Sort.{Sort}
use Rattle.table.specs.declared.Sort.TheVariants.{Number, YesNo}
use Rattle.table.specs.declared.Sorts.{Sorts}
use Rattle.table.specs.declared.Signature.{Signature}
use Rattle.table.specs.declared.Symbol.{Symbol}
use Rattle.table.specs.declared.Symbol.TheVariants.{Unknown, Argument, Constant, Operation, Not, Cond, Function}

-- A sort, and its number in heads and masks.
abbrev pub sort_in : means.Sort → Sort
sort_in means.number = Number
sort_in means.yes_no = YesNo

abbrev pub sort_word : Sort → ℕ
sort_word Number = 0
sort_word YesNo = 1

abbrev pub sort_of_bit : ℕ → Sort
sort_of_bit b = if eqb b 0 then Number else YesNo

-- Sorts as a mask, the first in the lowest bit.
unfoldable pub mask : List means.Sort → ℕ
mask [] = 0
mask (s ∷ S) = sort_number s + 2 * mask S

abbrev pub sorts_in : List means.Sort → Sorts
sorts_in S = record { count = length S; mask = mask S }

-- A mask has 32 bits.
abbrev pub sort_at : Sorts → ℕ → Option Sort
sort_at S i = if leb S.count i then None else (if leb 32 i then None else Some (sort_of_bit (S.mask / 2 ^ i % 2)))

abbrev pub signature : List means.Sort → ℕ → means.Sort → Signature
signature S k r = record { sorts = sorts_in S; strict = k; result = sort_in r }

-- A symbol.
unfoldable pub op_symbol : Op → Symbol
op_symbol (constant s v) = Constant (sort_in s) v
op_symbol add = Operation Plus
op_symbol sub = Operation Minus
op_symbol mul = Operation Times
op_symbol div = Operation Divided
op_symbol rem = Operation LeftOver
op_symbol eq = Operation Same
op_symbol lt = Operation Below
op_symbol and = Operation And
op_symbol or = Operation Or
op_symbol neg = Not

unfoldable pub symbol_in : terms.Symbol → Symbol
symbol_in (argument i) = Argument i
symbol_in (operation o) = op_symbol o
symbol_in condition = Cond
symbol_in (function f) = Function f
symbol_in unknown = Unknown

-- What stands for a function before a text is read.
abbrev pub no_head : Signature
no_head = record { sorts = record { count = 0; mask = 0 }; strict = 0; result = Number }
