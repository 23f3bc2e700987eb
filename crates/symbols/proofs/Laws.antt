-- Laws of symbols: the symbols of one byte, packed names in the loop, decimals. Assumes nothing.
use Rattle.std.specs.Prelude.{if◌then◌else◌, Option, Some, None}
use mathlib.Core.Path.{◌≡◌, refl, ap, sym, ◌∙◌}
use mathlib.Core.List.{List, map}
use mathlib.Core.Bool.{Bool, true, false, ◌&&◌}
use Prim.Native.Nat.{ℕ, ◌+◌, ◌-◌, ◌<◌, ◌≤◌}
use lib.Dec.{eqb, leb}
use lib.ListN.{length, get_or, drop, drop_of_length-le}
use lib.Seq.{drop-cons}
use native.Mathlib.Omega.{arith}
use native.Mathlib.Numerals.{add-one}
use borrow.Author.Tests.{eq-eqb, ne_eqb}
use Rattle.std.specs.List.{range_with_len}
use Rattle.std.proofs.lemmas.List.FromFn.{get_or-map-range_with_len}
use Rattle.meaning.specs.Basics.{all}
use Rattle.meaning.specs.Arithmetic.{Op, number, constant, add, sub, mul, div, rem, eq, lt, and, or, neg}
use Rattle.meaning.specs.Text.{Field, same, value, value_from}
use Rattle.meaning.specs.Terms.{Symbol, argument, operation, condition, function, unknown, spelt_in, named, is_decimal, symbol}
use Rattle.fields.specs.Fields.{decimal_of}
use Rattle.word.specs.declared.Operation.TheVariants.{Plus, Minus, Times, Divided, LeftOver, Same, Below, And, Or}
use Rattle.table.specs.Symbols.{op_symbol, symbol_in}
use Rattle.table.specs.declared.Sort.TheVariants.{Number}
use Rattle.table.specs.declared.Symbol.{Symbol as Entry}
use Rattle.table.specs.declared.Symbol.TheVariants.{Unknown, Argument, Constant, Operation, Not, Function}
use Rattle.symbols.specs.Symbols.{named_as, short_symbol, or_else, decimal_or}

-- The symbols of one byte by tests, as the code makes them, computed at each byte.

unfoldable pub short_by : ℕ → Entry
short_by b =
    if leb 48 b && leb b 57
    then Constant Number (b - 48)
    else if leb 97 b && leb b 104
    then Argument (b - 97)
    else if eqb b 33
    then Not
    else if eqb b 37
    then Operation LeftOver
    else if eqb b 38
    then Operation And
    else if eqb b 42
    then Operation Times
    else if eqb b 43
    then Operation Plus
    else if eqb b 45
    then Operation Minus
    else if eqb b 47
    then Operation Divided
    else if eqb b 60
    then Operation Below
    else if eqb b 61
    then Operation Same
    else if eqb b 124
    then Operation Or
    else Unknown

at_each_byte : map short_by (range_with_len 0 256) ≡ map (λ b. symbol_in (short_symbol b)) (range_with_len 0 256)
unfolding short_by symbol_in op_symbol short_symbol symbol spelt_in is_decimal value_from all same named
at_each_byte = refl

pub short_is : (b : ℕ) → b < 256 → symbol_in (short_symbol b) ≡ short_by b
short_is b h =
    sym (get_or-map-range_with_len (λ b. symbol_in (short_symbol b)) 0 256 b b Unknown h (omega arith))
    ∙ ap (λ (l : List Entry). get_or l b Unknown) (sym at_each_byte)
    ∙ get_or-map-range_with_len short_by 0 256 b b Unknown h (omega arith)

-- A symbol that is known stands; in the place of an unknown one another does.
op_known : (o : Op) → op_symbol o ≡ Unknown → ⊥
unfolding op_symbol
op_known (constant s v) e = cc
op_known add e = cc
op_known sub e = cc
op_known mul e = cc
op_known div e = cc
op_known rem e = cc
op_known eq e = cc
op_known lt e = cc
op_known and e = cc
op_known or e = cc
op_known neg e = cc

pub or_other : (y z : Symbol) → symbol_in y ≡ Unknown → or_else y z ≡ z
unfolding symbol_in or_else
or_other (argument i) z e = cc
or_other (operation o) z e = absurd (op_known o e)
or_other condition z e = cc
or_other (function f) z e = cc
or_other unknown z e = refl

pub or_same : (y z : Symbol) → (symbol_in y ≡ Unknown → ⊥) → or_else y z ≡ y
unfolding symbol_in or_else
or_same (argument i) z h = refl
or_same (operation o) z h = refl
or_same condition z h = refl
or_same (function f) z h = refl
or_same unknown z h = absurd (h refl)

-- Decimals, told by the answer.
pub decimal_some : (f : Field) (y : Symbol) (v : ℕ) → decimal_of f ≡ Some v → symbol_in (decimal_or f y) ≡ Constant Number v
unfolding decimal_or decimal_of symbol_in op_symbol
decimal_some f y v = by_test (is_decimal f)
  where
    by_test : (t : Bool) → (if t then Some (value f) else None) ≡ Some v → symbol_in (if t then operation (constant number (value f)) else y) ≡ Constant Number v
    by_test true e = let w : value f ≡ v = cc in ap (Constant Number) w
    by_test false e = cc

pub decimal_none : (f : Field) (y : Symbol) → decimal_of f ≡ None → decimal_or f y ≡ y
unfolding decimal_or decimal_of
decimal_none f y = by_test (is_decimal f)
  where
    by_test : (t : Bool) → ◌≡◌ {A = Option ℕ} (if t then Some (value f) else None) None → (if t then operation (constant number (value f)) else y) ≡ y
    by_test true e = cc
    by_test false e = refl

-- Names, in the loop.

module _ (M : List ℕ) (i p : ℕ) where
  pub named_end : length M ≤ i → Unknown ≡ symbol_in (named_as i (drop i M) p)
  unfolding named_as symbol_in
  named_end h = rw (drop_of_length-le M h)

  pub named_here : i < length M → p ≡ get_or M i 0 → Function i ≡ symbol_in (named_as i (drop i M) p)
  unfolding named_as symbol_in
  named_here h e = rw (drop-cons M i 0, eq-eqb p (get_or M i 0) e)

  pub named_on : i < length M → (p ≡ get_or M i 0 → ⊥) → named_as (i + 1) (drop (i + 1) M) p ≡ named_as i (drop i M) p
  unfolding named_as
  named_on h e = rw (drop-cons M i 0, ne_eqb p (get_or M i 0) e, add-one i)
