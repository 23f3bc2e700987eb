-- What an operation comes to by its number, as the code words have it, and that it is the operation of meaning with this number. Assumes nothing.
use Rattle.std.specs.Prelude.{◌≡◌, refl, [], ◌∷◌, ℕ, zero, suc, ◌≤◌, eqb, length, if◌then◌else◌, Option, Some, None, Result, Ok, Err}
use Rattle.std.proofs.Common.{arith}
use Rattle.meaning.specs.Arithmetic.{sum, difference, product, quotient, remainder, equal, less, both, either, Op, constant, add, sub, mul, div, rem, eq, lt, and, or, neg, op_number, domain, Applied, gives, by_zero, apply, of_two, unless_zero, of_divided}
use Rattle.word.specs.declared.Operation.{Operation}
use Rattle.word.specs.declared.Operation.TheVariants.{Plus, Minus, Times, Divided, LeftOver, Same, Below, And, Or}
use Rattle.word.specs.declared.Unknown.{Unknown}

-- What an answer says of meaning's operation: a value, or none where its divisor is 0.
unfoldable pub applied : Option ℕ → Applied
applied (Some v) = gives v
applied None = by_zero

-- A function of two of which the second divides.
unfoldable pub divides : (ℕ → ℕ → ℕ) → ℕ → ℕ → Option ℕ
divides f a zero = None
divides f a (suc b) = Some (f a (suc b))

-- "1 to 10 for `+ - * / % = < & | !`": 1 to 9 at two values; 0 for any other number.
unfoldable pub operated : ℕ → ℕ → ℕ → Option ℕ
operated k a b =
    if eqb k 1 then Some (sum a b) else
    (if eqb k 2 then Some (difference a b) else
    (if eqb k 3 then Some (product a b) else
    (if eqb k 4 then divides quotient a b else
    (if eqb k 5 then divides remainder a b else
    (if eqb k 6 then Some (equal a b) else
    (if eqb k 7 then Some (less a b) else
    (if eqb k 8 then Some (both a b) else
    (if eqb k 9 then Some (either a b) else Some 0))))))))

-- The number of an operation that takes two values.
abbrev pub operation_number : Operation → ℕ
operation_number Plus = 1
operation_number Minus = 2
operation_number Times = 3
operation_number Divided = 4
operation_number LeftOver = 5
operation_number Same = 6
operation_number Below = 7
operation_number And = 8
operation_number Or = 9

-- What the number k is read as: the operation of this number, or none, where it is 0 or above 9.
abbrev pub ReadAs : ℕ → Result Operation Unknown → Type 0
ReadAs k (Ok o) = k ≡ operation_number o
ReadAs k (Err e) = 1 ≤ k → 10 ≤ k

-- Each operation that takes two values is the one of its number.
pub operates_on_two : (o : Op) → length (domain o) ≡ 2 → (a b : ℕ) → apply o (a ∷ b ∷ []) ≡ applied (operated (op_number o) a b)
unfolding applied divides operated op_number domain apply of_two of_divided unless_zero
operates_on_two (constant s v) e a b = absurd (omega arith)
operates_on_two add e a b = refl
operates_on_two sub e a b = refl
operates_on_two mul e a b = refl
operates_on_two div e a zero = refl
operates_on_two div e a (suc b) = refl
operates_on_two rem e a zero = refl
operates_on_two rem e a (suc b) = refl
operates_on_two eq e a b = refl
operates_on_two lt e a b = refl
operates_on_two and e a b = refl
operates_on_two or e a b = refl
operates_on_two neg e a b = absurd (omega arith)
