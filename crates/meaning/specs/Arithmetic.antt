-- Document 01, 'Rule text': the ten operations on numbers of 32 bits and on yes/no. Assumes nothing.
use Rattle.std.specs.Prelude.{◌≡◌, refl, Bool, true, false, not, ◌&&◌, ◌||◌, List, [], ◌∷◌, ℕ, zero, suc, ◌+◌, ◌-◌, ◌*◌, ◌/◌, ◌%◌, ◌^◌, ltb, eqb}

-- "All arithmetic on numbers is modulo 2^32."
abbrev pub modulus : ℕ
modulus = 2 ^ 32

-- `+`
unfoldable pub sum : ℕ → ℕ → ℕ
sum a b = (a + b) % modulus

-- `-`
unfoldable pub difference : ℕ → ℕ → ℕ
difference a b = (a + (modulus - b)) % modulus

-- "so 3 - 4294967290 is 9"
pub difference_wraps : difference 3 4294967290 ≡ 9
unfolding difference
difference_wraps = refl

-- `*`
unfoldable pub product : ℕ → ℕ → ℕ
product a b = (a * b) % modulus

-- "`/` and `%` round down". What they come to where the divisor is 0 stands below. `/`
unfoldable pub quotient : ℕ → ℕ → ℕ
quotient a b = a / b

-- `%`
unfoldable pub remainder : ℕ → ℕ → ℕ
remainder a b = a % b

-- "Yes is 1, no is 0." A test as a yes/no, and a yes/no as a test.
abbrev pub truth : Bool → ℕ
truth true = 1
truth false = 0

abbrev pub is_yes : ℕ → Bool
is_yes a = not (eqb a 0)

-- `=`
unfoldable pub equal : ℕ → ℕ → ℕ
equal a b = truth (eqb a b)

-- `<`
unfoldable pub less : ℕ → ℕ → ℕ
less a b = truth (ltb a b)

-- `&` ("`&` and `|` work out both sides")
unfoldable pub both : ℕ → ℕ → ℕ
both a b = truth (is_yes a && is_yes b)

-- `|`
unfoldable pub either : ℕ → ℕ → ℕ
either a b = truth (is_yes a || is_yes b)

-- `!`
unfoldable pub opposite : ℕ → ℕ
opposite a = truth (eqb a 0)

pub yes_is_one : equal 7 7 ∷ less 7 7 ∷ both 1 0 ∷ either 1 0 ∷ opposite 1 ∷ [] ≡ 1 ∷ 0 ∷ 0 ∷ 1 ∷ 0 ∷ []
unfolding equal less both either opposite
yes_is_one = refl

-- n (number) and b (yes/no).
pub data Sort : Type 0 where
  number yes_no : Sort

-- An operation: a constant of a sort takes nothing, `!` one value, each other two.
pub data Op : Type 0 where
  constant : Sort → ℕ → Op
  add sub mul div rem : Op
  eq lt : Op
  and or : Op
  neg : Op

-- "operation (0 constant, then 1 to 10 for `+ - * / % = < & | !`), constant's value"
unfoldable pub op_number : Op → ℕ
op_number (constant s v) = 0
op_number add = 1
op_number sub = 2
op_number mul = 3
op_number div = 4
op_number rem = 5
op_number eq = 6
op_number lt = 7
op_number and = 8
op_number or = 9
op_number neg = 10

-- The constant's value; 0 for an operation that is none.
unfoldable pub op_constant : Op → ℕ
op_constant (constant s v) = v
op_constant add = 0
op_constant sub = 0
op_constant mul = 0
op_constant div = 0
op_constant rem = 0
op_constant eq = 0
op_constant lt = 0
op_constant and = 0
op_constant or = 0
op_constant neg = 0

-- "`+ - * / %` (two numbers to a number); `= <` (two numbers to b); `& |` (two b to b); `!` (b to b)": the sorts that an operation takes,
unfoldable pub domain : Op → List Sort
domain (constant s v) = []
domain add = number ∷ number ∷ []
domain sub = number ∷ number ∷ []
domain mul = number ∷ number ∷ []
domain div = number ∷ number ∷ []
domain rem = number ∷ number ∷ []
domain eq = number ∷ number ∷ []
domain lt = number ∷ number ∷ []
domain and = yes_no ∷ yes_no ∷ []
domain or = yes_no ∷ yes_no ∷ []
domain neg = yes_no ∷ []

-- and the one that it gives.
unfoldable pub range : Op → Sort
range (constant s v) = s
range add = number
range sub = number
range mul = number
range div = number
range rem = number
range eq = yes_no
range lt = yes_no
range and = yes_no
range or = yes_no
range neg = yes_no

-- What an operation comes to at the values that it is given: a value; no value, because its divisor is 0; or they are not as many as it takes.
pub data Applied : Type 0 where
  gives : ℕ → Applied
  by_zero : Applied
  unfit : Applied

-- A function of no value, of one and of two at a list of values.
unfoldable pub of_none : ℕ → List ℕ → Applied
of_none v [] = gives v
of_none v (a ∷ vs) = unfit

unfoldable pub of_one : (ℕ → ℕ) → List ℕ → Applied
of_one f [] = unfit
of_one f (a ∷ []) = gives (f a)
of_one f (a ∷ b ∷ vs) = unfit

unfoldable pub of_two : (ℕ → ℕ → ℕ) → List ℕ → Applied
of_two f [] = unfit
of_two f (a ∷ []) = unfit
of_two f (a ∷ b ∷ []) = gives (f a b)
of_two f (a ∷ b ∷ c ∷ vs) = unfit

-- "A divisor of 0 has to stop the run": a value, unless the divisor is 0, and a function of two of which the second divides.
unfoldable pub unless_zero : ℕ → ℕ → Applied
unless_zero zero v = by_zero
unless_zero (suc b) v = gives v

unfoldable pub of_divided : (ℕ → ℕ → ℕ) → List ℕ → Applied
of_divided f [] = unfit
of_divided f (a ∷ []) = unfit
of_divided f (a ∷ b ∷ []) = unless_zero b (f a b)
of_divided f (a ∷ b ∷ c ∷ vs) = unfit

-- What an operation comes to at the values that it is given.
unfoldable pub apply : Op → List ℕ → Applied
apply (constant s v) = of_none v
apply add = of_two sum
apply sub = of_two difference
apply mul = of_two product
apply div = of_divided quotient
apply rem = of_divided remainder
apply eq = of_two equal
apply lt = of_two less
apply and = of_two both
apply or = of_two either
apply neg = of_one opposite

pub minus_at_work : apply sub (3 ∷ 4294967290 ∷ []) ≡ gives 9
unfolding apply of_two difference
minus_at_work = refl

pub divisor_zero : apply div (7 ∷ 0 ∷ []) ∷ apply rem (7 ∷ 0 ∷ []) ∷ apply div (7 ∷ 2 ∷ []) ∷ apply rem (7 ∷ 2 ∷ []) ∷ []
    ≡ by_zero ∷ by_zero ∷ gives 3 ∷ gives 1 ∷ []
unfolding apply of_divided unless_zero quotient remainder
divisor_zero = refl
