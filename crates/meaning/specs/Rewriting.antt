-- Document 01, 'Machine', last part: leftmost rewriting, "the definition to compare with" (document 000, definition 42). Assumes nothing.
use Rattle.std.specs.Prelude.{◌≡◌, refl, List, [], ◌∷◌, ℕ, zero, suc}
use Rattle.std.proofs.Math.Option.{Option, none, some}
use Prim.Native.String.{String}
use Rattle.std.proofs.Math.ListN.{get_elem?}
use Rattle.meaning.specs.Arithmetic.{Op, Applied, gives, by_zero, unfit, apply, of_none, of_one, of_two, unless_zero, of_divided, sum, difference, product, quotient, remainder, equal, less, both, either, opposite}
use Rattle.meaning.specs.Terms.{Term, arg, op, cond, call, Terms, nil, cons, Function, Program}
use Rattle.meaning.specs.Check.{check_text, found}
use Rattle.meaning.specs.Code.{own, initial}

-- Closed terms: "values are apart from constants", and no argument is left in them.
mutual
  pub data Closed : Type 0 where
    val : ℕ → Closed
    op_of : Op → Closeds → Closed
    cond_of : Closed → Closed → Closed → Closed
    call_of : ℕ → Closeds → Closeds → Closed

  pub data Closeds : Type 0 where
    none_left : Closeds
    and_then : Closed → Closeds → Closeds

-- One row after another.
unfoldable pub ◌followed_by◌ : Closeds → Closeds → Closeds
none_left followed_by ds = ds
and_then c cs followed_by ds = and_then c (cs followed_by ds)

infixr 60 ◌followed_by◌
-- Argument i of those put in (0 where there is none).
unfoldable pub argument : Closeds → ℕ → Closed
argument none_left i = val 0
argument (and_then c cs) zero = c
argument (and_then c cs) (suc i) = argument cs i

-- "arguments put in as they stand, copies not shared"
unfoldable mutual
  pub put_in : Term → Closeds → Closed
  put_in (arg i) cs = argument cs i
  put_in (op o ts) cs = op_of o (put_all_in ts cs)
  put_in (cond t x y) cs = cond_of (put_in t cs) (put_in x cs) (put_in y cs)
  put_in (call f ss ws) cs = call_of f (put_all_in ss cs) (put_all_in ws cs)

  pub put_all_in : Terms → Closeds → Closeds
  put_all_in nil cs = none_left
  put_all_in (cons t ts) cs = and_then (put_in t cs) (put_all_in ts cs)

-- Values as terms.
unfoldable pub vals : List ℕ → Closeds
vals [] = none_left
vals (v ∷ vs) = and_then (val v) (vals vs)

-- What one leftmost rewrite makes of a term: it is a value already, it becomes another, it would divide by 0 ("rewriting ends there too"), or no rule
-- fits it.
pub data Rewrite : Type 0 where
  is_value : ℕ → Rewrite
  becomes : Closed → Rewrite
  meets_zero : Rewrite
  no_rule : Rewrite

-- The same for a row of terms of which the leftmost that is no value is rewritten.
pub data RowRewrite : Type 0 where
  are_values : List ℕ → RowRewrite
  become : Closeds → RowRewrite
  row_meets_zero : RowRewrite
  no_rules : RowRewrite

-- A row that begins with a value, or with a term that is none.
unfoldable pub after_value : ℕ → RowRewrite → RowRewrite
after_value v (are_values vs) = are_values (v ∷ vs)
after_value v (become cs) = become (and_then (val v) cs)
after_value v row_meets_zero = row_meets_zero
after_value v no_rules = no_rules

-- The first term of a row, the others after it, and what one rewrite would make of those.
unfoldable pub in_row : Rewrite → Closeds → RowRewrite → RowRewrite
in_row (is_value v) cs others = after_value v others
in_row (becomes c) cs others = become (and_then c cs)
in_row meets_zero cs others = row_meets_zero
in_row no_rule cs others = no_rules

-- "An operation rewrites its leftmost argument that is no value, else itself"; "a constant becomes its value in one rewrite".
unfoldable pub to_value : Applied → Rewrite
to_value (gives v) = becomes (val v)
to_value by_zero = meets_zero
to_value unfit = no_rule

-- An operation, by what one rewrite makes of its arguments.
unfoldable pub rewrite_op : Op → RowRewrite → Rewrite
rewrite_op o (are_values vs) = to_value (apply o vs)
rewrite_op o (become cs) = becomes (op_of o cs)
rewrite_op o row_meets_zero = meets_zero
rewrite_op o no_rules = no_rule

-- "`cond` rewrites its condition, then gives a branch."
unfoldable pub branch : ℕ → Closed → Closed → Rewrite
branch zero x y = becomes y
branch (suc zero) x y = becomes x
branch (suc (suc v)) x y = no_rule

-- A `cond`, by what one rewrite makes of its condition.
unfoldable pub rewrite_cond : Rewrite → Closed → Closed → Rewrite
rewrite_cond (is_value v) x y = branch v x y
rewrite_cond (becomes c) x y = becomes (cond_of c x y)
rewrite_cond meets_zero x y = meets_zero
rewrite_cond no_rule x y = no_rule

-- "A call rewrites the first of its strict arguments that is no value; when all are values, the body replaces it."
unfoldable pub body_of : Option Function → Closeds → Rewrite
body_of none cs = no_rule
body_of (some F) cs = becomes (put_in F.body cs)

-- A call, by what one rewrite makes of its strict arguments.
unfoldable pub rewrite_call : Program → ℕ → RowRewrite → Closeds → Rewrite
rewrite_call P f (are_values vs) ws = body_of (get_elem? P f) (vals vs followed_by ws)
rewrite_call P f (become cs) ws = becomes (call_of f cs ws)
rewrite_call P f row_meets_zero ws = meets_zero
rewrite_call P f no_rules ws = no_rule

-- One leftmost rewrite of a term.
unfoldable mutual
  pub rewrite : Program → Closed → Rewrite
  rewrite P (val v) = is_value v
  rewrite P (op_of o cs) = rewrite_op o (rewrite_row P cs)
  rewrite P (cond_of c x y) = rewrite_cond (rewrite P c) x y
  rewrite P (call_of f ss ws) = rewrite_call P f (rewrite_row P ss) ws

  pub rewrite_row : Program → Closeds → RowRewrite
  rewrite_row P none_left = are_values []
  rewrite_row P (and_then c cs) = in_row (rewrite P c) cs (rewrite_row P cs)

-- n rewrites, one after the other, and what the term that they lead to is.
unfoldable pub from_there : Rewrite → (Closed → Rewrite) → Rewrite
from_there (is_value v) go_on = no_rule
from_there (becomes c) go_on = go_on c
from_there meets_zero go_on = no_rule
from_there no_rule go_on = no_rule

-- The same from a term on.
unfoldable pub rewrite_times : Program → ℕ → Closed → Rewrite
rewrite_times P zero c = rewrite P c
rewrite_times P (suc n) c = from_there (rewrite P c) (rewrite_times P n)

-- Leftmost rewriting of c reaches the value v in exactly n rewrites.
unfoldable pub Reaches : Program → Closed → ℕ → ℕ → Type 0
Reaches P c n v = rewrite_times P n c ≡ is_value v

-- Leftmost rewriting of c meets a division by 0 after exactly n rewrites.
unfoldable pub MeetsZero : Program → Closed → ℕ → Type 0
MeetsZero P c n = rewrite_times P n c ≡ meets_zero

-- The entry call: the initial term with the argument values put in.
unfoldable pub entry_call : Program → List ℕ → Closed
entry_call P vs = put_in (initial P) (vals vs)

-- Rewriting of a text's entry call, for the examples, with all that it computes by.
unfoldable pub rewrite_text : String → List ℕ → ℕ → Rewrite
unfolding check_text found own initial ◌followed_by◌ argument put_in vals after_value in_row to_value rewrite_op branch rewrite_cond body_of rewrite_call rewrite from_there rewrite_times entry_call apply of_none of_one of_two unless_zero of_divided sum difference product quotient remainder equal less both either opposite
rewrite_text s vs n = let P = found (check_text s) in rewrite_times P n (entry_call P vs)

-- DIF at 3 and 4294967290: the call, then the difference.
pub dif_rewrites : rewrite_text "DIF\t2\tnn\tn\t-\ta\tb\n" (3 ∷ 4294967290 ∷ []) 2 ≡ is_value 9
unfolding rewrite_text
dif_rewrites = refl

-- A constant is no value yet: `+ 1 a` at 7 takes the call, one rewrite of the constant, and the sum.
pub constant_rewrites : rewrite_text "INC\t1\tn\tn\t+\t1\ta\n" (7 ∷ []) 3 ≡ is_value 8
unfolding rewrite_text
constant_rewrites = refl

-- DIV at 7 and 0: the call, and then the division.
pub div_rewrites : rewrite_text "DIV\t2\tnn\tn\t/\ta\tb\n" (7 ∷ 0 ∷ []) 1 ≡ meets_zero
unfolding rewrite_text
div_rewrites = refl
