-- A term as its symbol sees it: the symbol, its row of arguments, how many of them are worked out before it, what follows them, and its one instruction.
-- The pages of `meaning` say the same by kinds of terms; proofs/View.antt joins the two. Assumes nothing.
use Rattle.std.specs.Prelude.{◌≡◌, refl, List, [], ◌∷◌, ◌++◌, ℕ, zero, suc, ◌+◌, get_or, slice_get}
use Rattle.std.specs.Option.{option_map_or}
use Rattle.meaning.specs.Arithmetic.{add, neg}
use Rattle.meaning.specs.Terms.{Term, arg, op, cond, call, Terms, nil, cons, Program}
use Rattle.meaning.specs.Code.{size, sizes, count, entrance, row_entrance, entrances, unsorted, Instruction, EVAL, EXEC, SELECT, CALL, code}
use Rattle.word.specs.declared.Operation.TheVariants.{Plus}
use Rattle.table.specs.Symbols.{op_symbol}
use Rattle.table.specs.declared.Signature.{Signature}
use Rattle.table.specs.declared.Symbol.{Symbol}
use Rattle.table.specs.declared.Symbol.TheVariants.{Unknown, Argument, Constant, Operation, Not, Cond, Function}

unfoldable pub joined : Terms → Terms → Terms
joined nil us = us
joined (cons t ts) us = cons t (joined ts us)

unfoldable pub root : Term → Symbol
root (arg i) = Argument i
root (op o ts) = op_symbol o
root (cond t x y) = Cond
root (call f ss ws) = Function f

unfoldable pub row : Term → Terms
row (arg i) = nil
row (op o ts) = ts
row (cond t x y) = cons t (cons x (cons y nil))
row (call f ss ws) = joined ss ws

-- How many arguments are worked out before the symbol: all of an operation, the condition of a `cond`, the strict ones of a call.
unfoldable pub lead : Term → ℕ
lead (arg i) = 0
lead (op o ts) = count ts
lead (cond t x y) = 1
lead (call f ss ws) = count ss

-- The table's symbols of the first operation and of `!`.
pub operations_agree : op_symbol add ∷ op_symbol neg ∷ [] ≡ Operation Plus ∷ Not ∷ []
unfolding op_symbol
operations_agree = refl

-- A function's strict count in the signatures, 0 past them.
abbrev pub strict_at : List Signature → ℕ → ℕ
strict_at H f = option_map_or (λ h. h.strict) (slice_get H f) 0

-- The same from the symbol, H being the functions' signatures.
unfoldable pub leads_of : List Signature → Symbol → ℕ
leads_of H Unknown = 0
leads_of H (Argument i) = 0
leads_of H (Constant s v) = 0
leads_of H (Operation o) = 2
leads_of H Not = 1
leads_of H Cond = 1
leads_of H (Function f) = strict_at H f

-- What follows the other arguments, b being what follows the term: "after either branch, what follows that `cond`; after a waiting argument .. RET".
unfoldable pub after : ℕ → Term → ℕ → ℕ
after ret (arg i) b = b
after ret (op o ts) b = b
after ret (cond t x y) b = b
after ret (call f ss ws) b = ret

-- What follows the first term of a row, ts being the others, from address a on: k of the row are worked out before the symbol at `home`.
unfoldable pub follower_of : ℕ → Terms → ℕ → ℕ → ℕ → ℕ
follower_of zero ts a home others = others
follower_of (suc zero) ts a home others = home
follower_of (suc (suc k)) ts a home others = row_entrance ts a home

module _ (bodies : List ℕ) where
  unfoldable pub instruction_of : Term → ℕ → ℕ → Instruction
  instruction_of (arg i) a b = EVAL i b
  instruction_of (op o ts) a b = EXEC (unsorted o) b
  instruction_of (cond t x y) a b = SELECT (entrance x (suc a + size t)) (entrance y (suc a + size t + size x))
  instruction_of (call f ss ws) a b = CALL (get_or bodies f 0) (count ss) (entrances ws (suc a + sizes ss)) b

  module _ (ret : ℕ) where
    unfoldable pub row_code : ℕ → Terms → ℕ → ℕ → ℕ → List Instruction
    row_code k nil a home others = []
    row_code zero (cons t ts) a home others = code bodies ret t a others ++ row_code zero ts (a + size t) home others
    row_code (suc k) (cons t ts) a home others = code bodies ret t a (follower_of (suc k) ts (a + size t) home others) ++ row_code k ts (a + size t) home others

-- The bodies are a row of terms that RET follows.
unfoldable pub bodies_row : Program → Terms
bodies_row [] = nil
bodies_row (F ∷ P) = cons F.body (bodies_row P)
