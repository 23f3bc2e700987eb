-- A rewriting that is not document 01's: it works waiting arguments out early, as the engine did that came with the rules (document 00). It stands here
-- only to be refuted. Assumes nothing.
use Rattle.std.specs.Prelude.{map, length}
use Rattle.meaning.specs.Terms.{Term, arg, op, cond, call, Terms, nil, cons, Program}

-- Two rows of terms as one.
unfoldable pub one_row : Terms → Terms → Terms
one_row nil ws = ws
one_row (cons t ts) ws = cons t (one_row ts ws)

-- A body in which every argument of every call is strict.
unfoldable mutual
  pub early_term : Term → Term
  early_term (arg i) = arg i
  early_term (op o ts) = op o (early_row ts)
  early_term (cond t x y) = cond (early_term t) (early_term x) (early_term y)
  early_term (call f ss ws) = call f (one_row (early_row ss) (early_row ws)) nil

  pub early_row : Terms → Terms
  early_row nil = nil
  early_row (cons t ts) = cons (early_term t) (early_row ts)

-- A program of such bodies.
unfoldable pub early : Program → Program
early = map λ F. record { sorts = F.sorts; strict = length F.sorts; result = F.result; body = early_term F.body }
