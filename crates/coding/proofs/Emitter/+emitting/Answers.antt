-- `coding::Emitter::term` and `coding::Emitter::row` meet their contracts. Assumes nothing.
use Rattle.std.proofs.Common.{arith}
use Rattle.coding.proofs.Emitting as laws
use Rattle.coding.proofs.Emitter.+emitting.Goals.{term-then-depth-eq0-via-then-depth-eq0, term-then-depth-eq0-via-else-depth-eq0+then-self-at}
use Rattle.coding.proofs.Emitter.+emitting.Goals as goal

pub term-returns-then-depth-eq0 : goal.term-returns-then-depth-eq0
term-returns-then-depth-eq0 t c = elim c.then-depth-eq0.branch [
  | term-then-depth-eq0-via-then-depth-eq0 w ↦ laws.emit_deep _ _ _ _ _ _ _ _ w.if-depth-eq0.true
  | term-then-depth-eq0-via-else-depth-eq0+then-self-at w ↦ laws.emit_out _ _ _ _ _ _ _ _ w.if-self-at.true
]

pub term-returns-then-end-at : goal.term-returns-then-end-at
term-returns-then-end-at t c =
    laws.emit_more _ _ _ _ c.args.at _ _ _ _ _ (omega arith) c.put_instruction.ensures (laws.row_end _ _ _ _ _ _ _ _ _ _ _ (rw c.end.ensures at c.if-end-at.true))

pub term-returns : goal.term-returns
term-returns t c =
    laws.emit_more _ _ _ _ c.args.at _ _ _ _ _ (omega arith) c.put_instruction.ensures (rw c.arguments.ensures at c.row.ensures)

pub row-returns-then-row-at : goal.row-returns-then-row-at
row-returns-then-row-at t c = c.loop-row.invariant.1 _ (laws.row_stuck _ _ _ _ _ _ _ _ _ _ _ _ c.loop-row-test.true c.end.ensures c.if-row-at.true)

pub row-loop-row-preserved : goal.row-loop-row-preserved
row-loop-row-preserved t c = (
  omega arith,
  λ c' p. c.loop-row.invariant.1 c'
      (laws.row_more _ _ _ _ c.loop-row.row.at _ c.loop-row.row.lead _ _ _ _ _ _ _ _ _
      c.loop-row-test.true (omega arith) c.end.ensures c.follower.ensures c.term.ensures c.saturating_sub.ensures p),
)

pub row-returns : goal.row-returns
row-returns t c = c.loop-row.invariant.1 _ (laws.row_end _ _ _ _ _ _ _ _ _ _ _ c.loop-row-test.false)
