-- `entrances::pass` meets its contract. Assumes nothing.
use Rattle.std.proofs.Common.{arith}
use Rattle.entrances.proofs.Laws as laws
use Rattle.entrances.proofs.pass.Goals as goal

pub loop-preserved : goal.loop-preserved
loop-preserved c = λ r p. c.loop.invariant r (laws.pass_more _ _ _ _ r (omega arith) (rw c.end-at.ensures at p))

pub returns : goal.returns
returns c = c.loop.invariant _ (laws.pass_none _ _ _ (omega arith))
