-- `frames::copy_entrances` meets its contract. Assumes nothing.
use native.Mathlib.Omega.{arith}
use Rattle.frames.proofs.Filling.{copied_none, copied_stop, copied_all, copied_more}
use Rattle.frames.proofs.copy_entrances.Goals as goal

pub loop-n-init : goal.loop-n-init
loop-n-init c = copied_none _ _ _ c.requires.0

pub returns-then-entrance-eq0 : goal.returns-then-entrance-eq0
returns-then-entrance-eq0 c = copied_stop _ _ _ _ _ c.loop-n.invariant c.if-entrance-eq0.true

pub loop-n-preserved : goal.loop-n-preserved
loop-n-preserved c = copied_more _ _ _ _ _ c.requires.1 (omega arith) c.loop-n.invariant c.if-entrance-eq0.false

pub returns : goal.returns
returns c = copied_all _ _ _ _ _ (omega arith) c.loop-n.invariant
