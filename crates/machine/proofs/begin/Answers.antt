-- `machine::begin` meets its contract. Assumes nothing.
use mathlib.Core.Path.{refl}
use native.Mathlib.Omega.{arith}
use lib.ListN.{length-set}
use borrow.Author.Rules.{rules}
use Rattle.machine.proofs.Beginning.{given_none, given_more, given_all, begun}
use Rattle.machine.proofs.begin.Goals as goal

pub loop-n-init : goal.loop-n-init
loop-n-init c = (refl, given_none _ _)

pub loop-n-preserved : goal.loop-n-preserved
loop-n-preserved c = let l = c.loop-n in (simp length-set (search rules), given_more c.args.work.now l.work c.args.args.now l.n c.requires.0 (omega (arith, c.requires.1)) l.invariant.1)

pub returns : goal.returns
returns c = begun c.args.work.now c.loop-n.work c.args.args.now c.requires.0 c.requires.1 (given_all _ _ _ _ c.loop-n.invariant.1 (omega arith) (omega arith))
