-- What holds at each turn of the loop of `machine::begin`. Assumes nothing.
use mathlib.Core.Path.{◌≡◌}
use lib.ListN.{length}
use Rattle.machine.proofs.Beginning.{Given}
use Rattle.machine.proofs.begin.Given as goal

abbrev pub invariant-loop-n : goal.invariant-loop-n
invariant-loop-n l = (length l.work ≡ length l.initial.work) × Given l.initial.work l.work l.args l.n
