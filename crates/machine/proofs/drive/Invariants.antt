-- What holds at each turn of the loop of `machine::drive`, and its measure. Assumes nothing.
use Prim.Native.Nat.{◌-◌, ◌≤◌}
use Rattle.meaning.specs.Machine.{run}
use Rattle.layout.specs.Decoding.{decode}
use Rattle.layout.specs.Layout.{holds}
use Rattle.machine.proofs.Loop.{On}
use Rattle.machine.proofs.drive.Given as goal

abbrev pub invariant-loop-s : goal.invariant-loop-s
invariant-loop-s l = (1 ≤ l.s.high) × On l.code l.initial.work l.limit (run (decode l.code) l.limit (holds l.initial.work l.begin 1 1 0 0) 0 0) l.work l.s

abbrev pub decreases-loop-s : goal.decreases-loop-s
decreases-loop-s l = l.limit - l.s.tally.steps
