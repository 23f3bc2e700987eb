-- What holds at each turn of the loop of `entrances::pass`. Assumes nothing.
use Rattle.std.proofs.Common.{ℕ, ◌-◌}
use Rattle.entrances.specs.Entrances.{Passed}
use Rattle.entrances.proofs.pass.Given as goal

abbrev pub invariant-loop : goal.invariant-loop
invariant-loop l = (r : ℕ) → Passed l.table.ends.now l.at (l.count - l.counter) r → Passed l.table.ends.now l.fn.at l.count r
