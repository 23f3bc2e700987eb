-- What holds at each turn of the loop of `lines::repeats`. Assumes nothing.
use mathlib.Core.Path.{◌≡◌}
use mathlib.Core.List.{[]}
use Rattle.lines.specs.Lines.{judge_packed}
use Prim.Native.Nat.{◌+◌}
use lib.ListN.{take, drop}
use Rattle.lines.proofs.repeats.Given as goal

abbrev pub invariant-loop-n : goal.invariant-loop-n
invariant-loop-n l = judge_packed (l.n + 1) (take l.n l.names) (drop l.n l.names) ≡ judge_packed 1 [] l.names
