-- What holds at each turn of the loop of `answers::values_fit`. Assumes nothing.
use Rattle.std.proofs.Common.{◌≡◌, drop}
use Rattle.answers.specs.Fitting.{masked}
use Rattle.answers.proofs.values_fit.Given as goal

abbrev pub invariant-loop-v : goal.invariant-loop-v
invariant-loop-v l = masked l.mask (drop l.v-index l.args) ≡ masked l.fn.mask l.args
