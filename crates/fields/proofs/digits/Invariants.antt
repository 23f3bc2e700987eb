-- What holds at each turn of the loop of `fields::digits`. Assumes nothing.
use Rattle.std.proofs.Common.{◌≡◌, drop}
use Rattle.fields.specs.Fields.{digits_from}
use Rattle.fields.proofs.digits.Given as goal

abbrev pub invariant-loop-b : goal.invariant-loop-b
invariant-loop-b l = digits_from l.v (drop l.b-index l.f) ≡ digits_from 0 l.f
