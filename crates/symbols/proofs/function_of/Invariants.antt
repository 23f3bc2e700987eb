-- What holds at each turn of the loop of `symbols::function_of`. Assumes nothing.
use Rattle.std.proofs.Common.{◌≡◌, drop}
use Rattle.symbols.specs.Symbols.{named_as}
use Rattle.symbols.proofs.function_of.Given as goal

abbrev pub invariant-loop-f : goal.invariant-loop-f
invariant-loop-f l = named_as l.f (drop l.f l.names) l.name ≡ named_as 0 l.names l.name
