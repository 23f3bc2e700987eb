-- What holds at each turn of the loop of `bodies::fill`: the fields that are left. Assumes nothing.
use mathlib.Core.Path.{◌≡◌}
use Prim.Native.Nat.{◌+◌}
use lib.ListN.{length}
use Rattle.fields.specs.Fields.{rest}
use Rattle.lines.specs.Splice.{splice}
use Rattle.bodies.specs.Bodies.{symbols_by}
use Rattle.bodies.proofs.fill.Given as goal

abbrev pub invariant-loop-field : goal.invariant-loop-field
invariant-loop-field l =
    let left = rest 9 l.field-iterator.rest.now in
    let all = rest 9 l.body in
    record {
      place : l.to + length left ≡ l.from + length all;
      symbols : splice l.symbols l.to (symbols_by l.names left) ≡ splice l.initial.symbols l.from (symbols_by l.names all);
    }
