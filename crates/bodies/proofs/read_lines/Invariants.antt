-- What holds at each turn of the loop of `bodies::read_lines`: the lines that are left. Assumes nothing.
use Prim.Native.Nat.{◌+◌}
use lib.ListN.{drop}
use Rattle.meaning.specs.Text.{lines}
use Rattle.lines.specs.Lines.{raw_lines}
use Rattle.bodies.proofs.Laws.{Reading}
use Rattle.bodies.proofs.read_lines.Given as goal

abbrev pub invariant-loop-n : goal.invariant-loop-n
invariant-loop-n l =
    record {
      next : (goal.iterator-loop-n).can_next l.n-iterator;
      finite : (goal.iterator-loop-n).is_finite l.n-iterator;
      reading : Reading l.text l.first (lines (drop l.start l.text)) l.initial.bodies l.bodies l.initial.symbols l.symbols l.initial.ends l.ends l.from l.at (l.first + l.n-iterator.count) (raw_lines l.n-iterator.iter.rest.now);
    }
