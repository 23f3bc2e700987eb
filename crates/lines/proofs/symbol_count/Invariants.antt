-- What holds at each turn of the loop of `lines::symbol_count`: the lines that are left. Assumes nothing.
use mathlib.Core.Path.{◌≡◌}
use mathlib.Core.List.{map}
use Prim.Native.Nat.{◌+◌, ◌≤◌}
use lib.ListN.{length}
use Rattle.meaning.specs.Text.{judge_symbols, lines}
use Rattle.lines.specs.Lines.{raw_lines}
use Rattle.lines.proofs.Laws.{as_line, lengths}
use Rattle.lines.proofs.symbol_count.Given as goal

abbrev pub invariant-loop-n : goal.invariant-loop-n
invariant-loop-n l =
    let left = raw_lines l.n-iterator.iter.rest.now in
    record {
      next : (goal.iterator-loop-n).can_next l.n-iterator;
      finite : (goal.iterator-loop-n).is_finite l.n-iterator;
      place : l.n-iterator.count + (lengths left + length left) ≤ length l.text;
      few : l.seen ≤ 1024;
      judged : judge_symbols (l.n-iterator.count + 1) l.seen (map as_line left) ≡ judge_symbols 1 0 (lines l.text);
    }
