-- What holds at each turn of the loop of `reading::initial`: once what is left is written, all is. Assumes nothing.
use Rattle.std.proofs.Common.{◌≡◌, ◌∷◌, ◌+◌, ◌-◌, map}
use Rattle.std.specs.List.{range_with_len}
use Rattle.table.specs.declared.Symbol.TheVariants.{Argument, Function}
use Rattle.lines.specs.Splice.{splice}
use Rattle.reading.proofs.initial.Given as goal

abbrev pub invariant-loop-i : goal.invariant-loop-i
invariant-loop-i l =
    let n = l.fn.arguments in record {
      symbols : splice l.symbols (l.i + 1) (map Argument (range_with_len l.i (n - l.i))) ≡ splice l.fn.symbols 0 (Function 0 ∷ map Argument (range_with_len 0 n));
      ends : splice l.ends (l.i + 1) (range_with_len (l.i + 2) (n - l.i)) ≡ splice l.fn.ends 0 ((n + 1) ∷ range_with_len 2 n);
    }
