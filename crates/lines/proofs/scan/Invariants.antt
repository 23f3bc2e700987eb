-- What holds at each turn of the loop of `lines::scan`. Assumes nothing.
use Rattle.lines.specs.Lines.{raw_lines}
use Rattle.lines.proofs.Laws as laws
use Rattle.lines.proofs.scan.Given as goal

abbrev pub invariant-loop-line : goal.invariant-loop-line
invariant-loop-line l = laws.Scanning l.text l.initial.names l.names l.initial.heads l.heads (raw_lines l.line-iterator.rest.now) l.functions l.symbols
