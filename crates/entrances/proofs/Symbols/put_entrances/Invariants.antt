-- What holds at each turn of the loop of `entrances::Symbols::put_entrances`. Assumes nothing.
use Rattle.std.proofs.Common.{ℕ, List}
use Rattle.entrances.specs.Entrances.{Entrances}
use Rattle.entrances.proofs.Symbols.put_entrances.Given as goal

abbrev pub invariant-loop-entrance : goal.invariant-loop-entrance
invariant-loop-entrance l =
    let H = l.self.table.heads.now in
    let W = l.self.table.symbols.now in
    let E = l.self.table.ends.now in
    (c : List ℕ) → Entrances H W E l.at l.end l.depth l.entrance-index l.out c → Entrances H W E l.fn.at l.end l.depth 0 l.initial.out c
