-- What holds at each turn of the loop of `heads::put_heads`. Assumes nothing.
use Rattle.std.proofs.Common.{◌≡◌, ◌++◌, length, take, drop}
use Rattle.heads.specs.Heads.{heads_list}
use Rattle.heads.proofs.put_heads.Given as goal

abbrev pub invariant-loop-i : goal.invariant-loop-i
invariant-loop-i l =
    let i = length l.yielded in
    l.heads ≡ heads_list (take i l.signatures) (take i l.bodies) ++ drop i l.initial.heads
