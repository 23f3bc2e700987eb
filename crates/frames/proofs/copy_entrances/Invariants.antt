-- What holds at each turn of the loop of `frames::copy_entrances`. Assumes nothing.
use Rattle.frames.specs.Frames.{Copied}
use Rattle.frames.proofs.Filling.{yet}
use Rattle.frames.proofs.copy_entrances.Given as goal

abbrev pub invariant-loop-n : goal.invariant-loop-n
invariant-loop-n l = Copied l.initial.part l.part l.k l.n l.entrances (yet l.entrances l.k l.n)
