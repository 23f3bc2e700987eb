-- `frames::fill` meets its contract. Assumes nothing.
use Rattle.frames.proofs.Filling.{filled}
use Rattle.frames.proofs.fill.Goals as goal

pub returns : goal.returns
returns c = filled _ _ _ _ _ _ _ _ c.requires.0 c.requires.1 c.move_values.ensures c.copy_entrances-n.ensures
