-- `frames::enter` meets its contract. Assumes nothing.
use Rattle.frames.proofs.Entering.{entered}
use Rattle.frames.proofs.enter.Goals as goal

pub returns : goal.returns
returns c = entered _ _ _ _ c.args.caller.held _ _ _ _ c.requires.0 c.requires.2 c.requires.3 c.requires.1 c.fill.ensures
