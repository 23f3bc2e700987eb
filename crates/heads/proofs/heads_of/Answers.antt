-- `heads::heads_of` meets its contract. Assumes nothing.
use Rattle.std.proofs.Common.{◌∙◌}
use Rattle.heads.proofs.Laws.{put_first}
use Rattle.heads.proofs.heads_of.Goals as goal

pub returns : goal.returns
returns c = c.put_heads.ensures ∙ put_first c.args.signatures.now c.args.bodies.now c.args.n c.requires.1
