-- `kinds::Registers::go_back` meets its contract. Assumes nothing.
use mathlib.Core.Path.{refl}
use Rattle.meaning.specs.Machine.{obey, rewrites}
use Rattle.layout.proofs.Steps.{back_comes}
use Rattle.kinds.specs.Met.{is_made}
use Rattle.kinds.proofs.Registers.go_back.Goals as goal

pub returns : goal.returns
unfolding obey rewrites
returns c =
    let s = c.args.self in
    is_made _ refl (back_comes c.args.work.now s.env s.high s.held s.deep c.requires.good c.requires.going) c.step.ensures
