-- `kinds::Registers::open_level` meets its contract. Assumes nothing.
use mathlib.Core.Path.{refl}
use native.Mathlib.Omega.{arith}
use Rattle.layout.specs.Layout.{opened}
use Rattle.layout.proofs.Steps.{high_open, opened_comes}
use Rattle.kinds.specs.Met.{is_made, is_deep}
use Rattle.kinds.proofs.Registers.open_level.Goals as goal

pub returns-then-self-ge-MOST_HEIGHT : goal.returns-then-self-ge-MOST_HEIGHT
unfolding opened
returns-then-self-ge-MOST_HEIGHT c =
    is_deep (high_open c.args.work.now _ c.args.self.high _ _ _ _ c.if-self-ge-MOST_HEIGHT.true refl) refl refl

pub returns : goal.returns
returns c =
    let s = c.args.self in
    let comes = opened_comes c.args.work.now c.args.entrance c.args.after s.env s.high s.held s.deep s.env c.requires.0.good c.requires.0.going c.requires.1 (omega arith) refl in
    is_made _ refl comes c.step.ensures
