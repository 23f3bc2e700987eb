-- `kinds::Registers::push` meets its contract. Assumes nothing.
use mathlib.Core.Path.{refl}
use native.Mathlib.Omega.{arith}
use Rattle.layout.proofs.Steps.{push_comes, high_push}
use Rattle.kinds.specs.Met.{is_made, is_deep}
use Rattle.kinds.proofs.Registers.push.Goals as goal

pub returns-then-self-ge-MOST_HEIGHT : goal.returns-then-self-ge-MOST_HEIGHT
returns-then-self-ge-MOST_HEIGHT c =
    let s = c.args.self in
    is_deep (high_push c.args.work.now s.held _ s.deep _ _ _ _ c.if-self-ge-MOST_HEIGHT.true refl) refl refl

pub returns : goal.returns
returns c =
    let s = c.args.self in
    is_made _ refl (push_comes c.args.work.now s.env s.high s.held s.deep c.requires.good c.requires.going (omega arith) _ c.args.after c.args.v refl) refl
