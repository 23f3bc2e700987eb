-- `kinds::Registers::choose` meets its contract. Assumes nothing.
use mathlib.Core.Path.{refl}
use Prim.Native.Nat.{◌-◌}
use native.Mathlib.Omega.{arith}
use Rattle.meaning.specs.Machine.{obey, rewrites}
use Rattle.layout.proofs.Steps.{stay_comes, choose_nothing, choose_branch}
use Rattle.kinds.specs.Met.{is_made, is_stuck}
use Rattle.kinds.proofs.Registers.choose.Goals as goal

pub returns-then-self-eq0 : goal.returns-then-self-eq0
unfolding obey
returns-then-self-eq0 c =
    is_stuck (choose_nothing c.args.instruction.now 0 _ _ c.args.work.now c.args.self.held c.args.self.deep c.then-self-eq0.either) refl refl

pub returns : goal.returns
unfolding obey rewrites
returns c =
    let s = c.args.self in
    let w = c.args.work.now in
    let branch = choose_branch c.args.instruction.now 0 _ _ w s.held s.deep (omega arith) (omega arith) in
    is_made _ refl (stay_comes _ w _ s.env s.high _ s.deep (s.deep - 1) c.requires.good c.requires.going (omega arith) branch) c.rewrite.ensures
