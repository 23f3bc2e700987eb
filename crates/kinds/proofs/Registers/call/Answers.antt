-- `kinds::Registers::call` meets its contract. Assumes nothing.
use mathlib.Core.Path.{refl, ◌∙◌}
use Prim.Native.Nat.{◌+◌, ◌<◌}
use native.Mathlib.Omega.{arith}
use lib.ListN.{length}
use Rattle.layout.specs.Layout.{values_from}
use Rattle.layout.proofs.Steps.{high_open, call_is}
use Rattle.frames.proofs.Entering.{call_comes}
use Rattle.kinds.specs.Met.{is_made, is_deep, is_stuck}
use Rattle.kinds.proofs.Meeting.{meets_as}
use Rattle.kinds.proofs.Calls.{rewrites_call, calls_nothing, calls_body}
use Rattle.kinds.proofs.Registers.call.Goals as goal

pub returns-then-strict-gt-MOST_ARGUMENTS : goal.returns-then-strict-gt-MOST_ARGUMENTS
returns-then-strict-gt-MOST_ARGUMENTS c =
    let s = c.args.self in
    let room : values_from + s.deep < length c.args.work.now = omega (arith, c.requires.good.room, c.requires.good.deep) in
    is_stuck (calls_nothing c.args.instruction.now _ c.args.work.now s.high s.held s.deep s.env c.requires.going room c.then-strict-gt-MOST_ARGUMENTS.either) refl refl

pub returns-then-level-gt-MOST_HEIGHT : goal.returns-then-level-gt-MOST_HEIGHT
returns-then-level-gt-MOST_HEIGHT c =
    let s = c.args.self in
    let w = c.args.work.now in
    let room : values_from + s.deep < length w = omega (arith, c.requires.good.room, c.requires.good.deep) in
    let calls = calls_body c.args.instruction.now _ w s.high s.held s.deep s.env c.if-strict-gt-MOST_ARGUMENTS.false ∙ call_is w s.env s.high s.held s.deep _ _ _ _ _ c.requires.going room c.if-self-strict.false in
    is_deep (high_open w _ s.high _ _ _ _ (omega arith) calls) refl refl

pub returns : goal.returns
returns c =
    let s = c.args.self in
    let few = c.if-strict-gt-MOST_ARGUMENTS.false in
    let calls = calls_body c.args.instruction.now _ c.args.work.now s.high s.held s.deep s.env few in
    let comes = call_comes c.args.work.now _ s.env s.high s.held s.deep _ _ _ c.requires.good c.requires.going (omega arith) c.if-self-strict.false c.enter.ensures _ _ refl in
    meets_as s.tally calls (rewrites_call _ _ few) c.rewrite.ensures (is_made _ refl comes refl)
