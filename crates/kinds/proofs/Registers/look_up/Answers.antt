-- `kinds::Registers::look_up` meets its contract. Assumes nothing.
use mathlib.Core.Path.{refl}
use native.Mathlib.Omega.{arith}
use Rattle.layout.specs.Layout.{opened}
use Rattle.kinds.specs.Met.{is_stuck}
use Rattle.kinds.proofs.Calls.{rewrites_eval}
use Rattle.kinds.proofs.Meeting.{meets_as}
use Rattle.kinds.proofs.Lookups.{looks_nowhere, looks_value, looks_outside, looks_waiting}
use Rattle.kinds.proofs.Registers.look_up.Goals as goal

pub returns-then-position-eq0 : goal.returns-then-position-eq0
returns-then-position-eq0 c = is_stuck (looks_nowhere _ _ _ _ _ _ _ c.requires.good.inner c.then-position-eq0.either) refl refl

pub returns-then-position-work : goal.returns-then-position-work
returns-then-position-work c =
    let finds = looks_value _ _ _ _ _ _ _ c.requires.good.inner c.if-position-eq0.false c.if-self-eq0.false c.if-position-gt-MOST_ARGUMENTS.false c.if-position-work.true in
    meets_as c.args.self.tally finds (rewrites_eval _ _) c.step.ensures c.push.ensures

pub returns-then-work-level : goal.returns-then-work-level
returns-then-work-level c =
    is_stuck (looks_outside _ _ _ _ _ _ _ c.requires.good.inner c.if-position-eq0.false c.if-self-eq0.false c.if-position-gt-MOST_ARGUMENTS.false c.if-position-work.false c.if-work-level.true) refl refl

pub returns : goal.returns
unfolding opened
returns c =
    let good = c.requires.good in
    let lower = good.links c.args.self.env (omega arith) good.inner in
    let finds = looks_waiting _ _ _ _ _ _ _ good.inner c.if-position-eq0.false c.if-self-eq0.false c.if-position-gt-MOST_ARGUMENTS.false c.if-position-work.false c.if-work-level.false lower in
    meets_as c.args.self.tally finds (rewrites_eval _ _) refl c.open_level.ensures
