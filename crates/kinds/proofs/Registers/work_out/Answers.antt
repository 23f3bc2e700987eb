-- `kinds::Registers::work_out` meets its contract. Assumes nothing.
use mathlib.Core.Path.{refl}
use Prim.Native.Nat.{◌-◌, ◌≤◌}
use native.Mathlib.Omega.{arith}
use lib.ListN.{get_or}
use Rattle.layout.proofs.Steps.{stay_comes}
use Rattle.kinds.specs.Met.{is_made, is_stuck, is_zero}
use Rattle.kinds.proofs.Meeting.{meets_as}
use Rattle.kinds.proofs.Operations.{rewrites_negation, rewrites_two, exec_gives, exec_divides, exec_few, negation_nothing, exec_negation, exec_unknown}
use Rattle.kinds.proofs.Registers.work_out.Goals as goal

pub returns-then-self-eq0 : goal.returns-then-self-eq0
returns-then-self-eq0 c = is_stuck (negation_nothing _ _ _ _ _ _ _ _ c.if-number-eq-NEGATION.true c.if-self-eq0.true) refl refl

pub returns-then-number-eq-NEGATION : goal.returns-then-number-eq-NEGATION
returns-then-number-eq-NEGATION c =
    let s = c.args.self in
    let w = c.args.work.now in
    let is-negation = c.if-number-eq-NEGATION.true in
    let takes_one = exec_negation _ _ _ _ w _ s.held s.deep is-negation c.if-self-eq0.false in
    let comes = stay_comes _ w _ s.env s.high _ s.deep s.deep c.requires.0.good c.requires.0.going (omega arith) (rw c.not.ensures takes_one) in
    meets_as s.tally refl (rewrites_negation _ _ _ is-negation) c.rewrite.ensures (is_made _ refl comes refl)

pub returns-in_default : goal.returns-in_default
returns-in_default c =
    let above : 10 ≤ get_or c.args.instruction.now 2 0 = c.in_default.ensures c.requires.1 in
    is_stuck (exec_unknown _ _ _ _ _ (omega arith) _) refl refl

pub returns-then-self-lt2 : goal.returns-then-self-lt2
returns-then-self-lt2 c = is_stuck (exec_few _ _ _ _ _ _ c.in-Ok.operation _ _ c.in-Ok.ensures c.if-self-lt2.true) refl refl

pub returns-in_default-work_out : goal.returns-in_default-work_out
returns-in_default-work_out c =
    is_zero (exec_divides _ _ _ _ _ _ c.in-Ok.operation _ _ c.in-Ok.ensures c.if-self-lt2.false c.in_default-work_out.ensures) refl refl

pub returns : goal.returns
returns c =
    let s = c.args.self in
    let w = c.args.work.now in
    let takes_two = exec_gives _ _ _ _ w _ c.in-Ok.operation s.held s.deep c.in-Ok.ensures c.if-self-lt2.false _ c.in-Some.ensures in
    let comes = stay_comes _ w _ s.env s.high _ s.deep (s.deep - 1) c.requires.0.good c.requires.0.going (omega arith) takes_two in
    meets_as s.tally refl (rewrites_two _ c.in-Ok.operation _ _ c.in-Ok.ensures) c.rewrite-2.ensures (is_made _ refl comes refl)
