-- `machine::drive` meets its contract. Assumes nothing.
use mathlib.Core.Path.{◌∙◌}
use native.Mathlib.Omega.{arith}
use Rattle.machine.proofs.Loop.{ends_halt, ends_fuel, stops, turns}
use Rattle.machine.proofs.drive.Goals as goal

pub returns-then-from-s : goal.returns-then-from-s
returns-then-from-s c = let i = c.loop-s.invariant in (c.answer.ensures ∙ ends_fuel _ _ _ _ _ _ i.1 (λ e. omega (arith, i.0, e)) (omega arith), i.1.kept)

pub returns-in-Err : goal.returns-in-Err
returns-in-Err c =
    let i = c.loop-s.invariant in
    let ends = stops _ _ _ _ _ _ i.1 (λ e. omega (arith, i.0, e)) (omega arith) _ _ c.step.ensures c.in-Err.number c.in-Err.is in
    (c.answer-in-Err.ensures ∙ ends.0, ends.1)

pub answer-requires-then-s-eq0 : goal.answer-requires-then-s-eq0
answer-requires-then-s-eq0 c =
    let i = c.loop-s.invariant in
    let next = (turns _ _ _ _ _ _ i.1 (λ e. omega (arith, i.0, e)) (omega arith) _ _ c.step.ensures c.in-Ok.next c.in-Ok.is c.step.auto.work).0 in
    (omega (arith, next.left, c.ranges.limit.fits), next.fewer)

pub returns-then-s-eq0 : goal.returns-then-s-eq0
returns-then-s-eq0 c =
    let i = c.loop-s.invariant in
    let next = (turns _ _ _ _ _ _ i.1 (λ e. omega (arith, i.0, e)) (omega arith) _ _ c.step.ensures c.in-Ok.next c.in-Ok.is c.step.auto.work).0 in
    (c.answer-then-s-eq0.ensures ∙ ends_halt _ _ _ _ _ _ next c.if-s-eq0.true, next.kept)

pub loop-s-preserved : goal.loop-s-preserved
loop-s-preserved c =
    let i = c.loop-s.invariant in
    (omega (arith, c.if-s-eq0.false), (turns _ _ _ _ _ _ i.1 (λ e. omega (arith, i.0, e)) (omega arith) _ _ c.step.ensures c.in-Ok.next c.in-Ok.is c.step.auto.work).0)
