-- `lines::judge_body` meets its contract. Assumes nothing.
use native.Mathlib.Omega.{arith}
use mathlib.Core.Path.{◌∙◌}
use Rattle.lines.proofs.Laws as laws
use Rattle.lines.proofs.judge_body.Goals as goal

pub returns-then-end-tab : goal.returns-then-end-tab
returns-then-end-tab c = laws.empty_field c.args.body.now c.loop-tab.tab _ (omega arith) c.visible_end-end.ensures.is c.loop-tab.symbols _ c.if-end-tab.true ∙ c.loop-tab.invariant.judged

pub returns-then-body-end : goal.returns-then-body-end
returns-then-body-end c =
    laws.last_field c.args.body.now c.loop-tab.tab _ (omega arith) c.visible_end-end.ensures.is c.loop-tab.symbols _ c.loop-tab.invariant.counted c.if-body-end.true c.visible_end-end.ensures.within.1 c.if-end-tab.false c.visible_end-end.ensures.within.0
    ∙ c.loop-tab.invariant.judged

pub returns-then-body-end-ne-TAB : goal.returns-then-body-end-ne-TAB
returns-then-body-end-ne-TAB c =
    laws.spoilt_field c.args.body.now c.loop-tab.tab _ (omega arith) c.visible_end-end.ensures.is c.loop-tab.symbols _ c.if-body-end.false c.if-body-end-ne-TAB.true ∙ c.loop-tab.invariant.judged

pub loop-tab-preserved : goal.loop-tab-preserved
loop-tab-preserved c =
    let x = laws.good_field c.args.body.now c.loop-tab.tab _ (omega arith) c.visible_end-end.ensures.is c.loop-tab.symbols _ c.if-body-end.false c.if-body-end-ne-TAB.false c.if-end-tab.false c.visible_end-end.ensures.within.0 in
    record { counted = omega (arith, x.0, c.loop-tab.invariant.counted); judged = x.1 ∙ c.loop-tab.invariant.judged }

pub returns : goal.returns
returns c = laws.no_symbols c.args.body.now c.loop-tab.tab c.loop-tab.symbols _ c.loop-tab.invariant.counted (omega arith) ∙ c.loop-tab.invariant.judged
