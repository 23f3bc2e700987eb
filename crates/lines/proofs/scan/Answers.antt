-- `lines::scan` meets its contract. Assumes nothing.
use native.Mathlib.Omega.{arith}
use mathlib.Core.Path.{◌≡◌, sym, ◌∙◌}
use Rattle.std.proofs.Common.{rules}
use Rattle.std.proofs.lemmas.Result.{err_from_is_err_and}
use borrow.Author.Tests.{eqb-true, eqb-false}
use Prim.Native.Nat.{◌+◌}
use Rattle.lines.specs.Lines.{misfit}
use Rattle.lines.proofs.Laws as laws
use Rattle.lines.proofs.scan.Goals as goal

pub returns-then-is_empty : goal.returns-then-is_empty
returns-then-is_empty c = rw c.misshapen.ensures (laws.scan_empty _ _ _ (eqb-true _ _ (sym c.is_empty.ensures ∙ c.if-is_empty.true)))

pub loop-line-init : goal.loop-line-init
loop-line-init c = rw c.into_iter-line-iterator.ensures.into_iter_gives (laws.scan_begins _ _ _ (eqb-false _ _ (sym c.is_empty.ensures ∙ c.if-is_empty.false)))

pub returns-in_err-symbols : goal.returns-in_err-symbols
returns-in_err-symbols c =
    let a = laws.err_before c.judge_line.result c.map_err.result _ (λ field r. r ≡ misfit (c.loop-line.functions + 1) field) _ c.map_err.ensures.cases c.in_err-symbols.was (λ field h. search rules) in
    let b = err_from_is_err_and c.from_residual.result c.from_residual.ensures.1 in
    rw (b.1, b.2, a.2) (laws.scan_wrong _ _ _ _ _ _ _ _ c.loop-line.invariant _ _ c.in-Some.ensures.steps _ _ a.1 c.judge_line.ensures)

pub overflow_add-symbols : goal.overflow_add-symbols
overflow_add-symbols c =
    let a = laws.ok_before c.judge_line.result c.map_err.result _ _ c.map_err.ensures.cases c.in_ok-symbols.was in
    omega (arith, laws.scan_room _ _ _ _ _ _ _ _ c.loop-line.invariant _ _ c.in-Some.ensures.steps _ _ a c.judge_line.ensures, c.requires)

pub note-requires : goal.note-requires
note-requires c =
    let a = laws.ok_before c.judge_line.result c.map_err.result _ _ c.map_err.ensures.cases c.in_ok-symbols.was in
    laws.scan_right _ _ _ _ _ _ _ _ c.loop-line.invariant _ _ c.in-Some.ensures.steps _ _ a c.judge_line.ensures

pub loop-line-preserved : goal.loop-line-preserved
loop-line-preserved c =
    let a = laws.ok_before c.judge_line.result c.map_err.result _ _ c.map_err.ensures.cases c.in_ok-symbols.was in
    laws.scan_on _ _ _ _ _ _ _ _ c.loop-line.invariant _ _ c.in-Some.ensures.steps _ _ a c.judge_line.ensures _ _ c.note.ensures.names c.note.ensures.heads

pub returns-then-text-ne-LINE_END : goal.returns-then-text-ne-LINE_END
returns-then-text-ne-LINE_END c =
    rw c.misshapen-then-text-ne-LINE_END.ensures
    (laws.scan_open _ _ _ _ _ _ _ _ c.loop-line.invariant c.in-None.ensures.steps.0 (eqb-false _ _ (sym c.is_empty.ensures ∙ c.if-is_empty.false)) c.if-text-ne-LINE_END.true)

pub returns : goal.returns
returns c = laws.scan_ends _ _ _ _ _ _ _ _ c.loop-line.invariant c.in-None.ensures.steps.0 (eqb-false _ _ (sym c.is_empty.ensures ∙ c.if-is_empty.false)) c.if-text-ne-LINE_END.false
