-- `reading::read` meets its contract. Assumes nothing.
use lib.Seq.{length-take-le}
use Rattle.std.proofs.Common.{ap, refl, sym, arith, rules}
use Rattle.std.proofs.lemmas.Result.{err_from_is_err_and}
use Rattle.lines.proofs.Laws as lines_laws
use Rattle.reading.proofs.Laws as laws
use Rattle.reading.proofs.read.Goals as goal

pub returns-then-text-gt-MOST_BYTES : goal.returns-then-text-gt-MOST_BYTES
returns-then-text-gt-MOST_BYTES c = let o = laws.too_long c.args.text.now c.if-text-gt-MOST_BYTES.true in record { answer = o; table = λ P. laws.no_program _ _ P o }

pub returns-in_err-counted : goal.returns-in_err-counted
returns-in_err-counted c =
    let p = err_from_is_err_and c.from_residual.result c.from_residual.ensures.1 in
    let o = laws.misshapen c.args.text.now c.if-text-gt-MOST_BYTES.false _ _ c.in_err-counted.ensures.shape_judged in
    record { answer = rw (p.1, p.2) o; table = λ P. laws.no_program _ _ P o }

pub counts-requires : goal.counts-requires
counts-requires c =
    let e = laws.counted c.in_ok-counted.ensures in (c.if-text-gt-MOST_BYTES.false, ap (λ d. d.functions) e, ap (λ d. d.symbols) e)

pub returns-in_err-counts : goal.returns-in_err-counts
returns-in_err-counts c =
    let p = err_from_is_err_and c.from_residual-in_err-counts.result c.from_residual-in_err-counts.ensures.1 in
    let o = laws.miscounted c.args.text.now c.if-text-gt-MOST_BYTES.false _ _ (laws.shaped c.in_ok-counted.ensures) c.in_err-counts.ensures in
    record { answer = rw (p.1, p.2) o; table = λ P. laws.no_program _ _ P o }

pub slice_bounds-names-end : goal.slice_bounds-names-end
slice_bounds-names-end c = let n = laws.names_reach c.in_ok-counted.ensures c.in_ok-counts.ensures c.requires in omega (arith, n, c.scan.auto.names)

pub slice_bounds-names-end-2 : goal.slice_bounds-names-end-2
slice_bounds-names-end-2 c =
    let n = laws.names_reach c.in_ok-counted.ensures c.in_ok-counts.ensures c.requires in sym (length-take-le c.in_ok-counted.counted.functions c.scan.new.names (omega (arith, n, c.scan.auto.names)))

pub slice_bounds-heads-end : goal.slice_bounds-heads-end
slice_bounds-heads-end c = let n = laws.heads_reach c.in_ok-counted.ensures c.in_ok-counts.ensures c.requires in omega (arith, n, c.scan.auto.heads)

pub slice_bounds-heads-end-2 : goal.slice_bounds-heads-end-2
slice_bounds-heads-end-2 c =
    let n = laws.heads_reach c.in_ok-counted.ensures c.in_ok-counts.ensures c.requires in sym (length-take-le c.in_ok-counted.counted.functions c.scan.new.heads (omega (arith, n, c.scan.auto.heads)))

pub repeats-requires : goal.repeats-requires
repeats-requires c = laws.names_few c.in_ok-counted.ensures c.in_ok-counts.ensures c.requires

pub returns-in_err-repeats : goal.returns-in_err-repeats
returns-in_err-repeats c =
    let p = err_from_is_err_and c.from_residual-in_err-repeats.result c.from_residual-in_err-repeats.ensures.1 in
    let r = c.in_ok-counted.ensures in
    let k = c.in_ok-counts.ensures in
    let o = laws.misnamed c.args.text.now c.if-text-gt-MOST_BYTES.false _ _ (laws.shaped r) (laws.counts_pass r k) (laws.names_repeat r k c.requires c.in_err-repeats.ensures) in
    record { answer = rw (p.1, p.2) o; table = λ P. laws.no_program _ _ P o }

pub bounds-heads-0 : goal.bounds-heads-0
bounds-heads-0 c = let n = laws.some_head c.in_ok-counted.ensures c.in_ok-counts.ensures c.requires in search rules

pub initial-first-requires : goal.initial-first-requires
initial-first-requires c =
    let n = laws.entry_few c.in_ok-counted.ensures c.in_ok-counts.ensures c.requires in
    let f = c.requires.room (laws.few c.in_ok-counted.ensures c.in_ok-counts.ensures) in
    record { few = n; room = (omega (arith, n, f.symbols_fit), omega (arith, n, f.ends_fit)) }

pub read_lines-requires : goal.read_lines-requires
read_lines-requires c =
    let r = c.in_ok-counted.ensures in
    let k = c.in_ok-counts.ensures in
    let few = laws.few r k in
    let n = laws.entry_few r k c.requires in
    let f = c.requires.room few in
    let s = lines_laws.right_shape c.args.text.now few.0 in
    let i = c.initial-first in
    record {
      shape = (c.if-text-gt-MOST_BYTES.false, s, s, refl);
      noted = (laws.names_part r k c.requires, laws.heads_part r k c.requires, few.1, omega arith);
      room = (f.bodies_fit, omega (arith, n, f.symbols_fit, i.ensures.place, i.auto.symbols), omega (arith, n, f.ends_fit, i.ensures.place, i.auto.ends), omega (arith, n, i.ensures.place, few.2));
    }

pub returns-in_err-end : goal.returns-in_err-end
returns-in_err-end c =
    let p = err_from_is_err_and c.from_residual-in_err-end.result c.from_residual-in_err-end.ensures.1 in
    let pass = laws.passes c.in_ok-counted.ensures c.in_ok-counts.ensures c.requires c.if-text-gt-MOST_BYTES.false c.in_ok-repeats.ensures in
    let o = laws.unread _ _ _ _ _ _ _ _ _ _ c.in_err-end.ensures in
    record { answer = rw (p.1, p.2, pass) o; table = λ P. rw pass (laws.no_program _ _ P o) }

pub overflow_add-result : goal.overflow_add-result
overflow_add-result c =
    let r = c.in_ok-counted.ensures in
    let k = c.in_ok-counts.ensures in
    let pass = laws.passes r k c.requires c.if-text-gt-MOST_BYTES.false c.in_ok-repeats.ensures in
    let e = laws.end_few c.args.text.now 0 _ _ _ _ _ _ _ _ _ pass (omega (arith, laws.entry_few r k c.requires, c.initial-first.ensures.place)) c.in_ok-end.ensures in search rules

pub returns : goal.returns
returns c =
    let r = c.in_ok-counted.ensures in
    let k = c.in_ok-counts.ensures in
    let i = c.initial-first.ensures in
    let pass = laws.passes r k c.requires c.if-text-gt-MOST_BYTES.false c.in_ok-repeats.ensures in
    let d = laws.done _ _ _ _ _ _ _ _ _ _ _ _ i.place i.symbols i.ends c.args.text.now _ (laws.reach r) (laws.entry r k c.requires) (laws.heads_all r k c.requires) pass _ c.in_ok-end.ensures in
    record { answer = d.0; table = d.1 }
