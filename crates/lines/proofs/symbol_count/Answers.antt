-- `lines::symbol_count` meets its contract. Assumes nothing.
use native.Mathlib.Omega.{arith}
use mathlib.Core.Path.{ap, ◌∙◌}
use mathlib.Core.Logic.{inl}
use lib.ListN.{length}
use Rattle.lines.specs.Lines.{shown}
use Rattle.lines.proofs.Laws as laws
use Rattle.lines.proofs.symbol_count.Goals as goal

pub loop-n-init-derived : goal.loop-n-init-derived
loop-n-init-derived c =
    rw (c.into_iter-n-iterator.ensures.into_iter_gives, c.enumerate-n-items.ensures.source, c.enumerate-n-items.ensures.count) ((tt, tt, inl (omega (arith, laws.raw_within c.args.text.now, c.requires))), tt)

pub loop-n-init : goal.loop-n-init
loop-n-init c =
    rw (c.into_iter-n-iterator.ensures.into_iter_gives, c.enumerate-n-items.ensures.source, c.enumerate-n-items.ensures.count)
    record {
      next = (tt, tt, inl (omega (arith, laws.raw_within c.args.text.now, c.requires)));
      finite = tt;
      place = omega (arith, laws.raw_within c.args.text.now);
      few = omega arith;
      judged = laws.symbols_begin c.args.text.now;
    }

pub overflow_add-seen : goal.overflow_add-seen
overflow_add-seen c =
    let s = c.in-Some.ensures.steps in
    omega (arith, laws.body_less c.in-Some.line.now, c.symbols_in-symbols.ensures, ap laws.lengths s.0, c.loop-n.invariant.place, c.requires)

pub returns-then-seen-symbols-gt-MOST_SYMBOLS : goal.returns-then-seen-symbols-gt-MOST_SYMBOLS
returns-then-seen-symbols-gt-MOST_SYMBOLS c =
    let s = c.in-Some.ensures.steps in
    rw s.1 (laws.over_symbols _ c.loop-n.seen _ c.in-Some.line.now _ _ c.symbols_in-symbols.ensures s.0 c.if-seen-symbols-gt-MOST_SYMBOLS.true c.loop-n.invariant.few ∙ ap shown c.loop-n.invariant.judged)

pub loop-n-preserved : goal.loop-n-preserved
loop-n-preserved c =
    let s = c.in-Some.ensures.steps in
    record {
      next = (tt, tt, inl (omega (arith, ap laws.lengths s.0, ap length s.0, c.loop-n.invariant.place, s.2, c.requires)));
      finite = tt;
      place = omega (arith, ap laws.lengths s.0, ap length s.0, c.loop-n.invariant.place, s.2);
      few = omega arith;
      judged = rw s.2 (laws.some_symbols _ c.loop-n.seen _ c.in-Some.line.now _ _ c.symbols_in-symbols.ensures s.0 c.if-seen-symbols-gt-MOST_SYMBOLS.false ∙ c.loop-n.invariant.judged);
    }

pub returns : goal.returns
returns c = laws.symbols_done _ c.loop-n.seen _ c.in-None.ensures.steps.0.0 ∙ ap shown c.loop-n.invariant.judged
