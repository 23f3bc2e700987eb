-- `bodies::fill` meets its contract. Assumes nothing.
use native.Mathlib.Omega.{arith}
use mathlib.Core.Path.{ap, ◌∙◌}
use lib.ListN.{length}
use Rattle.lines.proofs.Splice as splices
use Rattle.bodies.proofs.Laws as laws
use Rattle.bodies.proofs.fill.Goals as goal

pub loop-field-preserved : goal.loop-field-preserved
loop-field-preserved c =
    let s = c.in-Some.ensures.steps in
    let l = c.loop-field in
    record {
      place = omega (arith, ap length s, l.invariant.place);
      symbols = splices.write_on l.symbols l.to _ _ _ _ (omega (arith, ap length s, l.invariant.place, c.requires.room)) c.symbol_of.ensures.by (laws.one_symbol c.args.names.now _ _ _ s) ∙ l.invariant.symbols;
    }

pub returns-clause-symbols : goal.returns-clause-symbols
returns-clause-symbols c = splices.write_done c.loop-field.symbols _ _ (laws.no_symbols _ _ c.in-None.ensures.steps.0) ∙ c.loop-field.invariant.symbols
