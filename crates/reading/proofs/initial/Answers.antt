-- `reading::initial` meets its contract. Assumes nothing.
use Rattle.std.proofs.Common.{◌≡◌, ◌+◌, ◌-◌, ℕ, suc, refl, ◌∙◌, arith}
use Rattle.std.proofs.lemmas.List.{length-set}
use Rattle.table.specs.declared.Symbol.{Symbol}
use Rattle.lines.proofs.Splice.{write_on, write_done}
use Rattle.reading.proofs.initial.Goals as goal

pub loop-i-preserved : goal.loop-i-preserved
loop-i-preserved c =
    let l = c.loop-i in
    let e : c.args.arguments - l.i ≡ suc (c.args.arguments - (l.i + 1)) = omega arith in
    let f : l.i + 1 + 2 ≡ l.i + 2 + 1 = omega arith in record {
      symbols = write_on l.symbols (l.i + 1) _ _ _ _ (omega (arith, length-set {A = Symbol})) refl (rw e) ∙ l.invariant.symbols;
      ends = write_on l.ends (l.i + 1) _ _ _ _ (omega (arith, length-set {A = ℕ})) refl (rw (e, f)) ∙ l.invariant.ends;
    }

pub returns : goal.returns
returns c =
    let l = c.loop-i in
    let e : c.args.arguments - l.i ≡ 0 = omega arith in record {
      place = refl;
      symbols = write_done l.symbols (l.i + 1) _ (rw e) ∙ l.invariant.symbols;
      ends = write_done l.ends (l.i + 1) _ (rw e) ∙ l.invariant.ends;
    }
