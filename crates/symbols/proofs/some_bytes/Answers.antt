-- `symbols::some_bytes` meets its contract: no word of four or five bytes, it is a decimal or a name. Assumes nothing.
use Rattle.std.proofs.Common.{arith, sym, ◌∙◌}
use borrow.Author.Tests.{ne_eqb}
use Rattle.symbols.specs.Symbols.{named_as, some_bytes_symbol}
use Rattle.symbols.proofs.Laws as laws
use Rattle.symbols.proofs.some_bytes.Goals as goal

pub returns-in-Some : goal.returns-in-Some
unfolding some_bytes_symbol
returns-in-Some c =
    let name = c.packed_name.result in
    simp (← c.packed_name.ensures, ne_eqb name 1702195828 (λ e. omega (arith, e)), ne_eqb name 435728179558 (λ e. omega (arith, e)), ne_eqb name 1684959075 (λ e. omega (arith, e)))
    (sym (laws.decimal_some _ _ _ (sym c.decimal_value.ensures ∙ c.in-Some.is)))

pub returns-in-None : goal.returns-in-None
unfolding some_bytes_symbol
returns-in-None c =
    let name = c.packed_name.result in
    simp (← c.packed_name.ensures, ne_eqb name 1702195828 (λ e. omega (arith, e)), ne_eqb name 435728179558 (λ e. omega (arith, e)), ne_eqb name 1684959075 (λ e. omega (arith, e)), laws.decimal_none c.args.f.now (named_as 0 c.args.names.now name) (sym c.decimal_value.ensures ∙ c.in-None.is))
    c.function_of.ensures
