-- `symbols::symbol_of` meets its contract. Assumes nothing.
use Rattle.std.proofs.Common.{rules, arith, length, get_or, sym, ap, ◌∙◌}
use borrow.Author.Tests.{lt-ltb, le-ltb, eq-eqb, ne_eqb}
use Rattle.table.specs.Symbols.{symbol_in}
use Rattle.meaning.specs.Terms.{unknown}
use Rattle.fields.specs.Fields.{packed}
use Rattle.symbols.specs.Symbols.{symbol_by, one_byte_symbol, short_symbol, named_as}
use Rattle.symbols.proofs.Laws as laws
use Rattle.symbols.proofs.Names as names
use Rattle.symbols.proofs.symbol_of.Goals as goal

pub returns-in-Unknown : goal.returns-in-Unknown
unfolding symbol_by one_byte_symbol
returns-in-Unknown c =
    let both = names.meant _ _ _ (simp (eq-eqb (length c.args.f.now) 1 c.in-1.is, laws.or_other _ (named_as 0 c.args.names.now (packed c.args.f.now)) (sym c.short.ensures ∙ c.in-Unknown.is)) (search rules)) in
    record { by = both.0; is = both.1 }

pub returns-in_default-short : goal.returns-in_default-short
unfolding symbol_by one_byte_symbol
returns-in_default-short c =
    let known = laws.or_same (short_symbol (get_or c.args.f.now 0 0)) (named_as 0 c.args.names.now (packed c.args.f.now)) (λ e. c.in_default-short.not-Unknown (c.short.ensures ∙ e)) in
    let both = names.meant _ _ _ (simp (eq-eqb (length c.args.f.now) 1 c.in-1.is, known) c.short.ensures) in
    record { by = both.0; is = both.1 }

pub returns-in-0-to-8 : goal.returns-in-0-to-8
unfolding symbol_by
returns-in-0-to-8 c =
    let both = names.meant _ _ _ (simp (ne_eqb (length c.args.f.now) 1 (λ e. omega (arith, e)), le-ltb 8 (length c.args.f.now) (omega arith)) c.some_bytes.ensures) in
    record { by = both.0; is = both.1 }

pub returns-in-Some : goal.returns-in-Some
unfolding symbol_by
returns-in-Some c =
    let both = names.meant _ _ _ (simp (ne_eqb (length c.args.f.now) 1 (λ e. omega (arith, e)), lt-ltb 8 (length c.args.f.now) (omega arith)) (sym (laws.decimal_some _ _ _ (sym c.decimal_value.ensures ∙ c.in-Some.is)))) in
    record { by = both.0; is = both.1 }

pub returns-in-None : goal.returns-in-None
unfolding symbol_by symbol_in
returns-in-None c =
    let both = names.meant _ _ _ (simp (ne_eqb (length c.args.f.now) 1 (λ e. omega (arith, e)), lt-ltb 8 (length c.args.f.now) (omega arith)) (sym (ap symbol_in (laws.decimal_none c.args.f.now unknown (sym c.decimal_value.ensures ∙ c.in-None.is))))) in
    record { by = both.0; is = both.1 }
