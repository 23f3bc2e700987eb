-- `order::arguments` meets its contract. Assumes nothing.
use Rattle.std.proofs.Common.{◌∙◌, refl, sym, ap}
use Rattle.std.specs.Option.{option_map}
use Rattle.order.specs.Lists.{values_of}
use Rattle.order.specs.Asked.{arguments_from}
use Rattle.order.proofs.Laws as laws
use Rattle.order.proofs.arguments.Goals as goal

pub loop-field-init : goal.loop-field-init
loop-field-init c = rw (c.new-args.ensures, c.into_iter-field-iterator.ensures.into_iter_gives) refl

pub returns-in_err-decimal_value : goal.returns-in_err-decimal_value
returns-in_err-decimal_value c =
    let vs = values_of c.loop-field.args in
    ap (option_map values_of) c.from_residual.ensures
    ∙ sym (ap (arguments_from vs) c.in-Some.ensures.steps ∙ laws.no_argument _ _ vs (sym c.in_err-decimal_value.was ∙ c.decimal_value.ensures)) ∙ c.loop-field.invariant

pub returns-in_err-args : goal.returns-in_err-args
returns-in_err-args c =
    let vs = values_of c.loop-field.args in
    ap (option_map values_of) c.from_residual-in_err-args.ensures
    ∙ sym (ap (arguments_from vs) c.in-Some.ensures.steps ∙ laws.too_many _ _ vs _ (sym (ap (option_map values_of) c.in_err-args.was) ∙ c.push.ensures)) ∙ c.loop-field.invariant

pub loop-field-preserved : goal.loop-field-preserved
loop-field-preserved c =
    let vs = values_of c.loop-field.args in
    laws.one_argument _ _ vs _ _ (sym (ap (option_map values_of) c.in_ok-args.was) ∙ c.push.ensures) (sym c.in_ok-decimal_value.was ∙ c.decimal_value.ensures)
    ∙ sym (ap (arguments_from vs) c.in-Some.ensures.steps) ∙ c.loop-field.invariant

pub returns : goal.returns
returns c = sym (laws.no_more (values_of c.loop-field.args) _ c.in-None.ensures.steps.0) ∙ c.loop-field.invariant
