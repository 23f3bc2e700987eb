-- `order::decimals` meets its contract. Assumes nothing.
use Rattle.std.proofs.Common.{◌∙◌, sym, ap, [], Some, None}
use Rattle.std.specs.Option.{option_map}
use Rattle.meaning.specs.Text.{tab}
use Rattle.fields.specs.Fields.{rest}
use Rattle.reader.proofs.Laws.{rest_all}
use Rattle.order.specs.Lists.{values_of}
use Rattle.order.specs.Asked.{said, arguments_from}
use Rattle.order.proofs.Laws as laws
use Rattle.order.proofs.decimals.Goals as goal

pub returns-in_err-limit : goal.returns-in_err-limit
returns-in_err-limit c =
    ap (option_map said) c.from_residual.ensures
    ∙ laws.line_none c.args.line.now c.piece_end-end.result c.args.text c.piece_end-end.ensures.is (sym c.in_err-limit.was ∙ c.decimal_value.ensures)

pub returns-in_err-args : goal.returns-in_err-args
returns-in_err-args c =
    let read = sym (ap (option_map values_of) c.in_err-args.was) ∙ c.arguments.ensures ∙ ap (λ s. arguments_from [] (rest tab s)) (rest_all c.args.line.now c.piece_end-end.result) in
    ap (option_map said) c.from_residual-in_err-args.ensures
    ∙ laws.line_some c.args.line.now c.piece_end-end.result c.args.text c.in_ok-limit.limit None c.piece_end-end.ensures.is (sym c.in_ok-limit.was ∙ c.decimal_value.ensures) read

pub returns : goal.returns
returns c =
    let read = sym (ap (option_map values_of) c.in_ok-args.was) ∙ c.arguments.ensures ∙ ap (λ s. arguments_from [] (rest tab s)) (rest_all c.args.line.now c.piece_end-end.result) in
    laws.line_some c.args.line.now c.piece_end-end.result c.args.text c.in_ok-limit.limit (Some c.in_ok-args.args) c.piece_end-end.ensures.is (sym c.in_ok-limit.was ∙ c.decimal_value.ensures) read
