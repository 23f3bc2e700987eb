-- What holds at each turn of the loop of `order::arguments`: the fields that are left. Assumes nothing.
use Rattle.std.proofs.Common.{◌≡◌, []}
use Rattle.meaning.specs.Text.{tab}
use Rattle.fields.specs.Fields.{rest}
use Rattle.order.specs.Lists.{values_of}
use Rattle.order.specs.Asked.{arguments_from}
use Rattle.order.proofs.arguments.Given as goal

abbrev pub invariant-loop-field : goal.invariant-loop-field
invariant-loop-field l = arguments_from (values_of l.args) (rest tab l.field-iterator.rest.now) ≡ arguments_from [] (rest tab l.after)
