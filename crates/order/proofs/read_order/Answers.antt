-- `order::read_order` meets its contract. Assumes nothing.
use Rattle.order.proofs.Laws as laws
use Rattle.order.proofs.read_order.Goals as goal
use Rattle.order.proofs.read_order.Goals.{then-input-end-via-then-input-end, then-input-end-via-else-input-end+then-end-gt-FIRST_LINE_BYTES}

pub returns-then-input-end : goal.returns-then-input-end
returns-then-input-end c = elim c.then-input-end.branch [
  | then-input-end-via-then-input-end w ↦ laws.unended c.args.input.now c.piece_end-end.result c.piece_end-end.ensures.is w.if-input-end.true
  | then-input-end-via-else-input-end+then-end-gt-FIRST_LINE_BYTES w ↦
      laws.too_long c.args.input.now c.piece_end-end.result c.piece_end-end.ensures.is w.if-input-end.false w.if-end-gt-FIRST_LINE_BYTES.true
]

pub returns : goal.returns
returns c = laws.well_ended c.args.input.now c.piece_end-end.result _ c.piece_end-end.ensures.is c.if-input-end.false c.if-end-gt-FIRST_LINE_BYTES.false c.decimals.ensures
