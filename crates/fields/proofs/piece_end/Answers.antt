-- `fields::piece_end` meets its contract: what `reader::field` says, and that a span stays within the bytes. Assumes nothing.
use native.Mathlib.Omega.{arith}
use lib.ListN.{drop, length-drop}
use Rattle.reader.proofs.Laws.{span_within}
use Rattle.fields.proofs.piece_end.Goals as goal

pub returns : goal.returns
returns c = let s = c.args.s.now in
    let from = c.args.from in
    record { is = c.field.ensures; within = (omega (arith, c.field.ensures), omega (arith, c.field.ensures, span_within c.args.b (drop from s), length-drop from s)) }
