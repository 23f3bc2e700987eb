-- `lines::tabs_of` meets its contract. Assumes nothing.
use native.Mathlib.Omega.{arith}
use Rattle.lines.proofs.Laws as laws
use Rattle.lines.proofs.tabs_of.Goals as goal

pub piece_end-strict-requires : goal.piece_end-strict-requires
piece_end-strict-requires c = omega (arith, laws.tab_1 c.args.line.now _ c.piece_end-name.ensures.is c.requires)

pub piece_end-sorts-requires : goal.piece_end-sorts-requires
piece_end-sorts-requires c = omega (arith, laws.tab_2 c.args.line.now _ c.piece_end-name.ensures.is c.requires _ c.piece_end-strict.ensures.is)

pub piece_end-result-requires : goal.piece_end-result-requires
piece_end-result-requires c = omega (arith, laws.tab_3 c.args.line.now _ c.piece_end-name.ensures.is c.requires _ c.piece_end-strict.ensures.is _ c.piece_end-sorts.ensures.is)

pub returns : goal.returns
returns c = laws.tab_4 c.args.line.now _ c.piece_end-name.ensures.is c.requires _ c.piece_end-strict.ensures.is _ c.piece_end-sorts.ensures.is _ c.piece_end-result.ensures.is
