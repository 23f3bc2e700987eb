-- `lines::Lines::next` meets its contract. Assumes nothing.
use Rattle.std.proofs.Common.{rules}
use Rattle.lines.proofs.Laws as laws
use Rattle.lines.proofs.LinesIterator.next.Goals as goal

pub returns-then-self-end-clause-steps : goal.returns-then-self-end-clause-steps
returns-then-self-end-clause-steps c = let e = laws.no_line c.args.self.now.rest.now _ c.piece_end-end.ensures.is c.if-self-end.true in (e, e)

pub returns-clause-steps : goal.returns-clause-steps
returns-clause-steps c = laws.first_line c.args.self.now.rest.now _ c.piece_end-end.ensures.is c.if-self-end.false

pub returns-clause-goes : goal.returns-clause-goes
returns-clause-goes c = let e = laws.first_line c.args.self.now.rest.now _ c.piece_end-end.ensures.is c.if-self-end.false in search rules
