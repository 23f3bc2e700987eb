-- `lines::LineFields::next` meets its contract. Assumes nothing.
use mathlib.Core.Path.{sym, ◌∙◌}
use borrow.Author.Tests.{eqb-true, eqb-false}
use Rattle.std.proofs.Common.{rules}
use Rattle.lines.proofs.Laws as laws
use Rattle.lines.proofs.LineFieldsIterator.next.Goals as goal

pub returns-then-is_empty-clause-steps : goal.returns-then-is_empty-clause-steps
returns-then-is_empty-clause-steps c = let e = laws.no_field c.args.self.now.rest.now (eqb-true _ _ (sym c.is_empty.ensures ∙ c.if-is_empty.true)) in (e, e)

pub returns-clause-steps : goal.returns-clause-steps
returns-clause-steps c = laws.one_field c.args.self.now.rest.now _ (eqb-false _ _ (sym c.is_empty.ensures ∙ c.if-is_empty.false)) c.piece_end-end.ensures.is

pub returns-clause-goes : goal.returns-clause-goes
returns-clause-goes c = let e = laws.one_field c.args.self.now.rest.now _ (eqb-false _ _ (sym c.is_empty.ensures ∙ c.if-is_empty.false)) c.piece_end-end.ensures.is in search rules
