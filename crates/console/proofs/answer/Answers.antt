-- `console::answer` meets its contract. Assumes nothing.
use Rattle.std.proofs.lemmas.List.{take_rest}
use Rattle.console.specs.Responses.{answer_in, code_in, work_in}
use Rattle.console.proofs.Laws.{asked}
use Rattle.console.proofs.answer.Goals as goal

pub returns-clause-answer : goal.returns-clause-answer
unfolding answer_in
returns-clause-answer c = rw (asked _ _ _ c.in-Some.ensures).0 (rw (take_rest, c.as_slice-args.ensures) at c.run.ensures.answer)

pub returns-clause-code : goal.returns-clause-code
unfolding code_in
returns-clause-code c = rw (asked _ _ _ c.in-Some.ensures).0 (rw (take_rest, c.as_slice-args.ensures) at c.run.ensures.code)

pub returns-clause-work : goal.returns-clause-work
unfolding work_in
returns-clause-work c = rw (asked _ _ _ c.in-Some.ensures).0 (rw (take_rest, c.as_slice-args.ensures) at c.run.ensures.work)
