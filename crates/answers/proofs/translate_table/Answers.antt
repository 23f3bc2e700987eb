-- `answers::translate_table` meets its contract. Assumes nothing.
use Rattle.std.proofs.Common.{◌≡◌, Err, rules}
use Rattle.answers.proofs.Laws as laws
use Rattle.answers.proofs.translate_table.Goals as goal

pub returns-in_err-accepted : goal.returns-in_err-accepted
returns-in_err-accepted c = λ text bodies I.
    let same : c.from_residual.result ≡ Err c.in_err-accepted.field-0.0 = search rules in
    rw same (laws.translate_refused text _ _ _ bodies _ I _ c.in_err-accepted.was _)

pub returns-then-code-accepted : goal.returns-then-code-accepted
returns-then-code-accepted c = λ text bodies I. laws.translate_room text _ _ _ bodies _ I _ c.in_ok-accepted.was _ c.if-code-accepted.true

pub returns : goal.returns
returns c = λ text bodies I. laws.translate_done text _ _ _ bodies _ I _ c.in_ok-accepted.was _ _ c.if-code-accepted.false c.emit.ensures
