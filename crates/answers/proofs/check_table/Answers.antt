-- `answers::check_table` meets its contract. Assumes nothing.
use Rattle.std.proofs.Common.{◌≡◌, Err, rules}
use Rattle.answers.proofs.Laws as laws
use Rattle.answers.proofs.check_table.Goals as goal

pub returns-in_err-accepted : goal.returns-in_err-accepted
returns-in_err-accepted c = λ text symbols ends I.
    let same : c.from_residual.result ≡ Err c.in_err-accepted.field-0.0 = search rules in
    rw same (laws.check_refused text _ _ _ _ _ I _ c.in_err-accepted.was _)

pub returns-then-heads-accepted : goal.returns-then-heads-accepted
returns-then-heads-accepted c = λ text symbols ends I. laws.check_room text _ _ _ _ _ I _ c.in_ok-accepted.was _ c.if-heads-accepted.true

pub returns : goal.returns
returns c = λ text symbols ends I. laws.check_done text _ _ _ _ _ I _ c.in_ok-accepted.was _ _ c.if-heads-accepted.false c.put_heads.ensures
