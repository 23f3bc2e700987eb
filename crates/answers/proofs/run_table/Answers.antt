-- `answers::run_table` meets its contract. Assumes nothing.
use Rattle.std.proofs.Common.{◌≡◌, Err, sym, rules}
use Rattle.answers.proofs.Laws as laws
use Rattle.answers.proofs.run_table.Goals.{then-code-accepted-via-then-code-accepted, then-code-accepted-via-else-code-accepted+then-work-lt-WORK_WORDS}
use Rattle.answers.proofs.run_table.Goals as goal

pub returns-in_err-accepted : goal.returns-in_err-accepted
returns-in_err-accepted c = λ text bodies I.
    let same : c.from_residual.result ≡ Err c.in_err-accepted.field-0.0 = search rules in
    rw same (laws.run_refused text _ _ _ bodies _ I _ c.in_err-accepted.was _ _ _ _)

pub returns-in_default : goal.returns-in_default
returns-in_default c = λ text bodies I. laws.run_without_entry text _ _ _ bodies _ I _ c.in_ok-accepted.was _ _ _ _ (search rules)

pub returns-then-not-arguments_fit : goal.returns-then-not-arguments_fit
returns-then-not-arguments_fit c = λ text bodies I. laws.run_arguments text _ _ _ bodies _ I _ c.in_ok-accepted.was _ _ _ _ _ (sym c.in-Some.ensures.value) _ c.arguments_fit.ensures c.if-not-arguments_fit.true

pub returns-then-code-accepted : goal.returns-then-code-accepted
returns-then-code-accepted c = λ text bodies I. elim c.then-code-accepted.branch [
  | then-code-accepted-via-then-code-accepted w ↦ laws.run_code_room text _ _ _ bodies _ I _ c.in_ok-accepted.was _ _ _ _ _ (sym c.in-Some.ensures.value) _ c.arguments_fit.ensures c.if-not-arguments_fit.false w.if-code-accepted.true
  | then-code-accepted-via-else-code-accepted+then-work-lt-WORK_WORDS w ↦ laws.run_work_room text _ _ _ bodies _ I _ c.in_ok-accepted.was _ _ _ _ _ (sym c.in-Some.ensures.value) _ c.arguments_fit.ensures c.if-not-arguments_fit.false w.if-code-accepted.false w.if-work-lt-WORK_WORDS.true
]

pub returns-then-args-gt-MOST_ARGUMENTS : goal.returns-then-args-gt-MOST_ARGUMENTS
returns-then-args-gt-MOST_ARGUMENTS c = λ text bodies I.
    absurd (laws.never_many text _ _ _ bodies _ I _ c.in_ok-accepted.was c.args.args.now c.args.limit c.args.code.now c.args.work.now _ (sym c.in-Some.ensures.value) _ c.arguments_fit.ensures c.if-not-arguments_fit.false c.if-args-gt-MOST_ARGUMENTS.true)

pub returns : goal.returns
returns c = λ text bodies I.
    laws.run_done text _ _ _ bodies _ I _ c.in_ok-accepted.was _ _ _ _ _ (sym c.in-Some.ensures.value) _ c.arguments_fit.ensures c.if-not-arguments_fit.false c.if-code-accepted.false _ _ _ c.if-work-lt-WORK_WORDS.false c.emit.ensures c.execute.ensures.0 c.execute.ensures.1
