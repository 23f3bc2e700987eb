-- `nespralha::run` meets its contract. Assumes nothing.
use Rattle.std.proofs.Common.{◌/◌, rules}
use Rattle.answers.specs.Outcomes.{RunOutcome}
use Rattle.reading.proofs.Laws.{fits_half}
use Rattle.nespralha.specs.Short.{short_text}
use Rattle.nespralha.proofs.Laws.{run_answers}
use Rattle.nespralha.proofs.run.Goals.{then-text-le-SHORT_TEXT, else-text-le-SHORT_TEXT}
use Rattle.nespralha.proofs.run.Goals as goal

pub run_in-found-requires : goal.run_in-found-requires
run_in-found-requires c = (search rules, fits_half _ _ _ _ _ _ (short_text / 2) (search rules) (search rules) (search rules) (search rules) (search rules) (search rules))

pub returns : goal.returns
returns c =
    let o : RunOutcome c.args.text.now c.args.args.now c.args.limit c.args.code.now c.args.work.now c.if-text-le-SHORT_TEXT.found c.if-text-le-SHORT_TEXT.code c.if-text-le-SHORT_TEXT.work
    = elim c.if-text-le-SHORT_TEXT.branch [
      | then-text-le-SHORT_TEXT w ↦ rw (w.found-is, w.code-is, w.work-is) w.run_in-found.ensures
      | else-text-le-SHORT_TEXT w ↦ rw (w.found-is, w.code-is, w.work-is) w.run_in-found-else-text-le-SHORT_TEXT.ensures
    ] in
    let all = run_answers _ _ _ _ _ _ _ _ o _ c.unwrap_or_else.ensures in
    record { answer = all.0; code = all.1; work = all.2 }
