-- `nespralha::check` meets its contract. Assumes nothing.
use Rattle.std.proofs.Common.{◌/◌, rules}
use Rattle.answers.specs.Outcomes.{CheckOutcome}
use Rattle.reading.proofs.Laws.{fits_half}
use Rattle.nespralha.specs.Short.{short_text}
use Rattle.nespralha.proofs.Laws.{check_counts, check_answers}
use Rattle.nespralha.proofs.check.Goals.{then-text-le-SHORT_TEXT, else-text-le-SHORT_TEXT}
use Rattle.nespralha.proofs.check.Goals as goal

pub check_in-found-requires : goal.check_in-found-requires
check_in-found-requires c = (search rules, fits_half _ _ _ _ _ _ (short_text / 2) (search rules) (search rules) (search rules) (search rules) (search rules) (search rules))

pub of-requires : goal.of-requires
of-requires c = elim c.if-text-le-SHORT_TEXT.branch [
  | then-text-le-SHORT_TEXT w ↦ rw w.found-is (check_counts _ _ _ _ w.check_in-found.ensures)
  | else-text-le-SHORT_TEXT w ↦ rw w.found-is (check_counts _ _ _ _ w.check_in-found-else-text-le-SHORT_TEXT.ensures)
]

pub returns : goal.returns
returns c =
    let o : CheckOutcome c.args.text.now c.args.heads.now c.if-text-le-SHORT_TEXT.found c.if-text-le-SHORT_TEXT.heads
    = elim c.if-text-le-SHORT_TEXT.branch [
      | then-text-le-SHORT_TEXT w ↦ rw (w.found-is, w.heads-is) w.check_in-found.ensures
      | else-text-le-SHORT_TEXT w ↦ rw (w.found-is, w.heads-is) w.check_in-found-else-text-le-SHORT_TEXT.ensures
    ] in
    check_answers _ _ _ _ o _ c.of.ensures
