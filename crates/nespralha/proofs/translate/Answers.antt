-- `nespralha::translate` meets its contract. Assumes nothing.
use Rattle.std.proofs.Common.{◌/◌, rules}
use Rattle.answers.specs.Outcomes.{TranslateOutcome}
use Rattle.reading.proofs.Laws.{fits_half}
use Rattle.nespralha.specs.Short.{short_text}
use Rattle.nespralha.proofs.Laws.{translate_counts, translate_answers}
use Rattle.nespralha.proofs.translate.Goals.{then-text-le-SHORT_TEXT, else-text-le-SHORT_TEXT}
use Rattle.nespralha.proofs.translate.Goals as goal

pub translate_in-found-requires : goal.translate_in-found-requires
translate_in-found-requires c = (search rules, fits_half _ _ _ _ _ _ (short_text / 2) (search rules) (search rules) (search rules) (search rules) (search rules) (search rules))

pub of-requires : goal.of-requires
of-requires c = elim c.if-text-le-SHORT_TEXT.branch [
  | then-text-le-SHORT_TEXT w ↦ rw w.found-is (translate_counts _ _ _ _ w.translate_in-found.ensures)
  | else-text-le-SHORT_TEXT w ↦ rw w.found-is (translate_counts _ _ _ _ w.translate_in-found-else-text-le-SHORT_TEXT.ensures)
]

pub returns : goal.returns
returns c =
    let o : TranslateOutcome c.args.text.now c.args.code.now c.if-text-le-SHORT_TEXT.found c.if-text-le-SHORT_TEXT.code
    = elim c.if-text-le-SHORT_TEXT.branch [
      | then-text-le-SHORT_TEXT w ↦ rw (w.found-is, w.code-is) w.translate_in-found.ensures
      | else-text-le-SHORT_TEXT w ↦ rw (w.found-is, w.code-is) w.translate_in-found-else-text-le-SHORT_TEXT.ensures
    ] in
    let both = translate_answers _ _ _ _ o _ c.of.ensures in
    record { answer = both.0; code = both.1 }
