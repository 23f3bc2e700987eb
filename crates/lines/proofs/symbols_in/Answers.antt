-- `lines::symbols_in` meets its contract. Assumes nothing.
use mathlib.Core.Path.{◌∙◌}
use Rattle.lines.proofs.Laws as laws
use Rattle.lines.proofs.symbols_in.Goals as goal

pub returns : goal.returns
returns c = c.saturating_sub.ensures ∙ laws.body_tabs c.args.line.now _ c.occurrences_of.ensures
