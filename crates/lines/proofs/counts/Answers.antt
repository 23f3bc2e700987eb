-- `lines::counts` meets its contract. Assumes nothing.
use mathlib.Core.Path.{ap, ◌∙◌}
use Rattle.lines.specs.Lines.{shown}
use Rattle.lines.proofs.Laws as laws
use Rattle.lines.proofs.counts.Goals as goal

pub returns-then-functions-gt-MOST_FUNCTIONS : goal.returns-then-functions-gt-MOST_FUNCTIONS
returns-then-functions-gt-MOST_FUNCTIONS c = laws.over_functions _ _ c.requires.1 c.if-functions-gt-MOST_FUNCTIONS.true

pub returns-then-symbols-le-MOST_SYMBOLS : goal.returns-then-symbols-le-MOST_SYMBOLS
returns-then-symbols-le-MOST_SYMBOLS c = laws.few_symbols _ _ c.requires.2 c.if-symbols-le-MOST_SYMBOLS.true ∙ ap shown (laws.few_functions _ _ c.requires.1 c.if-functions-gt-MOST_FUNCTIONS.false)

pub returns : goal.returns
returns c = c.symbol_count.ensures ∙ ap shown (laws.few_functions _ _ c.requires.1 c.if-functions-gt-MOST_FUNCTIONS.false)
