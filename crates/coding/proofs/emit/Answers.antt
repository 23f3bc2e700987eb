-- `coding::emit` meets its contract. Assumes nothing.
use Rattle.std.proofs.Common.{arith}
use Rattle.coding.proofs.Whole as laws
use Rattle.coding.proofs.emit.Goals.{then-ret-gt-MOST_WORDS-via-then-ret-gt-MOST_WORDS, then-ret-gt-MOST_WORDS-via-else-ret-gt-MOST_WORDS+then-code-instructions}
use Rattle.coding.proofs.emit.Goals as goal

pub returns-in_default : goal.returns-in_default
returns-in_default c = laws.none_translated _ _ _ _ _ (omega (arith, c.in_default.ensures))

pub returns-in_default-get : goal.returns-in_default-get
returns-in_default-get c = laws.short_translated _ _ _ _ _ (omega (arith, c.in-Some.ensures, c.in_default-get.ensures.lookup))

pub returns-then-ret-gt-MOST_WORDS : goal.returns-then-ret-gt-MOST_WORDS
returns-then-ret-gt-MOST_WORDS c = elim c.then-ret-gt-MOST_WORDS.branch [
  | then-ret-gt-MOST_WORDS-via-then-ret-gt-MOST_WORDS w ↦ laws.many_translated _ _ _ _ _ (omega (arith, c.in-Some.ensures, w.if-ret-gt-MOST_WORDS.true))
  | then-ret-gt-MOST_WORDS-via-else-ret-gt-MOST_WORDS+then-code-instructions w ↦ laws.room_translated _ _ _ _ _ w.if-code-instructions.true
]

pub returns : goal.returns
returns c = laws.all_translated c.args.table.symbols.now _ _ _ _ _ _ (grind (arith, c.in-Some.ensures, c.in-Some-get.ensures.lookup)) c.emit_all.ensures
