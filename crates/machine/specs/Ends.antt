-- How a run begins in the words, and what registers answer where it ends. Assumes nothing.
use Rattle.std.specs.Prelude.{◌≡◌, List, ℕ, eqb, drop, if◌then◌else◌}
use Rattle.meaning.specs.Numbers.{no, HALT, work_words}
use Rattle.meaning.specs.Said.{number_word}
use Rattle.meaning.specs.Machine.{start}
use Rattle.meaning.specs.declared.Number.{Number}
use Rattle.meaning.specs.declared.Answer.{Answer}
use Rattle.layout.specs.Layout.{Good, holds}
use Rattle.kinds.specs.declared.Registers.{Registers}

-- "value is 0 unless HALT": of these number, top and height
abbrev pub value_of : ℕ → ℕ → ℕ → ℕ
value_of number held deep = if eqb number (no HALT) then (if eqb deep 0 then 0 else held) else 0

-- what registers answer that end with this number
abbrev pub answered : Number → Registers → Answer
answered n s = record { number = number_word n; value = value_of (number_word n) s.held s.deep; line = 0; field = 0; steps = s.tally.steps; rewrites = s.tally.rewrites }

-- The words v hold the machine's start.
pub record Begun (w v args : List ℕ) : Type 0 where
  pub good : Good v 1 1 0
  pub kept : drop work_words v ≡ drop work_words w
  pub holds_start : (a : ℕ) → holds v a 1 1 0 0 ≡ start a args
