-- What Check's core needs of the table that it is lent. Assumes nothing.
use Rattle.std.specs.Prelude.{◌≡◌, List, ℕ, ◌+◌, ◌≤◌, length}
use Rattle.meaning.specs.Numbers.{most_functions, most_symbols, most_arguments}
use Rattle.meaning.specs.Text.{Line, fine, judge_shape, lines}
use Rattle.table.specs.declared.Signature.{Signature}
use Rattle.table.specs.declared.Symbol.{Symbol}
use Rattle.lines.specs.Lines.{total}

-- The shape and the counts of a text pass.
abbrev pub Counted : List ℕ → Type 0
Counted text = (judge_shape text ≡ fine tt) × (length (lines text) ≤ most_functions) × (total (lines text) ≤ most_symbols)

-- Room beside the bodies' symbols: for the initial term, which has one symbol more than arguments, and a word to spare, for RET.
abbrev pub initial_room : ℕ
initial_room = most_arguments + 2

-- Arrays in which the table of these lines has room.
pub record Room (L : List Line) (bodies : List ℕ) (symbols : List Symbol) (ends : List ℕ) : Type 0 where
  pub bodies_fit : length L ≤ length bodies
  pub symbols_fit : total L + initial_room ≤ length symbols
  pub ends_fit : total L + initial_room ≤ length ends

-- The lent arrays are long enough for a text, if its shape and counts pass.
pub record Fit (text names : List ℕ) (heads : List Signature) (bodies : List ℕ) (symbols : List Symbol) (ends : List ℕ) : Type 0 where
  pub names_fit : Counted text → length (lines text) ≤ length names
  pub heads_fit : Counted text → length (lines text) ≤ length heads
  pub room : Counted text → Room (lines text) bodies symbols ends
