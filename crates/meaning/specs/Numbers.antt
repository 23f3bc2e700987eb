-- Document 01, 'Numbers the engine answers with', and those that document 02 adds: each by name, and the limits that they speak of. Assumes nothing.
use Rattle.std.specs.Prelude.{ℕ}

-- The names.
pub data Number : Type 0 where
  HALT : Number
  LONG LINE COUNT NAME TERM NEST ARGS ROOM : Number
  FUEL DEEP STUCK ZERO : Number
  UNKNOWN SORT SHORT : Number

-- The table: each number is given exactly when what stands behind it holds.
unfoldable pub no : Number → ℕ
no HALT = 0  -- accepted; for Run, the machine has stopped
no LONG = 1  -- text over 16,384 bytes
no LINE = 2  -- a line's shape is wrong
no COUNT = 3  -- over 64 functions or 1,024 body symbols
no NAME = 4  -- a name stands on two lines
no TERM = 5  -- a field is left over after a body's term
no NEST = 6  -- a symbol at depth 33
no ARGS = 7  -- wrong number of arguments, or a yes/no above 1
no ROOM = 8  -- a lent slice is too short
no FUEL = 9  -- step limit met
no DEEP = 10  -- a step would make a stack 513 high
no STUCK = 11  -- the machine has no next step and hasn't stopped
no ZERO = 12  -- the next step divides by 0
no UNKNOWN = 13  -- a field is no known symbol, or an argument the function lacks
no SORT = 14  -- a known symbol is of another sort than its place takes
no SHORT = 15  -- a body ends early

-- The limits, as the table and the sections after it name them.
abbrev pub most_bytes : ℕ
most_bytes = 16384

abbrev pub most_functions : ℕ
most_functions = 64

abbrev pub most_symbols : ℕ
most_symbols = 1024

abbrev pub most_depth : ℕ
most_depth = 32

abbrev pub most_arguments : ℕ
most_arguments = 8

abbrev pub most_height : ℕ
most_height = 512

abbrev pub instruction_words : ℕ
instruction_words = 12

abbrev pub work_words : ℕ
work_words = 8192
