-- Which texts are read into a short table. Assumes nothing.
use Rattle.std.specs.Prelude.{ℕ}

-- Those of at most so many bytes.
abbrev pub short_text : ℕ
short_text = 128
