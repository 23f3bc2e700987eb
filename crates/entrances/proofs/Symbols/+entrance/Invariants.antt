-- What falls where `entrances::Symbols::entrance` calls itself. Assumes nothing.
use Rattle.entrances.proofs.Symbols.+entrance.Given as goal

abbrev pub decreases-entrance : goal.decreases-entrance
decreases-entrance l = l.depth
