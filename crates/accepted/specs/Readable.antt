-- Instructions that their twelve words tell: whoever reads the words of such an instruction gets the instruction back. Assumes nothing.
-- proofs/Readable.antt: `readable : (P : Program) → Accepted P → Every Readable (translation P)`.
use Rattle.std.specs.Prelude.{◌≡◌, ◌+◌, ◌≤◌, length}
use Rattle.meaning.specs.Numbers.{most_arguments}
use Rattle.meaning.specs.Code.{unsorted, Instruction, EVAL, EXEC, SELECT, CALL, RET}
use Rattle.accepted.specs.Accepted.{Every}

-- A constant has no sort; a call's arguments fit into its words, and none that waits is entered at 0, which stands for none.
unfoldable pub Readable : Instruction → Type 0
Readable (EVAL i b) = Unit {0}
Readable (EXEC o b) = unsorted o ≡ o
Readable (SELECT x y) = Unit {0}
Readable (CALL e k ws b) = (k + length ws ≤ most_arguments) × Every (λ w. 1 ≤ w) ws
Readable RET = Unit {0}
