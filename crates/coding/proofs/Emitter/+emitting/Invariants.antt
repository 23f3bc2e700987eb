-- What falls where `coding::Emitter::term` and `coding::Emitter::row` call one another: the depth, and within one depth the step from a row to its terms.
-- What holds at each turn of a row's loop: what is emitted from here on, and it alone, completes the row. Assumes nothing.
use Rattle.std.proofs.Common.{◌≡◌, ◌+◌, ◌-◌, ◌*◌, ℕ, List, length}
use Rattle.coding.specs.Coding.{EmittedRow}
use Rattle.coding.proofs.Emitter.+emitting.Given as goal

abbrev pub decreases-term : goal.decreases-term
decreases-term l = 2 * l.depth

abbrev pub decreases-row : goal.decreases-row
decreases-row l = 2 * l.depth + 1

abbrev pub invariant-row-loop-row : goal.invariant-row-loop-row
invariant-row-loop-row l =
    let t = l.self.symbols.table in
    (length l.code ≡ length l.initial.code) ×
    ((c : List ℕ) → EmittedRow t.heads.now l.self.bodies.now t.symbols.now t.ends.now l.row.at l.row.end l.row.lead l.row.home l.row.others l.depth l.code c →
    EmittedRow t.heads.now l.self.bodies.now t.symbols.now t.ends.now l.fn.row.at l.fn.row.end l.fn.row.lead l.fn.row.home l.fn.row.others l.depth l.initial.code c)

abbrev pub decreases-row-loop-row : goal.decreases-row-loop-row
decreases-row-loop-row l = l.row.end - l.row.at
