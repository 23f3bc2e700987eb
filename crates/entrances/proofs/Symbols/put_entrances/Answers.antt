-- `entrances::Symbols::put_entrances` meets its contract. Assumes nothing.
use Rattle.std.proofs.Common.{arith}
use Rattle.std.proofs.lemmas.List.{set-get_or}
use Rattle.entrances.proofs.Laws as laws
use Rattle.entrances.proofs.Symbols.put_entrances.Goals as goal

pub returns-then-end-at : goal.returns-then-end-at
returns-then-end-at c = rw set-get_or (c.loop-entrance.invariant _ (laws.put_end _ _ _ _ _ _ _ _ c.if-end-at.true))

pub loop-entrance-preserved : goal.loop-entrance-preserved
loop-entrance-preserved c = λ c' p.
    c.loop-entrance.invariant c' (laws.put_more _ _ _ _ _ _ _ _ _ c' c.if-end-at.false (omega arith) c.entrance.ensures (rw c.end-at.ensures at p))

pub returns : goal.returns
returns c = c.loop-entrance.invariant _ (laws.put_full _ _ _ _ _ _ _ _ (omega arith))
