-- `coding::emit_all` meets its contract. Assumes nothing.
use Rattle.coding.proofs.Whole as laws
use Rattle.coding.proofs.emit_all.Goals as goal

pub returns : goal.returns
returns c = laws.all_emitted _ _ _ _ _ _ _ _ c.end.ensures c.put_entrances.ensures c.row.ensures c.store.ensures
