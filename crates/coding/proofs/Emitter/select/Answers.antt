-- `coding::Emitter::select` meets its contract. Assumes nothing.
use Rattle.coding.proofs.Instructions as laws
use Rattle.coding.proofs.Emitter.select.Goals as goal

pub returns : goal.returns
returns c = laws.select_is _ _ _ _ _ _ _ _ _ c.end-yes.ensures c.end-no.ensures c.entrance-on_yes.ensures c.entrance-on_no.ensures
