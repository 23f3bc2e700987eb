-- `coding::Emitter::call` meets its contract. Assumes nothing.
use Rattle.entrances.specs.View.{leads_of}
use Rattle.coding.proofs.Instructions as laws
use Rattle.coding.proofs.Emitter.call.Goals as goal

pub returns : goal.returns
unfolding leads_of
returns c =
    laws.call_is _ _ _ _ _ _ _ _ _ _ _ _ _ _ c.word_at-body.ensures c.leads-strict.ensures c.end.ensures c.pass-first.ensures c.put_entrances.ensures
