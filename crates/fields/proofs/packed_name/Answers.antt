-- `fields::packed_name` meets its contract. Assumes nothing.
use Rattle.std.proofs.Common.{rules, ◌∙◌, tests, arith}
use Rattle.std.proofs.lemmas.Iterator.Adapters.{YieldsList-from_rev_slice}
use Rattle.std.proofs.lemmas.Iterator.Consumers.{fold_from_yields_List}
use Rattle.fields.proofs.Laws.{onto_packed, packed_fold}
use Rattle.fields.proofs.packed_name.Goals as goal

pub returns : goal.returns
returns c =
    let f = c.args.f.now in
    fold_from_yields_List _ onto_packed 0 c.fold.result c.fold.ensures.ran (YieldsList-from_rev_slice f (cc (c.rev.ensures.source, c.iter.ensures.rest))) (λ a x b q k. search (rules, tests))
    ∙ packed_fold f c.requires (λ i. omega (arith, c.type_inv.f i))
