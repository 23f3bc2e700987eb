-- `lines::sorts_mask` meets its contract. Assumes nothing.
use Rattle.std.proofs.Common.{rules, ◌∙◌, tests}
use Rattle.std.proofs.lemmas.Iterator.Adapters.{YieldsList-from_rev_slice}
use Rattle.std.proofs.lemmas.Iterator.Consumers.{fold_from_yields_List}
use Rattle.lines.proofs.Laws.{onto_mask, mask_fold}
use Rattle.lines.proofs.sorts_mask.Goals as goal

pub returns : goal.returns
returns c =
    let f = c.args.sorts.now in
    fold_from_yields_List _ onto_mask 0 c.fold.result c.fold.ensures.ran (YieldsList-from_rev_slice f (cc (c.rev.ensures.source, c.iter.ensures.rest))) (λ a x b q k. search (rules, tests)) ∙ mask_fold f c.requires
