-- `lines::note` meets its contract. Assumes nothing.
use mathlib.Core.Path.{ap, ◌∙◌}
use lib.ListN.{set}
use Rattle.lines.proofs.Laws as laws
use Rattle.lines.proofs.note.Goals as goal

pub sign-head-requires : goal.sign-head-requires
sign-head-requires c = laws.strict_digit c.args.line.now _ _ _ _ c.tabs_of-tabs.ensures c.requires

pub packed_name-requires : goal.packed_name-requires
packed_name-requires c = laws.name_fits_8 c.args.line.now _ _ _ _ c.tabs_of-tabs.ensures c.requires

pub returns : goal.returns
returns c =
    record {
      names = c.put.ensures ∙ ap (set c.args.names.now c.args.n) (c.packed_name.ensures ∙ laws.named_by c.args.line.now _ _ _ _ c.tabs_of-tabs.ensures c.requires);
      heads = c.put-2.ensures ∙ ap (set c.args.heads.now c.args.n) (c.sign-head.ensures ∙ laws.signed c.args.line.now _ _ _ _ c.tabs_of-tabs.ensures c.requires);
    }
