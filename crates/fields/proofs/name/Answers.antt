-- `fields::name` meets its contract. Assumes nothing.
use Rattle.std.proofs.Common.{rules, ◌∙◌, drop, tests, arith}
use Rattle.std.proofs.lemmas.Iterator.{YieldsList-from_slice}
use Rattle.std.proofs.lemmas.Iterator.Search.{all_from_yields_List}
use Rattle.reader.proofs.Laws.{rest_all}
use Rattle.fields.specs.Fields.{is_name_byte}
use Rattle.fields.proofs.Laws.{all_is, name_is}
use Rattle.fields.proofs.name.Goals as goal

pub returns-then-is_ascii_uppercase : goal.returns-then-is_ascii_uppercase
returns-then-is_ascii_uppercase c =
    let rest = drop 1 c.args.f.now in
    let from_here = rest_all c.args.f.now 1 in
    let e = all_from_yields_List is_name_byte _ _ _ c.all.ensures.ran (YieldsList-from_slice rest (cc c.iter.ensures.rest)) (λ x b q k. search (rules, tests)) ∙ all_is is_name_byte rest in
    grind (arith, name_is)
