-- `fields::visible` meets its contract. Assumes nothing.
use Rattle.std.proofs.Common.{rules, arith, ◌∙◌, tests}
use Rattle.std.proofs.lemmas.Bool.Decides.{nat_tests}
use Rattle.std.proofs.lemmas.Iterator.{YieldsList-from_slice}
use Rattle.std.proofs.lemmas.Iterator.Search.{all_from_yields_List}
use Rattle.meaning.specs.Basics.{between}
use Rattle.meaning.specs.Text.{is_visible}
use Rattle.fields.proofs.Laws.{all_is}
use Rattle.fields.proofs.visible.Goals as goal

pub returns-then-not-is_empty : goal.returns-then-not-is_empty
unfolding is_visible
returns-then-not-is_empty c =
    let e = all_from_yields_List (between 33 126) _ _ _ c.all.ensures.ran (YieldsList-from_slice c.args.f.now cc) (λ x b q k. search (rules, tests)) ∙ all_is (between 33 126) c.args.f.now in
    grind (arith, nat_tests)
