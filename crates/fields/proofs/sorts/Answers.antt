-- `fields::sorts` meets its contract. Assumes nothing.
use Rattle.std.proofs.Common.{rules, ◌∙◌, tests, arith}
use Rattle.std.proofs.lemmas.Iterator.{YieldsList-from_slice}
use Rattle.std.proofs.lemmas.Iterator.Search.{all_from_yields_List}
use Rattle.std.proofs.lemmas.Bool.Decides.{nat_tests}
use Rattle.meaning.specs.Text.{is_sort}
use Rattle.fields.proofs.Laws.{all_is, sorts_are}
use Rattle.fields.proofs.sorts.Goals as goal

pub returns-in-1-to-8 : goal.returns-in-1-to-8
returns-in-1-to-8 c =
    let e = all_from_yields_List is_sort _ _ _ c.all.ensures.ran (YieldsList-from_slice c.args.f.now cc) (λ x b q k. search (rules, tests)) ∙ all_is is_sort c.args.f.now in
    grind (arith, nat_tests, sorts_are)
