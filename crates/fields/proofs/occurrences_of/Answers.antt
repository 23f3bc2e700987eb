-- `fields::occurrences_of` meets its contract. Assumes nothing.
use Rattle.std.proofs.Common.{rules, ◌∙◌, eqb, tests}
use Rattle.std.proofs.lemmas.Iterator.{YieldsList-from_slice}
use Rattle.std.proofs.lemmas.Iterator.Consumers.{count_from_yields_List, YieldsList-from_filter}
use Rattle.fields.proofs.Laws as laws
use Rattle.fields.proofs.occurrences_of.Goals as goal

pub returns : goal.returns
returns c =
    count_from_yields_List _ c.count.result c.count.ensures.ran (YieldsList-from_filter _ (λ x. eqb x c.args.b) (YieldsList-from_slice c.args.s.now cc) c.filter.ensures.closure (λ x b q k. search (rules, tests)))
    ∙ laws.occurrences_is c.args.b c.args.s.now
