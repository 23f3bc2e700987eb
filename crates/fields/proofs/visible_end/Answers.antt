-- `fields::visible_end` meets its contract. Assumes nothing.
use Rattle.std.proofs.Common.{rules, ◌∙◌, drop, ap, ◌+◌, ℕ, tests}
use Rattle.std.proofs.lemmas.Iterator.{YieldsList-from_slice}
use Rattle.std.proofs.lemmas.Iterator.Search.{YieldsList-from_take_while}
use Rattle.std.proofs.lemmas.Iterator.Consumers.{count_from_yields_List}
use Rattle.std.proofs.lemmas.List.Folds.{length-prefix_len}
use Rattle.meaning.specs.Basics.{between}
use Rattle.reader.proofs.Laws.{rest_all}
use Rattle.fields.proofs.Laws as laws
use Rattle.fields.proofs.visible_end.Goals as goal

pub returns-clause-is : goal.returns-clause-is
returns-clause-is c =
    let s = c.args.s.now in
    let rest = drop c.args.from s in
    let from_here = rest_all s c.args.from in
    let e = count_from_yields_List _ c.count.result c.count.ensures.ran (YieldsList-from_take_while _ (between 33 126) (YieldsList-from_slice rest (cc (c.iter.ensures.rest, c.take_while-seen.ensures.source))) c.take_while-seen.ensures.closure c.take_while-seen.ensures.done (λ x b q k. search (rules, tests))) in
    ap (λ (n : ℕ). c.args.from + n) (e ∙ length-prefix_len (between 33 126) rest ∙ laws.visible_span_is rest)
