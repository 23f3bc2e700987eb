-- `reader::first_at` meets its contract. Assumes nothing.
use Rattle.std.proofs.Common.{rules, ◌+◌, ◌∙◌, ℕ, ap, drop, not, eqb, tests, arith}
use Rattle.std.proofs.lemmas.Iterator.{YieldsList-from_slice}
use Rattle.std.proofs.lemmas.Iterator.Search.{YieldsList-from_take_while}
use Rattle.std.proofs.lemmas.Iterator.Consumers.{count_from_yields_List}
use Rattle.std.proofs.lemmas.List.Folds.{length-prefix_len}
use Rattle.reader.proofs.Laws as laws
use Rattle.reader.proofs.first_at.Goals as goal

pub returns-in_default : goal.returns-in_default
returns-in_default c = laws.span_end c.args.b c.args.text.now c.args.at (let past = c.in_default.ensures.lookup in grind arith)

pub returns : goal.returns
returns c =
    let other = λ (x : ℕ). not (eqb x c.args.b) in
    let rest = drop c.args.at c.args.text.now in
    let all = laws.rest_all c.args.text.now c.args.at in
    let e = count_from_yields_List _ c.count.result c.count.ensures.ran (YieldsList-from_take_while _ other (YieldsList-from_slice rest (cc (all, c.in-Some.ensures.lookup.0.2, c.iter.ensures.rest, c.take_while.ensures.source))) c.take_while.ensures.closure c.take_while.ensures.done (λ x b q k. search (rules, tests))) in
    ap (λ (n : ℕ). c.args.at + n) (e ∙ length-prefix_len other rest ∙ laws.span_is c.args.b rest)
