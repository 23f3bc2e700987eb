-- `lines::judge_line` meets its contract. Assumes nothing.
use native.Mathlib.Omega.{arith}
use mathlib.Core.Path.{refl, ap, sym, ◌∙◌}
use lib.ListN.{length}
use borrow.Author.Tests.{eqb-true, eqb-false}
use Rattle.std.proofs.Common.{rules}
use Rattle.meaning.specs.Text.{are_sorts, is_result}
use Rattle.lines.proofs.Laws as laws
use Rattle.lines.proofs.judge_line.Goals as goal

pub returns-then-not-name : goal.returns-then-not-name
returns-then-not-name c = laws.name_wrong _ _ _ (laws.first_rest c.args.line.now _ c.piece_end-end.ensures.is) (sym c.name.ensures ∙ c.if-not-name.true)

pub returns-in_default : goal.returns-in_default
returns-in_default c =
    laws.no_strict _ _ _ (laws.first_rest c.args.line.now _ c.piece_end-end.ensures.is) (sym c.name.ensures ∙ c.if-not-name.false) _
    (laws.counts_none _ _ _ _ _ c.next.ensures.steps c.and_then.ensures (λ x h. search rules) c.in_default.is)

pub returns-then-not-is_some_and : goal.returns-then-not-is_some_and
returns-then-not-is_some_and c =
    let strict = laws.counts_as _ _ _ _ _ c.next.ensures.steps c.and_then.ensures (λ x h. search rules) _ c.in-Some.is in
    laws.no_sorts _ _ _ (laws.first_rest c.args.line.now _ c.piece_end-end.ensures.is) (sym c.name.ensures ∙ c.if-not-name.false) _ _ strict.1 _ strict.2 _
    (laws.fails _ _ _ (are_sorts c.in-Some.strict) _ _ c.next-2.ensures.steps c.is_some_and.ensures (λ x h. search rules) c.if-not-is_some_and.true)

pub returns-then-not-is_some_and-2 : goal.returns-then-not-is_some_and-2
returns-then-not-is_some_and-2 c =
    let strict = laws.counts_as _ _ _ _ _ c.next.ensures.steps c.and_then.ensures (λ x h. search rules) _ c.in-Some.is in
    let sorts = laws.passes _ _ _ (are_sorts c.in-Some.strict) _ _ c.next-2.ensures.steps c.is_some_and.ensures (λ x h. search rules) c.if-not-is_some_and.false in
    laws.no_result _ _ _ (laws.first_rest c.args.line.now _ c.piece_end-end.ensures.is) (sym c.name.ensures ∙ c.if-not-name.false) _ _ strict.1 _ strict.2 _ _ sorts.1 sorts.2 _
    (laws.fails _ _ _ is_result _ _ c.next-3.ensures.steps c.is_some_and-2.ensures (λ x h. search rules) c.if-not-is_some_and-2.true)

pub returns-then-is_empty : goal.returns-then-is_empty
returns-then-is_empty c =
    let strict = laws.counts_as _ _ _ _ _ c.next.ensures.steps c.and_then.ensures (λ x h. search rules) _ c.in-Some.is in
    let sorts = laws.passes _ _ _ (are_sorts c.in-Some.strict) _ _ c.next-2.ensures.steps c.is_some_and.ensures (λ x h. search rules) c.if-not-is_some_and.false in
    let res = laws.passes _ _ _ is_result _ _ c.next-3.ensures.steps c.is_some_and-2.ensures (λ x h. search rules) c.if-not-is_some_and-2.false in
    laws.body_lacks _ _ _ (laws.first_rest c.args.line.now _ c.piece_end-end.ensures.is) (sym c.name.ensures ∙ c.if-not-name.false) _ _ strict.1 _ strict.2 _ _ sorts.1 sorts.2 _ _ res.1 res.2
    (laws.no_field _ (eqb-true _ _ (sym c.is_empty.ensures ∙ c.if-is_empty.true)))

pub judge_body-requires : goal.judge_body-requires
judge_body-requires c =
    let strict = laws.counts_as _ _ _ _ _ c.next.ensures.steps c.and_then.ensures (λ x h. search rules) _ c.in-Some.is in
    let sorts = laws.passes _ _ _ (are_sorts c.in-Some.strict) _ _ c.next-2.ensures.steps c.is_some_and.ensures (λ x h. search rules) c.if-not-is_some_and.false in
    let res = laws.passes _ _ _ is_result _ _ c.next-3.ensures.steps c.is_some_and-2.ensures (λ x h. search rules) c.if-not-is_some_and-2.false in
    omega (arith, ap length (laws.first_rest c.args.line.now _ c.piece_end-end.ensures.is), ap length strict.1, ap length sorts.1, ap length res.1, laws.fields_within c.args.line.now, c.requires)

pub returns : goal.returns
returns c =
    let strict = laws.counts_as _ _ _ _ _ c.next.ensures.steps c.and_then.ensures (λ x h. search rules) _ c.in-Some.is in
    let sorts = laws.passes _ _ _ (are_sorts c.in-Some.strict) _ _ c.next-2.ensures.steps c.is_some_and.ensures (λ x h. search rules) c.if-not-is_some_and.false in
    let res = laws.passes _ _ _ is_result _ _ c.next-3.ensures.steps c.is_some_and-2.ensures (λ x h. search rules) c.if-not-is_some_and-2.false in
    c.judge_body.ensures
    ∙ laws.body_judged _ _ _ (laws.first_rest c.args.line.now _ c.piece_end-end.ensures.is) (sym c.name.ensures ∙ c.if-not-name.false) _ _ strict.1 _ strict.2 _ _ sorts.1 sorts.2 _ _ res.1 res.2
    _ _ (laws.one_field _ _ (eqb-false _ _ (sym c.is_empty.ensures ∙ c.if-is_empty.false)) refl)
