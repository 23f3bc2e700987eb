-- `bodies::read_lines` meets its contract. Assumes nothing.
use native.Mathlib.Omega.{arith}
use mathlib.Core.Path.{◌≡◌, ap, sym, ◌∙◌}
use mathlib.Core.Logic.{inl}
use lib.ListN.{length, drop, length-map, length-drop}
use lib.Seq.{length-take-le}
use Rattle.std.proofs.Common.{ℕ, rules, get_or, Err, ◌≤◌, ◌<◌, ◌+◌, ◌-◌}
use Rattle.std.proofs.lemmas.Result.{err_from_is_err_and}
use Rattle.meaning.specs.Arithmetic.{modulus}
use Rattle.meaning.specs.Numbers.{most_functions}
use Rattle.meaning.specs.Text.{lines}
use Rattle.lines.specs.Lines.{name_number}
use Rattle.lines.proofs.Laws as lines-laws
use Rattle.terms.specs.declared.Fault.{Fault}
use Rattle.bodies.specs.Bodies.{refused_at}
use Rattle.bodies.proofs.Laws as laws
use Rattle.bodies.proofs.read_lines.Goals as goal

pub loop-n-init-derived : goal.loop-n-init-derived
loop-n-init-derived c =
    rw (c.into_iter-n-iterator.ensures.into_iter_gives, c.enumerate-n-items.ensures.source, c.enumerate-n-items.ensures.count, c.rest_of-rest.ensures)
    ((tt, tt, inl (omega (arith, lines-laws.raw_within (drop c.args.start c.args.text.now), c.requires.shape.0, length-drop c.args.start c.args.text.now))), tt)

pub loop-n-init : goal.loop-n-init
loop-n-init c =
    rw (c.into_iter-n-iterator.ensures.into_iter_gives, c.enumerate-n-items.ensures.source, c.enumerate-n-items.ensures.count, c.rest_of-rest.ensures)
    record {
      next = (tt, tt, inl (omega (arith, lines-laws.raw_within (drop c.args.start c.args.text.now), c.requires.shape.0, length-drop c.args.start c.args.text.now)));
      finite = tt;
      reading = laws.reading_begins _ _ _ _ _ _ _ _ (omega arith) c.requires.shape.2 c.requires.shape.3;
    }

pub tabs_of-tabs-requires : goal.tabs_of-tabs-requires
tabs_of-tabs-requires c = (laws.shaped _ _ _ _ _ _ _ _ _ _ _ _ _ c.loop-n.invariant.reading _ _ c.in-Some.ensures.steps.0).0

pub fill-end-requires : goal.fill-end-requires
fill-end-requires c =
    let left = laws.fields_left _ _ _ _ _ _ _ _ _ _ _ _ _ c.loop-n.invariant.reading _ _ c.in-Some.ensures.steps.0 in
    let k = laws.body_count _ _ _ _ _ c.tabs_of-tabs.ensures in
    record { few = omega (arith, ap length c.requires.noted.0, length-map (lines c.args.text.now) name_number, c.requires.noted.2); room = omega (arith, left, k, c.requires.room.1) }

pub slice_bounds-body-end : goal.slice_bounds-body-end
slice_bounds-body-end c =
    let left = laws.fields_left _ _ _ _ _ _ _ _ _ _ _ _ _ c.loop-n.invariant.reading _ _ c.in-Some.ensures.steps.0 in
    omega (arith, left, laws.body_count _ _ _ _ _ c.tabs_of-tabs.ensures, c.fill-end.ensures.place, c.requires.room.1)

pub slice_bounds-body-end-in-loop-n : goal.slice_bounds-body-end-in-loop-n
slice_bounds-body-end-in-loop-n c =
    let left = laws.fields_left _ _ _ _ _ _ _ _ _ _ _ _ _ c.loop-n.invariant.reading _ _ c.in-Some.ensures.steps.0 in
    sym (length-take-le _ c.fill-end.new.symbols (omega (arith, left, laws.body_count _ _ _ _ _ c.tabs_of-tabs.ensures, c.fill-end.ensures.place, c.requires.room.1)))

pub read-requires : goal.read-requires
read-requires c =
    let left = laws.fields_left _ _ _ _ _ _ _ _ _ _ _ _ _ c.loop-n.invariant.reading _ _ c.in-Some.ensures.steps.0 in
    let end = laws.table_end _ c.args.names.now c.loop-n.at _ c.loop-n.symbols _ _ _ _ _ c.tabs_of-tabs.ensures c.fill-end.ensures.place c.fill-end.ensures.symbols (omega (arith, left, c.requires.room.1)) in
    (omega (arith, end, left, c.requires.room.2), omega (arith, end, left, c.requires.room.3), omega (arith, end))

pub map_err-requires : goal.map_err-requires
map_err-requires c =
    let i = c.loop-n.invariant.reading in
    let s = c.in-Some.ensures.steps in
    let left = laws.fields_left _ _ _ _ _ _ _ _ _ _ _ _ _ i _ _ s.0 in
    let end = laws.table_end _ c.args.names.now c.loop-n.at _ c.loop-n.symbols _ _ _ _ _ c.tabs_of-tabs.ensures c.fill-end.ensures.place c.fill-end.ensures.symbols (omega (arith, left, c.requires.room.1)) in
    let asked : (f : Fault) → c.read.result ≡ Err f → (c.loop-n.at ≤ f.at) × (5 + (f.at - c.loop-n.at) < modulus) × (c.args.first + c.in-Some.n ≤ most_functions) =
    λ f h. (
      laws.bad_place _ _ _ _ _ _ _ _ _ _ _ _ _ i _ _ s.0 c.requires.shape.1 _ _ _ _ _ _ _ _ _ _ _ c.tabs_of-tabs.ensures c.requires.noted.0 c.requires.noted.1 (ap (λ (k : ℕ). get_or c.args.heads.now (c.args.first + k) laws.no_signature) s.1)
          c.fill-end.ensures.place c.fill-end.ensures.symbols (omega (arith, left, c.requires.room.1)) c.read.ensures.read f h,
      omega (arith, laws.fault_within _ _ f _ c.read.ensures.within h, end, left, c.requires.room.3),
      omega (arith, s.1, (laws.here _ _ _ _ _ _ _ _ _ _ _ _ _ i _ _ s.0).0, c.requires.noted.2),
    ) in
    λ f h _ _ _ _ _ _. asked f h

pub returns-in_err-at : goal.returns-in_err-at
returns-in_err-at c =
    let i = c.loop-n.invariant.reading in
    let s = c.in-Some.ensures.steps in
    let left = laws.fields_left _ _ _ _ _ _ _ _ _ _ _ _ _ i _ _ s.0 in
    let a = lines-laws.err_before c.read.result c.map_err.result _ (λ fault r. r ≡ refused_at fault (c.args.first + c.in-Some.n) c.loop-n.at) _ c.map_err.ensures.cases c.in_err-at.was (λ fault h. search rules) in
    let b = err_from_is_err_and c.from_residual.result c.from_residual.ensures.1 in
    rw (b.1, b.2, a.2 ∙ ap (λ (k : ℕ). refused_at a.0 (c.args.first + k) c.loop-n.at) s.1)
    (laws.bad_line _ _ _ _ _ _ _ _ _ _ _ _ _ i _ _ s.0 c.requires.shape.1 _ _ _ _ _ _ _ _ _ _ _ c.tabs_of-tabs.ensures c.requires.noted.0 c.requires.noted.1 (ap (λ (k : ℕ). get_or c.args.heads.now (c.args.first + k) laws.no_signature) s.1)
    c.fill-end.ensures.place c.fill-end.ensures.symbols (omega (arith, left, c.requires.room.1)) c.read.ensures.read _ _ a.1)

pub loop-n-preserved : goal.loop-n-preserved
loop-n-preserved c =
    let i = c.loop-n.invariant.reading in
    let s = c.in-Some.ensures.steps in
    let left = laws.fields_left _ _ _ _ _ _ _ _ _ _ _ _ _ i _ _ s.0 in
    let end = laws.table_end _ c.args.names.now c.loop-n.at _ c.loop-n.symbols _ _ _ _ _ c.tabs_of-tabs.ensures c.fill-end.ensures.place c.fill-end.ensures.symbols (omega (arith, left, c.requires.room.1)) in
    let a = lines-laws.ok_before c.read.result c.map_err.result _ _ c.map_err.ensures.cases c.in_ok-at.was in
    record {
      next = (tt, tt, inl (omega (arith, i.place, ap length s.0, s.2, c.requires.noted.2, ap length c.requires.shape.3, length-drop c.args.first (lines c.args.text.now))));
      finite = tt;
      reading = rw (s.2, s.1)
          (laws.reading_on _ _ _ _ _ _ _ _ _ _ _ _ _ i _ _ s.0 c.requires.shape.1 _ _ _ _ _ _ _ _ _ _ _ c.tabs_of-tabs.ensures c.requires.noted.0 c.requires.noted.1 (ap (λ (k : ℕ). get_or c.args.heads.now (c.args.first + k) laws.no_signature) s.1)
          c.fill-end.ensures.place c.fill-end.ensures.symbols (omega (arith, left, c.requires.room.1)) c.read.ensures.read _ _ (omega arith) a
          (omega (arith, (laws.here _ _ _ _ _ _ _ _ _ _ _ _ _ i _ _ s.0).0, c.requires.room.0)) (omega (arith, left, c.requires.room.1)) (omega (arith, left, c.requires.room.2)) (omega (arith, laws.next_within _ _ _ _ c.read.ensures.within a, end)));
    }

pub returns : goal.returns
returns c = laws.reading_ends _ _ _ _ _ _ _ _ _ _ _ _ _ c.loop-n.invariant.reading c.in-None.ensures.steps.0.0
