-- `terms::Body::read_args` and `terms::Body::read_term` meet their contracts: they call each other, remaining depth and fields falling. Assumes nothing.
use Rattle.std.proofs.Common.{◌≡◌, ◌+◌, ◌-◌, arith, sym}
use Rattle.std.proofs.lemmas.Result.{err_from_is_err_and}
use Rattle.terms.proofs.Laws as laws
use Rattle.terms.proofs.Body.+reading.Goals.{read_term-then-args-eq0, read_term-else-args-eq0+in_ok-next}
use Rattle.terms.proofs.Body.+reading.Goals as goal

pub read_args-returns-in_err-at-clause-read : goal.read_args-returns-in_err-at-clause-read
read_args-returns-in_err-at-clause-read t c =
    let s = c.args.self in
    let p = err_from_is_err_and c.from_residual.result c.from_residual.ensures.1 in
    rw (p.1, p.2) (c.loop.invariant.rest _ _ (laws.args_fault s.symbols.now s.heads.now s.own c.loop.at c.args.depth (c.args.args.count - c.loop.counter) c.loop.mask c.lowest.result _ c.loop.ends _ (omega arith) c.lowest.ensures c.in_err-at.ensures.read))

pub read_args-loop-preserved : goal.read_args-loop-preserved
read_args-loop-preserved t c =
    let s = c.args.self in
    let w = c.in_ok-at.ensures.within in record {
      kept = omega arith;
      after = omega arith;
      within = omega arith;
      rest = λ e' r p. c.loop.invariant.rest e' r
          (laws.args_more s.symbols.now s.heads.now s.own c.loop.at c.args.depth (c.args.args.count - c.loop.counter) c.loop.mask _ c.lowest.result c.loop.ends _ _ _ (omega arith) (omega arith) c.lowest.ensures c.in_ok-at.ensures.read
          (let e : c.args.args.count - (c.loop.counter + 1) ≡ c.args.args.count - c.loop.counter - 1 = omega arith in rw (← e) p));
    }

pub read_args-returns-clause-read : goal.read_args-returns-clause-read
read_args-returns-clause-read t c = c.loop.invariant.rest _ _ (laws.args_none _ _ _ _ _ _ _ _ (omega arith))

pub read_term-returns-in_err-args-clause-read : goal.read_term-returns-in_err-args-clause-read
read_term-returns-in_err-args-clause-read t c =
    let p = err_from_is_err_and c.from_residual.result c.from_residual.ensures.1 in rw (p.1, p.2) (laws.term_unfit _ _ _ _ _ _ _ _ _ (sym c.in_err-args.ensures.args))

pub read_term-returns-in_err-next-clause-read : goal.read_term-returns-in_err-next-clause-read
read_term-returns-in_err-next-clause-read t c =
    let p = err_from_is_err_and c.from_residual-in_err-next.result c.from_residual-in_err-next.ensures.1 in rw (p.1, p.2) (laws.term_fault _ _ _ _ _ _ c.in_ok-args.args _ _ _ (sym c.in_ok-args.ensures.args) c.in_err-next.ensures.read)

pub read_term-returns-clause-read : goal.read_term-returns-clause-read
read_term-returns-clause-read t c =
    let s = c.args.self in
    laws.term_got s.symbols.now s.heads.now s.own c.args.at c.args.depth _ c.args.sort c.in_ok-args.args c.args.ends.now c.if-args-eq0.ends (omega arith) (sym c.in_ok-args.ensures.args)
    (elim c.if-args-eq0.branch [
      | read_term-then-args-eq0 w ↦ rw (w.ends-is, w.next-is) (laws.args_none _ _ _ _ _ _ _ _ w.if-args-eq0.true)
      | read_term-else-args-eq0+in_ok-next w ↦ rw (w.ends-is, w.next-is) w.in_ok-next.ensures.read
    ])
