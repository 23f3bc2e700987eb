-- `terms::Body::read` meets its contract. Assumes nothing.
use Rattle.std.proofs.Common.{◌≡◌, arith}
use Rattle.std.proofs.lemmas.Result.{err_from_is_err_and}
use Rattle.terms.proofs.Laws as laws
use Rattle.terms.proofs.Body.read.Goals as goal

pub returns-in_err-next-clause-read : goal.returns-in_err-next-clause-read
returns-in_err-next-clause-read c =
    let p = err_from_is_err_and c.from_residual.result c.from_residual.ensures.1 in
    rw (p.1, p.2) (laws.whole_as _ _ _ _ _ _ _ _ c.from.ensures c.in_err-next.ensures.read (λ n e. cc))

pub returns-then-next-self-clause-read : goal.returns-then-next-self-clause-read
returns-then-next-self-clause-read c = laws.whole_left _ _ _ _ _ _ _ _ c.from.ensures c.in_ok-next.ensures.read c.if-next-self.true

pub returns-clause-read : goal.returns-clause-read
returns-clause-read c = laws.whole_as _ _ _ _ _ _ _ _ c.from.ensures c.in_ok-next.ensures.read (λ n e. let m : c.in_ok-next.next ≡ n = cc in omega arith)
