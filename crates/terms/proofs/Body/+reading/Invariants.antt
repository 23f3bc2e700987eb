-- What falls where `terms::Body::read_args` and `terms::Body::read_term` call each other: the depth and the fields that are left.
-- What holds at each turn of the loop over arguments: what is read from here on, and it alone, completes them. Assumes nothing.
use Rattle.std.proofs.Common.{◌≡◌, ◌+◌, ◌-◌, ◌*◌, ◌≤◌, ℕ, List, length, Result}
use Rattle.terms.specs.Terms.{Tolds}
use Rattle.terms.specs.declared.Fault.{Fault}
use Rattle.terms.proofs.Body.+reading.Given as goal

abbrev pub decreases-read_args : goal.decreases-read_args
decreases-read_args l = 2 * (l.depth + (length l.self.symbols.now - l.from)) + 1

abbrev pub decreases-read_term : goal.decreases-read_term
decreases-read_term l = 2 * (l.depth + (length l.self.symbols.now - l.at))

abbrev pub invariant-read_args-loop : goal.invariant-read_args-loop
invariant-read_args-loop l = record {
  kept : length l.ends ≡ length l.initial.ends;
  after : l.from ≤ l.at;
  within : l.at ≤ length l.self.symbols.now;
  rest : (e' : List ℕ) (r : Result ℕ Fault) → Tolds l.self.symbols.now l.self.heads.now l.self.own l.at l.depth (l.end - l.counter) l.mask l.ends e' r →
      Tolds l.self.symbols.now l.self.heads.now l.self.own l.from l.depth l.fn.args.count l.fn.args.mask l.initial.ends e' r;
}
