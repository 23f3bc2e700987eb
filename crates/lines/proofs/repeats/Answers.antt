-- `lines::repeats` meets its contract. Assumes nothing.
use native.Mathlib.Omega.{arith}
use Prim.Native.Nat.{◌+◌}
use mathlib.Core.Path.{ap, ◌∙◌}
use Rattle.lines.specs.Lines.{shown}
use Rattle.lines.proofs.Laws as laws
use Rattle.lines.proofs.repeats.Goals as goal

pub returns-then-contains : goal.returns-then-contains
returns-then-contains c = laws.name_again c.args.names.now c.loop-n.n (c.loop-n.n + 1) _ (omega arith) c.contains.ensures.value c.if-contains.true ∙ ap shown c.loop-n.invariant

pub loop-n-preserved : goal.loop-n-preserved
loop-n-preserved c = laws.name_new c.args.names.now c.loop-n.n (c.loop-n.n + 1) _ (omega arith) c.contains.ensures.value c.if-contains.false ∙ c.loop-n.invariant

pub returns : goal.returns
returns c = laws.names_end c.args.names.now c.loop-n.n (c.loop-n.n + 1) (omega arith) ∙ ap shown c.loop-n.invariant
