-- `machine::execute` meets its contract. Assumes nothing.
use mathlib.Core.Path.{ap, ◌∙◌}
use Prim.Native.Nat.{ℕ}
use Rattle.meaning.specs.Machine.{State, run, start}
use Rattle.meaning.specs.Answers.{ran}
use Rattle.layout.specs.Decoding.{decode}
use Rattle.machine.proofs.Clearing.{same_cleared}
use Rattle.machine.proofs.execute.Goals as goal

pub returns : goal.returns
returns c = let b = c.begin.ensures in let code = c.args.code.now in let d = c.drive-answer.ensures in (
  d.0
      ∙ ap (λ (x : State). ran (run (decode code) c.args.limit x 0 0)) (b.holds_start c.first.result)
      ∙ ap (λ (a : ℕ). ran (run (decode code) c.args.limit (start a c.args.args.now) 0 0)) c.first.ensures,
  c.clear.ensures ∙ same_cleared _ _ (d.1 ∙ b.kept),
)
