-- What holds at each turn of the loop of `lines::judge_body`, and its measure. Assumes nothing.
use mathlib.Core.Path.{◌≡◌}
use mathlib.Core.List.{[]}
use Rattle.meaning.specs.Text.{first_wrong}
use Rattle.fields.specs.Fields.{rest}
use Rattle.lines.specs.Lines.{outcome}
use Prim.Native.Nat.{◌+◌, ◌-◌}
use lib.ListN.{length, drop}
use Rattle.lines.proofs.judge_body.Given as goal

abbrev pub invariant-loop-tab : goal.invariant-loop-tab
invariant-loop-tab l =
    let left = rest 9 (drop l.tab l.body) in
    record {
      counted : l.symbols + length left ≡ length (rest 9 l.body);
      judged : outcome (first_wrong (5 + l.symbols) [] left) (length (rest 9 l.body)) ≡ outcome (first_wrong 5 [] (rest 9 l.body)) (length (rest 9 l.body));
    }

abbrev pub decreases-loop-tab : goal.decreases-loop-tab
decreases-loop-tab l = length l.body - l.tab
