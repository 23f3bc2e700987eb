-- `checked::judge` prints what fits its words. Assumes nothing.
use Rattle.std.proofs.Common.{◌≡◌, ◌<◌, ◌^◌, refl, arith}
use Rattle.std.specs.Prelude.{IfOk}
use Rattle.meaning.specs.Text.{Verdict, fine, refused}
use Rattle.meaning.specs.Terms.{Program}
use Rattle.meaning.specs.Said.{found, accepted}
use Rattle.accepted.specs.Accepted as programs
use Rattle.accepted.proofs.Accepted as checks
use Rattle.accepted.proofs.Length.{translation_few}
use Rattle.checked.proofs.judge.Goals as goal

-- An accepted text has few functions and few instructions.
counts : (v : Verdict Program) → ((P : Program) → v ≡ fine P → programs.Accepted P) → IfOk (found accepted v) (λ a. (a.functions < 2 ^ 32) × (a.instructions < 2 ^ 32))
unfolding found
counts (fine P) h = let a = h P refl in (omega (arith, a.few_functions), omega (arith, translation_few P a))
counts (refused n l f) h = tt

pub of-c-requires : goal.of-c-requires
of-c-requires g c = rw c.read_table.ensures.answer (counts _ (checks.accepted c.args.text.now))
