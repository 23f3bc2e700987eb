-- `kinds::Registers::step` meets its contract. Assumes nothing.
use mathlib.Core.Path.{refl, ◌∙◌}
use borrow.Author.Rules.{rules}
use Rattle.meaning.specs.Machine.{obey}
use Rattle.layout.specs.Decoding.{of_kind}
use Rattle.layout.proofs.Reading.{of_kind_none}
use Rattle.kinds.specs.Met.{is_stuck}
use Rattle.kinds.proofs.Meeting.{meets_read}
use Rattle.kinds.proofs.Registers.step.Goals as goal

pub returns-in_default : goal.returns-in_default
unfolding obey
returns-in_default c = is_stuck (rw c.in_default.ensures) refl refl

pub returns-in-1 : goal.returns-in-1
unfolding of_kind
returns-in-1 c = meets_read c.args.self _ _ (c.in-Some.ensures ∙ rw c.in-1.is) c.look_up.ensures

pub returns-in-2 : goal.returns-in-2
unfolding of_kind
returns-in-2 c = meets_read c.args.self _ _ (c.in-Some.ensures ∙ rw c.in-2.is) c.operate.ensures

pub returns-in-3 : goal.returns-in-3
unfolding of_kind
returns-in-3 c = meets_read c.args.self _ _ (c.in-Some.ensures ∙ rw c.in-3.is) c.choose.ensures

pub returns-in-4 : goal.returns-in-4
unfolding of_kind
returns-in-4 c = meets_read c.args.self _ _ (c.in-Some.ensures ∙ rw c.in-4.is) c.call.ensures

pub returns-in-5 : goal.returns-in-5
unfolding of_kind
returns-in-5 c = meets_read c.args.self _ _ (c.in-Some.ensures ∙ rw c.in-5.is) c.go_back.ensures

pub returns-in_default-instruction : goal.returns-in_default-instruction
unfolding obey
returns-in_default-instruction c =
    is_stuck (rw (c.in-Some.ensures ∙ of_kind_none _ _ _ (search rules) (search rules) (search rules) (search rules) (search rules))) refl refl
