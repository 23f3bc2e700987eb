-- `coding::Emitter::put_instruction` meets its contract. Assumes nothing.
use Rattle.std.proofs.Common.{ℕ, [], ◌∷◌, ap, refl, sym, ◌∙◌}
use Rattle.meaning.specs.Code.{twelve}
use Rattle.coding.proofs.Instructions as laws
use Rattle.coding.proofs.Emitter.put_instruction.Goals as goal

pub returns-in-Unknown : goal.returns-in-Unknown
unfolding twelve
returns-in-Unknown c = laws.stored_plain _ _ _ _ _ _ _ _ _ _ _ (sym c.symbol.ensures ∙ c.in-Unknown.is) c.store.ensures tt refl

pub returns-in-Argument : goal.returns-in-Argument
unfolding twelve
returns-in-Argument c = laws.stored_plain _ _ _ _ _ _ _ _ _ _ _ (sym c.symbol.ensures ∙ c.in-Argument.is) c.store-in-Argument.ensures tt (ap (λ (k : ℕ). 1 ∷ c.args.next ∷ k ∷ 0 ∷ 0 ∷ 0 ∷ 0 ∷ 0 ∷ 0 ∷ 0 ∷ 0 ∷ 0 ∷ []) c.saturating_add.ensures)

pub returns-in-Constant : goal.returns-in-Constant
returns-in-Constant c = laws.stored_plain _ _ _ _ _ _ _ _ _ _ _ (sym c.symbol.ensures ∙ c.in-Constant.is) c.store-in-Constant.ensures tt c.execute.ensures

pub returns-in-Operation : goal.returns-in-Operation
returns-in-Operation c = laws.stored_plain _ _ _ _ _ _ _ _ _ _ _ (sym c.symbol.ensures ∙ c.in-Operation.is) c.store-in-Operation.ensures tt (rw c.from.ensures at c.execute-in-Operation.ensures)

pub returns-in-Not : goal.returns-in-Not
returns-in-Not c = laws.stored_plain _ _ _ _ _ _ _ _ _ _ _ (sym c.symbol.ensures ∙ c.in-Not.is) c.store-in-Not.ensures tt c.execute-in-Not.ensures

pub returns-in-Cond : goal.returns-in-Cond
returns-in-Cond c = laws.stored_select _ _ _ _ _ _ _ _ _ _ _ (sym c.symbol.ensures ∙ c.in-Cond.is) c.store-in-Cond.ensures refl c.select.ensures

pub returns-in-Function : goal.returns-in-Function
returns-in-Function c = laws.stored_call _ _ _ _ _ _ _ _ _ _ _ (sym c.symbol.ensures ∙ c.in-Function.is) c.store-in-Function.ensures _ refl c.call.ensures
