-- `entrances::Symbols::entrance` meets its contract. Assumes nothing.
use Rattle.std.proofs.Common.{◌≡◌, ◌<◌, ℕ, List, length, sym, ap, ◌∙◌, arith}
use Rattle.table.specs.declared.Signature.{Signature}
use Rattle.table.specs.declared.Symbol.{Symbol}
use Rattle.entrances.specs.View.{leads_of}
use Rattle.entrances.proofs.Laws as laws
use Rattle.entrances.proofs.Symbols.+entrance.Goals as goal

-- what the symbol at hand takes, as the code finds it
read : (H : List Signature) (w x : Symbol) (n : ℕ) → n ≡ leads_of H w → w ≡ x → leads_of H x ≡ n
read H w x n e f = sym (e ∙ ap (leads_of H) f)

pub returns-then-depth-eq0 : goal.returns-then-depth-eq0
returns-then-depth-eq0 t c = laws.entrance_deep _ _ _ _ c.if-depth-eq0.true

pub returns-then-leads-eq0 : goal.returns-then-leads-eq0
returns-then-leads-eq0 t c = laws.entrance_own _ _ _ _ (read _ _ _ _ c.leads.ensures c.symbol.ensures ∙ c.if-leads-eq0.true)

pub overflow_add-at : goal.overflow_add-at
overflow_add-at t c =
    let within : c.args.at < length c.args.self.now.table.symbols.now = laws.leads_within c.args.self.now.table.heads.now _ _ (λ e. c.if-leads-eq0.false (sym (read _ _ _ _ c.leads.ensures c.symbol.ensures) ∙ e)) in
    omega arith

pub returns : goal.returns
returns t c = laws.entrance_down _ _ _ _ _ _ (omega arith) (λ e. c.if-leads-eq0.false (sym (read _ _ _ _ c.leads.ensures c.symbol.ensures) ∙ e)) c.entrance.ensures
