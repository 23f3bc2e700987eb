-- A step's answer met for an equal step, and for an equal instruction. Assumes nothing.
use mathlib.Core.Path.{◌≡◌, sym, ap, subst, ◌∙◌}
use mathlib.Core.Option.{Option}
use mathlib.Core.List.{List}
use Prim.Native.Nat.{ℕ}
use Rattle.std.specs.Prelude.{Result}
use Rattle.meaning.specs.Code.{Instruction}
use Rattle.meaning.specs.Machine.{Next}
use Rattle.meaning.specs.declared.Number.{Number}
use Rattle.kinds.specs.declared.Tally.{Tally}
use Rattle.kinds.specs.declared.Registers.{Registers}
use Rattle.kinds.specs.Met.{counted, Met, Obeyed}

-- of an equal step and an equal count of rewrites
pub meets_as : (s : Tally) {t : Tally} {m n : ℕ} {o p : Next} {r : Result Registers Number} {w v : List ℕ} → p ≡ o → m ≡ n → t ≡ counted n s → Met t o r w v → Met (counted m s) p r w v
meets_as s {t} {m} {n} {o} {p} {r} {w} {v} e q c x =
    let k : t ≡ counted m s = c ∙ ap (λ (i : ℕ). counted i s) (sym q) in
    subst (λ (y : Tally). Met y p r w v) k (subst (λ (y : Next). Met t y r w v) (sym e) x)

-- of an equal instruction
pub meets_read : (s : Registers) (i j : Option Instruction) {r : Result Registers Number} {w v : List ℕ} → i ≡ j → Obeyed j s r w v → Obeyed i s r w v
meets_read s i j {r} {w} {v} e m = subst (λ (x : Option Instruction). Obeyed x s r w v) (sym e) m
