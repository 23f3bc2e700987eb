-- `kinds::instruction_at` meets its contract. Assumes nothing.
use mathlib.Core.Path.{◌≡◌, sym, subst}
use mathlib.Core.Logic.{◌≢◌}
use mathlib.Core.List.{List}
use Prim.Native.Nat.{ℕ}
use native.Mathlib.Omega.{arith}
use lib.ListN.{length}
use Rattle.std.specs.Prelude.{Option, Result, Ok, Err, MatchOption, MatchResult}
use Rattle.std.specs.Borrow.{Bor}
use Rattle.std.specs.Array.{IsWholeChunk}
use Rattle.std.specs.Result.{result_ok}
use Rattle.layout.proofs.Reading.{reads_nothing, reads_words}
use Rattle.kinds.proofs.instruction_at.Goals as goal

-- words that are as many as the array takes are the array's
as_array : {E : Type 0} (N : Type 0) (P : List ℕ → Type 0) (xs : List ℕ) (n : ℕ) (r : Result (Bor (List ℕ)) E) (o : Option (Bor (List ℕ))) → o ≡ result_ok r → length xs ≡ n → P xs
    → MatchResult r (λ (y : Bor (List ℕ)). IsWholeChunk xs y.now n) (λ (x : E). length xs ≢ n) → MatchOption o N (λ (y : Bor (List ℕ)). P y.now)
as_array N P xs n (Ok y) o e l p w = rw e (subst P (sym w.same) p)
as_array N P xs n (Err x) o e l p w = absurd (w l)

pub returns-in_err-get : goal.returns-in_err-get
returns-in_err-get c = rw c.from_residual.ensures (reads_nothing c.args.code.now c.args.address (omega (arith, c.in_err-get.ensures.lookup)))

pub returns : goal.returns
returns c =
    let words = c.in_ok-get.ensures.lookup.0 in
    as_array _ _ c.in_ok-get.field-0.now _ c.try_into.result _ c.ok.ensures.value (omega (arith, words.3)) (reads_words c.args.code.now c.args.address c.in_ok-get.field-0.now words.1 words.2) c.try_into.ensures.1
