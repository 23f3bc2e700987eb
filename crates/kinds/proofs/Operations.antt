-- EXEC over the values that words hold: a constant, an operation on two values, and `!`. Assumes nothing.
use mathlib.Core.Path.{◌≡◌, refl, ◌∙◌}
use mathlib.Core.Option.{some}
use mathlib.Core.List.{List, [], ◌∷◌}
use Prim.Native.Nat.{ℕ, zero, suc, ◌+◌, ◌-◌, ◌≤◌, ◌<◌}
use native.Mathlib.Omega.{arith}
use lib.ListN.{length, get_or}
use borrow.Author.Tests.{ne_eqb}
use Rattle.meaning.specs.Arithmetic.{Op, add, sub, mul, div, rem, eq, lt, and, or, opposite, op_number, domain, apply, of_none, of_one}
use Rattle.meaning.specs.Machine.{Place, at, Environment, state, next, no_step, zero_division, taken, execute, push_result, obey, rewrites}
use Rattle.std.specs.Prelude.{Some, None}
use Rattle.word.specs.declared.Operation.{Operation}
use Rattle.word.specs.declared.Operation.TheVariants.{Plus, Minus, Times, Divided, LeftOver, Same, Below, And, Or}
use Rattle.word.specs.Operated.{applied, operated, operation_number, operates_on_two}
use Rattle.layout.specs.Decoding.{operation, an_exec}
use Rattle.layout.specs.Layout.{values_from, stored, values}

-- Each operation of src/ is one of meaning that takes two values, with its number.
record Binary (o : Operation) (v : ℕ) : Type 0 where
  meant : Op
  decodes : operation (operation_number o) v ≡ some meant
  takes_two : length (domain meant) ≡ 2
  numbered : op_number meant ≡ operation_number o

binary : (o : Operation) (v : ℕ) → Binary o v
unfolding operation domain op_number
binary Plus v = record { meant = add; decodes = refl; takes_two = refl; numbered = refl }
binary Minus v = record { meant = sub; decodes = refl; takes_two = refl; numbered = refl }
binary Times v = record { meant = mul; decodes = refl; takes_two = refl; numbered = refl }
binary Divided v = record { meant = div; decodes = refl; takes_two = refl; numbered = refl }
binary LeftOver v = record { meant = rem; decodes = refl; takes_two = refl; numbered = refl }
binary Same v = record { meant = eq; decodes = refl; takes_two = refl; numbered = refl }
binary Below v = record { meant = lt; decodes = refl; takes_two = refl; numbered = refl }
binary And v = record { meant = and; decodes = refl; takes_two = refl; numbered = refl }
binary Or v = record { meant = or; decodes = refl; takes_two = refl; numbered = refl }

-- each is a rewrite
pub rewrites_two : (k : ℕ) (o : Operation) (v b : ℕ) → k ≡ operation_number o → rewrites (an_exec (operation k v) b) ≡ 1
unfolding rewrites an_exec
rewrites_two k o v b e = rw (e, (binary o v).decodes)

pub rewrites_constant : (k v b : ℕ) → k ≡ 0 → rewrites (an_exec (operation k v) b) ≡ 1
unfolding rewrites an_exec operation
rewrites_constant k v b e = rw e

pub rewrites_negation : (k v b : ℕ) → k ≡ 10 → rewrites (an_exec (operation k v) b) ≡ 1
unfolding rewrites an_exec operation
rewrites_negation k v b e = rw e

module _ (v b : ℕ) (rs : List Place) (es : List Environment) where
  pub exec_constant : (k : ℕ) → k ≡ 0 → (ds : List ℕ) → obey (an_exec (operation k v) b) rs ds es ≡ next (state (at b) rs (v ∷ ds) es)
  unfolding obey an_exec operation execute taken domain apply of_none push_result
  exec_constant k e ds = rw e

  exec_on_two : (o : Operation) (x y : ℕ) (ds : List ℕ) → obey (an_exec (operation (operation_number o) v) b) rs (y ∷ x ∷ ds) es ≡ push_result (applied (operated (operation_number o) x y)) b rs ds es
  unfolding obey an_exec execute taken
  exec_on_two o x y ds =
      let p = binary o v in
      rw (p.decodes, p.takes_two, operates_on_two p.meant p.takes_two x y, p.numbered)

  exec_on_one : (o : Operation) (x : ℕ) → obey (an_exec (operation (operation_number o) v) b) rs (x ∷ []) es ≡ no_step
  unfolding obey an_exec execute taken
  exec_on_one o x = let p = binary o v in rw (p.decodes, p.takes_two)

  exec_on_none : (o : Operation) → obey (an_exec (operation (operation_number o) v) b) rs [] es ≡ no_step
  unfolding obey an_exec execute taken
  exec_on_none o = let p = binary o v in rw (p.decodes, p.takes_two)

  module _ (w : List ℕ) (k : ℕ) (o : Operation) (held d : ℕ) (named : k ≡ operation_number o) where
    pub exec_few : d < 2 → obey (an_exec (operation k v) b) rs (values w held d) es ≡ no_step
    unfolding values stored
    exec_few p = rw named (by d p)
      where
        by : (d : ℕ) → d < 2 → obey (an_exec (operation (operation_number o) v) b) rs (values w held d) es ≡ no_step
        by zero p = exec_on_none o
        by (suc zero) p = exec_on_one o held
        by (suc (suc d)) p = absurd (omega arith)

    module _ (p : 2 ≤ d) where
      abbrev below : ℕ
      below = get_or w (values_from + (d - 1)) 0

      exec_two : obey (an_exec (operation k v) b) rs (values w held d) es ≡ push_result (applied (operated (operation_number o) below held)) b rs (stored w (d - 2)) es
      unfolding values stored
      exec_two = rw named (by d p)
        where
          by : (d : ℕ) → 2 ≤ d → obey (an_exec (operation (operation_number o) v) b) rs (values w held d) es ≡ push_result (applied (operated (operation_number o) (get_or w (values_from + (d - 1)) 0) held)) b rs (stored w (d - 2)) es
          by zero p = absurd (omega arith)
          by (suc zero) p = absurd (omega arith)
          by (suc (suc d)) p =
              let e : suc (suc d) - 1 ≡ suc d = omega arith in
              let f : suc (suc d) - 2 ≡ d = omega arith in
              rw (e, f) (exec_on_two o (get_or w (values_from + suc d) 0) held (stored w d))

      values_left : (x : ℕ) → x ∷ stored w (d - 2) ≡ values w x (d - 1)
      unfolding values
      values_left x = let e : d - 1 ≡ suc (d - 2) = omega arith in rw e

      pub exec_gives : (x : ℕ) → Some x ≡ operated (operation_number o) below held → obey (an_exec (operation k v) b) rs (values w held d) es ≡ next (state (at b) rs (values w x (d - 1)) es)
      unfolding applied push_result
      exec_gives x e = exec_two ∙ rw (← e, values_left x)

      pub exec_divides : None ≡ operated (operation_number o) below held → obey (an_exec (operation k v) b) rs (values w held d) es ≡ zero_division
      unfolding applied push_result
      exec_divides e = exec_two ∙ rw (← e)

  pub negation_nothing : (w : List ℕ) (k held d : ℕ) → k ≡ 10 → d ≡ 0 → obey (an_exec (operation k v) b) rs (values w held d) es ≡ no_step
  unfolding values obey an_exec operation execute taken domain
  negation_nothing w k held d e p = rw (e, p)

  pub exec_negation : (w : List ℕ) (k held d : ℕ) → k ≡ 10 → (d ≡ 0 → ⊥) → obey (an_exec (operation k v) b) rs (values w held d) es ≡ next (state (at b) rs (values w (opposite held) d) es)
  unfolding values obey an_exec operation execute taken domain push_result apply of_one
  exec_negation w k held zero e p = absurd (p refl)
  exec_negation w k held (suc d) e p = rw e

  pub exec_unknown : (k : ℕ) → 10 < k → (ds : List ℕ) → obey (an_exec (operation k v) b) rs ds es ≡ no_step
  unfolding obey an_exec operation
  exec_unknown k h ds =
      simp (ne_eqb k 0 (λ e. omega arith), ne_eqb k 1 (λ e. omega arith), ne_eqb k 2 (λ e. omega arith), ne_eqb k 3 (λ e. omega arith), ne_eqb k 4 (λ e. omega arith), ne_eqb k 5 (λ e. omega arith), ne_eqb k 6 (λ e. omega arith), ne_eqb k 7 (λ e. omega arith), ne_eqb k 8 (λ e. omega arith), ne_eqb k 9 (λ e. omega arith), ne_eqb k 10 (λ e. omega arith))
