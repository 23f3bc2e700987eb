-- EVAL over the words, by the tests that the code makes: p is the position, e the level whose frame is looked at. Assumes nothing.
use mathlib.Core.Path.{◌≡◌, sym, ◌∙◌}
use mathlib.Core.Logic.{◌⊎◌, inl, inr}
use mathlib.Core.List.{List, ◌∷◌}
use Prim.Native.Nat.{ℕ, zero, suc, ◌+◌, ◌-◌, ◌≤◌, ◌<◌}
use native.Mathlib.Omega.{arith}
use Rattle.meaning.specs.Numbers.{most_arguments}
use Rattle.meaning.specs.Machine.{Place, at, state, Next, next, no_step, look_up, obey}
use Rattle.layout.specs.Decoding.{an_eval}
use Rattle.layout.specs.Layout.{link_word, strict_word, size_word, slot_words, cell, chain, environments}
use Rattle.layout.proofs.Slots.{slot_none, slot_past}
use Rattle.layout.proofs.Steps.{look_value, look_waits, look_none, look_nowhere}

pub looks_no_position : (w : List ℕ) (b : ℕ) (rs : List Place) (ds : List ℕ) (h e x p : ℕ) → p ≡ x → p ≡ 0 → obey (an_eval x b) rs ds (environments w e h) ≡ no_step
unfolding obey an_eval
looks_no_position w b rs ds h e x p px q = let z : x ≡ 0 = sym px ∙ q in rw z

module _ (w : List ℕ) (b : ℕ) (rs : List Place) (ds : List ℕ) (h e p : ℕ) (l : e ≤ h) where
  abbrev looks : Next
  looks = obey (an_eval p b) rs ds (environments w e h)

  looks_up : (p ≡ 0 → ⊥) → looks ≡ look_up (p - 1) b rs ds (environments w e h)
  unfolding obey an_eval
  looks_up z = by p z
    where
      by : (p : ℕ) → (p ≡ 0 → ⊥) → obey (an_eval p b) rs ds (environments w e h) ≡ look_up (p - 1) b rs ds (environments w e h)
      by zero n = absurd (n (omega arith))
      by (suc i) n = let f : suc i - 1 ≡ i = omega arith in rw f

  -- no position, no frame, or no such position in any frame
  pub looks_nowhere : (p ≡ 0) ⊎ (((p ≡ 0 → ⊥) × (e ≡ 0)) ⊎ ((p ≡ 0 → ⊥) × (e ≡ 0 → ⊥) × (most_arguments < p))) → looks ≡ no_step
  unfolding obey an_eval
  looks_nowhere (inl q) = rw q
  looks_nowhere (inr (inl z)) = looks_up z.0 ∙ look_nowhere w (p - 1) b rs ds h e z.1
  looks_nowhere (inr (inr z)) = looks_up z.0 ∙ look_none w (p - 1) b rs ds h e (omega arith) l (slot_past w e (p - 1) (omega arith))

  module _ (z : p ≡ 0 → ⊥) (y : e ≡ 0 → ⊥) (m : p ≤ most_arguments) where
    pub looks_value : p ≤ cell w e strict_word → looks ≡ next (state (at b) rs (cell w e (slot_words + (p - 1)) ∷ ds) (environments w e h))
    looks_value s = looks_up z ∙ look_value w (p - 1) b rs ds h e (omega arith) l (omega arith) (omega arith)

    module _ (s : cell w e strict_word < p) where
      pub looks_outside : cell w e size_word < p → looks ≡ no_step
      looks_outside t = looks_up z ∙ look_none w (p - 1) b rs ds h e (omega arith) l (slot_none w e (p - 1) (omega arith) (omega arith))

      pub looks_waiting : p ≤ cell w e size_word → cell w e link_word < e → looks ≡ next (state (at (cell w e (slot_words + (p - 1)))) (at b ∷ rs) ds (chain w h (cell w e link_word) ∷ environments w e h))
      looks_waiting t q = looks_up z ∙ look_waits w (p - 1) b rs ds h e (omega arith) l q (omega arith) (omega arith) (omega arith)
