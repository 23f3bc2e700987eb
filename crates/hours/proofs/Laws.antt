-- The laws over any modulus. Assumes nothing.
use mathlib.Core.Path.{◌≡◌, refl, ap, ap₂, sym, ◌∙◌}
use mathlib.Core.List.{List, [], ◌∷◌, ◌++◌}
use Prim.Native.Nat.{ℕ, ◌+◌, ◌-◌, ◌%◌, ◌≤◌, ◌<◌}
use native.Mathlib.Nat.{add-mod, mod-add-mod, add-mod-mod, add-mod_right, mod_self, mod-lt, mod-eq_of_lt, add_assoc}
use native.Mathlib.Omega.{arith}
use Rattle.hours.specs.Hours.{hourly, plain_sum, added_up, last, less_modulo, AllBelow, EachUseBelow, shown}

module _ (m : ℕ) where
  -- an hour before a stretch: later less middle, and middle less earlier
  over_the_hour : (total later middle earlier : ℕ) → middle < m → earlier < m → total % m ≡ less_modulo m later middle
      → (less_modulo m middle earlier + total) % m ≡ less_modulo m later earlier
  unfolding less_modulo
  over_the_hour total later middle earlier h k e =
      let x = middle + (m - earlier) in
      let y = later + (m - middle) in
      let z : x + y ≡ later + (m - earlier) + m = omega arith in
      mod-add-mod x m total ∙ sym (add-mod-mod x total m) ∙ ap (λ t. (x + t) % m) e ∙ add-mod-mod x y m ∙ ap (λ t. t % m) z ∙ add-mod_right (later + (m - earlier)) m

  -- a reading less itself
  none_used : (r : ℕ) → r < m → less_modulo m r r ≡ 0
  unfolding less_modulo
  none_used r h = let z : r + (m - r) ≡ m = omega arith in ap (λ t. t % m) z ∙ mod_self m

  pub adds_up : 1 ≤ m → (first : ℕ) (others : List ℕ) → AllBelow m (first ∷ others) → added_up (less_modulo m) (first ∷ others) % m ≡ less_modulo m (last first others) first
  unfolding added_up hourly plain_sum last
  adds_up pos first [] b = mod-eq_of_lt (omega arith) ∙ sym (none_used first b.0)
  adds_up pos first (second ∷ others) b =
      over_the_hour (added_up (less_modulo m) (second ∷ others)) (last second others) second first b.1.0 b.0 (adds_up pos second others b.1)

  -- the difference of what is shown is the true use
  pub true_hour : 1 ≤ m → (c d : ℕ) → c ≤ d → d - c < m → less_modulo m (d % m) (c % m) ≡ d - c
  unfolding less_modulo
  true_hour pos c d h k =
      let u = d - c in
      let a = c % m in
      let l : a < m = mod-lt c pos in
      let e : d ≡ c + u = omega arith in
      let z : a + u + (m - a) ≡ u + m = omega arith in
      ap (λ t. (t % m + (m - a)) % m) e
      ∙ ap (λ t. (t + (m - a)) % m) (sym (mod-add-mod c m u))
      ∙ mod-add-mod (a + u) m (m - a)
      ∙ ap (λ t. t % m) z
      ∙ add-mod_right u m
      ∙ mod-eq_of_lt k

  -- no later count is below an earlier one
  last_not_below : (first : ℕ) (others : List ℕ) → EachUseBelow m first others → first ≤ last first others
  unfolding last
  last_not_below first [] b = omega arith
  last_not_below first (second ∷ others) b = let h = last_not_below second others b.2 in let k = b.0 in omega arith

  pub true_sum : 1 ≤ m → (first : ℕ) (others : List ℕ) → EachUseBelow m first others → added_up (less_modulo m) (shown m (first ∷ others)) ≡ last first others - first
  unfolding added_up hourly plain_sum last shown
  true_sum pos first [] b = omega arith
  true_sum pos first (second ∷ others) b =
      let h = last_not_below second others b.2 in
      let k = b.0 in
      let z : (second - first) + (last second others - second) ≡ last second others - first = omega arith in
      ap₂ (λ x y. x + y) (true_hour pos first second b.0 b.1) (true_sum pos second others b.2) ∙ z

-- Cutting, whatever is subtracted.
module _ (less : ℕ → ℕ → ℕ) where
  pub parts : (before : List ℕ) (cut : ℕ) (after : List ℕ) → added_up less (before ++ cut ∷ after) ≡ added_up less (before ++ cut ∷ []) + added_up less (cut ∷ after)
  unfolding added_up hourly plain_sum
  parts [] cut after = omega arith
  parts (r ∷ []) cut after = omega arith
  parts (r ∷ s ∷ before) cut after =
      ap (λ t. less s r + t) (parts (s ∷ before) cut after) ∙ sym (add_assoc (less s r) _ _)

  pub parts_modulo : (m : ℕ) (before : List ℕ) (cut : ℕ) (after : List ℕ)
      → added_up less (before ++ cut ∷ after) % m ≡ (added_up less (before ++ cut ∷ []) % m + added_up less (cut ∷ after) % m) % m
  parts_modulo m before cut after = ap (λ t. t % m) (parts before cut after) ∙ add-mod (added_up less (before ++ cut ∷ [])) (added_up less (cut ∷ after)) m

  pub alone : (reading : ℕ) → added_up less (reading ∷ []) ≡ 0
  unfolding added_up hourly plain_sum
  alone reading = refl
