-- What a frame holds for an argument, by its counts and words. Assumes nothing.
use mathlib.Core.Path.{◌≡◌, refl, ap, ◌∙◌}
use mathlib.Core.Option.{none, some}
use mathlib.Core.List.{List, [], ◌∷◌, ◌++◌, map}
use Prim.Native.Nat.{ℕ, zero, suc, ◌+◌, ◌-◌, ◌*◌, ◌≤◌, ◌<◌}
use native.Mathlib.Omega.{arith}
use lib.ListN.{length, get_or, take, drop, get_elem?}
use lib.Seq.{take-nil}
use Rattle.meaning.specs.Numbers.{most_arguments}
use Rattle.meaning.specs.Machine.{value, waiting, Frame}
use Rattle.layout.specs.Decoding.{row}
use Rattle.layout.specs.Layout.{level_words, strict_word, size_word, slot_words, cell, slots, frame}
use Rattle.layout.proofs.Rows.{getD_row, take_row, drop_row}

-- k values and m that wait
abbrev parts : ℕ → ℕ → List ℕ → Frame
parts k m ws = map value (take k ws) ++ map waiting (take m (drop k ws))

waits : (m : ℕ) (ws : List ℕ) (i : ℕ) → i < m → i < length ws → get_elem? (map waiting (take m ws)) i ≡ some (waiting (get_or ws i 0))
waits zero ws i h g = absurd (omega arith)
waits (suc m) [] i h g = absurd (omega arith)
waits (suc m) (x ∷ ws) zero h g = refl
waits (suc m) (x ∷ ws) (suc i) h g = waits m ws i (omega arith) (omega arith)

waits_none : (m : ℕ) (ws : List ℕ) (i : ℕ) → m ≤ i → get_elem? (map waiting (take m ws)) i ≡ none
waits_none zero ws i h = refl
waits_none (suc m) [] i h = refl
waits_none (suc m) (x ∷ ws) zero h = absurd (omega arith)
waits_none (suc m) (x ∷ ws) (suc i) h = waits_none m ws i (omega arith)

waits_past : (m : ℕ) (ws : List ℕ) (i : ℕ) → length ws ≤ i → get_elem? (map waiting (take m ws)) i ≡ none
waits_past zero ws i h = refl
waits_past (suc m) [] i h = refl
waits_past (suc m) (x ∷ ws) zero h = absurd (omega arith)
waits_past (suc m) (x ∷ ws) (suc i) h = waits_past m ws i (omega arith)

part_value : (k m : ℕ) (ws : List ℕ) (i : ℕ) → i < k → i < length ws → get_elem? (parts k m ws) i ≡ some (value (get_or ws i 0))
part_value zero m ws i h g = absurd (omega arith)
part_value (suc k) m [] i h g = absurd (omega arith)
part_value (suc k) m (x ∷ ws) zero h g = refl
part_value (suc k) m (x ∷ ws) (suc i) h g = part_value k m ws i (omega arith) (omega arith)

part_waits : (k m : ℕ) (ws : List ℕ) (i : ℕ) → k ≤ i → i < k + m → i < length ws → get_elem? (parts k m ws) i ≡ some (waiting (get_or ws i 0))
part_waits zero m ws i h l g = waits m ws i (omega arith) g
part_waits (suc k) m [] i h l g = absurd (omega arith)
part_waits (suc k) m (x ∷ ws) zero h l g = absurd (omega arith)
part_waits (suc k) m (x ∷ ws) (suc i) h l g = part_waits k m ws i (omega arith) (omega arith) (omega arith)

part_none : (k m : ℕ) (ws : List ℕ) (i : ℕ) → k + m ≤ i → get_elem? (parts k m ws) i ≡ none
part_none zero m ws i h = waits_none m ws i (omega arith)
part_none (suc k) m [] i h = rw (take-nil m)
part_none (suc k) m (x ∷ ws) zero h = absurd (omega arith)
part_none (suc k) m (x ∷ ws) (suc i) h = part_none k m ws i (omega arith)

part_past : (k m : ℕ) (ws : List ℕ) (i : ℕ) → length ws ≤ i → get_elem? (parts k m ws) i ≡ none
part_past zero m ws i h = waits_past m ws i h
part_past (suc k) m [] i h = rw (take-nil m)
part_past (suc k) m (x ∷ ws) zero h = absurd (omega arith)
part_past (suc k) m (x ∷ ws) (suc i) h = part_past k m ws i (omega arith)

-- of level p's frame, at position i
module _ (w : List ℕ) (p i : ℕ) where
  abbrev eight : List ℕ
  eight = row w (level_words * p + slot_words) most_arguments

  abbrev strict : ℕ
  strict = cell w p strict_word

  abbrev size : ℕ
  size = cell w p size_word

  word_at : i < most_arguments → get_or eight i 0 ≡ cell w p (slot_words + i)
  word_at h =
      let e : level_words * p + slot_words + i ≡ level_words * p + (slot_words + i) = omega arith in
      rw (← e) (getD_row w (level_words * p + slot_words) most_arguments i h)

  pub slot_value : i < most_arguments → i < strict → get_elem? (frame w p) i ≡ some (value (cell w p (slot_words + i)))
  unfolding frame slots row
  slot_value h g = part_value strict (size - strict) eight i g h ∙ ap (λ (v : ℕ). some (value v)) (word_at h)

  pub slot_waits : i < most_arguments → strict ≤ i → i < size → get_elem? (frame w p) i ≡ some (waiting (cell w p (slot_words + i)))
  unfolding frame slots row
  slot_waits h g l = part_waits strict (size - strict) eight i g (omega arith) h ∙ ap (λ (v : ℕ). some (waiting v)) (word_at h)

  pub slot_none : strict ≤ i → size ≤ i → get_elem? (frame w p) i ≡ none
  unfolding frame slots row
  slot_none g l = part_none strict (size - strict) eight i (omega arith)

  pub slot_past : most_arguments ≤ i → get_elem? (frame w p) i ≡ none
  unfolding frame slots row
  slot_past h = part_past strict (size - strict) eight i h

-- a frame of k values and n slots, as rows
pub slots_row : (v : List ℕ) (a k n : ℕ) → k ≤ n → n ≤ most_arguments → slots k n (row v a most_arguments) ≡ map value (row v a k) ++ map waiting (row v (a + k) (n - k))
unfolding slots
slots_row v a k n l m = rw (take_row v a most_arguments k (omega arith), drop_row v a most_arguments k (omega arith), take_row v (a + k) (most_arguments - k) (n - k) (omega arith))
