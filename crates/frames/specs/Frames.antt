-- What filling a level leaves, part by part. Assumes nothing.
use Rattle.std.specs.Prelude.{◌≡◌, List, ◌++◌, ℕ, ◌+◌, ◌-◌, ◌*◌, ◌≤◌, ◌<◌, length, get_or, drop, set}
use Rattle.meaning.specs.Numbers.{most_arguments, work_words}
use Rattle.layout.specs.Decoding.{row, leading}
use Rattle.layout.specs.Layout.{level_words, return_word, link_word, strict_word, size_word, slot_words, values_from, cell}
use Rattle.layout.proofs.Levels.{SameLevels}

-- The last k words of the part r have come to its slots.
pub record Moved (r v : List ℕ) (k : ℕ) : Type 0 where
  pub long : length v ≡ length r
  pub taken : (i : ℕ) → i < k → get_or v (slot_words + i) 0 ≡ get_or r (length r - k + i) 0
  pub rest : (i : ℕ) → level_words ≤ i → get_or v i 0 ≡ get_or r i 0

-- The words of c up to a 0 have come to the slots from the k-th on; there are now n slots; `left` is still to come.
pub record Copied (r v : List ℕ) (k n : ℕ) (c left : List ℕ) : Type 0 where
  pub long : length v ≡ length r
  pub least : k ≤ n
  pub most : n ≤ most_arguments
  pub waiting : row v (slot_words + k) (n - k) ++ left ≡ leading (row c 0 (most_arguments - k))
  pub low : (i : ℕ) → i < slot_words + k → get_or v i 0 ≡ get_or r i 0
  pub rest : (i : ℕ) → level_words ≤ i → get_or v i 0 ≡ get_or r i 0

-- A level at the beginning of the part r, with the values that end the part and the entrances ws.
pub record Filled (r v : List ℕ) (b link k : ℕ) (ws : List ℕ) : Type 0 where
  pub long : length v ≡ length r
  pub goes_on : get_or v return_word 0 ≡ b
  pub link_is : get_or v link_word 0 ≡ link
  pub strict : get_or v strict_word 0 ≡ k
  pub least : k ≤ get_or v size_word 0
  pub most : get_or v size_word 0 ≤ most_arguments
  pub taken : row v slot_words k ≡ row r (length r - k) k
  pub waiting : row v (slot_words + k) (get_or v size_word 0 - k) ≡ ws
  pub rest : (i : ℕ) → level_words ≤ i → get_or v i 0 ≡ get_or r i 0

-- A call at height h has taken k of d values, whose top was held, and the words v have a level more, with its frame.
pub record Entered (w v : List ℕ) (e h held d k b : ℕ) (ws : List ℕ) : Type 0 where
  pub long : length v ≡ length w
  pub kept : drop work_words v ≡ drop work_words w
  pub below : SameLevels w v h
  pub left : (i : ℕ) → i ≤ d - k → get_or v (values_from + i) 0 ≡ get_or (set w (values_from + d) held) (values_from + i) 0
  pub goes_on : cell v (h + 1) return_word ≡ b
  pub link_is : cell v (h + 1) link_word ≡ e
  pub strict : cell v (h + 1) strict_word ≡ k
  pub least : k ≤ cell v (h + 1) size_word
  pub most : cell v (h + 1) size_word ≤ most_arguments
  pub taken : row v (level_words * (h + 1) + slot_words) k ≡ row (set w (values_from + d) held) (values_from + (d - k) + 1) k
  pub waiting : row v (level_words * (h + 1) + slot_words + k) (cell v (h + 1) size_word - k) ≡ ws
