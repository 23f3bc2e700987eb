-- The frame lemma: what words hold below a level depends on no word above it, so a store above leaves every chain, environment and return as it was.
-- Assumes nothing.
use Rattle.std.specs.Prelude.{if◌then◌else◌}
use mathlib.Core.Path.{◌≡◌, refl, sym, ap}
use mathlib.Core.Bool.{Bool, true, false}
use mathlib.Core.List.{List, [], ◌∷◌}
use Prim.Native.Nat.{ℕ, zero, suc, ◌+◌, ◌*◌, ◌≤◌, ◌<◌}
use native.Mathlib.Omega.{arith}
use lib.Dec.{eqb}
use lib.ListN.{length, get_or, set}
use lib.Seq.{get_or-set_same, get_or-set_other}
use borrow.Author.Tests.{ne_eqb, eqb-true, eqb-false, le-ltb}
use Rattle.meaning.specs.Numbers.{most_height, most_arguments}
use Rattle.meaning.specs.Machine.{too_high}
use Rattle.layout.specs.Layout.{level_words, return_word, link_word, strict_word, size_word, slot_words, values_from, cell, frame, chain, environments, returns, stored, values, holds, Links, Good}
use Rattle.layout.proofs.Rows.{row_same}

-- The first n words of v are those of w.
abbrev pub Same : List ℕ → List ℕ → ℕ → Type 0
Same w v n = (i : ℕ) → i < n → get_or v i 0 ≡ get_or w i 0

-- .. and so are the words of the levels up to n
abbrev pub SameLevels : List ℕ → List ℕ → ℕ → Type 0
SameLevels w v n = Same w v (level_words * n + level_words)

fewer : (w v : List ℕ) (n : ℕ) → SameLevels w v (suc n) → SameLevels w v n
fewer w v n s i h = s i (omega arith)

frame_same : (w v : List ℕ) (p : ℕ) → SameLevels w v p → frame v p ≡ frame w p
unfolding frame
frame_same w v p s =
    rw (
      s (level_words * p + strict_word) (omega arith),
      s (level_words * p + size_word) (omega arith),
      row_same w v (level_words * p + slot_words) (level_words * p + slot_words) most_arguments (λ i h. s (level_words * p + slot_words + i) (omega arith)),
    )

pub chain_same : (w v : List ℕ) (n : ℕ) → SameLevels w v n → (p : ℕ) → chain v n p ≡ chain w n p
unfolding chain
chain_same w v zero s p = refl
chain_same w v (suc n) s p =
    let t = fewer w v n s in
    rw (frame_same w v (suc n) s, s (level_words * suc n + link_word) (omega arith), chain_same w v n t (cell w (suc n) link_word), chain_same w v n t p)

pub environments_same : (w v : List ℕ) (n : ℕ) → SameLevels w v n → (e : ℕ) → environments v e n ≡ environments w e n
unfolding environments
environments_same w v zero s e = refl
environments_same w v (suc n) s e =
    rw (chain_same w v (suc n) s e, s (level_words * suc n + link_word) (omega arith), environments_same w v n (fewer w v n s) (cell w (suc n) link_word))

pub returns_same : (w v : List ℕ) (n : ℕ) → SameLevels w v n → returns v n ≡ returns w n
unfolding returns
returns_same w v zero s = refl
returns_same w v (suc n) s = rw (s (level_words * suc n + return_word) (omega arith), returns_same w v n (fewer w v n s))

pub stored_same : (w v : List ℕ) (n : ℕ) → ((i : ℕ) → i ≤ n → get_or v (values_from + i) 0 ≡ get_or w (values_from + i) 0) → stored v n ≡ stored w n
unfolding stored
stored_same w v zero s = refl
stored_same w v (suc n) s = rw (s (suc n) (omega arith), stored_same w v n (λ i h. s i (omega arith)))

pub values_same : (w v : List ℕ) (held n : ℕ) → ((i : ℕ) → i ≤ n → get_or v (values_from + i) 0 ≡ get_or w (values_from + i) 0) → values v held n ≡ values w held n
unfolding values
values_same w v held zero s = refl
values_same w v held (suc n) s = rw (stored_same w v n (λ i h. s i (omega arith)))

-- the chain from a level
chain_at_by : (w : List ℕ) (n m : ℕ) (b : Bool) → eqb (suc n) (suc m) ≡ b → n ≤ m → (n < m → chain w m (suc n) ≡ frame w (suc n) ∷ chain w n (cell w (suc n) link_word))
    → if b then frame w (suc m) ∷ chain w m (cell w (suc m) link_word) else chain w m (suc n) ≡ frame w (suc n) ∷ chain w n (cell w (suc n) link_word)
chain_at_by w n m true e h ih = let s : m ≡ n = omega (arith, eqb-true (suc n) (suc m) e) in rw s
chain_at_by w n m false e h ih = ih (omega (arith, eqb-false (suc n) (suc m) e))

pub chain_at : (w : List ℕ) (n h : ℕ) → n < h → chain w h (suc n) ≡ frame w (suc n) ∷ chain w n (cell w (suc n) link_word)
unfolding chain
chain_at w n zero h = absurd (omega arith)
chain_at w n (suc m) h = chain_at_by w n m (eqb (suc n) (suc m)) refl (omega arith) (chain_at w n m)

chain_below_by : (w : List ℕ) (p n m : ℕ) (b : Bool) → eqb n (suc m) ≡ b → p ≤ n → n ≤ suc m → (n ≤ m → chain w m p ≡ chain w n p) → chain w (suc m) p ≡ chain w n p
unfolding chain
chain_below_by w p n m true e g h ih = ap (λ (k : ℕ). chain w k p) (sym (eqb-true n (suc m) e))
chain_below_by w p n m false e g h ih =
    let l : n < suc m = omega (arith, eqb-false n (suc m) e) in
    let z : eqb p (suc m) ≡ false = ne_eqb p (suc m) (λ q. omega arith) in
    rw z (ih (omega arith))

-- levels above the chain's first do not count
pub chain_below : (w : List ℕ) (p n h : ℕ) → p ≤ n → n ≤ h → chain w h p ≡ chain w n p
chain_below w p n zero g l = ap (λ (k : ℕ). chain w k p) (omega arith)
chain_below w p n (suc m) g l = chain_below_by w p n m (eqb n (suc m)) refl g l (λ i. chain_below w p n m g i)

pub chain_none : (w : List ℕ) (h : ℕ) → chain w h 0 ≡ []
unfolding chain
chain_none w zero = refl
chain_none w (suc n) = rw (ne_eqb 0 (suc n) (λ q. omega arith)) (chain_none w n)

-- links
pub links_same : (w v : List ℕ) (h : ℕ) → SameLevels w v h → Links w h → Links v h
links_same w v h s l j a b = rw (s (level_words * j + link_word) (omega arith)) (l j a b)

links_more_by : (v : List ℕ) (h : ℕ) → Links v h → cell v (suc h) link_word < suc h → (j : ℕ) (b : Bool) → eqb j (suc h) ≡ b → 1 ≤ j → j ≤ suc h → cell v j link_word < j
links_more_by v h l k j true q a b = rw (eqb-true j (suc h) q) k
links_more_by v h l k j false q a b = l j a (omega (arith, eqb-false j (suc h) q))

pub links_more : (v : List ℕ) (h : ℕ) → Links v h → cell v (suc h) link_word < suc h → Links v (suc h)
links_more v h l k j a b = links_more_by v h l k j (eqb j (suc h)) refl a b

-- heights
length_stored : (w : List ℕ) (d : ℕ) → length (stored w d) ≡ d
unfolding stored
length_stored w zero = refl
length_stored w (suc n) = ap suc (length_stored w n)

pub length_values : (w : List ℕ) (held d : ℕ) → length (values w held d) ≡ d
unfolding values
length_values w held zero = refl
length_values w held (suc n) = ap suc (length_stored w n)

pub length_returns : (w : List ℕ) (h : ℕ) → length (returns w h) ≡ h
unfolding returns
length_returns w zero = refl
length_returns w (suc n) = ap suc (length_returns w n)

pub not_high : (w : List ℕ) (a e h held d : ℕ) → Good w e h d → too_high (holds w a e h held d) ≡ false
unfolding holds too_high
not_high w a e h held d g = rw (length_values w held d, length_returns w h, le-ltb most_height d g.deep, le-ltb most_height h g.high)

-- the top of the data stack: kept among the words, and taken up again
pub kept_top : (w : List ℕ) (held d : ℕ) → values_from + d < length w → stored (set w (values_from + d) held) d ≡ values w held d
unfolding stored values
kept_top w held zero h = refl
kept_top w held (suc n) h =
    rw (
      get_or-set_same w (values_from + suc n) held 0 h,
      stored_same w (set w (values_from + suc n) held) n (λ i l. get_or-set_other w (values_from + suc n) (values_from + i) held 0 (λ e. omega arith)),
    )

pub taken_up : (w : List ℕ) (d : ℕ) → values w (get_or w (values_from + d) 0) d ≡ stored w d
unfolding stored values
taken_up w zero = refl
taken_up w (suc n) = refl
