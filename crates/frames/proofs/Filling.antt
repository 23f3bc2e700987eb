-- A level's part is filled: values, entrances, then the four words before them. Assumes nothing.
use mathlib.Core.Path.{◌≡◌, refl, sym, ap, ◌∙◌, subst}
use mathlib.Core.List.{List, [], ◌∷◌, ◌++◌, append-nil, append_assoc}
use Prim.Native.Nat.{ℕ, suc, ◌+◌, ◌-◌, ◌≤◌, ◌<◌}
use native.Mathlib.Nat.{sub_self}
use native.Mathlib.Omega.{arith}
use lib.ListN.{length, get_or, set, length-set}
use lib.Seq.{get_or-set_same, get_or-set_other}
use Rattle.meaning.specs.Numbers.{most_arguments}
use Rattle.layout.specs.Decoding.{row, leading}
use Rattle.layout.specs.Layout.{level_words, return_word, link_word, strict_word, size_word, slot_words}
use Rattle.layout.proofs.Rows.{row_same, row_snoc, leading_none, leading_more}
use Rattle.frames.specs.Frames.{Moved, Copied, Filled}

-- entrances: what is still to come where n slots are filled
abbrev pub yet : List ℕ → ℕ → ℕ → List ℕ
yet c k n = leading (row c (n - k) (most_arguments - n))

pub copied_none : (r : List ℕ) (k : ℕ) (c : List ℕ) → k ≤ most_arguments → Copied r r k k c (yet c k k)
unfolding row
copied_none r k c l = record {
  long = refl;
  least = omega arith;
  most = l;
  waiting = rw (sub_self k);
  low = λ i h. refl;
  rest = λ i h. refl;
}

pub copied_stop : (r v : List ℕ) (k n : ℕ) (c : List ℕ) → Copied r v k n c (yet c k n) → get_or c (n - k) 0 ≡ 0 → Copied r v k n c []
copied_stop r v k n c m e = subst (λ (l : List ℕ). Copied r v k n c l) (leading_none c (n - k) (most_arguments - n) e) m

pub copied_all : (r v : List ℕ) (k n : ℕ) (c : List ℕ) → most_arguments ≡ n → Copied r v k n c (yet c k n) → Copied r v k most_arguments c []
unfolding row leading
copied_all r v k n c e m = rw (← e) at m

module _ (r v : List ℕ) (k n : ℕ) (c : List ℕ) (room : level_words ≤ length r) (more : n < most_arguments) (m : Copied r v k n c (yet c k n)) (some_word : get_or c (n - k) 0 ≡ 0 → ⊥) where
  abbrev word : ℕ
  word = get_or c (n - k) 0

  abbrev copied : List ℕ
  copied = set v (slot_words + n) word

  row_more : row copied (slot_words + k) (n + 1 - k) ≡ row v (slot_words + k) (n - k) ++ (word ∷ [])
  row_more =
      let l : k ≤ n = m.least in
      let e : n + 1 - k ≡ suc (n - k) = omega arith in
      let f : slot_words + k + (n - k) ≡ slot_words + n = omega arith in
      let g : slot_words + n < length v = omega (arith, m.long) in
      let s : row copied (slot_words + k) (n - k) ≡ row v (slot_words + k) (n - k) = row_same v copied (slot_words + k) (slot_words + k) (n - k) (λ i h. get_or-set_other v (slot_words + n) (slot_words + k + i) word 0 (λ q. omega arith)) in
      rw (e, row_snoc copied (slot_words + k) (n - k), s, f, get_or-set_same v (slot_words + n) word 0 g)

  yet_more : yet c k n ≡ word ∷ yet c k (n + 1)
  yet_more =
      let l : k ≤ n = m.least in
      let e : most_arguments - n ≡ suc (most_arguments - (n + 1)) = omega arith in
      let f : suc (n - k) ≡ n + 1 - k = omega arith in
      leading_more c (n - k) (most_arguments - n) (most_arguments - (n + 1)) e some_word ∙ ap (λ (j : ℕ). word ∷ leading (row c j (most_arguments - (n + 1)))) f

  pub copied_more : Copied r copied k (n + 1) c (yet c k (n + 1))
  copied_more = record {
    long = length-set v (slot_words + n) word ∙ m.long;
    least = omega (arith, m.least);
    most = omega arith;
    waiting =
        ap (λ (l : List ℕ). l ++ yet c k (n + 1)) row_more ∙ append_assoc (row v (slot_words + k) (n - k)) (word ∷ []) (yet c k (n + 1))
        ∙ ap (λ (l : List ℕ). row v (slot_words + k) (n - k) ++ l) (sym yet_more) ∙ m.waiting;
    low = λ i h. get_or-set_other v (slot_words + n) i word 0 (λ q. omega (arith, m.least)) ∙ m.low i h;
    rest = λ i h. get_or-set_other v (slot_words + n) i word 0 (λ q. omega arith) ∙ m.rest i h;
  }

-- the four words before the slots
module _ (r u v : List ℕ) (k n b link : ℕ) (c : List ℕ) (few : k ≤ most_arguments) (room : level_words + k ≤ length r) (m : Moved r u k) (p : Copied u v k n c []) where
  abbrev v1 : List ℕ
  v1 = set v return_word b

  abbrev v2 : List ℕ
  v2 = set v1 link_word link

  abbrev v3 : List ℕ
  v3 = set v2 strict_word k

  abbrev full : List ℕ
  full = set v3 size_word n

  slots_stay : (i : ℕ) → slot_words ≤ i → get_or full i 0 ≡ get_or v i 0
  slots_stay i h =
      get_or-set_other v3 size_word i n 0 (λ q. omega arith) ∙ get_or-set_other v2 strict_word i k 0 (λ q. omega arith) ∙ get_or-set_other v1 link_word i link 0 (λ q. omega arith)
      ∙ get_or-set_other v return_word i b 0 (λ q. omega arith)

  pub filled : Filled r full b link k (leading (row c 0 (most_arguments - k)))
  filled =
      let l : level_words ≤ length v = omega (arith, p.long, m.long) in
      let at_return : get_or full return_word 0 ≡ b =
      get_or-set_other v3 size_word return_word n 0 (λ q. omega arith) ∙ get_or-set_other v2 strict_word return_word k 0 (λ q. omega arith) ∙ get_or-set_other v1 link_word return_word link 0 (λ q. omega arith)
      ∙ get_or-set_same v return_word b 0 (omega arith) in
      let at_link : get_or full link_word 0 ≡ link =
      get_or-set_other v3 size_word link_word n 0 (λ q. omega arith) ∙ get_or-set_other v2 strict_word link_word k 0 (λ q. omega arith) ∙ get_or-set_same v1 link_word link 0 (simp length-set (omega arith)) in
      let at_strict : get_or full strict_word 0 ≡ k = get_or-set_other v3 size_word strict_word n 0 (λ q. omega arith) ∙ get_or-set_same v2 strict_word k 0 (simp length-set (omega arith)) in
      let at_size : get_or full size_word 0 ≡ n = get_or-set_same v3 size_word n 0 (simp length-set (omega arith)) in
      record {
        long = length-set v3 size_word n ∙ length-set v2 strict_word k ∙ length-set v1 link_word link ∙ length-set v return_word b ∙ p.long ∙ m.long;
        goes_on = at_return;
        link_is = at_link;
        strict = at_strict;
        least = omega (arith, p.least);
        most = omega (arith, p.most);
        taken = row_same r full (length r - k) slot_words k (λ i h. slots_stay (slot_words + i) (omega arith) ∙ p.low (slot_words + i) (omega arith) ∙ m.taken i h);
        waiting =
            ap (λ (j : ℕ). row full (slot_words + k) (j - k)) at_size ∙ row_same v full (slot_words + k) (slot_words + k) (n - k) (λ i h. slots_stay (slot_words + k + i) (omega arith))
            ∙ sym (append-nil (row v (slot_words + k) (n - k))) ∙ p.waiting;
        rest = λ i h. slots_stay i (omega arith) ∙ p.rest i h ∙ m.rest i h;
      }
