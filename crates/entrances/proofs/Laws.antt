-- The promises of specs/Entrances.antt, by the tests that the code makes. Assumes nothing.
use mathlib.Core.Path.{◌≡◌, refl, ap, sym, ◌∙◌, subst}
use mathlib.Core.List.{List, [], ◌∷◌, ◌++◌, append_assoc}
use Prim.Native.Nat.{ℕ, zero, suc, ◌+◌, ◌-◌, ◌≤◌, ◌<◌}
use native.Mathlib.Omega.{arith}
use native.Mathlib.Nat.{lt_of_not-le}
use native.Mathlib.Numerals.{add-one}
use lib.ListN.{length, get_or, take, drop, set, length-append, length-set, take-append-drop, get_or-eq_default}
use lib.Seq.{drop-cons, drop-drop, take-suc-set, drop-set-lt, append_snoc, length-take-le, take_at, drop_at}
use Rattle.meaning.specs.Terms.{Terms, nil, cons}
use Rattle.meaning.specs.Code.{size, sizes, count, entrance, entrances}
use Rattle.table.specs.declared.Signature.{Signature}
use Rattle.table.specs.declared.Symbol.{Symbol}
use Rattle.table.specs.declared.Symbol.TheVariants.{Unknown}
use Rattle.entrances.specs.View.{joined, row, lead, leads_of, follower_of}
use Rattle.entrances.specs.Entrances.{written_at, TermAt, RowAt, Entrance, Follower, Passed, Entrances}
use Rattle.entrances.proofs.View.{some_size, lead_few, entrance_view}
use Rattle.entrances.proofs.Held.{leads_are, end_is, not_too_deep, row_at, first_at, others_at}

-- A symbol with leading arguments stands in the table.
pub leads_within : (H : List Signature) (W : List Symbol) (a : ℕ) → (leads_of H (get_or W a Unknown) ≡ 0 → ⊥) → a < length W
unfolding leads_of
leads_within H W a n = lt_of_not-le {n = length W} {m = a} (λ h. n (rw (get_or-eq_default W Unknown h) refl))

-- Writing.
pub written_none : (k : ℕ) (c : List ℕ) → c ≡ written_at k [] c
written_none k c = sym (take-append-drop k c)

pub written_more : (c : List ℕ) (k n : ℕ) (xs ys : List ℕ) → length xs ≡ n → k ≤ length c → written_at (k + n) ys (written_at k xs c) ≡ written_at k (xs ++ ys) c
written_more c k n xs ys l h =
    let rest = drop (length xs) (drop k c) in
    let seam : length (take k c ++ xs) ≡ k + n = simp (length-append, length-take-le k c h) (omega arith) in
    let whole : take k c ++ (xs ++ rest) ≡ take k c ++ xs ++ rest = sym (append_assoc (take k c) xs rest) in
    rw (whole, take_at (take k c ++ xs) rest (k + n) seam, drop_at (take k c ++ xs) rest (k + n) seam)
    (rw (append_assoc (take k c) xs (ys ++ drop (length ys) rest), append_assoc xs ys (drop (length (xs ++ ys)) (drop k c)), length-append xs ys, drop-drop (length ys) (length xs) (drop k c)))

written_set : (c : List ℕ) (i x : ℕ) (ys : List ℕ) → i < length c → written_at (i + 1) ys (set c i x) ≡ written_at i (x ∷ ys) c
written_set c i x ys h =
    rw (add-one, take-suc-set c i x h, drop-set-lt (suc i) c i x (omega arith), append_snoc (take i c) x (ys ++ drop (length ys) (drop (suc i) c)), drop-cons c i 0 h)

-- Entrances.
module _ (H : List Signature) (W : List Symbol) (a d : ℕ) where
  pub entrance_deep : d ≡ 0 → Entrance H W a d a
  unfolding Entrance
  entrance_deep z E t h = absurd (omega (arith, not_too_deep h))

  pub entrance_own : leads_of H (get_or W a Unknown) ≡ 0 → Entrance H W a d a
  unfolding Entrance follower_of
  entrance_own z E t h =
      let none : lead t ≡ 0 = sym (leads_are h) ∙ z in
      sym (entrance_view t a ∙ ap (λ (k : ℕ). follower_of (suc k) (row t) (suc a) a 0) none)

  down : (r : ℕ) (E : List ℕ) (k : ℕ) (ts : Terms) → (k ≡ 0 → ⊥) → k ≤ count ts → RowAt H W E (suc a) (d - 1) ts → Entrance H W (a + 1) (d - 1) r →
      r ≡ follower_of (suc k) ts (suc a) a 0
  unfolding Entrance follower_of count entrance
  down r E zero ts n l g i = absurd (n refl)
  down r E (suc k) nil n l g i = absurd (omega (arith, l))
  down r E (suc k) (cons t ts) n l g i =
      subst (λ (n : ℕ). r ≡ entrance t n) (add-one a) (i E t (subst (λ (n : ℕ). TermAt H W E n (d - 1) t) (sym (add-one a)) (first_at g)))

  pub entrance_down : (e r : ℕ) → d ≡ e + 1 → (leads_of H (get_or W a Unknown) ≡ 0 → ⊥) → Entrance H W (a + 1) e r → Entrance H W a d r
  unfolding Entrance
  entrance_down e r q n i E t h =
      let same : e ≡ d - 1 = omega arith in
      down r E (lead t) (row t) (λ z. n (leads_are h ∙ z)) (lead_few t) (row_at h) (rw same at i) ∙ sym (entrance_view t a)

-- Followers.
module _ (H : List Signature) (W : List Symbol) (k a home others d : ℕ) where
  pub follower_others : k ≡ 0 → Follower H W k a home others d others
  unfolding Follower follower_of
  follower_others z E ts h l = rw z

  pub follower_home : k ≡ 1 → Follower H W k a home others d home
  unfolding Follower follower_of
  follower_home z E ts h l = rw z

pub follower_next : (H : List Signature) (W : List Symbol) (k a home others d r : ℕ) → (k ≡ 0 → ⊥) → (k ≡ 1 → ⊥) → Entrance H W a d r → Follower H W k a home others d r
unfolding Follower follower_of Entrance count entrance
follower_next H W zero a home others d r p q i E ts h l = absurd (p refl)
follower_next H W (suc zero) a home others d r p q i E ts h l = absurd (q refl)
follower_next H W (suc (suc k)) a home others d r p q i E nil h l = absurd (omega (arith, l))
follower_next H W (suc (suc k)) a home others d r p q i E (cons t ts) h l = i E t (first_at h)

-- Passing terms.
pub pass_none : (E : List ℕ) (a k : ℕ) → k ≡ 0 → Passed E a k a
unfolding Passed count size
pass_none E a k z H W d nil ws h l = omega arith
pass_none E a k z H W d (cons s ss) ws h l = absurd (omega (arith, l))

pub pass_more : (E : List ℕ) (a k l r : ℕ) → k ≡ l + 1 → Passed E (get_or E a 0) l r → Passed E a k r
unfolding Passed count size joined
pass_more E a k l r q p H W d nil ws h e = absurd (omega arith)
pass_more E a k l r q p H W d (cons s ss) ws h e =
    let here : get_or E a 0 ≡ a + size s = end_is (first_at h) in
    let rest : r ≡ a + size s + sizes ss = rw here at p H W d ss ws (others_at h) (omega arith) in
    omega arith

-- Rows of entrances.
module _ (H : List Signature) (W : List Symbol) (E : List ℕ) (a end d i : ℕ) (c : List ℕ) where
  pub put_end : end ≤ a → Entrances H W E a end d i c c
  unfolding Entrances entrances size
  put_end z nil h l f = written_none i c
  put_end z (cons t ts) h l f = absurd (omega (arith, l, some_size t))

  pub put_full : length c ≤ i → Entrances H W E a end d i c c
  unfolding Entrances entrances count
  put_full o nil h l f = written_none i c
  put_full o (cons t ts) h l f = absurd (omega (arith, f))

  pub put_stuck : (c' : List ℕ) → a < end → get_or E a 0 ≤ a → Entrances H W E a end d i c c'
  unfolding Entrances size
  put_stuck c' z o nil h l f = absurd (omega (arith, l))
  put_stuck c' z o (cons t ts) h l f = absurd (omega (arith, end_is (first_at h), some_size t))

  pub put_more : (x : ℕ) (c' : List ℕ) → a < end → i < length c → Entrance H W a d x → Entrances H W E (get_or E a 0) end d (i + 1) (set c i x) c' → Entrances H W E a end d i c c'
  unfolding Entrances Entrance entrances size count
  put_more x c' z o j p nil h l f = absurd (omega (arith, l))
  put_more x c' z o j p (cons t ts) h l f =
      let e : get_or E a 0 ≡ a + size t = end_is (first_at h) in
      let y : x ≡ entrance t a = j E t (first_at h) in
      let q : c' ≡ written_at (i + 1) (entrances ts (a + size t)) (set c i x) = rw e at p ts (others_at h) (l ∙ omega arith) (rw length-set (omega (arith, f))) in
      q ∙ written_set c i x (entrances ts (a + size t)) o ∙ ap (λ (n : ℕ). written_at i (n ∷ entrances ts (a + size t)) c) y
