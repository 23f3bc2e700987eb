-- Each kind of step over the words: what the machine's step is, and that the words which the code leaves hold what it comes to. Assumes nothing.
use mathlib.Core.Path.{◌≡◌, refl, sym, ap, ◌∙◌, subst}
use mathlib.Core.Bool.{Bool, true, false, ◌||◌}
use mathlib.Core.Logic.{◌⊎◌, inl, inr}
use mathlib.Core.Option.{none, some}
use mathlib.Core.List.{List, [], ◌∷◌, ◌++◌, map, append-nil, append_assoc}
use Prim.Native.Nat.{ℕ, zero, suc, ◌+◌, ◌-◌, ◌*◌, ◌≤◌, ◌<◌}
use native.Mathlib.Nat.{sub-zero}
use native.Mathlib.Numerals.{add-one}
use native.Mathlib.Omega.{arith}
use lib.Dec.{ltb}
use lib.ListN.{length, get_or, drop, set, length-set, get_elem?}
use lib.Seq.{get_or-set_same, get_or-set_other, drop-set-lt}
use borrow.Author.Tests.{lt-ltb}
use Rattle.meaning.specs.Numbers.{most_height, most_arguments, work_words}
use Rattle.meaning.specs.Machine.{value, waiting, Place, at, Environment, state, Next, next, no_step, too_high, taken, look_at, look_up, choose, enter, call_body, go_back}
use Rattle.layout.specs.Decoding.{row}
use Rattle.layout.specs.Layout.{level_words, return_word, link_word, strict_word, size_word, slot_words, values_from, cell, frame, chain, environments, place, returns, stored, values, holds, Good, Comes, would_be_high, opened}
use Rattle.layout.proofs.Rows.{row_snoc}
use Rattle.layout.proofs.Levels.{SameLevels, chain_same, environments_same, returns_same, values_same, chain_at, chain_below, chain_none, links_same, links_more, length_values, length_returns, kept_top, taken_up}
use Rattle.layout.proofs.Slots.{slot_value, slot_waits}

place_at : (h a : ℕ) → 1 ≤ h → place h a ≡ at a
unfolding place
place_at zero a z = absurd (omega arith)
place_at (suc n) a z = refl

-- A value is pushed: the old top goes to the words.
module _ (w : List ℕ) (e h held d : ℕ) (g : Good w e h d) (z : 1 ≤ h) (fits : d < most_height) where
  abbrev put : List ℕ
  put = set w (values_from + d) held

  put_same : SameLevels w put h
  put_same i l = let u : h ≤ most_height = g.high in get_or-set_other w (values_from + d) i held 0 (λ q. omega arith)

  pub push_comes : (o : Next) (a x : ℕ) → o ≡ next (state (at a) (returns w h) (x ∷ values w held d) (environments w e h)) → Comes o w put a e h x (d + 1)
  unfolding holds values
  push_comes o a x q =
      let r : work_words ≤ length w = g.room in
      record {
        step = q ∙ rw (place_at h a z, add-one d, returns_same w put h put_same, environments_same w put h put_same e, kept_top w held d (omega arith));
        good = record { room = rw length-set g.room; high = g.high; deep = omega arith; inner = g.inner; links = links_same w put h put_same g.links };
        kept = drop-set-lt work_words w (values_from + d) held (omega arith);
      }

-- The words stay, with m values and another top.
pub stay_comes : (o : Next) (w : List ℕ) (a e h x d m : ℕ) → Good w e h d → 1 ≤ h → m ≤ d → o ≡ next (state (at a) (returns w h) (values w x m) (environments w e h)) → Comes o w w a e h x m
unfolding holds
stay_comes o w a e h x d m g z l q = record {
  step = rw (place_at h a z) q;
  good = record { room = g.room; high = g.high; deep = omega (arith, g.deep); inner = g.inner; links = g.links };
  kept = refl;
}

-- A stack that would be too high.
or_true : (b : Bool) → (b || true) ≡ true
or_true true = refl
or_true false = refl

pub high_push : (w : List ℕ) (held : ℕ) (o : Next) (d x : ℕ) (p : Place) (rs : List Place) (es : List Environment) → most_height ≤ d → o ≡ next (state p rs (x ∷ values w held d) es) → would_be_high o ≡ true
unfolding would_be_high too_high
high_push w held o d x p rs es l q = rw (q, length_values w held d, lt-ltb most_height (suc d) (omega arith))

pub high_open : (w : List ℕ) (o : Next) (h : ℕ) (p q : Place) (ds : List ℕ) (es : List Environment) → most_height ≤ h → o ≡ next (state p (q ∷ returns w h) ds es) → would_be_high o ≡ true
unfolding would_be_high too_high
high_open w o h p q ds es l r = rw (r, length_returns w h, lt-ltb most_height (suc h) (omega arith)) (or_true (ltb most_height (length ds)))

-- EVAL: what a lookup in the environment from level e on finds.
module _ (w : List ℕ) (i b : ℕ) (rs : List Place) (ds : List ℕ) where
  looks_at : (n m : ℕ) → m ≤ n → look_up i b rs ds (environments w (suc m) (suc n)) ≡ look_at (get_elem? (frame w (suc m)) i) b rs ds (frame w (suc m)) (chain w m (cell w (suc m) link_word)) (environments w (cell w (suc n) link_word) n)
  unfolding environments look_up
  looks_at n m l = rw (chain_at w m (suc n) (omega arith))

  environment_is : (n m : ℕ) → m ≤ n → environments w (suc m) (suc n) ≡ (frame w (suc m) ∷ chain w m (cell w (suc m) link_word)) ∷ environments w (cell w (suc n) link_word) n
  unfolding environments
  environment_is n m l = rw (chain_at w m (suc n) (omega arith))

  pub look_value : (h e : ℕ) → 1 ≤ e → e ≤ h → i < most_arguments → i < cell w e strict_word → look_up i b rs ds (environments w e h) ≡ next (state (at b) rs (cell w e (slot_words + i) ∷ ds) (environments w e h))
  unfolding look_at
  look_value zero e y l k s = absurd (omega arith)
  look_value (suc n) zero y l k s = absurd (omega arith)
  look_value (suc n) (suc m) y l k s = rw (looks_at n m (omega arith), slot_value w (suc m) i k s, environment_is n m (omega arith))

  pub look_waits : (h e : ℕ) → 1 ≤ e → e ≤ h → cell w e link_word < e → i < most_arguments → cell w e strict_word ≤ i → i < cell w e size_word
      → look_up i b rs ds (environments w e h) ≡ next (state (at (cell w e (slot_words + i))) (at b ∷ rs) ds (chain w h (cell w e link_word) ∷ environments w e h))
  unfolding look_at
  look_waits zero e y l q k s t = absurd (omega arith)
  look_waits (suc n) zero y l q k s t = absurd (omega arith)
  look_waits (suc n) (suc m) y l q k s t =
      rw (looks_at n m (omega arith), slot_waits w (suc m) i k s t, environment_is n m (omega arith), chain_below w (cell w (suc m) link_word) m (suc n) (omega arith) (omega arith))

  pub look_none : (h e : ℕ) → 1 ≤ e → e ≤ h → get_elem? (frame w e) i ≡ none → look_up i b rs ds (environments w e h) ≡ no_step
  unfolding look_at
  look_none zero e y l k = absurd (omega arith)
  look_none (suc n) zero y l k = absurd (omega arith)
  look_none (suc n) (suc m) y l k = rw (looks_at n m (omega arith), k)

  pub look_nowhere : (h e : ℕ) → e ≡ 0 → look_up i b rs ds (environments w e h) ≡ no_step
  unfolding environments look_up
  look_nowhere zero e q = refl
  look_nowhere (suc n) e q = rw (q, chain_none w (suc n))

-- A level is opened over v, which has the levels up to h as w has them: it goes on at b and back to the environment e.
module _ (w v : List ℕ) (e h d : ℕ) (g : Good w e h d) (z : 1 ≤ h) (fits : h < most_height) (long : length v ≡ length w) (same : SameLevels w v h) where
  pub open_comes : (o : Next) (a b f x c : ℕ) (ds : List ℕ) (E : Environment)
      → c ≤ most_height → f ≤ h + 1 → cell v (h + 1) return_word ≡ b → cell v (h + 1) link_word ≡ e → values v x c ≡ ds → chain v (h + 1) f ≡ E → drop work_words v ≡ drop work_words w
      → o ≡ next (state (at a) (at b ∷ returns w h) ds (E ∷ environments w e h)) → Comes o w v a f (h + 1) x c
  unfolding holds place returns environments
  open_comes o a b f x c ds E l k r s t u p q = record {
    step = q ∙ ap next (holds_it h z same (rw (add-one h) at r) (rw (add-one h) at s) (rw (add-one h) at u));
    good = record {
      room = rw long g.room;
      high = omega arith;
      deep = l;
      inner = k;
      links = rw (add-one h) (links_more v h (links_same w v h same g.links) (omega (arith, rw (add-one h) at s, g.inner)));
    };
    kept = p;
  }
    where
      holds_it : (h : ℕ) → 1 ≤ h → SameLevels w v h → cell v (suc h) return_word ≡ b → cell v (suc h) link_word ≡ e → chain v (suc h) f ≡ E → state (at a) (at b ∷ returns w h) ds (E ∷ environments w e h) ≡ holds v a f (h + 1) x c
      holds_it zero y n i j m = absurd (omega arith)
      holds_it (suc n) y s i j m = rw (add-one (suc n), t, i, j, m, returns_same w v (suc n) s, environments_same w v (suc n) s e)

-- The level of a waiting argument.
module _ (w : List ℕ) (a b e h held d x : ℕ) (g : Good w e h d) (z : 1 ≤ h) (y : 1 ≤ e) (fits : h < most_height) (ex : x ≡ e) where
  abbrev one_more : List ℕ
  one_more = set (set w (level_words * (h + 1) + return_word) b) (level_words * (h + 1) + link_word) x

  more_same : (i : ℕ) → (i ≡ level_words * (h + 1) + return_word → ⊥) → (i ≡ level_words * (h + 1) + link_word → ⊥) → get_or one_more i 0 ≡ get_or w i 0
  more_same i p q = get_or-set_other (set w (level_words * (h + 1) + return_word) b) (level_words * (h + 1) + link_word) i x 0 q ∙ get_or-set_other w (level_words * (h + 1) + return_word) i b 0 p

  pub opened_comes : Comes (next (opened w a b e h held d)) w one_more a (cell w e link_word) (h + 1) held d
  unfolding opened
  opened_comes =
      let r : work_words ≤ length w = g.room in
      let s : SameLevels w one_more h = λ i l. more_same i (λ q. omega arith) (λ q. omega arith) in
      let q : cell w e link_word < e = g.links e y g.inner in
      let n : e ≤ h = g.inner in
      let i0 : level_words * (h + 1) + return_word < length w = omega arith in
      let i1 : level_words * (h + 1) + link_word < length (set w (level_words * (h + 1) + return_word) b) = simp length-set (omega arith) in
      let c0 : cell one_more (h + 1) return_word ≡ b =
      (get_or-set_other (set w (level_words * (h + 1) + return_word) b) (level_words * (h + 1) + link_word) (level_words * (h + 1) + return_word) x 0 (λ p. omega arith) ∙ get_or-set_same w (level_words * (h + 1) + return_word) b 0 i0) in
      let c1 : cell one_more (h + 1) link_word ≡ e = get_or-set_same (set w (level_words * (h + 1) + return_word) b) (level_words * (h + 1) + link_word) x 0 i1 ∙ ex in
      open_comes w one_more e h d g z fits (simp length-set) s (next (opened w a b e h held d)) a b (cell w e link_word) held d (values w held d) (chain w h (cell w e link_word))
      g.deep (omega arith) c0 c1
      (values_same w one_more held d (λ i l. more_same (values_from + i) (λ p. omega (arith, g.deep)) (λ p. omega (arith, g.deep))))
      (chain_below one_more (cell w e link_word) h (h + 1) (omega arith) (omega arith) ∙ chain_same w one_more h s (cell w e link_word))
      (drop-set-lt work_words (set w (level_words * (h + 1) + return_word) b) (level_words * (h + 1) + link_word) x (omega arith) ∙ drop-set-lt work_words w (level_words * (h + 1) + return_word) b (omega arith))
      refl

-- SELECT.
module _ (code : List ℕ) (base : ℕ) (rs : List Place) (es : List Environment) (w : List ℕ) where
  abbrev branches : List ℕ → Next
  branches ds = choose (get_or code (base + 2) 0) (get_or code (base + 3) 0) rs ds es

  -- no value, or none that is a yes/no
  pub choose_nothing : (held d : ℕ) → (d ≡ 0) ⊎ ((d ≡ 0 → ⊥) × (1 < held)) → branches (values w held d) ≡ no_step
  unfolding choose values
  choose_nothing held zero q = refl
  choose_nothing held (suc d) (inl q) = absurd (omega arith)
  choose_nothing zero (suc d) (inr q) = absurd (omega arith)
  choose_nothing (suc zero) (suc d) (inr q) = absurd (omega arith)
  choose_nothing (suc (suc v)) (suc d) (inr q) = refl

  pub choose_branch : (held d : ℕ) → 1 ≤ d → held ≤ 1 → branches (values w held d) ≡ next (state (at (get_or code (base + 3 - held) 0)) rs (values w (get_or w (values_from + (d - 1)) 0) (d - 1)) es)
  unfolding choose values
  choose_branch held zero l m = absurd (omega arith)
  choose_branch zero (suc d) l m =
      let p : suc d - 1 ≡ d = omega arith in
      let q : base + 3 - 0 ≡ base + 3 = omega arith in
      rw (p, q, taken_up w d)
  choose_branch (suc zero) (suc d) l m =
      let p : suc d - 1 ≡ d = omega arith in
      let q : base + 3 - 1 ≡ base + 2 = omega arith in
      rw (p, q, taken_up w d)
  choose_branch (suc (suc v)) (suc d) l m = absurd (omega arith)

-- CALL: the top goes to the words, and k values are taken from there.
pub taken_stored : (w : List ℕ) (k d : ℕ) (vs : List ℕ) → k ≤ d → taken k vs (stored w d) ≡ some (row w (values_from + suc (d - k)) k ++ vs, stored w (d - k))
unfolding taken stored row
taken_stored w zero d vs h = rw (sub-zero d)
taken_stored w (suc k) zero vs h = absurd (omega arith)
taken_stored w (suc k) (suc n) vs h =
    let p : suc n - suc k ≡ n - k = omega arith in
    let q : values_from + suc (n - k) + k ≡ values_from + suc n = omega arith in
    rw p (taken_stored w k n (get_or w (values_from + suc n) 0 ∷ vs) (omega arith)
    ∙ ap (λ (l : List ℕ). some (l, stored w (n - k))) (sym (
    ap (λ (l : List ℕ). l ++ vs) (row_snoc w (values_from + suc (n - k)) k) ∙ append_assoc (row w (values_from + suc (n - k)) k) (get_or w (values_from + suc (n - k) + k) 0 ∷ []) vs
    ∙ ap (λ (j : ℕ). row w (values_from + suc (n - k)) k ++ (get_or w j 0 ∷ vs)) q)))

taken_none : (w : List ℕ) (k d : ℕ) (vs : List ℕ) → d < k → taken k vs (stored w d) ≡ none
unfolding taken stored
taken_none w zero d vs h = absurd (omega arith)
taken_none w (suc k) zero vs h = refl
taken_none w (suc k) (suc n) vs h = taken_none w k n (get_or w (values_from + suc n) 0 ∷ vs) (omega arith)

module _ (w : List ℕ) (e h held d : ℕ) (a k b : ℕ) (ws : List ℕ) (rs : List Place) (z : 1 ≤ h) (fits : values_from + d < length w) where
  abbrev topped : List ℕ
  topped = set w (values_from + d) held

  pub call_is : k ≤ d
      → call_body a k ws b rs (values w held d) (environments w e h)
      ≡ next (state (at a) (at b ∷ rs) (stored topped (d - k)) (((map value (row topped (values_from + suc (d - k)) k) ++ map waiting ws) ∷ chain w h e) ∷ environments w e h))
  unfolding environments call_body enter
  call_is l = by h z
    where
      by : (h : ℕ) → 1 ≤ h
          → call_body a k ws b rs (values w held d) (environments w e h)
          ≡ next (state (at a) (at b ∷ rs) (stored topped (d - k)) (((map value (row topped (values_from + suc (d - k)) k) ++ map waiting ws) ∷ chain w h e) ∷ environments w e h))
      by zero y = absurd (omega arith)
      by (suc n) y = rw (← (kept_top w held d fits), taken_stored topped k d [] l, append-nil (row topped (values_from + suc (d - k)) k))

  pub call_none : d < k → call_body a k ws b rs (values w held d) (environments w e h) ≡ no_step
  unfolding environments call_body enter
  call_none l = by h
    where
      by : (h : ℕ) → call_body a k ws b rs (values w held d) (environments w e h) ≡ no_step
      by zero = refl
      by (suc n) = rw (← (kept_top w held d fits), taken_none topped k d [] l)

-- RET.
pub back_comes : (w : List ℕ) (e h held d : ℕ) → Good w e h d → 1 ≤ h → Comes (go_back (returns w h) (values w held d) (environments w e h)) w w (cell w h return_word) (cell w h link_word) (h - 1) held d
unfolding go_back returns environments holds
back_comes w e zero held d g z = absurd (omega arith)
back_comes w e (suc n) held d g z =
    let p : n ≡ suc n - 1 = omega arith in
    subst (λ (m : ℕ). Comes (go_back (returns w (suc n)) (values w held d) (environments w e (suc n))) w w (cell w (suc n) return_word) (cell w (suc n) link_word) m held d) p (record {
      step = refl;
      good = record { room = g.room; high = omega (arith, g.high); deep = g.deep; inner = omega (arith, g.links (suc n) (omega arith) (omega arith)); links = λ j a b. g.links j a (omega arith) };
      kept = refl;
    })
