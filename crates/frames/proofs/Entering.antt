-- The level that a call opens, in the whole of the work words, and that these hold what the call comes to. Assumes nothing.
use mathlib.Core.Path.{◌≡◌, sym, ap, ◌∙◌}
use mathlib.Core.List.{List, ◌∷◌, ◌++◌, map}
use Prim.Native.Nat.{ℕ, suc, ◌+◌, ◌-◌, ◌*◌, ◌≤◌, ◌<◌}
use native.Mathlib.Numerals.{add-one}
use native.Mathlib.Omega.{arith}
use lib.ListN.{length, get_or, drop, set, length-set}
use lib.Seq.{get_or-set_other, drop-set-lt, drop-drop}
use borrow.Author.Rules.{rules}
use Rattle.std.proofs.lemmas.List.{places}
use borrow.Rule.Slice.PartMut.{mid_of, put_mid, mid_len, same_len_mid, drop_put}
use Rattle.meaning.specs.Numbers.{most_height, most_arguments, work_words}
use Rattle.meaning.specs.Machine.{value, waiting, call_body}
use Rattle.layout.specs.Decoding.{row}
use Rattle.layout.specs.Layout.{level_words, return_word, link_word, strict_word, size_word, slot_words, values_from, cell, frame, chain, environments, returns, stored, values, Good, Comes}
use Rattle.layout.proofs.Rows.{row_same}
use Rattle.layout.proofs.Levels.{chain_same, chain_at, stored_same, taken_up}
use Rattle.layout.proofs.Slots.{slots_row}
use Rattle.layout.proofs.Steps.{open_comes, call_is}
use Rattle.frames.specs.Frames.{Filled, Entered}

module _ (w ys : List ℕ) (e h held d k b : ℕ) (ws : List ℕ) (g : Good w e h d) (few : k ≤ most_arguments) (enough : k ≤ d) (fits : h < most_height) where
  abbrev start : ℕ
  start = level_words * (h + 1)

  abbrev end : ℕ
  end = values_from + d + 1

  abbrev topped : List ℕ
  topped = set w (values_from + d) held

  abbrev part : List ℕ
  part = mid_of start (end - start) topped

  abbrev whole : List ℕ
  whole = put_mid start (end - start) topped ys

  long_topped : length topped ≡ length w
  long_topped = length-set w (values_from + d) held

  in_part : (i j : ℕ) → j < end - start → i ≡ start + j → get_or part j 0 ≡ get_or topped i 0
  in_part i j l q = rw q (search (rules, places))

  below_part : (i : ℕ) → i < start → get_or whole i 0 ≡ get_or topped i 0
  below_part i l = search (rules, places)

  module _ (f : Filled part ys b e k ws) where
    in_whole : (i j : ℕ) → j < end - start → i ≡ start + j → get_or whole i 0 ≡ get_or ys j 0
    in_whole i j l q = let h : length ys ≡ end - start = f.long ∙ mid_len start end topped (omega (arith, long_topped, g.room, g.deep)) in rw q (search (rules, places))

    pub entered : Entered w whole e h held d k b ws
    entered =
        let r : work_words ≤ length w = g.room in
        let dd : d ≤ most_height = g.deep in
        let lt = long_topped in
        let lp : length part ≡ end - start = mid_len start end topped (omega (arith, long_topped, g.room, g.deep)) in
        let size : cell whole (h + 1) size_word ≡ get_or ys size_word 0 = in_whole (start + size_word) size_word (omega arith) (omega arith) in
        record {
          long = same_len_mid start (end - start) topped ys f.long ∙ long_topped;
          kept =
              (let q : end + (work_words - end) ≡ work_words = omega arith in
              ap (λ (n : ℕ). drop n whole) (sym q) ∙ sym (drop-drop (work_words - end) end whole) ∙ ap (drop (work_words - end)) (drop_put start end topped ys (omega arith) (omega arith) (f.long ∙ lp))
              ∙ drop-drop (work_words - end) end topped ∙ ap (λ (n : ℕ). drop n topped) q ∙ drop-set-lt work_words w (values_from + d) held (omega arith));
          below = λ i l. below_part i (omega arith) ∙ get_or-set_other w (values_from + d) i held 0 (λ q. omega arith);
          left = λ i l. in_whole (values_from + i) (values_from + i - start) (omega arith) (omega arith) ∙ f.rest (values_from + i - start) (omega arith) ∙ in_part (values_from + i) (values_from + i - start) (omega arith) (omega arith);
          goes_on = in_whole (start + return_word) return_word (omega arith) (omega arith) ∙ f.goes_on;
          link_is = in_whole (start + link_word) link_word (omega arith) (omega arith) ∙ f.link_is;
          strict = in_whole (start + strict_word) strict_word (omega arith) (omega arith) ∙ f.strict;
          least = omega (arith, size, f.least);
          most = omega (arith, size, f.most);
          taken =
              row_same ys whole slot_words (start + slot_words) k (λ i l. in_whole (start + slot_words + i) (slot_words + i) (omega arith) (omega arith)) ∙ f.taken
              ∙ row_same topped part (values_from + (d - k) + 1) (length part - k) k (λ i l. in_part (values_from + (d - k) + 1 + i) (length part - k + i) (omega arith) (omega arith));
          waiting =
              ap (λ (j : ℕ). row whole (start + slot_words + k) (j - k)) size
              ∙ row_same ys whole (slot_words + k) (start + slot_words + k) (get_or ys size_word 0 - k) (λ i l. in_whole (start + slot_words + k + i) (slot_words + k + i) (omega (arith, f.most)) (omega arith)) ∙ f.waiting;
        }

module _ (w v : List ℕ) (e h held d k b : ℕ) (ws : List ℕ) (g : Good w e h d) (z : 1 ≤ h) (fits : h < most_height) (enough : k ≤ d) (t : Entered w v e h held d k b ws) where
  abbrev kept_words : List ℕ
  kept_words = set w (values_from + d) held

  abbrev taken_values : List ℕ
  taken_values = row kept_words (values_from + suc (d - k)) k

  frame_is : frame v (h + 1) ≡ map value taken_values ++ map waiting ws
  unfolding frame
  frame_is =
      let p : values_from + (d - k) + 1 ≡ values_from + suc (d - k) = omega arith in
      rw t.strict (slots_row v (level_words * (h + 1) + slot_words) k (cell v (h + 1) size_word) t.least t.most ∙ rw (t.taken, t.waiting, p))

  chain_is : chain v (h + 1) (h + 1) ≡ (map value taken_values ++ map waiting ws) ∷ chain w h e
  chain_is = by (rw (add-one h) at frame_is) (rw (add-one h) at t.link_is)
    where
      by : frame v (suc h) ≡ map value taken_values ++ map waiting ws → cell v (suc h) link_word ≡ e → chain v (h + 1) (h + 1) ≡ (map value taken_values ++ map waiting ws) ∷ chain w h e
      by f l = rw (add-one h, chain_at v h (suc h) (omega arith), f, l, chain_same w v h t.below e)

  pub call_comes : (a x : ℕ) → x ≡ get_or v (values_from + (d - k)) 0 → Comes (call_body a k ws b (returns w h) (values w held d) (environments w e h)) w v a (h + 1) (h + 1) x (d - k)
  call_comes a x ex =
      open_comes w v e h d g z fits t.long t.below (call_body a k ws b (returns w h) (values w held d) (environments w e h)) a b (h + 1) x (d - k) (stored kept_words (d - k)) _
      (omega (arith, g.deep)) (omega arith) t.goes_on t.link_is
      (rw ex (taken_up v (d - k) ∙ stored_same kept_words v (d - k) t.left))
      chain_is t.kept (call_is w e h held d a k b ws (returns w h) z (omega (arith, g.room, g.deep)) enough)
