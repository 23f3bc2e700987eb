-- How a run begins: level 1 with the frame of the arguments. Assumes nothing.
use mathlib.Core.Path.{◌≡◌, refl, sym, ap, ◌∙◌, subst}
use mathlib.Core.Bool.{Bool, true, false}
use mathlib.Core.List.{List, [], ◌∷◌, map, append-nil}
use Prim.Native.Nat.{ℕ, ◌+◌, ◌-◌, ◌≤◌, ◌<◌}
use native.Mathlib.Nat.{sub_self}
use native.Mathlib.Omega.{arith}
use lib.ListN.{length, get_or, drop, set, length-set}
use lib.Seq.{get_or-set_same, get_or-set_other, drop-set-lt}
use lib.Dec.{eqb}
use borrow.Author.Tests.{eqb-true, eqb-false}
use Rattle.meaning.specs.Numbers.{most_arguments, work_words}
use Rattle.meaning.specs.Machine.{value, start}
use Rattle.layout.specs.Decoding.{row}
use Rattle.layout.specs.Layout.{level_words, link_word, strict_word, size_word, slot_words, cell, frame, chain, environments, place, returns, values, holds}
use Rattle.layout.proofs.Rows.{row_same, row_all}
use Rattle.layout.proofs.Slots.{slots_row}
use Rattle.machine.specs.Ends.{Begun}

abbrev first_slot : ℕ
first_slot = level_words + slot_words

-- the first n arguments have come to the slots of level 1
pub record Given (w v args : List ℕ) (n : ℕ) : Type 0 where
  pub long : length v ≡ length w
  pub taken : (i : ℕ) → i < n → get_or v (first_slot + i) 0 ≡ get_or args i 0
  pub kept : drop work_words v ≡ drop work_words w

pub given_none : (w args : List ℕ) → Given w w args 0
given_none w args = record { long = refl; taken = λ i h. absurd (omega arith); kept = refl }

module _ (w v args : List ℕ) (n : ℕ) (room : work_words ≤ length w) (few : n < most_arguments) (g : Given w v args n) where
  abbrev more : List ℕ
  more = set v (first_slot + n) (get_or args n 0)

  taken_by : (i : ℕ) (b : Bool) → eqb i n ≡ b → i < n + 1 → get_or more (first_slot + i) 0 ≡ get_or args i 0
  taken_by i true e h =
      let s : i ≡ n = eqb-true i n e in
      let l : first_slot + n < length v = omega (arith, g.long) in
      rw s (get_or-set_same v (first_slot + n) (get_or args n 0) 0 l)
  taken_by i false e h = get_or-set_other v (first_slot + n) (first_slot + i) (get_or args n 0) 0 (λ q. eqb-false i n e (omega arith)) ∙ g.taken i (omega (arith, eqb-false i n e))

  pub given_more : Given w more args (n + 1)
  given_more = record {
    long = length-set v (first_slot + n) (get_or args n 0) ∙ g.long;
    taken = λ i h. taken_by i (eqb i n) refl h;
    kept = drop-set-lt work_words v (first_slot + n) (get_or args n 0) (omega arith) ∙ g.kept;
  }

pub given_all : (w v args : List ℕ) (n : ℕ) → Given w v args n → n ≤ length args → length args ≤ n → Given w v args (length args)
given_all w v args n g a b = let e : n ≡ length args = omega arith in subst (Given w v args) e g

frame_by : (v args : List ℕ) → cell v 1 strict_word ≡ length args → cell v 1 size_word ≡ length args → length args ≤ most_arguments → row v first_slot (length args) ≡ args → frame v 1 ≡ map value args
unfolding frame row
frame_by v args p q l r = rw (p, q) (slots_row v first_slot (length args) (length args) (omega arith) l ∙ rw (r, sub_self (length args)) (append-nil (map value args)))

held_by : (v args : List ℕ) (a : ℕ) → frame v 1 ≡ map value args → holds v a 1 1 0 0 ≡ start a args
unfolding holds place returns values environments chain start
held_by v args a f = rw f

module _ (w u args : List ℕ) (room : work_words ≤ length w) (few : length args ≤ most_arguments) (g : Given w u args (length args)) where
  abbrev u1 : List ℕ
  u1 = set u (level_words + link_word) 0

  abbrev u2 : List ℕ
  u2 = set u1 (level_words + strict_word) (length args)

  abbrev first : List ℕ
  first = set u2 (level_words + size_word) (length args)

  slots_stay : (i : ℕ) → first_slot ≤ i → get_or first i 0 ≡ get_or u i 0
  slots_stay i h =
      get_or-set_other u2 (level_words + size_word) i (length args) 0 (λ q. omega arith) ∙ get_or-set_other u1 (level_words + strict_word) i (length args) 0 (λ q. omega arith)
      ∙ get_or-set_other u (level_words + link_word) i 0 0 (λ q. omega arith)

  pub begun : Begun w first args
  begun =
      let l : work_words ≤ length u = omega (arith, g.long) in
      let linked : cell first 1 link_word ≡ 0 =
      get_or-set_other u2 (level_words + size_word) (level_words + link_word) (length args) 0 (λ q. omega arith) ∙ get_or-set_other u1 (level_words + strict_word) (level_words + link_word) (length args) 0 (λ q. omega arith)
      ∙ get_or-set_same u (level_words + link_word) 0 0 (omega arith) in
      let strict : cell first 1 strict_word ≡ length args =
      get_or-set_other u2 (level_words + size_word) (level_words + strict_word) (length args) 0 (λ q. omega arith) ∙ get_or-set_same u1 (level_words + strict_word) (length args) 0 (simp length-set (omega arith)) in
      let size : cell first 1 size_word ≡ length args = get_or-set_same u2 (level_words + size_word) (length args) 0 (simp length-set (omega arith)) in
      let long : length first ≡ length w = simp length-set g.long in
      let values_are : row first first_slot (length args) ≡ args =
      row_same args first 0 first_slot (length args) (λ i h. slots_stay (first_slot + i) (omega arith) ∙ g.taken i h ∙ ap (λ (j : ℕ). get_or args j 0) (omega arith)) ∙ row_all args in
      record {
        good = record { room = omega arith; high = omega arith; deep = omega arith; inner = omega arith; links = λ j a b. link_of j (omega arith) linked };
        kept =
            drop-set-lt work_words u2 (level_words + size_word) (length args) (omega arith) ∙ drop-set-lt work_words u1 (level_words + strict_word) (length args) (omega arith)
            ∙ drop-set-lt work_words u (level_words + link_word) 0 (omega arith) ∙ g.kept;
        holds_start = λ a. held_by first args a (frame_by first args strict size few values_are);
      }
    where
      link_of : (j : ℕ) → j ≡ 1 → cell first 1 link_word ≡ 0 → cell first j link_word < j
      link_of j e p = subst (λ (i : ℕ). cell first i link_word < i) (sym e) (omega (arith, p))

-- where the words end before the fourth
pub no_fourth : (code : List ℕ) → length code ≤ 3 → get_or code 3 0 ≡ 0
no_fourth [] l = refl
no_fourth (a ∷ []) l = refl
no_fourth (a ∷ b ∷ []) l = refl
no_fourth (a ∷ b ∷ c ∷ []) l = refl
no_fourth (a ∷ b ∷ c ∷ d ∷ code) l = absurd (omega arith)
