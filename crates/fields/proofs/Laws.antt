-- Laws of fields: pieces by place, forms, decimals, packed names. Assumes nothing.
use Rattle.std.specs.Prelude.{if◌then◌else◌, Some, None}
use mathlib.Core.Path.{◌≡◌, refl, ap, sym, ◌∙◌}
use mathlib.Core.List.{List, [], ◌∷◌, reverse}
use mathlib.Core.Bool.{Bool, true, false, ◌&&◌, and_assoc, and-false, false≢true}
use Prim.Native.Nat.{ℕ, suc, ◌+◌, ◌-◌, ◌*◌, ◌^◌, ◌<◌, ◌≤◌}
use native.Mathlib.Omega.{arith}
use native.Mathlib.Numerals.{add-one}
use native.Mathlib.Nat.{pow-succ', pow-le-pow_right}
use lib.ListN.{length, get_or, drop, take, drop_of_length-le, length-drop}
use lib.Seq.{drop-cons, drop-drop, take_all, get_or-drop, length-take-le}
use lib.Dec.{ltb, leb, eqb}
use borrow.Author.Tests.{lt-ltb, le-ltb, eq-eqb, ne_eqb, le-leb, lt-leb, leb-true, leb-false, eqb-true, eqb-false}
use Rattle.meaning.specs.Basics.{between, all}
use Rattle.meaning.specs.Text.{Field, pieces, onto_first, is_visible, is_name, are_sorts, is_sort, is_digit, is_capital, value_from, same}
use Rattle.meaning.specs.Terms.{is_decimal}
use Rattle.reader.proofs.Laws.{span_within}
use Rattle.std.specs.List.{list_all, filter, prefix_len, fold}
use Rattle.std.proofs.Common.{bit_or, ◌%◌}
use Rattle.std.proofs.lemmas.Grind.{fold-append}
use Rattle.std.proofs.lemmas.List.{reverse-append}
use Rattle.std.proofs.lemmas.Nat.{or_shifted, shl_whole}
use Rattle.fields.specs.Fields.{span, rest, visible_span, occurrences, is_name_byte, decimal_of, digits_from, packed}

-- Tests.

pub and_left : (a b : Bool) → a && b ≡ true → a ≡ true
and_left true b e = refl
and_left false b e = e

pub and_right : (a b : Bool) → a && b ≡ true → b ≡ true
and_right true b e = e
and_right false b e = absurd (false≢true e)

-- Pieces.

pieces_by : (b x : ℕ) (xs : List ℕ) (t : Bool) → pieces b xs ≡ take (span b xs) xs ∷ rest b (drop (span b xs) xs) →
    (if t then [] ∷ pieces b xs else onto_first x (pieces b xs)) ≡ take (if t then 0 else suc (span b xs)) (x ∷ xs) ∷ rest b (drop (if t then 0 else suc (span b xs)) (x ∷ xs))
unfolding onto_first rest
pieces_by b x xs true ih = refl
pieces_by b x xs false ih = rw ih

-- The first piece, and those after it.
pub first_piece : (b : ℕ) (s : List ℕ) → pieces b s ≡ take (span b s) s ∷ rest b (drop (span b s) s)
unfolding pieces span rest
first_piece b [] = refl
first_piece b (x ∷ xs) = pieces_by b x xs (eqb x b) (first_piece b xs)

-- The piece after the byte at `at`, which is a byte b.
pub next_piece : (b : ℕ) (l : List ℕ) (at a e : ℕ) → at < length l → a ≡ at + 1 → e ≡ a + span b (drop a l) →
    rest b (drop at l) ≡ take (e - a) (drop a l) ∷ rest b (drop e l)
unfolding rest
next_piece b l at a e h p q =
    let y : a ≡ suc at = omega (arith, p) in
    let n : e - a ≡ span b (drop a l) = omega arith in
    rw (drop-cons l at 0, n, q, ← y, ← drop-drop (span b (drop a l)) a l) (first_piece b (drop a l))

pub no_piece : (b : ℕ) (l : List ℕ) (at : ℕ) → length l ≤ at → rest b (drop at l) ≡ []
unfolding rest
no_piece b l at h = rw (drop_of_length-le l h)

-- Visible bytes, and the field that they begin.

not_tab : (x : ℕ) → between 33 126 x ≡ true → eqb x 9 ≡ false
not_tab x e = ne_eqb x 9 λ q. absurd (false≢true (sym (ap (between 33 126) q) ∙ e))

abbrev all_visible : List ℕ → Bool
all_visible = all (between 33 126)

-- Where they end at the end, they are the field.
to_end_by : (x : ℕ) (s : List ℕ) (v t : Bool) → between 33 126 x ≡ v → eqb x 9 ≡ t →
    (length s ≤ visible_span s → (span 9 s ≡ length s) × (all_visible s ≡ true)) → suc (length s) ≤ (if v then suc (visible_span s) else 0) →
    ((if t then 0 else suc (span 9 s)) ≡ suc (length s)) × (v && all_visible s ≡ true)
to_end_by x s false t p q ih h = absurd (omega (arith, h))
to_end_by x s true true p q ih h = absurd (false≢true (sym (not_tab x p) ∙ q))
to_end_by x s true false p q ih h = let k = ih (omega (arith, h)) in (ap suc k.0, k.1)

to_end : (s : List ℕ) → length s ≤ visible_span s → (span 9 s ≡ length s) × (all_visible s ≡ true)
unfolding span visible_span all
to_end [] h = (refl, refl)
to_end (x ∷ s) h = to_end_by x s (between 33 126 x) (eqb x 9) refl refl (to_end s) h

-- Where they end at a tab, they are the field.
to_tab_by : (x : ℕ) (s : List ℕ) (v t : Bool) → between 33 126 x ≡ v → eqb x 9 ≡ t →
    (visible_span s < length s → get_or s (visible_span s) 0 ≡ 9 → (span 9 s ≡ visible_span s) × (all_visible (take (visible_span s) s) ≡ true)) →
    (if v then suc (visible_span s) else 0) < suc (length s) → get_or (x ∷ s) (if v then suc (visible_span s) else 0) 0 ≡ 9 →
    ((if t then 0 else suc (span 9 s)) ≡ (if v then suc (visible_span s) else 0)) × (all_visible (take (if v then suc (visible_span s) else 0) (x ∷ s)) ≡ true)
unfolding all
to_tab_by x s false true p q ih h e = (refl, refl)
to_tab_by x s false false p q ih h e = absurd (false≢true (sym q ∙ eq-eqb x 9 e))
to_tab_by x s true true p q ih h e = absurd (false≢true (sym (not_tab x p) ∙ q))
to_tab_by x s true false p q ih h e = let k = ih (omega (arith, h)) e in (ap suc k.0, simp (p, k.1))

to_tab : (s : List ℕ) → visible_span s < length s → get_or s (visible_span s) 0 ≡ 9 → (span 9 s ≡ visible_span s) × (all_visible (take (visible_span s) s) ≡ true)
unfolding span visible_span
to_tab [] h e = absurd (omega (arith, h))
to_tab (x ∷ s) h e = to_tab_by x s (between 33 126 x) (eqb x 9) refl refl (to_tab s) h e

-- Where they end at another byte, the field is not visible.
to_other_by : (x : ℕ) (s : List ℕ) (v t : Bool) → between 33 126 x ≡ v → eqb x 9 ≡ t →
    (visible_span s < length s → (get_or s (visible_span s) 0 ≡ 9 → ⊥) → all_visible (take (span 9 s) s) ≡ false) →
    (if v then suc (visible_span s) else 0) < suc (length s) → (get_or (x ∷ s) (if v then suc (visible_span s) else 0) 0 ≡ 9 → ⊥) →
    all_visible (take (if t then 0 else suc (span 9 s)) (x ∷ s)) ≡ false
unfolding all
to_other_by x s false true p q ih h e = absurd (e (eqb-true x 9 q))
to_other_by x s false false p q ih h e = rw p
to_other_by x s true true p q ih h e = absurd (false≢true (sym (not_tab x p) ∙ q))
to_other_by x s true false p q ih h e = simp (p, ih (omega (arith, h)) e)

to_other : (s : List ℕ) → visible_span s < length s → (get_or s (visible_span s) 0 ≡ 9 → ⊥) → all_visible (take (span 9 s) s) ≡ false
unfolding span visible_span
to_other [] h e = absurd (omega (arith, h))
to_other (x ∷ s) h e = to_other_by x s (between 33 126 x) (eqb x 9) refl refl (to_other s) h e

blank_by : (x : ℕ) (s : List ℕ) (v t : Bool) → between 33 126 x ≡ v → eqb x 9 ≡ t → (if v then suc (visible_span s) else 0) ≡ 0 →
    leb 1 (length (take (if t then 0 else suc (span 9 s)) (x ∷ s))) && all_visible (take (if t then 0 else suc (span 9 s)) (x ∷ s)) ≡ false
unfolding all
blank_by x s true t p q z = absurd (omega (arith, z))
blank_by x s false true p q z = refl
blank_by x s false false p q z = rw p (and-false (leb 1 (suc (length (take (span 9 s) s)))))

blank : (s : List ℕ) → visible_span s ≡ 0 → leb 1 (length (take (span 9 s) s)) && all_visible (take (span 9 s) s) ≡ false
unfolding span visible_span
blank [] z = refl
blank (x ∷ s) z = blank_by x s (between 33 126 x) (eqb x 9) refl refl z

-- The field that begins at a, its visible bytes ending at e.
module _ (l : List ℕ) (a e : ℕ) (h : a ≤ length l) (q : e ≡ a + visible_span (drop a l)) where
  abbrev the_field : List ℕ
  the_field = take (span 9 (drop a l)) (drop a l)

  pub sight_end : length l ≤ e → e ≤ length l → (a < e) → (span 9 (drop a l) ≡ e - a) × (is_visible the_field ≡ true)
  unfolding is_visible
  sight_end k m o =
      let y = to_end (drop a l) (omega (arith, length-drop a l)) in
      let n : span 9 (drop a l) ≡ e - a = omega (arith, y.0, length-drop a l) in
      let all_in : take (span 9 (drop a l)) (drop a l) ≡ drop a l = take_all (span 9 (drop a l)) (drop a l) (omega (arith, y.0)) in
      (n, rw all_in (rw (le-leb 1 (length (drop a l)) (omega (arith, length-drop a l))) y.1))

  sight_at : get_or (drop a l) (visible_span (drop a l)) 0 ≡ get_or l e 0
  sight_at = get_or-drop a l (visible_span (drop a l)) 0 ∙ ap (λ (k : ℕ). get_or l k 0) (sym q)

  pub sight_tab : e < length l → get_or l e 0 ≡ 9 → (a < e) → (span 9 (drop a l) ≡ e - a) × (is_visible the_field ≡ true)
  unfolding is_visible
  sight_tab k t o =
      let y = to_tab (drop a l) (omega (arith, length-drop a l)) (sight_at ∙ t) in
      let n : span 9 (drop a l) ≡ e - a = omega (arith, y.0) in
      let some : 1 ≤ length the_field = rw (length-take-le (span 9 (drop a l)) (drop a l) (span_within 9 (drop a l))) (omega (arith, n)) in
      (n, rw (le-leb 1 (length the_field) some) (ap (λ (k : ℕ). all_visible (take k (drop a l))) y.0 ∙ y.1))

  pub sight_other : e < length l → (get_or l e 0 ≡ 9 → ⊥) → is_visible the_field ≡ false
  unfolding is_visible
  sight_other k t = rw (to_other (drop a l) (omega (arith, length-drop a l)) (λ z. t (sym sight_at ∙ z))) (and-false (leb 1 (length the_field)))

  pub sight_none : e ≡ a → is_visible the_field ≡ false
  unfolding is_visible
  sight_none z = blank (drop a l) (omega (arith, q))

-- The iterators' words: what `all`, `filter` with `count`, and `take_while` with `count` come to.
pub all_is : (p : ℕ → Bool) (s : List ℕ) → list_all p s ≡ all p s
unfolding all
all_is p [] = refl
all_is p (x ∷ s) = ap (λ (b : Bool). p x && b) (all_is p s)

pub occurrences_is : (b : ℕ) (s : List ℕ) → length (filter (λ x. eqb x b) s) ≡ occurrences b s
unfolding occurrences
occurrences_is b [] = refl
occurrences_is b (x ∷ s) = by_test (eqb x b) (occurrences_is b s)
  where
    by_test : (t : Bool) → length (filter (λ x. eqb x b) s) ≡ occurrences b s →
        length (if t then x ∷ filter (λ x. eqb x b) s else filter (λ x. eqb x b) s) ≡ (if t then suc (occurrences b s) else occurrences b s)
    by_test true h = ap suc h
    by_test false h = h

pub visible_span_is : (s : List ℕ) → prefix_len (between 33 126) s ≡ visible_span s
unfolding visible_span
visible_span_is [] = refl
visible_span_is (x ∷ s) = ap (λ (n : ℕ). if between 33 126 x then n else 0) (omega (arith, visible_span_is s))

-- One more piece than there are bytes b.
onto_length : (x : ℕ) (ps : List Field) → 0 < length ps → length (onto_first x ps) ≡ length ps
unfolding onto_first
onto_length x [] h = absurd (omega (arith, h))
onto_length x (p ∷ ps) h = refl

occurs_by : (b x : ℕ) (xs : List ℕ) (t : Bool) → length (pieces b xs) ≡ suc (occurrences b xs) →
    length (if t then [] ∷ pieces b xs else onto_first x (pieces b xs)) ≡ suc (if t then suc (occurrences b xs) else occurrences b xs)
occurs_by b x xs true ih = ap suc ih
occurs_by b x xs false ih = onto_length x (pieces b xs) (omega (arith, ih)) ∙ ih

pub piece_count : (b : ℕ) (s : List ℕ) → length (pieces b s) ≡ suc (occurrences b s)
unfolding pieces occurrences
piece_count b [] = refl
piece_count b (x ∷ xs) = occurs_by b x xs (eqb x b) (piece_count b xs)

-- Forms.

pub name_is : (f : List ℕ) → 1 ≤ length f → length f ≤ 8 → is_name f ≡ is_capital (get_or f 0 0) && all is_name_byte (drop 1 f)
unfolding is_name
name_is [] z l = absurd (omega (arith, z))
name_is (y ∷ f) z l = rw (le-leb (length f) 7 (omega (arith, l)))

pub name_none : (f : List ℕ) → length f < 1 → is_name f ≡ false
unfolding is_name
name_none [] e = refl
name_none (x ∷ f) e = absurd (omega (arith, e))

pub name_long : (f : List ℕ) → 8 < length f → is_name f ≡ false
unfolding is_name
name_long [] e = refl
name_long (x ∷ f) e = rw (lt-leb (length f) 7 (omega (arith, e))) (and-false (is_capital x))

pub sorts_are : (s : ℕ) (f : List ℕ) → 1 ≤ length f → length f ≤ 8 → are_sorts s f ≡ leb s (length f) && all is_sort f
unfolding are_sorts
sorts_are s f z l = rw (le-leb 1 (length f) z, le-leb (length f) 8 l)

pub sorts_none : (s : ℕ) (f : List ℕ) → length f < 1 → are_sorts s f ≡ false
unfolding are_sorts
sorts_none s f e = rw (lt-leb 1 (length f) e)

pub sorts_long : (s : ℕ) (f : List ℕ) → 8 < length f → are_sorts s f ≡ false
unfolding are_sorts
sorts_long s f e = rw (lt-leb (length f) 8 e, and-false (leb 1 (length f)))

-- Decimals.

pub digits_stop : (s : List ℕ) (v i : ℕ) → i < length s → is_digit (get_or s i 0) ≡ false → None ≡ digits_from v (drop i s)
unfolding digits_from
digits_stop s v i h e = rw (drop-cons s i 0) (by_low (leb 48 (get_or s i 0)) refl)
  where
    by_low : (a : Bool) → leb 48 (get_or s i 0) ≡ a → None ≡ digits_from v (get_or s i 0 ∷ drop (suc i) s)
    by_low true p =
        let q : leb (get_or s i 0) 57 ≡ false = simp p at e in
        rw (le-ltb _ _ (leb-true 48 (get_or s i 0) p), lt-ltb _ _ (leb-false (get_or s i 0) 57 q))
    by_low false p = rw (lt-ltb _ _ (leb-false 48 (get_or s i 0) p))

pub digits_over : (s : List ℕ) (v i : ℕ) → i < length s → 48 ≤ get_or s i 0 → get_or s i 0 ≤ 57 → 4294967296 ≤ v * 10 + (get_or s i 0 - 48) → None ≡ digits_from v (drop i s)
unfolding digits_from
digits_over s v i h e k l = rw (drop-cons s i 0, le-ltb _ _ e, le-ltb _ _ k, le-leb _ _ l)

pub digits_on : (s : List ℕ) (v i n : ℕ) → i < length s → 48 ≤ get_or s i 0 → get_or s i 0 ≤ 57 → n ≡ v * 10 + (get_or s i 0 - 48) → n < 4294967296 →
    digits_from n (drop (i + 1) s) ≡ digits_from v (drop i s)
unfolding digits_from
digits_on s v i n h e k p l = rw (drop-cons s i 0, le-ltb _ _ e, le-ltb _ _ k, ← p, lt-leb _ _ l, add-one)

pub digits_end : (s : List ℕ) (v i : ℕ) → length s ≤ i → Some v ≡ digits_from v (drop i s)
unfolding digits_from
digits_end s v i h = rw (drop_of_length-le s h)

value_grows : (v : ℕ) (s : List ℕ) → v ≤ value_from v s
unfolding value_from
value_grows v [] = omega arith
value_grows v (x ∷ xs) = omega (arith, value_grows (v * 10 + (x - 48)) xs)

-- From the left, and by the readable definition.
abbrev Fold : ℕ → List ℕ → Type 0
Fold v s = digits_from v s ≡ (if all is_digit s && ltb (value_from v s) 4294967296 then Some (value_from v s) else None)

by_byte : (v x : ℕ) (xs : List ℕ) (a b o : Bool) → leb 48 x ≡ a → leb x 57 ≡ b → leb 4294967296 (v * 10 + (x - 48)) ≡ o →
    (v * 10 + (x - 48) < 4294967296 → Fold (v * 10 + (x - 48)) xs) → Fold v (x ∷ xs)
unfolding digits_from value_from all
by_byte v x xs false b o p q r ih = simp (p, lt-ltb x 48 (leb-false 48 x p))
by_byte v x xs true false o p q r ih = simp (p, q, le-ltb x 48 (leb-true 48 x p), lt-ltb 57 x (leb-false x 57 q))
by_byte v x xs true true true p q r ih =
    let big : 4294967296 ≤ value_from (v * 10 + (x - 48)) xs = omega (arith, leb-true 4294967296 (v * 10 + (x - 48)) r, value_grows (v * 10 + (x - 48)) xs) in
    simp (p, q, r, le-ltb x 48 (leb-true 48 x p), le-ltb 57 x (leb-true x 57 q), le-ltb _ _ big) (rw (and-false (all is_digit xs)))
by_byte v x xs true true false p q r ih =
    simp (p, q, r, le-ltb x 48 (leb-true 48 x p), le-ltb 57 x (leb-true x 57 q)) (ih (leb-false _ _ r))

digits_are : (v : ℕ) (s : List ℕ) → v < 4294967296 → Fold v s
unfolding digits_from value_from all
digits_are v [] h = simp (lt-ltb _ _ h)
digits_are v (x ∷ xs) h =
    by_byte v x xs (leb 48 x) (leb x 57) (leb 4294967296 (v * 10 + (x - 48))) refl refl refl (digits_are (v * 10 + (x - 48)) xs)

pub decimal_none : (f : List ℕ) → length f ≡ 0 → None ≡ decimal_of f
unfolding decimal_of is_decimal
decimal_none [] e = refl
decimal_none (x ∷ f) e = absurd (omega (arith, e))

pub decimal_led : (f : List ℕ) → get_or f 0 0 ≡ 48 → 2 ≤ length f → None ≡ decimal_of f
unfolding decimal_of is_decimal value_from
decimal_led [] e l = refl
decimal_led (x ∷ []) e l = absurd (omega (arith, l))
decimal_led (x ∷ y ∷ f) e l = rw e

digit_or_led : (x : ℕ) → (x ≡ 48 → ⊥) → between 49 57 x ≡ is_digit x
digit_or_led x n = by_low (leb 48 x) refl
  where
    by_low : (a : Bool) → leb 48 x ≡ a → leb 49 x && leb x 57 ≡ leb 48 x && leb x 57
    by_low true p = simp (p, le-leb 49 x (omega (arith, leb-true 48 x p)))
    by_low false p = simp (p, lt-leb 49 x (omega (arith, leb-false 48 x p)))

small : (x n : ℕ) (a b : Bool) → n ≤ x → leb x 57 ≡ b → (if a && b then Some n else None) ≡ (if (a && b && true) && ltb n 4294967296 then Some n else None)
small x n false b h e = refl
small x n true false h e = refl
small x n true true h e = simp (lt-ltb n 4294967296 (omega (arith, leb-true x 57 e)))

pub decimal_digits : (f : List ℕ) → 1 ≤ length f → (get_or f 0 0 ≡ 48 → length f < 2) → digits_from 0 f ≡ decimal_of f
unfolding decimal_of is_decimal value_from all
decimal_digits [] l e = absurd (omega (arith, l))
decimal_digits (x ∷ []) l e = digits_are 0 (x ∷ []) (omega arith) ∙ sym (small x (0 * 10 + (x - 48)) (leb 48 x) (leb x 57) (omega arith) refl)
decimal_digits (x ∷ y ∷ f) l e =
    digits_are 0 (x ∷ y ∷ f) (omega arith) ∙ rw (digit_or_led x (λ q. absurd (omega (arith, e q))), and_assoc (is_digit x) (all is_digit (y ∷ f)) (ltb (value_from 0 (x ∷ y ∷ f)) 4294967296))

-- Packed names.

pub room_more : (b v k : ℕ) → b < 256 → v < 256 ^ k → b + 256 * v < 256 ^ suc k
room_more b v k h l = rw (pow-succ' 256 k) (omega arith)

pub room : (v k : ℕ) → k ≤ 7 → v < 256 ^ k → v < 72057594037927936
room v k h l = omega (arith, pow-le-pow_right {n = 256} (omega arith) h)

-- The packed number of bytes fits in as many bytes.
packed_below : (f : List ℕ) → ((i : ℕ) → get_or f i 0 < 256) → packed f < 256 ^ length f
unfolding packed
packed_below [] h = omega arith
packed_below (x ∷ f) h = room_more x (packed f) (length f) (h 0) (packed_below f (λ i. h (suc i)))

-- One more byte below those that are packed, as the code puts it: by a shift and an or.
abbrev pub onto_packed : ℕ → ℕ → ℕ
onto_packed v b = bit_or (v * 256 % 18446744073709551616) b

-- The bytes from the last to the first, one after the other.
pub packed_fold : (f : List ℕ) → length f ≤ 8 → ((i : ℕ) → get_or f i 0 < 256) → fold onto_packed 0 (reverse f) ≡ packed f
unfolding packed
packed_fold [] l h = refl
packed_fold (x ∷ f) l h =
    let below : packed f < 72057594037927936 = room (packed f) (length f) (omega (arith, l)) (packed_below f (λ i. h (suc i))) in
    let whole : packed f * 256 % 18446744073709551616 ≡ packed f * 256 = shl_whole (packed f) 56 8 64 below (omega arith) in
    rw (reverse-append (x ∷ []) f, fold-append onto_packed 0 (reverse f) (x ∷ []), packed_fold f (omega (arith, l)) (λ i. h (suc i)), whole, or_shifted (packed f) 8 x (h 0)) (omega arith)

-- Of bytes from 1 to 255, equal numbers are equal fields.
unfoldable pub Bytes : Field → Type 0
Bytes [] = Unit {0}
Bytes (x ∷ xs) = (1 ≤ x) × (x ≤ 255) × Bytes xs

by_head : (x y u v : ℕ) (a b t : Bool) → x ≤ 255 → y ≤ 255 → eqb x y ≡ a → eqb u v ≡ b → t ≡ eqb u v → eqb x y && t ≡ eqb (x + 256 * u) (y + 256 * v)
by_head x y u v true true t h k p q w = rw (w, p, q) (sym (eq-eqb (x + 256 * u) (y + 256 * v) (omega (arith, eqb-true x y p, eqb-true u v q))))
by_head x y u v true false t h k p q w = rw (w, p, q) (sym (ne_eqb (x + 256 * u) (y + 256 * v) λ e. eqb-false u v q (omega (arith, e))))
by_head x y u v false b t h k p q w = rw p (sym (ne_eqb (x + 256 * u) (y + 256 * v) λ e. eqb-false x y p (omega (arith, e))))

pub packed_same : (f g : Field) → Bytes f → Bytes g → same f g ≡ eqb (packed f) (packed g)
unfolding packed same Bytes
packed_same [] [] p q = refl
packed_same [] (y ∷ g) p q = sym (ne_eqb 0 (y + 256 * packed g) λ e. omega (arith, q.0, e))
packed_same (x ∷ f) [] p q = sym (ne_eqb (x + 256 * packed f) 0 λ e. omega (arith, p.0, e))
packed_same (x ∷ f) (y ∷ g) p q = by_head x y (packed f) (packed g) (eqb x y) (eqb (packed f) (packed g)) (same f g) p.1 q.1 refl refl (packed_same f g p.2 q.2)
