-- Laws of splicing. Assumes nothing.
use mathlib.Core.Path.{◌≡◌, sym, ◌∙◌}
use mathlib.Core.List.{List, [], ◌∷◌, ◌++◌, append_assoc}
use Prim.Native.Nat.{ℕ, suc, ◌+◌, ◌<◌, ◌≤◌}
use native.Mathlib.Omega.{arith}
use native.Mathlib.Numerals.{add-one}
use lib.ListN.{length, get_or, take, drop, set, length-set, length-append, length-drop, take-append-drop}
use lib.Seq.{drop-cons, take-suc, set_at, append_snoc, length-take-le, take_at, drop_at, drop-drop, take-suc-set, drop-set-lt}
use Rattle.lines.specs.Splice.{splice}

-- Nothing is written.
pub splice_none : {A : Type 0} (e : List A) (a : ℕ) → e ≡ splice e a []
splice_none e a = sym (take-append-drop a e)

-- More is written behind it.
pub splice_more : {A : Type 0} (e : List A) (a n : ℕ) (xs ys : List A) → length xs ≡ n → a ≤ length e →
    splice (splice e a xs) (a + n) ys ≡ splice e a (xs ++ ys)
splice_more e a n xs ys l h =
    let rest = drop (length xs) (drop a e) in
    let seam : length (take a e ++ xs) ≡ a + n = simp (length-append, length-take-le a e h) (omega arith) in
    let whole : take a e ++ (xs ++ rest) ≡ take a e ++ xs ++ rest = sym (append_assoc (take a e) xs rest) in
    rw (whole, take_at (take a e ++ xs) rest (a + n) seam, drop_at (take a e ++ xs) rest (a + n) seam)
    (rw (append_assoc (take a e) xs (ys ++ drop (length ys) rest), append_assoc xs ys (drop (length (xs ++ ys)) (drop a e)), length-append xs ys, drop-drop (length ys) (length xs) (drop a e)))

-- What stands before it is stored last.
pub splice_head : {A : Type 0} (e : List A) (a : ℕ) (x : A) (ys : List A) → a < length e → set (splice e (a + 1) ys) a x ≡ splice e a (x ∷ ys)
splice_head e a x ys h =
    rw (add-one, take-suc e a x, append_snoc (take a e) (get_or e a x) (ys ++ drop (length ys) (drop (suc a) e)))
    (set_at (take a e) (get_or e a x) (ys ++ drop (length ys) (drop (suc a) e)) x a (length-take-le a e (omega arith))
    ∙ rw (drop-cons e a x))

-- What stands before it is stored first.
pub splice_set : {A : Type 0} (c : List A) (j : ℕ) (x : A) (ys : List A) → j < length c → splice (set c j x) (j + 1) ys ≡ splice c j (x ∷ ys)
splice_set c j x ys h =
    rw (add-one j, take-suc-set c j x h, drop-set-lt (suc j) c j x (omega arith), append_snoc (take j c) x (ys ++ drop (length ys) (drop (suc j) c)), drop-cons c j x h)

-- A store, where the rest of what is to be written follows.
pub write_on : {A : Type 0} (c : List A) (j : ℕ) (x y : A) (xs ys : List A) → j < length c → x ≡ y → xs ≡ y ∷ ys → splice (set c j x) (j + 1) ys ≡ splice c j xs
write_on c j x y xs ys h p q = rw (q, p) (splice_set c j y ys h)

pub write_done : {A : Type 0} (c : List A) (j : ℕ) (xs : List A) → xs ≡ [] → c ≡ splice c j xs
write_done c j xs q = rw q (splice_none c j)

pub splice_length : {A : Type 0} (e : List A) (a : ℕ) (xs : List A) → a + length xs ≤ length e → length (splice e a xs) ≡ length e
splice_length e a xs h =
    simp (length-append, length-take-le a e (omega arith), length-drop, length-drop) (omega arith)

-- What was written, from its beginning on.
pub drop_splice : {A : Type 0} (e : List A) (a : ℕ) (xs : List A) → a ≤ length e → drop a (splice e a xs) ≡ xs ++ drop (length xs) (drop a e)
drop_splice e a xs h = drop_at (take a e) (xs ++ drop (length xs) (drop a e)) a (length-take-le a e h)

-- A list that is written from its beginning begins with what was written.
pub take_splice : {A : Type 0} (e : List A) (n : ℕ) (xs : List A) → length xs ≡ n → take n (splice e 0 xs) ≡ xs
take_splice e n xs h = take_at xs (drop (length xs) e) n h

-- Elements stored one after the other, as far as the list reaches.
unfoldable pub sets : {A : Type 0} → List A → ℕ → List A → List A
sets c j [] = c
sets c j (x ∷ xs) = sets (set c j x) (j + 1) xs

pub sets_on : {A : Type 0} (c d : List A) (j : ℕ) (x : A) (xs ys : List A) → d ≡ set c j x → xs ≡ x ∷ ys → sets d (j + 1) ys ≡ sets c j xs
unfolding sets
sets_on c d j x xs ys p q = rw (p, q)

-- Where it reaches far enough they are all there.
pub sets_splice : {A : Type 0} (c : List A) (j : ℕ) (xs : List A) → j + length xs ≤ length c → sets c j xs ≡ splice c j xs
unfolding sets
sets_splice c j [] h = splice_none c j
sets_splice c j (x ∷ xs) h = sets_splice (set c j x) (j + 1) xs (omega (arith, h, length-set c j x)) ∙ splice_set c j x xs (omega (arith, h))
