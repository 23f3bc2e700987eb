-- Laws of heads: one after the other, that they are the program's, and how they are copied over a slice. Assumes nothing.
use Prim.Native.Nat.{ℕ, zero, suc, ◌+◌, ◌<◌, ◌≤◌, min}
use Rattle.heads.specs.Heads.{head, heads_list, no_head, heads_by}
use Rattle.meaning.specs.Answers.{heads_from, heads_of}
use Rattle.meaning.specs.Code.{size, initial}
use Rattle.meaning.specs.Terms.{Program}
use Rattle.meaning.specs.declared.Head.{Head}
use Rattle.table.proofs.Symbols.{sort_numbered}
use Rattle.table.specs.Table.{signatures, addresses, addresses_from, Begins}
use Rattle.table.specs.declared.Signature.{Signature}
use lib.ListN.{length, get_or, take, drop, set, replicate, length-map}
use lib.Seq.{set_at, take_at, take-length, length-take-le, drop-cons}
use mathlib.Core.List.{List, [], ◌∷◌, ◌++◌, append_assoc}
use mathlib.Core.Path.{◌≡◌, refl, ap, sym, ◌∙◌}
use Rattle.std.specs.List.{zip, enumerate_from}
use Rattle.std.proofs.lemmas.List.{drop-replicate}
use Rattle.std.proofs.lemmas.List.FromFn.{length-enumerate_from, get_or-enumerate_from}
use Rattle.std.proofs.lemmas.Slice.Zip.{length-zip, get_or-zip}
use native.Mathlib.Numerals.{add-one}
use native.Mathlib.Omega.{arith}

list_length : (S : List Signature) (B : List ℕ) (n : ℕ) → n ≤ length S → n ≤ length B → length (heads_list (take n S) (take n B)) ≡ n
unfolding heads_list
list_length S B zero h k = refl
list_length [] B (suc n) h k = absurd (omega (arith, h))
list_length (s ∷ S) [] (suc n) h k = absurd (omega (arith, k))
list_length (s ∷ S) (b ∷ B) (suc n) h k = ap suc (list_length S B n (omega (arith, h)) (omega (arith, k)))

-- One head more; past the lists stand any s₀ and b₀.
list_more : (S : List Signature) (B : List ℕ) (n : ℕ) (s₀ : Signature) (b₀ : ℕ) → n < length S → n < length B
    → heads_list (take (suc n) S) (take (suc n) B) ≡ heads_list (take n S) (take n B) ++ (head (get_or S n s₀) (get_or B n b₀) ∷ [])
unfolding heads_list
list_more [] B n s₀ b₀ h k = absurd (omega (arith, h))
list_more (s ∷ S) [] n s₀ b₀ h k = absurd (omega (arith, k))
list_more (s ∷ S) (b ∷ B) zero s₀ b₀ h k = refl
list_more (s ∷ S) (b ∷ B) (suc n) s₀ b₀ h k = ap (λ (l : List Head). head s b ∷ l) (list_more S B n s₀ b₀ (omega (arith, h)) (omega (arith, k)))

list_whole : (S : List Signature) (B : List ℕ) → length S ≤ length B → heads_list S (take (length S) B) ≡ heads_list S B
unfolding heads_list
list_whole [] B h = refl
list_whole (s ∷ S) [] h = refl
list_whole (s ∷ S) (b ∷ B) h = ap (λ (l : List Head). head s b ∷ l) (list_whole S B (omega (arith, h)))

-- The first i heads over a list D.
abbrev pub put : List Signature → List ℕ → List Head → ℕ → List Head
put S B D i = heads_list (take i S) (take i B) ++ drop i D

-- One more of them, as a turn of the loop finds it.
pub one_more : (S : List Signature) (B : List ℕ) (D : List Head) (i : ℕ) (x : ℕ × (Signature × ℕ)) (h : Head) → length S ≤ length D
    → (i < length (enumerate_from 0 (zip S B))) × (x ≡ get_or (enumerate_from 0 (zip S B)) i x) → h ≡ head x.1.0 x.1.1 → set (put S B D i) x.0 h ≡ put S B D (i + 1)
one_more S B D i x h long (k, e) q =
    let both : length (zip S B) ≡ min (length S) (length B) = length-zip S B in
    let within : i < length (zip S B) = omega (arith, k, length-enumerate_from 0 (zip S B)) in
    let s : i < length S = omega arith in
    let b : i < length B = omega arith in
    let here : x ≡ (0 + i, (get_or S i x.1.0, get_or B i x.1.1)) = e ∙ get_or-enumerate_from 0 (zip S B) i x within ∙ ap (λ y. (0 + i, y)) (get_or-zip S B i x.1 s b) in
    let d : i < length D = omega arith in
    let at : x.0 ≡ i = ap (λ y. y.0) here ∙ omega arith in
    let of : h ≡ head (get_or S i x.1.0) (get_or B i x.1.1) = q ∙ ap (λ y. head y.1.0 y.1.1) here in
    rw (at, of, add-one i, list_more S B i x.1.0 x.1.1 s b, drop-cons D i (head (get_or S i x.1.0) (get_or B i x.1.1)))
    (set_at (heads_list (take i S) (take i B)) _ (drop (suc i) D) (head (get_or S i x.1.0) (get_or B i x.1.1)) i (list_length S B i (omega arith) (omega arith))
    ∙ sym (append_assoc (heads_list (take i S) (take i B)) (head (get_or S i x.1.0) (get_or B i x.1.1) ∷ []) (drop (suc i) D)))

-- All of them.
pub all_put : (S : List Signature) (B : List ℕ) (D : List Head) (i : ℕ) → length S ≤ length B → i ≡ length (enumerate_from 0 (zip S B)) → put S B D i ≡ heads_list S B ++ drop (length S) D
all_put S B D i h e =
    let all : i ≡ length S = omega (arith, length-enumerate_from 0 (zip S B), length-zip S B) in
    rw (all, take-length S, list_whole S B h)

-- The first n over as many zeros as a text has functions.
pub put_first : (S : List Signature) (B : List ℕ) (n : ℕ) → n ≤ length S → heads_list (take n S) (take n B) ++ drop (length (take n S)) (replicate 64 no_head) ≡ heads_by S B n
unfolding heads_by
put_first S B n h = rw (length-take-le n S h) (ap (λ (l : List Head). heads_list (take n S) (take n B) ++ l) (drop-replicate n 64 no_head))

-- The heads of a program's functions are meaning's.
heads_are : (P : Program) (a : ℕ) (rest : List ℕ) → heads_list (signatures P) (addresses_from a P ++ rest) ≡ heads_from a P
unfolding heads_list head signatures addresses_from heads_from
heads_are [] a rest = refl
heads_are (F ∷ P) a rest = rw (sort_numbered F.result, heads_are P (a + size F.body) rest) refl

pub addresses_length : (P : Program) (a : ℕ) → length (addresses_from a P) ≡ length P
unfolding addresses_from
addresses_length [] a = refl
addresses_length (F ∷ P) a = ap suc (addresses_length P (a + size F.body))

signatures_length : (P : Program) → length (signatures P) ≡ length P
unfolding signatures
signatures_length P = length-map P _

pub heads_meant : (S : List Signature) (B : List ℕ) (n : ℕ) (P : Program) → n ≡ length P → Begins S (signatures P) → Begins B (addresses P) → heads_list (take n S) B ≡ heads_of P
unfolding heads_of addresses
heads_meant S B n P e x y =
    let u : take n S ≡ signatures P = ap (take n) x.whole ∙ take_at (signatures P) x.rest n (signatures_length P ∙ sym e) in
    rw (u, y.whole, heads_are P (size (initial P)) y.rest)

heads_from_length : (P : Program) (a : ℕ) → length (heads_from a P) ≡ length P
unfolding heads_from
heads_from_length [] a = refl
heads_from_length (F ∷ P) a = ap suc (heads_from_length P (a + size F.body))

pub heads_length : (P : Program) → length (heads_of P) ≡ length P
unfolding heads_of
heads_length P = heads_from_length P (size (initial P))
