-- Laws of reading terms over the table's symbols, by the tests that the code makes. Assumes nothing.
use Rattle.std.specs.Prelude.{Result, Ok, Err, if◌then◌else◌}
use mathlib.Core.Bool.{Bool, true, false}
use lib.Dec.{leb, eqb}
use borrow.Author.Tests.{leb-true, leb-false, eqb-true, eqb-false}
use mathlib.Core.Path.{◌≡◌, refl, ap, sym, ◌∙◌, subst}
use mathlib.Core.List.{List, [], ◌∷◌, ◌++◌, map, map-append, append-nil}
use Prim.Native.Nat.{ℕ, zero, suc, ◌+◌, ◌-◌, ◌/◌, ◌%◌, ◌<◌, ◌≤◌}
use native.Mathlib.Omega.{arith}
use native.Mathlib.Numerals.{add-one, sub-one}
use lib.ListN.{length, get_or, drop, set, length-drop, length-append, length-map, drop_of_length-le}
use lib.Seq.{drop-cons, drop_at, drop-drop}
use Rattle.meaning.specs.Numbers.{most_depth}
use Rattle.meaning.specs.Arithmetic.{Sort}
use Rattle.meaning.specs.Text.{Line}
use Rattle.meaning.specs.Terms as means
use Rattle.meaning.specs.Terms.{Term, Terms, Symbol, Read, got, fault, read_term, read_row, read_taken, with_arguments, then_more, and_more, takes_of, if_sort, nothing_after}
use Rattle.meaning.specs.Code.{size, sizes}
use Rattle.table.specs.Symbols.{sort_in, sort_word, sort_of_bit, mask, sorts_in, symbol_in}
use Rattle.table.specs.Table.{term_ends, row_ends}
use Rattle.table.specs.declared.Sort.{Sort as EntrySort}
use Rattle.table.specs.declared.Sorts.{Sorts}
use Rattle.table.specs.declared.Signature.{Signature}
use Rattle.table.specs.declared.Symbol.{Symbol as Entry}
use Rattle.table.specs.declared.Symbol.TheVariants.{Unknown}
use Rattle.lines.specs.Splice.{splice}
use Rattle.lines.proofs.Splice.{splice_none, splice_more, splice_head}
use Rattle.terms.specs.Terms.{fault_at, shown_takes, takes_by, placed, args_by, World, Symbols, Said, Saids, Told, Tolds, Whole}
use Rattle.terms.specs.declared.Fault.{Fault}
use Rattle.meaning.specs.declared.Wrong.{Wrong}
use Rattle.meaning.specs.declared.Wrong.TheVariants.{EarlyEnd, LeftOver, TooDeep}
use Rattle.terms.proofs.Flat.{term_symbols, symbol_count, end_count, size_one, Applies, Node, node, takes_applies, sorted, Taken, Takens, taken_term, taken_terms}
use Rattle.table.proofs.Masks.{lowest_sort, other_sorts}
use Rattle.table.proofs.Symbols.{sort_numbered}
use Rattle.terms.proofs.Judged.{judged}

-- The symbols from a place on.

none_there : (W : List Entry) (at : ℕ) (y : Symbol) (ys : List Symbol) → length W ≤ at → drop at W ≡ map symbol_in (y ∷ ys) → ⊥
none_there W at y ys h e = omega (arith, ap length (sym (drop_of_length-le W h) ∙ e))

some_there : (W : List Entry) (at : ℕ) → at < length W → drop at W ≡ [] → ⊥
some_there W at h e = omega (arith, length-drop at W, ap length e)

first_there : (W : List Entry) (at : ℕ) (y : Symbol) (ys : List Symbol) → at < length W → drop at W ≡ map symbol_in (y ∷ ys) → (get_or W at Unknown ≡ symbol_in y) × (drop (suc at) W ≡ map symbol_in ys)
first_there W at y ys h e = let k : get_or W at Unknown ∷ drop (suc at) W ≡ symbol_in y ∷ map symbol_in ys = sym (drop-cons W at Unknown h) ∙ e in (cc, cc)

pub symbols_after : (W : List Entry) (at n : ℕ) (xs ys zs : List Symbol) → Symbols W at ys → ys ≡ xs ++ zs → length xs ≡ n → Symbols W (at + n) zs
symbols_after W at n xs ys zs h e l =
    sym (drop-drop n at W) ∙ ap (drop n) (h ∙ ap (map symbol_in) e ∙ map-append symbol_in xs zs) ∙ drop_at (map symbol_in xs) (map symbol_in zs) n (length-map xs symbol_in ∙ l)

symbols_next : (W : List Entry) (at : ℕ) (y : Symbol) (ys : List Symbol) → at < length W → Symbols W at (y ∷ ys) → Symbols W (at + 1) ys
symbols_next W at y ys h s = ap (λ (k : ℕ). drop k W) (add-one at) ∙ (first_there W at y ys h s).1

-- Arguments.

no_args : (W : List Entry) (H : List Signature) (own : Signature) (at d : ℕ) (e : List ℕ) (w : World H own) (S : List Sort) (ys : List Symbol) → 0 ≡ length S → Saids W at e e (read_row (read_term w.functions w.arguments d) S ys) (Ok at)
unfolding read_row Saids sizes row_ends
no_args W H own at d e w [] ys p = (ap Ok (omega arith), splice_none e at)
no_args W H own at d e w (s ∷ S) ys p = absurd (omega (arith, p))

pub args_none : (W : List Entry) (H : List Signature) (own : Signature) (at d n m : ℕ) (e : List ℕ) → n ≡ 0 → Tolds W H own at d n m e e (Ok at)
args_none W H own at d n m e z = record { tolds = λ w S ys p q h. no_args W H own at d e w S ys (sym z ∙ p) }

more_join : (W : List Entry) (e e1 e2 : List ℕ) (at next : ℕ) (t : Term) (r : Result ℕ Fault) (R : Read Terms) → next ≡ at + size t → e1 ≡ splice e at (term_ends t at) → at ≤ length e →
    Saids W next e1 e2 R r → Saids W at e e2 (and_more t R) r
unfolding Saids and_more sizes row_ends
more_join W e e1 e2 at next t r (got ts us) x y h p = (
  p.0 ∙ ap Ok (omega (arith, x)),
  p.1 ∙ rw (x, y) (splice_more e at (size t) (term_ends t at) (row_ends ts (at + size t)) (end_count t at) h),
)
more_join W e e1 e2 at next t r (fault w us) x y h p = p

term_within : (W : List Entry) (at : ℕ) (t : Term) (ys zs : List Symbol) → Symbols W at ys → ys ≡ term_symbols t ++ zs → at < length W
term_within W at t ys zs h e =
    omega (arith, length-drop at W, ap length h, length-map ys symbol_in, ap length e, length-append (term_symbols t) zs, symbol_count t, size_one t)

more_by : (W : List Entry) (e e1 e2 : List ℕ) (at next : ℕ) (r : Result ℕ Fault) (ys : List Symbol) (R : Read Term) (F : List Symbol → Read Terms) → length W ≤ length e → Symbols W at ys → Taken ys R →
    Said W at e e1 R (Ok next) → ((zs : List Symbol) → Symbols W next zs → Saids W next e1 e2 (F zs) r) → Saids W at e e2 (then_more R F) r
unfolding Said Taken then_more
more_by W e e1 e2 at next r ys (fault w zs) F l h t p k = absurd (cc p)
more_by W e e1 e2 at next r ys (got x zs) F l h t p k =
    let n : next ≡ at + size x = cc in
    more_join W e e1 e2 at next x r (F zs) n p.1 (omega (arith, term_within W at x ys zs h t))
    (k zs (subst (λ (m : ℕ). Symbols W m zs) (sym n) (symbols_after W at (size x) (term_symbols x) ys zs h t (symbol_count x))))

lowest_at : (m : ℕ) (s : Sort) (S : List Sort) → m ≡ mask (s ∷ S) → sort_of_bit (m % 2) ≡ sort_in s
unfolding mask
lowest_at m s S e = rw e (lowest_sort s (mask S))

others_at : (m : ℕ) (s : Sort) (S : List Sort) → m ≡ mask (s ∷ S) → m / 2 ≡ mask S
unfolding mask
others_at m s S e = rw e (other_sorts s (mask S))

args_step : (W : List Entry) (H : List Signature) (own : Signature) (at d n m next : ℕ) (b : EntrySort) (e e1 e2 : List ℕ) (r : Result ℕ Fault) (w : World H own) (S : List Sort) (ys : List Symbol) → length W ≤ length e → 0 < n → b ≡ sort_of_bit (m % 2) →
    Told W H own at d b e e1 (Ok next) → Tolds W H own next d (n - 1) (m / 2) e1 e2 r → n ≡ length S → m ≡ mask S → Symbols W at ys →
    Saids W at e e2 (read_row (read_term w.functions w.arguments d) S ys) r
unfolding read_row mask
args_step W H own at d n m next b e e1 e2 r w [] ys l z v p k x y h = absurd (omega (arith, x))
args_step W H own at d n m next b e e1 e2 r w (s ∷ S) ys l z v p k x y h =
    more_by W e e1 e2 at next r ys (read_term w.functions w.arguments d s ys) (read_row (read_term w.functions w.arguments d) S) l h
    (taken_term w.functions w.arguments d s ys)
    (p.told w s ys (v ∙ lowest_at m s S y) h)
    λ zs g. k.tolds w S zs (omega (arith, x)) (others_at m s S y) g

pub args_more : (W : List Entry) (H : List Signature) (own : Signature) (at d n m next : ℕ) (b : EntrySort) (e e1 e2 : List ℕ) (r : Result ℕ Fault) → length W ≤ length e → 0 < n → b ≡ sort_of_bit (m % 2) →
    Told W H own at d b e e1 (Ok next) → Tolds W H own next d (n - 1) (m / 2) e1 e2 r → Tolds W H own at d n m e e2 r
args_more W H own at d n m next b e e1 e2 r l z v p k =
    record { tolds = λ w S ys x y h. args_step W H own at d n m next b e e1 e2 r w S ys l z v p k x y h }

fault_by : (W : List Entry) (e e1 : List ℕ) (at : ℕ) (f : Fault) (R : Read Term) (F : List Symbol → Read Terms) → Said W at e e1 R (Err f) → Saids W at e e1 (then_more R F) (Err f)
unfolding Said Saids then_more
fault_by W e e1 at f (fault w zs) F x = x
fault_by W e e1 at f (got t zs) F x = absurd (cc x.0)

args_stop : (W : List Entry) (H : List Signature) (own : Signature) (at d n m : ℕ) (c : EntrySort) (f : Fault) (e e1 : List ℕ) (w : World H own) (S : List Sort) (ys : List Symbol) → 0 < n → c ≡ sort_of_bit (m % 2) →
    Told W H own at d c e e1 (Err f) → n ≡ length S → m ≡ mask S → Symbols W at ys → Saids W at e e1 (read_row (read_term w.functions w.arguments d) S ys) (Err f)
unfolding read_row mask
args_stop W H own at d n m c f e e1 w [] ys z v x a b h = absurd (omega (arith, a))
args_stop W H own at d n m c f e e1 w (s ∷ S) ys z v x a b h =
    fault_by W e e1 at f (read_term w.functions w.arguments d s ys) (read_row (read_term w.functions w.arguments d) S) (x.told w s ys (v ∙ lowest_at m s S b) h)

pub args_fault : (W : List Entry) (H : List Signature) (own : Signature) (at d n m : ℕ) (c : EntrySort) (f : Fault) (e e1 : List ℕ) → 0 < n → c ≡ sort_of_bit (m % 2) → Told W H own at d c e e1 (Err f) → Tolds W H own at d n m e e1 (Err f)
args_fault W H own at d n m c f e e1 z v x = record { tolds = λ w S ys a b h. args_stop W H own at d n m c f e e1 w S ys z v x a b h }

-- Terms.

early : (W : List Entry) (H : List Signature) (own : Signature) (at d : ℕ) (e e1 : List ℕ) (w : World H own) (s : Sort) (ys : List Symbol) → length W ≤ at → Symbols W at ys → Said W at e e1 (read_term w.functions w.arguments d s ys) (Err (fault_at EarlyEnd (length W)))
unfolding read_term Said
early W H own at zero e e1 w s [] l h = ap (λ (p : ℕ). Err (fault_at EarlyEnd p)) (omega arith)
early W H own at (suc d) e e1 w s [] l h = ap (λ (p : ℕ). Err (fault_at EarlyEnd p)) (omega arith)
early W H own at d e e1 w s (y ∷ ys) l h = absurd (none_there W at y ys l h)

place : (W : List Entry) (at : ℕ) (y : Symbol) (ys : List Symbol) → at < length W → drop at W ≡ map symbol_in (y ∷ ys) → at ≡ length W - suc (length ys)
place W at y ys h e = omega (arith, length-drop at W, ap length e, length-map ys symbol_in)

deep : (W : List Entry) (H : List Signature) (own : Signature) (at d : ℕ) (e e1 : List ℕ) (w : World H own) (s : Sort) (ys : List Symbol) → at < length W → d ≡ 0 → Symbols W at ys → Said W at e e1 (read_term w.functions w.arguments d s ys) (Err (fault_at TooDeep at))
unfolding read_term Said
deep W H own at d e e1 w s [] l z h = absurd (some_there W at l h)
deep W H own at zero e e1 w s (y ∷ ys) l z h = ap (λ (p : ℕ). Err (fault_at TooDeep p)) (place W at y ys l h)
deep W H own at (suc d) e e1 w s (y ∷ ys) l z h = absurd (omega (arith, z))

-- What the first symbol takes.
asked : (W : List Entry) (H : List Signature) (own : Signature) (at : ℕ) (s : EntrySort) (w : World H own) (σ : Sort) (y : Symbol) (ys : List Symbol) (t : Result Sorts Wrong) → at < length W → s ≡ sort_in σ → Symbols W at (y ∷ ys) → takes_by H own s (get_or W at Unknown) ≡ t →
    shown_takes (if_sort σ (takes_of w.functions w.arguments σ y)) ≡ t
asked W H own at s w σ y ys t l x h e =
    sym (judged H own w σ y) ∙ rw (← x, ← (first_there W at y ys l h).0) e

cannot_take : (W : List Entry) (at : ℕ) (e e1 : List ℕ) (H : List Line) (y : Symbol) (ys : List Symbol) (v : Wrong) (t : means.Takes) (f : List Sort → Read Terms) → at ≡ length W - suc (length ys) → shown_takes t ≡ Err v →
    Said W at e e1 (read_taken H y t (y ∷ ys) f) (Err (fault_at v at))
unfolding read_taken Said shown_takes
cannot_take W at e e1 H y ys v (means.cannot w) f p x = let z : w ≡ v = cc in rw z (ap (λ (k : ℕ). Err (fault_at v k)) p)
cannot_take W at e e1 H y ys v (means.takes S r) f p x = cc

bad : (W : List Entry) (H : List Signature) (own : Signature) (at d : ℕ) (s : EntrySort) (v : Wrong) (e e1 : List ℕ) (w : World H own) (σ : Sort) (ys : List Symbol) → at < length W → (d ≡ 0 → ⊥) → takes_by H own s (get_or W at Unknown) ≡ Err v → s ≡ sort_in σ → Symbols W at ys →
    Said W at e e1 (read_term w.functions w.arguments d σ ys) (Err (fault_at v at))
unfolding read_term
bad W H own at d s v e e1 w σ [] l z x q h = absurd (some_there W at l h)
bad W H own at zero s v e e1 w σ (y ∷ ys) l z x q h = absurd (z refl)
bad W H own at (suc d) s v e e1 w σ (y ∷ ys) l z x q h =
    cannot_take W at e e1 w.functions y ys v (if_sort σ (takes_of w.functions w.arguments σ y)) (λ S. read_row (read_term w.functions w.arguments d) S ys) (place W at y ys l h) (asked W H own at s w σ y ys (Err v) l q h x)

-- A term whose first symbol does not fit.
module _ (W : List Entry) (H : List Signature) (own : Signature) (at d : ℕ) (s : EntrySort) (e e1 : List ℕ) (f : Fault) where
  told_as : {g : Fault} → ◌≡◌ {A = Result Sorts Fault} (Err g) (Err f) → Told W H own at d s e e1 (Err g) → Told W H own at d s e e1 (Err f)
  told_as {g} y t = let z : g ≡ f = cc in subst (λ (h : Fault). Told W H own at d s e e1 (Err h)) z t

  placed_told : (t : Result Sorts Wrong) → takes_by H own s (get_or W at Unknown) ≡ t → at < length W → (d ≡ 0 → ⊥) → placed at t ≡ Err f → Told W H own at d s e e1 (Err f)
  unfolding placed
  placed_told (Ok a) q l z x = cc
  placed_told (Err v) q l z x = told_as x (record { told = λ w σ ys k h. bad W H own at d s v e e1 w σ ys l z q k h })

  pub term_unfit : args_by W H own at d s ≡ Err f → Told W H own at d s e e1 (Err f)
  unfolding args_by
  term_unfit x = by_tests (leb (length W) at) (eqb d 0) refl refl x
    where
      by_tests : (b c : Bool) → leb (length W) at ≡ b → eqb d 0 ≡ c → (if b then Err (fault_at EarlyEnd (length W)) else if c then Err (fault_at TooDeep at) else placed at (takes_by H own s (get_or W at Unknown))) ≡ Err f → Told W H own at d s e e1 (Err f)
      by_tests true c p q y = told_as y (record { told = λ w σ ys k h. early W H own at d e e1 w σ ys (leb-true _ _ p) h })
      by_tests false true p q y = told_as y (record { told = λ w σ ys k h. deep W H own at d e e1 w σ ys (leb-false _ _ p) (eqb-true _ _ q) h })
      by_tests false false p q y = placed_told (takes_by H own s (get_or W at Unknown)) refl (leb-false _ _ p) (eqb-false _ _ q) y

-- The first symbol fits: what it takes is what it takes by its word.
placed_ok : (at : ℕ) (t : Result Sorts Wrong) (a : Sorts) → placed at t ≡ Ok a → t ≡ Ok a
unfolding placed
placed_ok at (Ok b) a x = cc
placed_ok at (Err v) a x = cc

pub fits : (W : List Entry) (H : List Signature) (own : Signature) (at d : ℕ) (s : EntrySort) (a : Sorts) → args_by W H own at d s ≡ Ok a → (at < length W) × (d ≡ 0 → ⊥) × (takes_by H own s (get_or W at Unknown) ≡ Ok a)
unfolding args_by
fits W H own at d s a x = by_tests (leb (length W) at) (eqb d 0) refl refl x
  where
    by_tests : (b c : Bool) → leb (length W) at ≡ b → eqb d 0 ≡ c → (if b then Err (fault_at EarlyEnd (length W)) else if c then Err (fault_at TooDeep at) else placed at (takes_by H own s (get_or W at Unknown))) ≡ Ok a →
        (at < length W) × (d ≡ 0 → ⊥) × (takes_by H own s (get_or W at Unknown) ≡ Ok a)
    by_tests true c p q y = cc
    by_tests false true p q y = cc
    by_tests false false p q y = (leb-false _ _ p, eqb-false _ _ q, placed_ok at _ a y)

node_got : (W : List Entry) (e e1 : List ℕ) (at next : ℕ) (H : List Line) (y : Symbol) (S : List Sort) (ys : List Symbol) (R : Read Terms) → at < length W → length W ≤ length e → Applies y (length S) → Takens S ys R →
    Saids W (at + 1) e e1 R (Ok next) → Said W at e (set e1 at next) (with_arguments H y R) (Ok next)
unfolding Said Saids with_arguments Takens
node_got W e e1 at next H y S ys (fault w zs) h l a t p = absurd (cc p)
node_got W e e1 at next H y S ys (got ts zs) h l a t p =
    let N : Node H y ts = node H y ts (subst (Applies y) (sym t.1) a) in
    let m : next ≡ at + 1 + sizes ts = cc in
    let n : next ≡ suc at + sizes ts = omega (arith, m) in
    let x : row_ends ts (at + 1) ≡ row_ends ts (suc at) = ap (row_ends ts) (add-one at) in (
      ap Ok (omega (arith, n, N.size_of)),
      rw p.1 (splice_head e at next (row_ends ts (at + 1)) (omega arith) ∙ rw (n, x, N.ends_of at)),
    )

can_take : (W : List Entry) (e e1 : List ℕ) (at d next : ℕ) (a : Sorts) (H : List Line) (G : List Sort) (y : Symbol) (ys : List Symbol) (t : means.Takes) → at < length W → length W ≤ length e →
    shown_takes t ≡ Ok a → ((S : List Sort) (q : Sort) → t ≡ means.takes S q → Applies y (length S)) →
    ((S : List Sort) → a.count ≡ length S → a.mask ≡ mask S → Saids W (at + 1) e e1 (read_row (read_term H G d) S ys) (Ok next)) →
    Said W at e (set e1 at next) (read_taken H y t (y ∷ ys) λ S. read_row (read_term H G d) S ys) (Ok next)
unfolding read_taken shown_takes
can_take W e e1 at d next a H G y ys (means.takes S q) h l x k z =
    let u : sorts_in S ≡ a = cc in
    node_got W e e1 at next H y S ys (read_row (read_term H G d) S ys) h l (k S q refl) (taken_terms H G d S ys) (z S (ap (λ (b : Sorts). b.count) (sym u)) (ap (λ (b : Sorts). b.mask) (sym u)))
can_take W e e1 at d next a H G y ys (means.cannot w) h l x k z = absurd (cc x)

good : (W : List Entry) (H : List Signature) (own : Signature) (at d next : ℕ) (s : EntrySort) (a : Sorts) (e e1 : List ℕ) (w : World H own) (σ : Sort) (ys : List Symbol) → at < length W → length W ≤ length e → (d ≡ 0 → ⊥) → takes_by H own s (get_or W at Unknown) ≡ Ok a →
    Tolds W H own (at + 1) (d - 1) a.count a.mask e e1 (Ok next) → s ≡ sort_in σ → Symbols W at ys → Said W at e (set e1 at next) (read_term w.functions w.arguments d σ ys) (Ok next)
unfolding read_term
good W H own at d next s a e e1 w σ [] h l z x p o g = absurd (some_there W at h g)
good W H own at zero next s a e e1 w σ (y ∷ ys) h l z x p o g = absurd (z refl)
good W H own at (suc d) next s a e e1 w σ (y ∷ ys) h l z x p o g =
    can_take W e e1 at d next a w.functions w.arguments y ys (if_sort σ (takes_of w.functions w.arguments σ y)) h l (asked W H own at s w σ y ys (Ok a) h o g x)
    (λ S u i. takes_applies w.functions w.arguments σ y S u (sorted σ (takes_of w.functions w.arguments σ y) S u i))
    (λ S u v. (simp sub-one at p).tolds w S ys u v (symbols_next W at y ys h g))

pub term_got : (W : List Entry) (H : List Signature) (own : Signature) (at d next : ℕ) (s : EntrySort) (a : Sorts) (e e1 : List ℕ) → length W ≤ length e → args_by W H own at d s ≡ Ok a →
    Tolds W H own (at + 1) (d - 1) a.count a.mask e e1 (Ok next) → Told W H own at d s e (set e1 at next) (Ok next)
term_got W H own at d next s a e e1 l x p =
    let f = fits W H own at d s a x in record { told = λ w σ ys o g. good W H own at d next s a e e1 w σ ys f.0 l f.1 f.2 p o g }

node_fault : (W : List Entry) (e e1 : List ℕ) (at : ℕ) (f : Fault) (H : List Line) (y : Symbol) (R : Read Terms) → Saids W (at + 1) e e1 R (Err f) → Said W at e e1 (with_arguments H y R) (Err f)
unfolding Said Saids with_arguments
node_fault W e e1 at f H y (fault w zs) x = x
node_fault W e e1 at f H y (got ts zs) x = absurd (cc x.0)

stop_take : (W : List Entry) (e e1 : List ℕ) (at d : ℕ) (a : Sorts) (f : Fault) (H : List Line) (G : List Sort) (y : Symbol) (ys : List Symbol) (t : means.Takes) →
    shown_takes t ≡ Ok a → ((S : List Sort) → a.count ≡ length S → a.mask ≡ mask S → Saids W (at + 1) e e1 (read_row (read_term H G d) S ys) (Err f)) →
    Said W at e e1 (read_taken H y t (y ∷ ys) λ S. read_row (read_term H G d) S ys) (Err f)
unfolding read_taken shown_takes
stop_take W e e1 at d a f H G y ys (means.takes S q) x z =
    let u : sorts_in S ≡ a = cc in
    node_fault W e e1 at f H y (read_row (read_term H G d) S ys) (z S (ap (λ (b : Sorts). b.count) (sym u)) (ap (λ (b : Sorts). b.mask) (sym u)))
stop_take W e e1 at d a f H G y ys (means.cannot w) x z = absurd (cc x)

stops : (W : List Entry) (H : List Signature) (own : Signature) (at d : ℕ) (s : EntrySort) (a : Sorts) (f : Fault) (e e1 : List ℕ) (w : World H own) (σ : Sort) (ys : List Symbol) → at < length W → (d ≡ 0 → ⊥) → takes_by H own s (get_or W at Unknown) ≡ Ok a →
    Tolds W H own (at + 1) (d - 1) a.count a.mask e e1 (Err f) → s ≡ sort_in σ → Symbols W at ys → Said W at e e1 (read_term w.functions w.arguments d σ ys) (Err f)
unfolding read_term
stops W H own at d s a f e e1 w σ [] h z x k o g = absurd (some_there W at h g)
stops W H own at zero s a f e e1 w σ (y ∷ ys) h z x k o g = absurd (z refl)
stops W H own at (suc d) s a f e e1 w σ (y ∷ ys) h z x k o g =
    stop_take W e e1 at d a f w.functions w.arguments y ys (if_sort σ (takes_of w.functions w.arguments σ y)) (asked W H own at s w σ y ys (Ok a) h o g x)
    (λ S u v. (simp sub-one at k).tolds w S ys u v (symbols_next W at y ys h g))

pub term_fault : (W : List Entry) (H : List Signature) (own : Signature) (at d : ℕ) (s : EntrySort) (a : Sorts) (f : Fault) (e e1 : List ℕ) → args_by W H own at d s ≡ Ok a →
    Tolds W H own (at + 1) (d - 1) a.count a.mask e e1 (Err f) → Told W H own at d s e e1 (Err f)
term_fault W H own at d s a f e e1 x k =
    let z = fits W H own at d s a x in record { told = λ w σ ys o g. stops W H own at d s a f e e1 w σ ys z.0 z.1 z.2 k o g }

-- Bodies.

over : (W : List Entry) (at : ℕ) (t : Term) (ys zs : List Symbol) → Symbols W at ys → ys ≡ term_symbols t ++ zs → at + size t + length zs ≡ length W
over W at t ys zs h e =
    omega (arith, length-drop at W, ap length h, length-map ys symbol_in, ap length e, length-append (term_symbols t) zs, symbol_count t, size_one t)

whole_more : (W : List Entry) (e e1 : List ℕ) (at n : ℕ) (ys : List Symbol) (R : Read Term) → Symbols W at ys → Taken ys R → Said W at e e1 R (Ok n) → n < length W → Said W at e e1 (nothing_after R) (Err (fault_at LeftOver n))
unfolding Said Taken nothing_after
whole_more W e e1 at n ys (fault w zs) h t x l = absurd (cc x)
whole_more W e e1 at n ys (got u []) h t x l = let m : n ≡ at + size u = cc in absurd (omega (arith, m, over W at u ys [] h t))
whole_more W e e1 at n ys (got u (z ∷ zs)) h t x l = let m : n ≡ at + size u = cc in ap (λ (p : ℕ). Err (fault_at LeftOver p)) (omega (arith, m, over W at u ys (z ∷ zs) h t))

whole_same : (W : List Entry) (e e1 : List ℕ) (at : ℕ) (r : Result ℕ Fault) (ys : List Symbol) (R : Read Term) → Symbols W at ys → Taken ys R → Said W at e e1 R r → ((n : ℕ) → r ≡ Ok n → length W ≤ n) → Said W at e e1 (nothing_after R) r
unfolding Said Taken nothing_after
whole_same W e e1 at r ys (fault w zs) h t x l = x
whole_same W e e1 at r ys (got u []) h t x l = x
whole_same W e e1 at r ys (got u (z ∷ zs)) h t x l = absurd (omega (arith, l (at + size u) x.0, over W at u ys (z ∷ zs) h t))

-- A row of one.
row_of_one : (W : List Entry) (e e1 : List ℕ) (at : ℕ) (r : Result ℕ Fault) (one : Sort → List Symbol → Read Term) (R : Read Term) → Saids W at e e1 (then_more R (read_row one [])) r → Said W at e e1 R r
unfolding Said Saids then_more read_row and_more sizes row_ends
row_of_one W e e1 at r one (got t zs) x = (x.0 ∙ ap Ok (omega arith), x.1 ∙ ap (splice e at) (append-nil (term_ends t at)))
row_of_one W e e1 at r one (fault w zs) x = x

one_mask : (s : Sort) → sort_word (sort_in s) ≡ mask (s ∷ [])
unfolding mask
one_mask s = omega (arith, sort_numbered s)

one_said : (W : List Entry) (H : List Signature) (own : Signature) (at m : ℕ) (e e1 : List ℕ) (r : Result ℕ Fault) → m ≡ sort_word own.result → Tolds W H own at 32 1 m e e1 r → (w : World H own) (σ : Sort) (ys : List Symbol) → own.result ≡ sort_in σ → Symbols W at ys →
    Said W at e e1 (read_term w.functions w.arguments most_depth σ ys) r
unfolding mask read_row
one_said W H own at m e e1 r v x w σ ys o h =
    row_of_one W e e1 at r (read_term w.functions w.arguments most_depth) (read_term w.functions w.arguments most_depth σ ys) (x.tolds w (σ ∷ []) ys refl (v ∙ rw o (one_mask σ)) h)

pub whole_left : (W : List Entry) (H : List Signature) (own : Signature) (at m n : ℕ) (e e1 : List ℕ) → m ≡ sort_word own.result → Tolds W H own at 32 1 m e e1 (Ok n) → n < length W → Whole W H own at e e1 (Err (fault_at LeftOver n))
whole_left W H own at m n e e1 v x l =
    record { whole = λ w σ ys o h. whole_more W e e1 at n ys (read_term w.functions w.arguments most_depth σ ys) h (taken_term w.functions w.arguments most_depth σ ys) (one_said W H own at m e e1 (Ok n) v x w σ ys o h) l }

pub whole_as : (W : List Entry) (H : List Signature) (own : Signature) (at m : ℕ) (e e1 : List ℕ) (r : Result ℕ Fault) → m ≡ sort_word own.result → Tolds W H own at 32 1 m e e1 r → ((n : ℕ) → r ≡ Ok n → length W ≤ n) → Whole W H own at e e1 r
whole_as W H own at m e e1 r v x l =
    record { whole = λ w σ ys o h. whole_same W e e1 at r ys (read_term w.functions w.arguments most_depth σ ys) h (taken_term w.functions w.arguments most_depth σ ys) (one_said W H own at m e e1 r v x w σ ys o h) l }
