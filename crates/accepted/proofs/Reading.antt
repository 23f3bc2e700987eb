-- What the reader of a body gives: a term no deeper than allowed, with as many symbols as it took, each with the arguments that it takes.
-- Assumes nothing.
use Rattle.std.specs.Prelude.{if◌then◌else◌}
use mathlib.Core.Path.{◌≡◌, refl, ap, sym, ◌∙◌, subst}
use mathlib.Core.Bool.{Bool, true, false}
use mathlib.Core.Option.{Option, none, some}
use mathlib.Core.List.{List, [], ◌∷◌}
use Prim.Native.Nat.{ℕ, zero, suc, ◌+◌, ◌≤◌, ◌<◌, max}
use native.Mathlib.Omega.{arith}
use lib.ListN.{length, get_or, get_elem?}
use Rattle.meaning.specs.Arithmetic.{Sort, number, yes_no, domain}
use Rattle.meaning.specs.Text.{Line}
use Rattle.meaning.specs.Terms.{Term, arg, call, Terms, nil, cons, Symbol, argument, operation, condition, function, unknown, Takes, takes, cannot, argument_takes, call_takes, takes_of, same_sort, if_sort, Read, got, fault, first_terms, other_terms, strict_of, condition_of, applied, with_arguments, and_more, then_more, read_row, read_taken, read_term}
use Rattle.meaning.specs.declared.Wrong.TheVariants.{OtherSort}
use Rattle.meaning.specs.Code.{size, sizes, count}
use Rattle.accepted.specs.Accepted.{depth, depths, Shaped, AllShaped}

pub clash : {A : Type 0} → ◌≡◌ {A = ℕ} 0 1 → A
clash e = absurd (omega (arith, e))

-- There is a line f, and it takes s strict and w waiting arguments.
pub record OnLine (H : List Line) (f s w : ℕ) : Type 0 where
  pub line : Line
  pub there : get_elem? H f ≡ some line
  pub strict : s ≡ line.strict
  pub all : s + w ≡ length line.sorts

pub within : {A : Type 0} (xs : List A) (i : ℕ) {x : A} → get_elem? xs i ≡ some x → i < length xs
within [] i e = clash (cc)
within (y ∷ xs) zero e = omega arith
within (y ∷ xs) (suc i) e = omega (arith, within xs i e)

-- The first k of a row and the others are the row.
-- A sort that is there.
pub element : (G : List Sort) (i : ℕ) → i < length G → get_elem? G i ≡ some (get_or G i number)
element [] i h = absurd (omega (arith, h))
element (s ∷ G) zero h = refl
element (s ∷ G) (suc i) h = element G i (omega (arith, h))

pub parted_sizes : (k : ℕ) (ts : Terms) → sizes (first_terms k ts) + sizes (other_terms k ts) ≡ sizes ts
unfolding first_terms other_terms size
parted_sizes zero ts = omega arith
parted_sizes (suc k) nil = refl
parted_sizes (suc k) (cons t ts) = omega (arith, parted_sizes k ts)

parted_depths : (k : ℕ) (ts : Terms) → max (depths (first_terms k ts)) (depths (other_terms k ts)) ≡ depths ts
unfolding first_terms other_terms depth
parted_depths zero ts = omega arith
parted_depths (suc k) nil = refl
parted_depths (suc k) (cons t ts) = omega (arith, parted_depths k ts)

parted_count : (k : ℕ) (ts : Terms) → count (first_terms k ts) + count (other_terms k ts) ≡ count ts
unfolding first_terms other_terms count
parted_count zero ts = omega arith
parted_count (suc k) nil = refl
parted_count (suc k) (cons t ts) = omega (arith, parted_count k ts)

first_count : (k : ℕ) (ts : Terms) → k ≤ count ts → count (first_terms k ts) ≡ k
unfolding first_terms count
first_count zero ts h = refl
first_count (suc k) nil h = absurd (omega (arith, h))
first_count (suc k) (cons t ts) h = ap suc (first_count k ts (omega (arith, h)))

module _ (H : List Line) (G : List Sort) where
  abbrev Fitting : Term → Type 0
  Fitting t = Shaped (OnLine H) (length G) t

  abbrev AllFitting : Terms → Type 0
  AllFitting ts = AllShaped (OnLine H) (length G) ts

  first_fitting : (k : ℕ) (ts : Terms) → AllFitting ts → AllFitting (first_terms k ts)
  unfolding first_terms Shaped
  first_fitting zero ts h = tt
  first_fitting (suc k) nil h = tt
  first_fitting (suc k) (cons t ts) h = (h.0, first_fitting k ts h.1)

  others_fitting : (k : ℕ) (ts : Terms) → AllFitting ts → AllFitting (other_terms k ts)
  unfolding other_terms Shaped
  others_fitting zero ts h = h
  others_fitting (suc k) nil h = tt
  others_fitting (suc k) (cons t ts) h = others_fitting k ts h.1

-- A term read from the symbols ys, zs being left; a row of n terms.
pub record TermGot (H : List Line) (G : List Sort) (d : ℕ) (ys zs : List Symbol) (t : Term) : Type 0 where
  pub deep : depth t ≤ d
  pub used : size t + length zs ≡ length ys
  pub fitting : Shaped (OnLine H) (length G) t

pub record RowGot (H : List Line) (G : List Sort) (d n : ℕ) (ys zs : List Symbol) (ts : Terms) : Type 0 where
  pub deep : depths ts ≤ d
  pub used : sizes ts + length zs ≡ length ys
  pub fitting : AllShaped (OnLine H) (length G) ts
  pub number : count ts ≡ n

unfoldable pub TermRead : List Line → List Sort → ℕ → List Symbol → Read Term → Type 0
TermRead H G d ys (got t zs) = TermGot H G d ys zs t
TermRead H G d ys (fault w zs) = Unit {0}

unfoldable pub RowRead : List Line → List Sort → ℕ → ℕ → List Symbol → Read Terms → Type 0
RowRead H G d n ys (got ts zs) = RowGot H G d n ys zs ts
RowRead H G d n ys (fault w zs) = Unit {0}

-- What a symbol takes.
if_takes : (s : Sort) (k : Takes) {S : List Sort} {r : Sort} → if_sort s k ≡ takes S r → k ≡ takes S r
unfolding if_sort
if_takes s (cannot w) e = clash (cc)
if_takes s (takes S r) {S = S'} {r = r'} e = chosen (same_sort r s) e
  where
    chosen : (b : Bool) → (if b then takes S r else cannot OtherSort) ≡ takes S' r' → takes S r ≡ takes S' r'
    chosen true e = e
    chosen false e = clash (cc)

argument_there : (x : Option Sort) {S : List Sort} {r : Sort} → argument_takes x ≡ takes S r → (s : Sort) × (x ≡ some s) × (S ≡ [])
unfolding argument_takes
argument_there none e = clash (cc)
argument_there (some s) e = (s, refl, cc)

line_there : (x : Option Line) {S : List Sort} {r : Sort} → call_takes x ≡ takes S r → (h : Line) × (x ≡ some h) × (h.sorts ≡ S)
unfolding call_takes
line_there none e = clash (cc)
line_there (some h) e = (h, refl, cc)

module _ (H : List Line) (G : List Sort) (d : ℕ) (ys zs : List Symbol) (y : Symbol) where
  three_got : (ts : Terms) → RowGot H G d 3 ys zs ts → TermGot H G (suc d) (y ∷ ys) zs (condition_of ts)
  unfolding condition_of count depth size Shaped
  three_got nil g = absurd (omega (arith, g.number))
  three_got (cons t nil) g = absurd (omega (arith, g.number))
  three_got (cons t (cons a nil)) g = absurd (omega (arith, g.number))
  three_got (cons t (cons a (cons b nil))) g =
      record { deep = omega (arith, g.deep); used = omega (arith, g.used); fitting = (g.fitting.0, g.fitting.1.0, g.fitting.1.1.0) }
  three_got (cons t (cons a (cons b (cons c ts)))) g = absurd (omega (arith, g.number))

  none_got : (ts : Terms) (i : ℕ) → i < length G → RowGot H G d 0 ys zs ts → TermGot H G (suc d) (y ∷ ys) zs (arg i)
  unfolding count depth size Shaped
  none_got nil i l g = record { deep = omega arith; used = omega (arith, g.used); fitting = l }
  none_got (cons t ts) i l g = absurd (omega (arith, g.number))

  call_got : (f : ℕ) (h : Line) (ts : Terms) → get_elem? H f ≡ some h → h.strict ≤ length h.sorts → RowGot H G d (length h.sorts) ys zs ts →
      TermGot H G (suc d) (y ∷ ys) zs (call f (first_terms h.strict ts) (other_terms h.strict ts))
  unfolding depth size Shaped
  call_got f h ts e l g =
      let k = h.strict in
      record {
        deep = omega (arith, g.deep, parted_depths k ts);
        used = omega (arith, g.used, parted_sizes k ts);
        fitting = (
          record { line = h; there = e; strict = first_count k ts (omega (arith, g.number)); all = parted_count k ts ∙ g.number },
          first_fitting H G k ts g.fitting,
          others_fitting H G k ts g.fitting,
        );
      }

-- In every line the strict arguments are among the arguments.
abbrev pub Strict : List Line → Type 0
Strict H = (f : ℕ) (h : Line) → get_elem? H f ≡ some h → h.strict ≤ length h.sorts

module _ (H : List Line) (G : List Sort) (strict : Strict H) where
  applied_got : (d : ℕ) (ys zs : List Symbol) (y : Symbol) (s : Sort) (S : List Sort) (r : Sort) (ts : Terms) → takes_of H G s y ≡ takes S r →
      RowGot H G d (length S) ys zs ts → TermGot H G (suc d) (y ∷ ys) zs (applied H y ts)
  unfolding takes_of applied strict_of depth size Shaped
  applied_got d ys zs (argument i) s S r ts e g =
      let p = argument_there (get_elem? G i) e in
      none_got H G d ys zs (argument i) ts i (within G i p.1) (subst (λ Z. RowGot H G d (length Z) ys zs ts) p.2 g)
  applied_got d ys zs (operation o) s S r ts e g =
      let same : S ≡ domain o = cc in
      record { deep = omega (arith, g.deep); used = omega (arith, g.used); fitting = (g.number ∙ ap length same, g.fitting) }
  applied_got d ys zs condition s S r ts e g =
      let same : S ≡ yes_no ∷ s ∷ s ∷ [] = cc in
      three_got H G d ys zs condition ts (subst (λ Z. RowGot H G d (length Z) ys zs ts) same g)
  applied_got d ys zs (function f) s S r ts e g =
      let p = line_there (get_elem? H f) e in
      let h = p.0 in
      subst (λ k. TermGot H G (suc d) (function f ∷ ys) zs (call f (first_terms k ts) (other_terms k ts))) (sym (ap strict_of p.1))
      (call_got H G d ys zs (function f) f h ts p.1 (strict f h p.1) (subst (λ Z. RowGot H G d (length Z) ys zs ts) (sym p.2) g))
  applied_got d ys zs unknown s S r ts e g = clash (cc)

  and_more_read : (d n : ℕ) (ys zs : List Symbol) (t : Term) (R : Read Terms) → TermGot H G d ys zs t → RowRead H G d n zs R → RowRead H G d (suc n) ys (and_more t R)
  unfolding and_more RowRead depth size Shaped count
  and_more_read d n ys zs t (got ts xs) p q =
      record { deep = omega (arith, p.deep, q.deep); used = omega (arith, p.used, q.used); fitting = (p.fitting, q.fitting); number = ap suc q.number }
  and_more_read d n ys zs t (fault w xs) p q = tt

  then_more_read : (d n : ℕ) (ys : List Symbol) (R : Read Term) (more : List Symbol → Read Terms) → TermRead H G d ys R → ((zs : List Symbol) → RowRead H G d n zs (more zs)) →
      RowRead H G d (suc n) ys (then_more R more)
  unfolding then_more TermRead RowRead
  then_more_read d n ys (got t zs) more p q = and_more_read d n ys zs t (more zs) p (q zs)
  then_more_read d n ys (fault w zs) more p q = tt

  row_read : (d : ℕ) (one : Sort → List Symbol → Read Term) → ((s : Sort) (ys : List Symbol) → TermRead H G d ys (one s ys)) → (S : List Sort) (ys : List Symbol) →
      RowRead H G d (length S) ys (read_row one S ys)
  unfolding read_row RowRead depth size Shaped count
  row_read d one p [] ys = record { deep = omega arith; used = omega arith; fitting = tt; number = refl }
  row_read d one p (s ∷ S) ys = then_more_read d (length S) ys (one s ys) (read_row one S) (p s ys) (row_read d one p S)

  with_read : (d : ℕ) (ys : List Symbol) (y : Symbol) (s : Sort) (S : List Sort) (r : Sort) (R : Read Terms) → takes_of H G s y ≡ takes S r → RowRead H G d (length S) ys R →
      TermRead H G (suc d) (y ∷ ys) (with_arguments H y R)
  unfolding with_arguments TermRead RowRead
  with_read d ys y s S r (got ts zs) e p = applied_got d ys zs y s S r ts e p
  with_read d ys y s S r (fault w zs) e p = tt

  taken_read : (d : ℕ) (ys : List Symbol) (y : Symbol) (s : Sort) (k : Takes) (row : List Sort → Read Terms) → if_sort s (takes_of H G s y) ≡ k →
      ((S : List Sort) → RowRead H G d (length S) ys (row S)) → TermRead H G (suc d) (y ∷ ys) (read_taken H y k (y ∷ ys) row)
  unfolding read_taken TermRead
  taken_read d ys y s (takes S r) row e p = with_read d ys y s S r (row S) (if_takes s (takes_of H G s y) e) (p S)
  taken_read d ys y s (cannot w) row e p = tt

  pub term_read : (d : ℕ) (s : Sort) (ys : List Symbol) → TermRead H G d ys (read_term H G d s ys)
  unfolding read_term TermRead
  term_read zero s [] = tt
  term_read zero s (y ∷ ys) = tt
  term_read (suc d) s [] = tt
  term_read (suc d) s (y ∷ ys) =
      taken_read d ys y s (if_sort s (takes_of H G s y)) (λ S. read_row (read_term H G d) S ys) refl λ S. row_read d (read_term H G d) (term_read d) S ys
