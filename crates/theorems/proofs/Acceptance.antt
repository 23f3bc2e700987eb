-- Seventh: an accepted text is a program whose every term has its sort, and the entry call at fitting arguments has one too. Assumes nothing.
use Rattle.std.specs.Prelude.{if◌then◌else◌}
use mathlib.Core.Path.{◌≡◌, refl, ap, sym, ◌∙◌, subst}
use mathlib.Core.Bool.{Bool, true, false}
use mathlib.Core.Option.{Option, none, some}
use mathlib.Core.List.{List, [], ◌∷◌, map}
use Prim.Native.Nat.{ℕ, zero, suc, ◌+◌, ◌-◌, ◌≤◌}
use native.Mathlib.Omega.{arith}
use lib.ListN.{length, take, drop, get_elem?, length-drop}
use lib.Seq.{drop-cons, take_all}
use borrow.Author.Tests.{leb-true}
use Rattle.meaning.specs.Arithmetic.{Sort, number, yes_no, constant, domain}
use Rattle.meaning.specs.Numbers.{most_depth}
use Rattle.meaning.specs.Text.{Verdict, fine, refused, ◌>>=◌, ◌>>◌, Field, value, judge_shape, Line, lines, judge_length, judge_counts, judge_names, same as same-field}
use Rattle.meaning.specs.Terms.{Term, Terms, nil, cons, Function, Program, Symbol, argument, operation, condition, function, unknown, Word, vocabulary, is_decimal, named, spelt_in, symbol, Takes, takes, cannot, argument_takes, call_takes, takes_of, same_sort, if_sort, Read, got, fault, first_terms, other_terms, strict_of, condition_of, applied, with_arguments, and_more, then_more, read_row, read_taken, read_term, nothing_after, read_body, function_of, read_bodies}
use Rattle.meaning.specs.declared.Wrong.TheVariants.{OtherSort}
use Rattle.meaning.specs.Check.{check}
use Rattle.meaning.specs.Code.{own, initial}
use Rattle.meaning.specs.Answers.{fits, all_fit, fitting}
use Rattle.accepted.specs.Accepted.{Sound, Accepted}
use Rattle.accepted.proofs.Lines.{both}
use Rattle.accepted.proofs.Reading.{element}
use Rattle.accepted.proofs.Accepted.{fine_bind, fine_same, accepted, every_there}
use Rattle.theorems.proofs.Splitting.{clash}
use Rattle.theorems.proofs.Sorts.{OfSort, OfSorts, ConstantSorted, TermSorted, RowSorted, Sorted}

-- Taking a verdict apart.

pub both_fine : {A B : Type 0} (m : Verdict A) (x : Verdict B) {b : B} → m >> x ≡ fine b → (a : A) × (m ≡ fine a) × (x ≡ fine b)
unfolding ◌>>◌
both_fine (fine a) x e = (a, refl, e)
both_fine (refused n l k) x e = clash (cc)

-- A constant among the symbols has a value of its sort: `true`, `false`, or a number.

unfoldable SymbolRight : Symbol → Type 0
SymbolRight (argument i) = Unit {0}
SymbolRight (operation o) = ConstantSorted o
SymbolRight condition = Unit {0}
SymbolRight (function f) = Unit {0}
SymbolRight unknown = Unit {0}

unfoldable SymbolsRight : List Symbol → Type 0
SymbolsRight [] = Unit {0}
SymbolsRight (y ∷ ys) = SymbolRight y × SymbolsRight ys

unfoldable WordsRight : List Word → Type 0
WordsRight [] = Unit {0}
WordsRight (w ∷ ws) = SymbolRight w.means × WordsRight ws

either_right : (b : Bool) (y z : Symbol) → SymbolRight y → SymbolRight z → SymbolRight (if b then y else z)
either_right true y z h k = h
either_right false y z h k = k

spelt_right : (ws : List Word) (f : Field) (y : Symbol) → WordsRight ws → SymbolRight y → SymbolRight (spelt_in ws f y)
unfolding spelt_in WordsRight
spelt_right [] f y h k = k
spelt_right (w ∷ ws) f y h k = either_right (same-field f w.spelt) w.means (spelt_in ws f y) h.0 (spelt_right ws f y h.1 k)

named_right : (i : ℕ) (N : List Field) (f : Field) → SymbolRight (named i N f)
unfolding named SymbolRight
named_right i [] f = tt
named_right i (n ∷ N) f = either_right (same-field f n) (function i) (named (i + 1) N f) tt (named_right (i + 1) N f)

vocabulary_right : WordsRight vocabulary
unfolding WordsRight SymbolRight ConstantSorted OfSort
vocabulary_right =
    (tt, (tt, (tt, (tt, (tt, (tt, (tt, (tt, (omega arith, (omega arith, (tt, (tt, (tt, (tt, (tt, (tt, (tt, (tt, (tt, (tt, (tt, tt)))))))))))))))))))))

symbol_is_right : (N : List Field) (f : Field) → SymbolRight (symbol N f)
unfolding symbol SymbolRight ConstantSorted OfSort
symbol_is_right N f =
    spelt_right vocabulary f (if is_decimal f then operation (constant number (value f)) else named 0 N f) vocabulary_right
    (either_right (is_decimal f) (operation (constant number (value f))) (named 0 N f) tt (named_right 0 N f))

body_is_right : (N : List Field) (fs : List Field) → SymbolsRight (map (symbol N) fs)
unfolding SymbolsRight
body_is_right N [] = tt
body_is_right N (f ∷ fs) = (symbol_is_right N f, body_is_right N fs)

-- Reading: a term that is read has the sort that was expected.

same_sort_same : (r s : Sort) → same_sort r s ≡ true → r ≡ s
unfolding same_sort
same_sort_same number number e = refl
same_sort_same number yes_no e = clash (cc)
same_sort_same yes_no number e = clash (cc)
same_sort_same yes_no yes_no e = refl

if_sort_takes : (s : Sort) (x : Takes) {S : List Sort} {r : Sort} → if_sort s x ≡ takes S r → x ≡ takes S s
unfolding if_sort
if_sort_takes s (cannot w) e = clash (cc)
if_sort_takes s (takes S' r') {S} {r} e = of (same_sort r' s) refl e
  where
    of : (b : Bool) → same_sort r' s ≡ b → (if b then takes S' r' else cannot OtherSort) ≡ takes S r → takes S' r' ≡ takes S s
    of true h k = let u : S' ≡ S = cc in let w : r' ≡ s = same_sort_same r' s h in cc
    of false h k = clash (cc)

got_with : (H : List Line) (y : Symbol) (x : Read Terms) {t : Term} {r : List Symbol} → with_arguments H y x ≡ got t r
    → (ts : Terms) × (x ≡ got ts r) × (t ≡ applied H y ts)
unfolding with_arguments
got_with H y (got ts ys) {t} {r} e = let same : ys ≡ r = cc in (ts, ap (got ts) same, cc)
got_with H y (fault w ys) e = clash (cc)

got_taken : (H : List Line) (y : Symbol) (x : Takes) (here : List Symbol) (row : List Sort → Read Terms) {t : Term} {r : List Symbol}
    → read_taken H y x here row ≡ got t r
    → (S : List Sort) × (s : Sort) × (ts : Terms) × (x ≡ takes S s) × (row S ≡ got ts r) × (t ≡ applied H y ts)
unfolding read_taken
got_taken H y (takes S s) here row e = let p = got_with H y (row S) e in (S, s, p.0, refl, p.1, p.2)
got_taken H y (cannot w) here row e = clash (cc)

got_more : (t : Term) (x : Read Terms) {ts : Terms} {r : List Symbol} → and_more t x ≡ got ts r → (us : Terms) × (x ≡ got us r) × (ts ≡ cons t us)
unfolding and_more
got_more t (got us ys) {ts} {r} e = let same : ys ≡ r = cc in (us, ap (got us) same, cc)
got_more t (fault w ys) e = clash (cc)

got_then : (x : Read Term) (more : List Symbol → Read Terms) {ts : Terms} {r : List Symbol} → then_more x more ≡ got ts r
    → (t : Term) × (us : Terms) × (ys : List Symbol) × (x ≡ got t ys) × (more ys ≡ got us r) × (ts ≡ cons t us)
unfolding then_more
got_then (fault w ys) more e = clash (cc)
got_then (got t ys) more e = let p = got_more t (more ys) e in (t, p.0, ys, refl, p.1, p.2)

argument_has : (x : Option Sort) {S : List Sort} {s : Sort} → argument_takes x ≡ takes S s → x ≡ some s
unfolding argument_takes
argument_has none e = clash (cc)
argument_has (some r) {S} {s} e = let same : r ≡ s = cc in ap some same

call_has : (x : Option Line) {S : List Sort} {s : Sort} → call_takes x ≡ takes S s → (h : Line) × (x ≡ some h) × (h.sorts ≡ S) × (h.result ≡ s)
unfolding call_takes
call_has none e = clash (cc)
call_has (some h) {S} {s} e = (h, refl, cc, cc)

-- A function has its line's sorts and strict count.
record Matches (h : Line) (F : Function) : Type 0 where
  pub sorts_match : F.sorts ≡ h.sorts
  pub strict_match : F.strict ≡ h.strict
  pub result_match : F.result ≡ h.result

abbrev AllMatch : List Line → Program → Type 0
AllMatch H P = (f : ℕ) (h : Line) → get_elem? H f ≡ some h → (F : Function) × (get_elem? P f ≡ some F) × Matches h F

module _ (P : Program) (G : List Sort) where
  first_sorted : (k : ℕ) (ts : Terms) (S : List Sort) → RowSorted P ts G S → RowSorted P (first_terms k ts) G (take k S)
  unfolding RowSorted first_terms
  first_sorted zero ts S h = tt
  first_sorted (suc k) nil [] h = tt
  first_sorted (suc k) nil (s ∷ S) h = absurd h
  first_sorted (suc k) (cons t ts) [] h = absurd h
  first_sorted (suc k) (cons t ts) (s ∷ S) h = (h.0, first_sorted k ts S h.1)

  other_sorted : (k : ℕ) (ts : Terms) (S : List Sort) → RowSorted P ts G S → RowSorted P (other_terms k ts) G (drop k S)
  unfolding RowSorted other_terms
  other_sorted zero ts S h = h
  other_sorted (suc k) nil [] h = tt
  other_sorted (suc k) nil (s ∷ S) h = absurd h
  other_sorted (suc k) (cons t ts) [] h = absurd h
  other_sorted (suc k) (cons t ts) (s ∷ S) h = other_sorted k ts S h.1

  condition_sorted : (ts : Terms) (s : Sort) → RowSorted P ts G (yes_no ∷ s ∷ s ∷ []) → TermSorted P (condition_of ts) G s
  unfolding RowSorted condition_of
  condition_sorted nil s h = absurd h
  condition_sorted (cons t nil) s h = absurd h.1
  condition_sorted (cons t (cons x nil)) s h = absurd h.1.1
  condition_sorted (cons t (cons x (cons y nil))) s h = (h.0, h.1.0, h.1.1.0)
  condition_sorted (cons t (cons x (cons y (cons z ts)))) s h = absurd h.1.1.1

  abbrev ReadsSorted : (Sort → List Symbol → Read Term) → Type 0
  ReadsSorted one =
      (s : Sort) (ys : List Symbol) (t : Term) (r : List Symbol) → SymbolsRight ys → one s ys ≡ got t r → TermSorted P t G s × SymbolsRight r

  row_reads_sorted : (one : Sort → List Symbol → Read Term) → ReadsSorted one
      → (S : List Sort) (ys : List Symbol) (ts : Terms) (r : List Symbol) → SymbolsRight ys → read_row one S ys ≡ got ts r
      → RowSorted P ts G S × SymbolsRight r
  unfolding read_row RowSorted
  row_reads_sorted one ok [] ys ts r right e =
      let none_read : nil ≡ ts = cc in
      let all_left : ys ≡ r = cc in
      (subst (λ z. RowSorted P z G []) none_read tt, subst SymbolsRight all_left right)
  row_reads_sorted one ok (s ∷ S) ys ts r right e =
      let p = got_then (one s ys) (read_row one S) e in
      let t-sorted = ok s ys p.0 p.2 right p.3 in
      let rest = row_reads_sorted one ok S p.2 p.1 r t-sorted.1 p.4 in
      (subst (λ z. RowSorted P z G (s ∷ S)) (sym p.5) (t-sorted.0, rest.0), rest.1)

  module _ (H : List Line) (matching : AllMatch H P) where
    applied_sorted : (y : Symbol) (s : Sort) (S : List Sort) (ts : Terms) → SymbolRight y → takes_of H G s y ≡ takes S s → RowSorted P ts G S
        → TermSorted P (applied H y ts) G s
    unfolding takes_of applied TermSorted strict_of SymbolRight
    applied_sorted (argument i) s S ts right e h = argument_has (get_elem? G i) e
    applied_sorted (operation o) s S ts right e h =
        let same : S ≡ domain o = cc in
        (cc, right, subst (λ Z. RowSorted P ts G Z) same h)
    applied_sorted condition s S ts right e h =
        let same : S ≡ yes_no ∷ s ∷ s ∷ [] = cc in
        condition_sorted ts s (subst (λ Z. RowSorted P ts G Z) same h)
    applied_sorted (function f) s S ts right e h =
        let p = call_has (get_elem? H f) e in
        let q = matching f p.0 p.1 in
        let k : strict_of (get_elem? H f) ≡ q.0.strict = ap strict_of p.1 ∙ sym q.2.strict_match in
        let h' : RowSorted P ts G q.0.sorts = subst (λ Z. RowSorted P ts G Z) (sym (q.2.sorts_match ∙ p.2)) h in (
          q.0,
          q.1,
          q.2.result_match ∙ p.3,
          subst (λ n. RowSorted P (first_terms n ts) G (take q.0.strict q.0.sorts)) (sym k) (first_sorted q.0.strict ts q.0.sorts h'),
          subst (λ n. RowSorted P (other_terms n ts) G (drop q.0.strict q.0.sorts)) (sym k) (other_sorted q.0.strict ts q.0.sorts h'),
        )
    applied_sorted unknown s S ts right e h = clash (cc)

    term_reads_sorted : (d : ℕ) → ReadsSorted (read_term H G d)
    unfolding read_term SymbolsRight
    term_reads_sorted zero s [] t r right e = clash (cc)
    term_reads_sorted zero s (y ∷ ys) t r right e = clash (cc)
    term_reads_sorted (suc d) s [] t r right e = clash (cc)
    term_reads_sorted (suc d) s (y ∷ ys) t r right e =
        let p = got_taken H y (if_sort s (takes_of H G s y)) (y ∷ ys) (λ S. read_row (read_term H G d) S ys) e in
        let row = row_reads_sorted (read_term H G d) (term_reads_sorted d) p.0 ys p.2 r right.1 p.4 in
        (subst (λ z. TermSorted P z G s) (sym p.5) (applied_sorted y s p.0 p.2 right.0 (if_sort_takes s (takes_of H G s y) p.3) row.0), row.1)

-- The bodies, one after the other.

abbrev reads_body : List Line → Line → Read Term
reads_body H h = read_term H h.sorts most_depth h.result (map (symbol (map (λ k. k.name) H)) h.body)

data Bodies (H : List Line) : List Line → Program → Type 0 where
  no_body : Bodies H [] []
  one_body : {h : Line} {F : Function} {hs : List Line} {P : Program} → Matches h F → reads_body H h ≡ got F.body [] → Bodies H hs P
      → Bodies H (h ∷ hs) (F ∷ P)

nothing_left : (x : Read Term) {t : Term} {r : List Symbol} → nothing_after x ≡ got t r → x ≡ got t []
unfolding nothing_after
nothing_left (got t []) {t = u} e = let same : t ≡ u = cc in ap (λ z. got z []) same
nothing_left (got t (y ∷ ys)) e = clash (cc)
nothing_left (fault w ys) e = clash (cc)

function_fine : (l : ℕ) (h : Line) (x : Read Term) {F : Function} → function_of l h x ≡ fine F
    → Matches h F × (r : List Symbol) × (x ≡ got F.body r)
unfolding function_of
function_fine l h (fault w ys) e = clash (cc)
function_fine l h (got t ys) {F} e =
    let same : record { sorts = h.sorts; strict = h.strict; result = h.result; body = t } ≡ F = fine_same e in
    let matches : Matches h F = record {
      sorts_match = sym (ap (λ z. z.sorts) same);
      strict_match = sym (ap (λ z. z.strict) same);
      result_match = sym (ap (λ z. z.result) same);
    } in
    (matches, ys, ap (λ (z : Function). got z.body ys) same)

bodies_fine : (H : List Line) (l : ℕ) (hs : List Line) (P : Program) → read_bodies H l hs ≡ fine P → Bodies H hs P
unfolding read_bodies read_body
bodies_fine H l [] P e = subst (Bodies H []) (fine_same e) no_body
bodies_fine H l (h ∷ hs) P e =
    let p = fine_bind (function_of l h (read_body H h)) (λ F. read_bodies H (l + 1) hs >>= λ Q. fine (F ∷ Q)) e in
    let q = fine_bind (read_bodies H (l + 1) hs) (λ Q. fine (p.0 ∷ Q)) p.2 in
    let w = function_fine l h (read_body H h) p.1 in
    subst (Bodies H (h ∷ hs)) (fine_same q.2) (one_body w.0 (nothing_left (reads_body H h) w.2) (bodies_fine H (l + 1) hs q.0 q.1))

all_match : {H hs : List Line} {P : Program} → Bodies H hs P → AllMatch hs P
all_match no_body f h e = clash (cc)
all_match (one_body {h = g} {F = F} m t r) zero h e = let same : g ≡ h = cc in (F, refl, subst (λ z. Matches z F) same m)
all_match (one_body m t r) (suc f) h e = all_match r f h e

line_of_function : {H hs : List Line} {P : Program} → Bodies H hs P → (f : ℕ) (F : Function) → get_elem? P f ≡ some F
    → (h : Line) × (get_elem? hs f ≡ some h) × Matches h F × (reads_body H h ≡ got F.body [])
line_of_function no_body f F e = clash (cc)
line_of_function {H} (one_body {h = h} {F = E} m t r) zero F e =
    let same : E ≡ F = cc in
    (h, refl, subst (Matches h) same m, subst (λ (z : Function). reads_body H h ≡ got z.body []) same t)
line_of_function (one_body m t r) (suc f) F e = line_of_function r f F e

-- The initial term: the entry applied to its own arguments.

own_sorted : (P : Program) (S : List Sort) (m i : ℕ) → i + m ≤ length S → RowSorted P (own m i) S (take m (drop i S))
unfolding own RowSorted
own_sorted P S zero i h = tt
own_sorted P S (suc m) i h = rw (drop-cons S i number (omega arith)) (element S i (omega arith), own_sorted P S m (suc i) (omega arith))

initial_sorted : (F : Function) (P : Program) → F.strict ≤ length F.sorts → TermSorted (F ∷ P) (initial (F ∷ P)) F.sorts F.result
unfolding initial TermSorted
initial_sorted F P h =
    let k = F.strict in
    let S = F.sorts in (
      F,
      refl,
      refl,
      own_sorted (F ∷ P) S k 0 (omega arith),
      subst (RowSorted (F ∷ P) (own (length S - k) k) S) (take_all (length S - k) (drop k S) (omega (arith, length-drop k S)))
          (own_sorted (F ∷ P) S (length S - k) k (omega arith)),
    )

-- Fitting arguments are of the entry's sorts.

fits_sort : (s : Sort) (v : ℕ) → fits s v ≡ true → OfSort s v
unfolding fits OfSort
fits_sort number v e = tt
fits_sort yes_no v e = omega (arith, leb-true v 1 e)

all_fit_sorts : (S : List Sort) (vs : List ℕ) → all_fit S vs ≡ true → OfSorts S vs
unfolding all_fit OfSorts
all_fit_sorts [] [] e = tt
all_fit_sorts [] (v ∷ vs) e = clash (cc)
all_fit_sorts (s ∷ S) [] e = clash (cc)
all_fit_sorts (s ∷ S) (v ∷ vs) e = let p = both (fits s v) (all_fit S vs) e in (fits_sort s v p.0, all_fit_sorts S vs p.1)

-- What is known of an accepted text at fitting arguments.
pub record WellMade (P : Program) (args : List ℕ) : Type 0 where
  pub program_sorted : Sorted P
  pub entry_sorts : List Sort
  pub entry_result : Sort
  pub initial_is_sorted : TermSorted P (initial P) entry_sorts entry_result
  pub arguments_sorted : OfSorts entry_sorts args

bodies_sorted : {H : List Line} {P : Program} → Bodies H H P → Accepted P → Sorted P
bodies_sorted {H} {P} r A f F e =
    let p = line_of_function r f F e in
    let h = p.0 in
    let m = p.2 in
    let S = every_there (Sound P) P A.sound f F e in
    let N = map (λ k. k.name) H in
    let t = (term_reads_sorted P h.sorts H (all_match r) most_depth h.result (map (symbol N) h.body) F.body [] (body_is_right N h.body) p.3).0 in (
      omega (arith, S.few_strict, S.few_arguments),
      subst (λ S. TermSorted P F.body S F.result) (sym m.sorts_match) (subst (λ s. TermSorted P F.body h.sorts s) (sym m.result_match) t),
    )

made_of : {H : List Line} (P : Program) (args : List ℕ) → Bodies H H P → Accepted P → fitting P args ≡ true → WellMade P args
unfolding fitting
made_of [] args r A e = clash (cc)
made_of (F ∷ P) args r A e =
    record {
      program_sorted = bodies_sorted r A;
      entry_sorts = F.sorts;
      entry_result = F.result;
      initial_is_sorted = initial_sorted F P (every_there (Sound (F ∷ P)) (F ∷ P) A.sound 0 F refl).few_strict;
      arguments_sorted = all_fit_sorts F.sorts args e;
    }

pub well_made : (text : List ℕ) (P : Program) (args : List ℕ) → check text ≡ fine P → fitting P args ≡ true → WellMade P args
unfolding check
well_made text P args e fit =
    let H = lines text in
    let long = both_fine (judge_length text) _ e in
    let shape = both_fine (judge_shape text) _ long.2 in
    let counts = both_fine (judge_counts H) _ shape.2 in
    let names = both_fine (judge_names 1 [] (map (λ h. h.name) H)) (read_bodies H 1 H) counts.2 in
    made_of P args (bodies_fine H 1 H P names.2) (accepted text P e) fit
