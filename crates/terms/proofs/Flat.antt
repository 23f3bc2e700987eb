-- A term as its symbols in prefix order, and that reading takes a term's symbols from what it reads. Assumes nothing.
use Rattle.std.specs.Prelude.{if◌then◌else◌}
use mathlib.Core.Path.{◌≡◌, refl, ap, sym, ◌∙◌, subst}
use mathlib.Core.Bool.{Bool, true, false}
use mathlib.Core.Option.{Option, none, some}
use mathlib.Core.List.{List, [], ◌∷◌, ◌++◌, map, map-append, append_assoc, append-nil}
use Prim.Native.Nat.{ℕ, zero, suc, ◌+◌, ◌<◌, ◌≤◌}
use native.Mathlib.Omega.{arith}
use lib.ListN.{length, length-append, get_elem?}
use Rattle.meaning.specs.Arithmetic.{Sort, yes_no, Op}
use Rattle.meaning.specs.Text.{Line}
use Rattle.meaning.specs.Terms.{Term, arg, op, cond, call, Terms, nil, cons, Symbol, argument, operation, condition, function, unknown, Takes, takes, cannot, Read, got, fault, first_terms, other_terms, strict_of, condition_of, applied, with_arguments, and_more, then_more, read_row, read_taken, read_term, argument_takes, takes_of, same_sort, if_sort}
use Rattle.meaning.specs.Code.{size, sizes, count}
use Rattle.meaning.specs.declared.Wrong.{Wrong}
use Rattle.accepted.proofs.Reading.{parted_sizes}
use Rattle.table.specs.Symbols.{op_symbol, symbol_in}
use Rattle.table.specs.Table as table
use Rattle.table.specs.Table.{term_ends, row_ends}
use Rattle.table.specs.declared.Symbol.{Symbol as Entry}

unfoldable mutual
  pub term_symbols : Term → List Symbol
  term_symbols (arg i) = argument i ∷ []
  term_symbols (op o ts) = operation o ∷ row_symbols ts
  term_symbols (cond t x y) = condition ∷ term_symbols t ++ (term_symbols x ++ term_symbols y)
  term_symbols (call f ss ws) = function f ∷ row_symbols ss ++ row_symbols ws

  pub row_symbols : Terms → List Symbol
  row_symbols nil = []
  row_symbols (cons t ts) = term_symbols t ++ row_symbols ts

-- Its symbols in the table, and how many they are.
mutual
  unfolding term_symbols table.term_symbols symbol_in

  pub symbols_are : (t : Term) → table.term_symbols t ≡ map symbol_in (term_symbols t)
  symbols_are (arg i) = refl
  symbols_are (op o ts) = ap (λ (l : List Entry). op_symbol o ∷ l) (row_symbols_are ts)
  symbols_are (cond t x y) =
      rw (map-append symbol_in (term_symbols t) (term_symbols x ++ term_symbols y), map-append symbol_in (term_symbols x) (term_symbols y), symbols_are t, symbols_are x, symbols_are y)
  symbols_are (call f ss ws) = rw (map-append symbol_in (row_symbols ss) (row_symbols ws), row_symbols_are ss, row_symbols_are ws)

  pub row_symbols_are : (ts : Terms) → table.row_symbols ts ≡ map symbol_in (row_symbols ts)
  row_symbols_are nil = refl
  row_symbols_are (cons t ts) = rw (map-append symbol_in (term_symbols t) (row_symbols ts), symbols_are t, row_symbols_are ts)

mutual
  unfolding term_symbols size

  pub symbol_count : (t : Term) → length (term_symbols t) ≡ size t
  symbol_count (arg i) = refl
  symbol_count (op o ts) = ap suc (row_count ts)
  symbol_count (cond t x y) = omega (arith, length-append (term_symbols t) (term_symbols x ++ term_symbols y), length-append (term_symbols x) (term_symbols y), symbol_count t, symbol_count x, symbol_count y)
  symbol_count (call f ss ws) = omega (arith, length-append (row_symbols ss) (row_symbols ws), row_count ss, row_count ws)

  pub row_count : (ts : Terms) → length (row_symbols ts) ≡ sizes ts
  row_count nil = refl
  row_count (cons t ts) = omega (arith, length-append (term_symbols t) (row_symbols ts), symbol_count t, row_count ts)

mutual
  unfolding term_ends size

  pub end_count : (t : Term) (a : ℕ) → length (term_ends t a) ≡ size t
  end_count (arg i) a = refl
  end_count (op o ts) a = ap suc (row_end_count ts (suc a))
  end_count (cond t x y) a =
      omega (arith, length-append (term_ends t (suc a)) (term_ends x (suc a + size t) ++ term_ends y (suc a + size t + size x)), length-append (term_ends x (suc a + size t)) (term_ends y (suc a + size t + size x)), end_count t (suc a), end_count x (suc a + size t), end_count y (suc a + size t + size x))
  end_count (call f ss ws) a = omega (arith, length-append (row_ends ss (suc a)) (row_ends ws (suc a + sizes ss)), row_end_count ss (suc a), row_end_count ws (suc a + sizes ss))

  pub row_end_count : (ts : Terms) (a : ℕ) → length (row_ends ts a) ≡ sizes ts
  row_end_count nil a = refl
  row_end_count (cons t ts) a = omega (arith, length-append (term_ends t a) (row_ends ts (a + size t)), end_count t a, row_end_count ts (a + size t))

pub size_one : (t : Term) → 0 < size t
unfolding size
size_one (arg i) = omega arith
size_one (op o ts) = omega arith
size_one (cond t x y) = omega arith
size_one (call f ss ws) = omega arith

-- A row and its two parts.
parted_symbols : (k : ℕ) (ts : Terms) → row_symbols (first_terms k ts) ++ row_symbols (other_terms k ts) ≡ row_symbols ts
unfolding first_terms other_terms term_symbols
parted_symbols zero ts = refl
parted_symbols (suc k) nil = refl
parted_symbols (suc k) (cons t ts) =
    append_assoc (term_symbols t) (row_symbols (first_terms k ts)) (row_symbols (other_terms k ts)) ∙ ap (λ (l : List Symbol). term_symbols t ++ l) (parted_symbols k ts)

parted_ends : (k : ℕ) (ts : Terms) (a : ℕ) → row_ends (first_terms k ts) a ++ row_ends (other_terms k ts) (a + sizes (first_terms k ts)) ≡ row_ends ts a
unfolding first_terms other_terms term_ends size
parted_ends zero ts a = let e : a + 0 ≡ a = omega arith in rw e
parted_ends (suc k) nil a = refl
parted_ends (suc k) (cons t ts) a =
    let e : a + (size t + sizes (first_terms k ts)) ≡ a + size t + sizes (first_terms k ts) = omega arith in
    rw (e, append_assoc (term_ends t a) (row_ends (first_terms k ts) (a + size t)) (row_ends (other_terms k ts) (a + size t + sizes (first_terms k ts))), parted_ends k ts (a + size t))

-- A symbol applied to as many terms as it takes.
unfoldable pub Applies : Symbol → ℕ → Type 0
Applies (argument i) n = n ≡ 0
Applies (operation o) n = Unit {0}
Applies condition n = n ≡ 3
Applies (function f) n = Unit {0}
Applies unknown n = ⊥

pub record Node (H : List Line) (y : Symbol) (ts : Terms) : Type 0 where
  pub symbols_of : term_symbols (applied H y ts) ≡ y ∷ row_symbols ts
  pub size_of : size (applied H y ts) ≡ suc (sizes ts)
  pub ends_of : (a : ℕ) → term_ends (applied H y ts) a ≡ (suc a + sizes ts) ∷ row_ends ts (suc a)

three_sizes : (a t x y : ℕ) → suc a + (t + (x + y)) ≡ suc a + (t + (x + (y + 0)))
three_sizes a t x y = omega arith

as_argument : (i : ℕ) {n : ℕ} → Applies (argument i) n → n ≡ 0
unfolding Applies
as_argument i e = e

one_end : (a b : ℕ) → a ≡ b → a ∷ [] ≡ b ∷ []
one_end a b e = ap (λ (n : ℕ). n ∷ []) e

no_terms : (H : List Line) (i : ℕ) (ts : Terms) → count ts ≡ 0 → Node H (argument i) ts
unfolding count applied term_symbols size term_ends
no_terms H i nil e = record { symbols_of = refl; size_of = refl; ends_of = λ a. one_end (suc a) (suc a + 0) (omega arith) }
no_terms H i (cons t ts) e = absurd (omega (arith, e))

three_terms : (H : List Line) (ts : Terms) → count ts ≡ 3 → Node H condition ts
unfolding count applied condition_of term_symbols size term_ends
three_terms H nil e = absurd (omega (arith, e))
three_terms H (cons t nil) e = absurd (omega (arith, e))
three_terms H (cons t (cons x nil)) e = absurd (omega (arith, e))
three_terms H (cons t (cons x (cons y nil))) e =
    record {
      symbols_of = rw (append-nil (term_symbols y));
      size_of = omega arith;
      ends_of = λ a. rw (append-nil (term_ends y (suc a + size t + size x))) (ap (λ (n : ℕ). n ∷ (term_ends t (suc a) ++ (term_ends x (suc a + size t) ++ term_ends y (suc a + size t + size x)))) (three_sizes a (size t) (size x) (size y)));
    }
three_terms H (cons t (cons x (cons y (cons z ts)))) e = absurd (omega (arith, e))

call_terms : (H : List Line) (f : ℕ) (ts : Terms) → Node H (function f) ts
unfolding applied term_symbols size term_ends
call_terms H f ts =
    let k = strict_of (get_elem? H f) in
    record {
      symbols_of = ap (λ (l : List Symbol). function f ∷ l) (parted_symbols k ts);
      size_of = ap suc (parted_sizes k ts);
      ends_of = λ a. rw (parted_sizes k ts, parted_ends k ts (suc a));
    }

op_terms : (H : List Line) (o : Op) (ts : Terms) → Node H (operation o) ts
unfolding applied term_symbols size term_ends
op_terms H o ts = record { symbols_of = refl; size_of = refl; ends_of = λ a. refl }

pub node : (H : List Line) (y : Symbol) (ts : Terms) → Applies y (count ts) → Node H y ts
unfolding Applies
node H (argument i) ts e = no_terms H i ts e
node H (operation o) ts e = op_terms H o ts
node H condition ts e = three_terms H ts e
node H (function f) ts e = call_terms H f ts
node H unknown ts e = absurd e

-- What a symbol takes, it applies to.
argument_applies : (i : ℕ) (s : Option Sort) (S : List Sort) (r : Sort) → argument_takes s ≡ takes S r → Applies (argument i) (length S)
unfolding argument_takes Applies
argument_applies i none S r e = let z : ◌≡◌ {A = ℕ} 0 1 = cc in absurd (omega arith)
argument_applies i (some s) S r e = let z : S ≡ [] = cc in ap length z

pub takes_applies : (H : List Line) (G : List Sort) (s : Sort) (y : Symbol) (S : List Sort) (r : Sort) → takes_of H G s y ≡ takes S r → Applies y (length S)
unfolding takes_of Applies
takes_applies H G s (argument i) S r e = as_argument i (argument_applies i (get_elem? G i) S r e)
takes_applies H G s (operation o) S r e = tt
takes_applies H G s condition S r e = let z : S ≡ yes_no ∷ s ∷ s ∷ [] = cc in ap length z
takes_applies H G s (function f) S r e = tt
takes_applies H G s unknown S r e = let z : ◌≡◌ {A = ℕ} 0 1 = cc in absurd (omega arith)

by_sort : (t : Bool) (S T : List Sort) (q r : Sort) (w : Wrong) → (if t then takes S q else cannot w) ≡ takes T r → takes S q ≡ takes T r
by_sort true S T q r w e = e
by_sort false S T q r w e = let z : ◌≡◌ {A = ℕ} 0 1 = cc in absurd (omega arith)

pub sorted : (s : Sort) (t : Takes) (S : List Sort) (r : Sort) → if_sort s t ≡ takes S r → t ≡ takes S r
unfolding if_sort
sorted s (takes S q) T r e = by_sort (same_sort q s) S T q r _ e
sorted s (cannot w) T r e = e

-- Reading takes symbols from the front: those of a term, or it stops at what is left of them.
unfoldable pub Taken : List Symbol → Read Term → Type 0
Taken ys (got t zs) = ys ≡ term_symbols t ++ zs
Taken ys (fault w zs) = length zs ≤ length ys

unfoldable pub Takens : List Sort → List Symbol → Read Terms → Type 0
Takens S ys (got ts zs) = (ys ≡ row_symbols ts ++ zs) × (count ts ≡ length S)
Takens S ys (fault w zs) = length zs ≤ length ys

taken_and : (s : Sort) (S : List Sort) (t : Term) (ys zs : List Symbol) (R : Read Terms) → ys ≡ term_symbols t ++ zs → Takens S zs R → Takens (s ∷ S) ys (and_more t R)
unfolding and_more Takens term_symbols count
taken_and s S t ys zs (got ts us) p q =
    (p ∙ ap (λ (l : List Symbol). term_symbols t ++ l) q.0 ∙ sym (append_assoc (term_symbols t) (row_symbols ts) us), ap suc q.1)
taken_and s S t ys zs (fault w us) p q = omega (arith, q, ap length p, length-append (term_symbols t) zs)

taken_then : (s : Sort) (S : List Sort) (ys : List Symbol) (R : Read Term) (F : List Symbol → Read Terms) → Taken ys R → ((zs : List Symbol) → Takens S zs (F zs)) → Takens (s ∷ S) ys (then_more R F)
unfolding then_more Taken Takens
taken_then s S ys (got t zs) F p q = taken_and s S t ys zs (F zs) p (q zs)
taken_then s S ys (fault w zs) F p q = p

taken_row : (one : Sort → List Symbol → Read Term) → ((s : Sort) (ys : List Symbol) → Taken ys (one s ys)) → (S : List Sort) (ys : List Symbol) → Takens S ys (read_row one S ys)
unfolding read_row Takens term_symbols count
taken_row one h [] ys = (refl, refl)
taken_row one h (s ∷ S) ys = taken_then s S ys (one s ys) (read_row one S) (h s ys) (taken_row one h S)

taken_with : (H : List Line) (y : Symbol) (S : List Sort) (ys : List Symbol) (R : Read Terms) → Applies y (length S) → Takens S ys R → Taken (y ∷ ys) (with_arguments H y R)
unfolding with_arguments Taken Takens
taken_with H y S ys (got ts zs) a p =
    rw (node H y ts (subst (Applies y) (sym p.1) a)).symbols_of (ap (λ (l : List Symbol). y ∷ l) p.0)
taken_with H y S ys (fault w zs) a p = omega (arith, p)

taken_by : (H : List Line) (y : Symbol) (t : Takes) (ys : List Symbol) (f : List Sort → Read Terms) → ((S : List Sort) (r : Sort) → t ≡ takes S r → Applies y (length S)) → ((S : List Sort) → Takens S ys (f S)) → Taken (y ∷ ys) (read_taken H y t (y ∷ ys) f)
unfolding read_taken Taken
taken_by H y (takes S r) ys f a h = taken_with H y S ys (f S) (a S r refl) (h S)
taken_by H y (cannot w) ys f a h = omega arith

pub taken_term : (H : List Line) (G : List Sort) (d : ℕ) (s : Sort) (ys : List Symbol) → Taken ys (read_term H G d s ys)
unfolding read_term Taken
taken_term H G zero s [] = omega arith
taken_term H G zero s (y ∷ ys) = omega arith
taken_term H G (suc d) s [] = omega arith
taken_term H G (suc d) s (y ∷ ys) =
    taken_by H y (if_sort s (takes_of H G s y)) ys (λ S. read_row (read_term H G d) S ys) (λ S r e. takes_applies H G s y S r (sorted s (takes_of H G s y) S r e)) λ S. taken_row (read_term H G d) (taken_term H G d) S ys

pub taken_terms : (H : List Line) (G : List Sort) (d : ℕ) (S : List Sort) (ys : List Symbol) → Takens S ys (read_row (read_term H G d) S ys)
taken_terms H G d S ys = taken_row (read_term H G d) (taken_term H G d) S ys
