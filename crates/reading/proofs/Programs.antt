-- A program that was read from lines: its heads, its initial term, and its symbols. Assumes nothing.
use Rattle.std.proofs.Common.{◌≡◌, ℕ, zero, suc, ◌+◌, ◌-◌, ◌≤◌, List, [], ◌∷◌, ◌++◌, map, length, refl, ap, sym, ◌∙◌, subst, add-one, arith}
use Rattle.std.specs.List.{range_with_len}
use Rattle.std.proofs.lemmas.List.{map-append, length-append, length-map}
use Rattle.meaning.specs.Text.{Line, Verdict, fine, refused, ◌>>=◌}
use Rattle.meaning.specs.Numbers.{most_depth}
use Rattle.meaning.specs.Terms.{Term, Symbol as Meant, symbol, Read, got, fault, Function, Program, nothing_after, read_body, function_of, read_bodies}
use Rattle.meaning.specs.Code.{size, own, initial, bodies_size}
use Rattle.table.specs.Table.{term_symbols, row_symbols, term_ends, row_ends, signatures}
use Rattle.table.specs.declared.Symbol.{Symbol}
use Rattle.table.specs.declared.Symbol.TheVariants.{Argument, Function as Call}
use Rattle.accepted.proofs.Initial.{own_sizes}
use Rattle.lines.specs.Lines.{total, line_signature}
use Rattle.terms.proofs.Flat as flat
use Rattle.terms.proofs.Flat.{symbol_count, Taken, taken_term}

-- Heads.

unfoldable pub Of : Program → List Line → Type 0
Of [] [] = Unit {0}
Of [] (h ∷ hs) = ⊥
Of (F ∷ P) [] = ⊥
Of (F ∷ P) (h ∷ hs) = (F.sorts ≡ h.sorts) × (F.strict ≡ h.strict) × (F.result ≡ h.result) × Of P hs

of_more : (X : Verdict Program) (F : Function) (h : Line) (hs : List Line) (P : Program) → F.sorts ≡ h.sorts → F.strict ≡ h.strict → F.result ≡ h.result →
    ((Q : Program) → X ≡ fine Q → Of Q hs) → (X >>= λ Q. fine (F ∷ Q)) ≡ fine P → Of P (h ∷ hs)
unfolding ◌>>=◌ Of
of_more (fine Q) F h hs P a b c k e = let z : F ∷ Q ≡ P = cc in subst (λ (R : Program). Of R (h ∷ hs)) z (a, b, c, k Q refl)
of_more (refused n l i) F h hs P a b c k e = absurd (cc e)

of_line : (l : ℕ) (h : Line) (hs : List Line) (R : Read _) (X : Verdict Program) (P : Program) → ((Q : Program) → X ≡ fine Q → Of Q hs) → (function_of l h R >>= λ F. X >>= λ Q. fine (F ∷ Q)) ≡ fine P → Of P (h ∷ hs)
unfolding function_of ◌>>=◌
of_line l h hs (got t ys) X P k e = of_more X _ h hs P refl refl refl k e
of_line l h hs (fault w ys) X P k e = absurd (cc e)

pub of_bodies : (H : List Line) (l : ℕ) (hs : List Line) (P : Program) → read_bodies H l hs ≡ fine P → Of P hs
unfolding read_bodies Of
of_bodies H l [] P e = let z : [] ≡ P = cc in subst (λ (R : Program). Of R []) z tt
of_bodies H l (h ∷ hs) P e = of_line l h hs (read_body H h) (read_bodies H (l + 1) hs) P (of_bodies H (l + 1) hs) e

pub of_length : (P : Program) (hs : List Line) → Of P hs → length P ≡ length hs
unfolding Of
of_length [] [] p = refl
of_length [] (h ∷ hs) p = absurd p
of_length (F ∷ P) [] p = absurd p
of_length (F ∷ P) (h ∷ hs) p = ap suc (of_length P hs p.3)

pub of_signatures : (P : Program) (hs : List Line) → Of P hs → signatures P ≡ map line_signature hs
unfolding Of signatures line_signature
of_signatures [] [] p = refl
of_signatures [] (h ∷ hs) p = absurd p
of_signatures (F ∷ P) [] p = absurd p
of_signatures (F ∷ P) (h ∷ hs) p = rw (p.0, p.1, p.2, of_signatures P hs p.3)

-- The initial term: the entry applied to its own arguments.

own_symbols : (n i : ℕ) → row_symbols (own n i) ≡ map Argument (range_with_len i n)
unfolding own term_symbols
own_symbols zero i = refl
own_symbols (suc n) i = rw (add-one i) (ap (λ (l : List Symbol). Argument i ∷ l) (own_symbols n (suc i)))

own_ends : (n i a : ℕ) → row_ends (own n i) a ≡ range_with_len (a + 1) n
unfolding own term_ends size
own_ends zero i a = refl
own_ends (suc n) i a = rw (add-one a) (ap (λ (l : List ℕ). suc a ∷ l) (own_ends n (suc i) (suc a)))

ranges_join : (n m a b : ℕ) → b ≡ a + n → range_with_len a n ++ range_with_len b m ≡ range_with_len a (n + m)
ranges_join zero m a b e = let f : b ≡ a = omega arith in let z : 0 + m ≡ m = omega arith in rw (f, z)
ranges_join (suc n) m a b e =
    let s : suc n + m ≡ suc (n + m) = omega arith in rw s (ap (λ (l : List ℕ). a ∷ l) (ranges_join n m (a + 1) b (omega (arith, e))))

module _ (F : Function) (P : Program) (n : ℕ) (e : length F.sorts ≡ n) (h : F.strict ≤ n) where
  all : F.strict + (n - F.strict) ≡ n
  all = omega arith

  pub initial_symbols : term_symbols (initial (F ∷ P)) ≡ Call 0 ∷ map Argument (range_with_len 0 n)
  unfolding initial term_symbols
  initial_symbols =
      rw (e, own_symbols F.strict 0, own_symbols (n - F.strict) F.strict, ← map-append Argument (range_with_len 0 F.strict) (range_with_len F.strict (n - F.strict)), ranges_join F.strict (n - F.strict) 0 F.strict (omega arith), all)

  pub initial_ends : term_ends (initial (F ∷ P)) 0 ≡ (n + 1) ∷ range_with_len 2 n
  unfolding initial term_ends
  initial_ends =
      let s : 1 + n ≡ n + 1 = omega arith in
      rw (e, own_sizes F.strict 0, own_sizes (n - F.strict) F.strict, all, s, own_ends F.strict 0 1, own_ends (n - F.strict) F.strict (1 + F.strict))
      (ap (λ (l : List ℕ). (n + 1) ∷ l) (ranges_join F.strict (n - F.strict) 2 (1 + F.strict + 1) (omega arith) ∙ ap (range_with_len 2) all))

-- A body that is read has a symbol for each field.

whole_size : (ys : List Meant) (R : Read Term) (t : Term) (zs : List Meant) → Taken ys R → nothing_after R ≡ got t zs → size t ≡ length ys
unfolding Taken nothing_after
whole_size ys (got u []) t zs p e =
    let z : u ≡ t = cc in
    sym (ap size z) ∙ omega (arith, ap length p, length-append (flat.term_symbols u) [], symbol_count u)
whole_size ys (got u (x ∷ xs)) t zs p e = absurd (cc e)
whole_size ys (fault w xs) t zs p e = absurd (cc e)

body_size : (H : List Line) (h : Line) (t : Term) (zs : List Meant) → read_body H h ≡ got t zs → size t ≡ length h.body
unfolding read_body
body_size H h t zs e =
    whole_size _ _ t zs (taken_term H h.sorts most_depth h.result (map (symbol (map (λ k. k.name) H)) h.body)) e ∙ length-map h.body (symbol (map (λ k. k.name) H))

size_more : (X : Verdict Program) (F : Function) (n : ℕ) (hs : List Line) (P : Program) → size F.body ≡ n → ((Q : Program) → X ≡ fine Q → bodies_size Q ≡ total hs) → (X >>= λ Q. fine (F ∷ Q)) ≡ fine P → bodies_size P ≡ n + total hs
unfolding ◌>>=◌ bodies_size
size_more (fine Q) F n hs P a k e = let z : F ∷ Q ≡ P = cc in sym (ap bodies_size z) ∙ omega (arith, a, k Q refl)
size_more (refused m l i) F n hs P a k e = absurd (cc e)

size_line : (H : List Line) (l : ℕ) (h : Line) (hs : List Line) (R : Read Term) (X : Verdict Program) (P : Program) → read_body H h ≡ R → ((Q : Program) → X ≡ fine Q → bodies_size Q ≡ total hs) →
    (function_of l h R >>= λ F. X >>= λ Q. fine (F ∷ Q)) ≡ fine P → bodies_size P ≡ length h.body + total hs
unfolding function_of ◌>>=◌
size_line H l h hs (got t zs) X P q k e = size_more X _ (length h.body) hs P (body_size H h t zs q) k e
size_line H l h hs (fault w zs) X P q k e = absurd (cc e)

pub sizes_of : (H : List Line) (l : ℕ) (hs : List Line) (P : Program) → read_bodies H l hs ≡ fine P → bodies_size P ≡ total hs
unfolding read_bodies bodies_size total
sizes_of H l [] P e = let z : [] ≡ P = cc in sym (ap bodies_size z)
sizes_of H l (h ∷ hs) P e = size_line H l h hs (read_body H h) (read_bodies H (l + 1) hs) P refl (sizes_of H (l + 1) hs) e
