-- A sorted closed term is a value of its sort, meets a division by 0, or has one successor, which is sorted again (document 000, Lemma 43, with divisions).
-- So rewriting an accepted text's entry call never comes to a term that no rule fits. Assumes nothing.
use mathlib.Core.Path.{◌≡◌, refl, ap, ◌∙◌, subst}
use mathlib.Core.Logic.{◌⊎◌, inl, inr}
use mathlib.Core.Option.{some}
use mathlib.Core.List.{List, [], ◌∷◌, ◌++◌}
use Prim.Native.Nat.{ℕ, zero, suc, ◌≤◌}
use native.Mathlib.Omega.{arith}
use lib.ListN.{take, drop, get_elem?, take-append-drop}
use Rattle.meaning.specs.Arithmetic.{Sort, yes_no, Op, Applied, gives, by_zero, unfit, apply, domain, range}
use Rattle.meaning.specs.Terms.{Term, arg, op, cond, call, Terms, nil, cons, Function, Program}
use Rattle.meaning.specs.Rewriting.{Closed, val, op_of, cond_of, call_of, Closeds, none_left, and_then, ◌followed_by◌, argument, put_in, put_all_in, vals}
use Rattle.meaning.specs.Rewriting.{Rewrite, is_value, becomes, meets_zero, no_rule, RowRewrite, are_values, become, row_meets_zero, no_rules, after_value, in_row, to_value, rewrite_op, branch, rewrite_cond, body_of, rewrite_call, rewrite, rewrite_row, from_there, rewrite_times, Reaches, MeetsZero}
use Rattle.theorems.proofs.Splitting.{clash}
use Rattle.theorems.proofs.Sorts.{OfSort, OfSorts, ConstantSorted, TermSorted, RowSorted, Sorted, apply_sorted, Result}

module _ (P : Program) where
  -- A closed term of sort s, and a row of closed terms of the sorts S.
  unfoldable mutual
    pub ClosedSorted : Closed → Sort → Type 0
    ClosedSorted (val v) s = OfSort s v
    ClosedSorted (op_of o cs) s = (range o ≡ s) × ConstantSorted o × ClosedsSorted cs (domain o)
    ClosedSorted (cond_of c x y) s = ClosedSorted c yes_no × ClosedSorted x s × ClosedSorted y s
    ClosedSorted (call_of f ss ws) s =
        (F : Function) × (get_elem? P f ≡ some F) × (F.result ≡ s) × ClosedsSorted ss (take F.strict F.sorts) × ClosedsSorted ws (drop F.strict F.sorts)

    pub ClosedsSorted : Closeds → List Sort → Type 0
    ClosedsSorted none_left [] = Unit {0}
    ClosedsSorted none_left (s ∷ S) = ⊥
    ClosedsSorted (and_then c cs) [] = ⊥
    ClosedsSorted (and_then c cs) (s ∷ S) = ClosedSorted c s × ClosedsSorted cs S

  -- What one rewrite of such a term may come to.
  unfoldable Fine : Rewrite → Sort → Type 0
  Fine (is_value v) s = OfSort s v
  Fine (becomes c) s = ClosedSorted c s
  Fine meets_zero s = Unit {0}
  Fine no_rule s = ⊥

  unfoldable RowFine : RowRewrite → List Sort → Type 0
  RowFine (are_values vs) S = OfSorts S vs
  RowFine (become cs) S = ClosedsSorted cs S
  RowFine row_meets_zero S = Unit {0}
  RowFine no_rules S = ⊥

  -- Arguments put in keep the sort.

  argument_closed : (cs : Closeds) (G : List Sort) (i : ℕ) {s : Sort} → ClosedsSorted cs G → get_elem? G i ≡ some s → ClosedSorted (argument cs i) s
  unfolding ClosedSorted argument
  argument_closed none_left [] i k h = clash (cc)
  argument_closed none_left (x ∷ G) i k h = absurd k
  argument_closed (and_then c cs) [] i k h = absurd k
  argument_closed (and_then c cs) (x ∷ G) zero {s} k h = let same : x ≡ s = cc in subst (ClosedSorted c) same k.0
  argument_closed (and_then c cs) (x ∷ G) (suc i) k h = argument_closed cs G i k.1 h

  mutual
    unfolding TermSorted put_in ClosedSorted

    put_closed : (t : Term) (G : List Sort) (s : Sort) (cs : Closeds) → TermSorted P t G s → ClosedsSorted cs G → ClosedSorted (put_in t cs) s
    put_closed (arg i) G s cs h k = argument_closed cs G i k h
    put_closed (op o ts) G s cs h k = (h.0, h.1, put_all_closed ts G (domain o) cs h.2 k)
    put_closed (cond t x y) G s cs h k = (put_closed t G yes_no cs h.0 k, put_closed x G s cs h.1 k, put_closed y G s cs h.2 k)
    put_closed (call f ss ws) G s cs h k = (h.0, h.1, h.2, put_all_closed ss G _ cs h.3 k, put_all_closed ws G _ cs h.4 k)

    put_all_closed : (ts : Terms) (G S : List Sort) (cs : Closeds) → RowSorted P ts G S → ClosedsSorted cs G → ClosedsSorted (put_all_in ts cs) S
    put_all_closed nil G [] cs h k = tt
    put_all_closed nil G (s ∷ S) cs h k = absurd h
    put_all_closed (cons t ts) G [] cs h k = absurd h
    put_all_closed (cons t ts) G (s ∷ S) cs h k = (put_closed t G s cs h.0 k, put_all_closed ts G S cs h.1 k)

  vals_closed : (vs : List ℕ) (S : List Sort) → OfSorts S vs → ClosedsSorted (vals vs) S
  unfolding OfSorts vals ClosedSorted
  vals_closed [] [] h = tt
  vals_closed [] (s ∷ S) h = absurd h
  vals_closed (v ∷ vs) [] h = absurd h
  vals_closed (v ∷ vs) (s ∷ S) h = (h.0, vals_closed vs S h.1)

  joined_closed : (vs : List ℕ) (ws : Closeds) (S S' : List Sort) → OfSorts S vs → ClosedsSorted ws S' → ClosedsSorted (vals vs followed_by ws) (S ++ S')
  unfolding OfSorts vals ClosedSorted ◌followed_by◌
  joined_closed [] ws [] S' h k = k
  joined_closed [] ws (s ∷ S) S' h k = absurd h
  joined_closed (v ∷ vs) ws [] S' h k = absurd h
  joined_closed (v ∷ vs) ws (s ∷ S) S' h k = (h.0, joined_closed vs ws S S' h.1 k)

  -- One rewrite.

  value_fine : (s : Sort) (x : Applied) → Result s x → Fine (to_value x) s
  unfolding Fine to_value ClosedSorted
  value_fine s (gives v) (inl w) = subst (OfSort s) (one w.1) w.2
    where
      one : {u : ℕ} → gives v ≡ gives u → u ≡ v
      one e = cc
  value_fine s (gives v) (inr z) = clash (cc)
  value_fine s by_zero r = tt
  value_fine s unfit (inl w) = clash (cc w.1)
  value_fine s unfit (inr z) = clash (cc)

  op_fine : (o : Op) (m : RowRewrite) → ConstantSorted o → RowFine m (domain o) → Fine (rewrite_op o m) (range o)
  unfolding Fine RowFine rewrite_op ClosedSorted
  op_fine o (are_values vs) k h = value_fine (range o) (apply o vs) (apply_sorted o k vs h)
  op_fine o (become cs) k h = (refl, k, h)
  op_fine o row_meets_zero k h = tt
  op_fine o no_rules k h = absurd h

  cond_fine : (m : Rewrite) (x y : Closed) (s : Sort) → Fine m yes_no → ClosedSorted x s → ClosedSorted y s → Fine (rewrite_cond m x y) s
  unfolding Fine rewrite_cond branch ClosedSorted OfSort
  cond_fine (is_value zero) x y s h k l = l
  cond_fine (is_value (suc zero)) x y s h k l = k
  cond_fine (is_value (suc (suc n))) x y s h k l = absurd (omega arith)
  cond_fine (becomes c) x y s h k l = (h, k, l)
  cond_fine meets_zero x y s h k l = tt
  cond_fine no_rule x y s h k l = absurd h

  first_fine : (m : Rewrite) (cs : Closeds) (ms : RowRewrite) (s : Sort) (S : List Sort) → Fine m s → ClosedsSorted cs S → RowFine ms S
      → RowFine (in_row m cs ms) (s ∷ S)
  unfolding Fine RowFine in_row after_value ClosedSorted OfSorts
  first_fine (is_value v) cs (are_values vs) s S h k l = (h, l)
  first_fine (is_value v) cs (become ds) s S h k l = (h, l)
  first_fine (is_value v) cs row_meets_zero s S h k l = tt
  first_fine (is_value v) cs no_rules s S h k l = absurd l
  first_fine (becomes c) cs ms s S h k l = (h, k)
  first_fine meets_zero cs ms s S h k l = tt
  first_fine no_rule cs ms s S h k l = absurd h

  module _ (ok-P : Sorted P) where
    call_fine : (f : ℕ) (F : Function) (m : RowRewrite) (ws : Closeds) → get_elem? P f ≡ some F → RowFine m (take F.strict F.sorts)
        → ClosedsSorted ws (drop F.strict F.sorts) → Fine (rewrite_call P f m ws) F.result
    unfolding Fine RowFine rewrite_call body_of ClosedSorted
    call_fine f F (are_values vs) ws e h k =
        rw e (put_closed F.body F.sorts F.result (vals vs followed_by ws) (ok-P f F e).1 (subst (ClosedsSorted (vals vs followed_by ws)) (take-append-drop F.strict F.sorts) (joined_closed vs ws (take F.strict F.sorts) (drop F.strict F.sorts) h k)))
    call_fine f F (become cs) ws e h k = (F, e, refl, h, k)
    call_fine f F row_meets_zero ws e h k = tt
    call_fine f F no_rules ws e h k = absurd h

    mutual
      unfolding rewrite ClosedSorted Fine RowFine OfSorts

      rewrite_fine : (c : Closed) (s : Sort) → ClosedSorted c s → Fine (rewrite P c) s
      rewrite_fine (val v) s h = h
      rewrite_fine (op_of o cs) s h = subst (Fine (rewrite_op o (rewrite_row P cs))) h.0 (op_fine o (rewrite_row P cs) h.1 (row_rewrite_fine cs (domain o) h.2))
      rewrite_fine (cond_of c x y) s h = cond_fine (rewrite P c) x y s (rewrite_fine c yes_no h.0) h.1 h.2
      rewrite_fine (call_of f ss ws) s h =
          subst (Fine (rewrite_call P f (rewrite_row P ss) ws)) h.2 (call_fine f h.0 (rewrite_row P ss) ws h.1 (row_rewrite_fine ss _ h.3) h.4)

      row_rewrite_fine : (cs : Closeds) (S : List Sort) → ClosedsSorted cs S → RowFine (rewrite_row P cs) S
      row_rewrite_fine none_left [] h = tt
      row_rewrite_fine none_left (s ∷ S) h = absurd h
      row_rewrite_fine (and_then c cs) [] h = absurd h
      row_rewrite_fine (and_then c cs) (s ∷ S) h = first_fine (rewrite P c) cs (rewrite_row P cs) s S (rewrite_fine c s h.0) h.1 (row_rewrite_fine cs S h.1)

    -- n rewrites.
    abbrev pub OneOf : ℕ → Closed → Type 0
    OneOf n c =
        ((m v : ℕ) × (m ≤ n) × Reaches P c m v) ⊎ (((m : ℕ) × (m ≤ n) × MeetsZero P c m) ⊎ ((d : Closed) × (rewrite_times P n c ≡ becomes d)))

    one_later : (n : ℕ) (c d : Closed) → rewrite P c ≡ becomes d → OneOf n d → OneOf (suc n) c
    unfolding Reaches MeetsZero rewrite_times from_there
    one_later n c d e (inl w) = inl (suc w.0, w.1, omega (arith, w.2), ap (λ x. from_there x (rewrite_times P w.0)) e ∙ w.3)
    one_later n c d e (inr (inl w)) = inr (inl (suc w.0, omega (arith, w.1), ap (λ x. from_there x (rewrite_times P w.0)) e ∙ w.2))
    one_later n c d e (inr (inr w)) = inr (inr (w.0, ap (λ x. from_there x (rewrite_times P n)) e ∙ w.1))

    by_one : (n : ℕ) (c : Closed) (s : Sort) (x : Rewrite) → rewrite P c ≡ x → Fine x s → ((d : Closed) → rewrite P c ≡ becomes d → ClosedSorted d s → OneOf n c)
        → OneOf n c
    unfolding Fine Reaches MeetsZero rewrite_times
    by_one n c s (is_value v) e k rec = inl (0, v, omega arith, e)
    by_one n c s (becomes d) e k rec = rec d e k
    by_one n c s meets_zero e k rec = inr (inl (0, omega arith, e))
    by_one n c s no_rule e k rec = absurd k

    one_of : (n : ℕ) (c : Closed) (s : Sort) → ClosedSorted c s → OneOf n c
    unfolding rewrite_times
    one_of zero c s h = by_one zero c s (rewrite P c) refl (rewrite_fine c s h) (λ d e k. inr (inr (d, e)))
    one_of (suc n) c s h = by_one (suc n) c s (rewrite P c) refl (rewrite_fine c s h) (λ d e k. one_later n c d e (one_of n d s k))

    pub started : (t : Term) (G : List Sort) (s : Sort) (vs : List ℕ) → TermSorted P t G s → OfSorts G vs → (n : ℕ) → OneOf n (put_in t (vals vs))
    started t G s vs h k n = one_of n (put_in t (vals vs)) s (put_closed t G s (vals vs) h (vals_closed vs G k))
