-- Falls and leftmost rewriting agree: the term of a fall meets a division by 0 after the fall's rewrites, and where a sorted term meets one there is a fall
-- with as many. Assumes nothing.
use mathlib.Core.Path.{◌≡◌, refl, subst}
use mathlib.Core.Logic.{inl, inr}
use mathlib.Core.Option.{some}
use mathlib.Core.List.{List, [], ◌∷◌}
use Prim.Native.Nat.{ℕ, zero, suc, ◌≤◌, ◌<◌}
use native.Mathlib.Omega.{arith}
use lib.ListN.{take, get_elem?}
use Rattle.meaning.specs.Arithmetic.{Sort, yes_no, domain}
use Rattle.meaning.specs.Terms.{Term, arg, op, cond, call, Terms, nil, cons, Function, Program}
use Rattle.meaning.specs.Rewriting.{◌followed_by◌, argument, put_in, put_all_in, vals}
use Rattle.theorems.proofs.Breaking.{Breaks, RowBreaks, first_breaks, later_breaks, operand_breaks, division_breaks, condition_breaks, yes_breaks, no_breaks, strict_breaks, body_breaks, value_whole, none_whole, op_broken, cond_broken, call_broken, row_parted}
use Rattle.theorems.proofs.Trees.{Argument, given, waits, Chain, bottom, push, call_frame, Fall, in_waiting, in_operand, divides, in_condition, in_yes_branch, in_no_branch, in_strict, in_body, RowFall, at_first, at_later, fall_cost, row_fall_cost}
use Rattle.theorems.proofs.Sorts.{OfSorts, TermSorted, RowSorted, Sorted, ArgumentSorted, ChainSorted, value_there, argument_there, call_frame_sorted}
use Rattle.theorems.proofs.Agreement.{frame_read, chain_read, entry_read, given_read, waits_read, call_frame_read, tree_leads, row_tree_leads, any_found, any_row_found, one_function}

-- From falls to rewriting.

module _ {P : Program} where
  mutual
    unfolding fall_cost put_in chain_read

    pub fall_breaks : {e : Chain} {t : Term} (d : Fall P e t) → Breaks P (put_in t (chain_read e)) (fall_cost d)
    fall_breaks (in_waiting {f = f} {e = e} {i = i} h d) = rw (waits_read f (chain_read e) i h) (fall_breaks d)
    fall_breaks (in_operand ds) = operand_breaks (row_fall_breaks ds)
    fall_breaks (divides ds h) = division_breaks (row_tree_leads ds) h
    fall_breaks (in_condition d) = condition_breaks (fall_breaks d)
    fall_breaks (in_yes_branch d d') = yes_breaks (tree_leads d) (fall_breaks d')
    fall_breaks (in_no_branch d d') = no_breaks (tree_leads d) (fall_breaks d')
    fall_breaks (in_strict ds) = strict_breaks (row_fall_breaks ds)
    fall_breaks (in_body {e = e} {ws = ws} {vs = vs} ds h d) =
        body_breaks (row_tree_leads ds) h (rw (call_frame_read vs ws (chain_read e)) at (fall_breaks d))

    row_fall_breaks : {e : Chain} {ts : Terms} (ds : RowFall P e ts) → RowBreaks P (put_all_in ts (chain_read e)) (row_fall_cost ds)
    row_fall_breaks (at_first d) = first_breaks (fall_breaks d)
    row_fall_breaks (at_later d ds) = later_breaks (tree_leads d) (row_fall_breaks ds)

-- From rewriting to falls: by the number of rewrites, then by the length of the chain, then by the term.

module _ (P : Program) (ok-P : Sorted P) where
  abbrev FallFound : Chain → Term → ℕ → Type 0
  FallFound e t n = (d : Fall P e t) × (fall_cost d ≡ n)

  abbrev FallBelow : ℕ → Type 0
  FallBelow N = (e : Chain) (t : Term) (G : List Sort) (s : Sort) (n : ℕ) → n < N → ChainSorted P e G → TermSorted P t G s → Breaks P (put_in t (chain_read e)) n → FallFound e t n

  module _ (N : ℕ) (below : FallBelow N) where
    -- What is asked of the arguments that a chain of the sorts G stands for.
    abbrev Here : Chain → List Sort → Type 0
    Here e G = (i : ℕ) (s : Sort) (n : ℕ) → n ≤ N → get_elem? G i ≡ some s → Breaks P (argument (chain_read e) i) n → FallFound e (arg i) n

    mutual
      unfolding fall_cost TermSorted put_in ChainSorted chain_read

      term_fall : (e : Chain) (t : Term) (G : List Sort) (s : Sort) (n : ℕ) → n ≤ N → ChainSorted P e G → TermSorted P t G s → Here e G
          → Breaks P (put_in t (chain_read e)) n → FallFound e t n
      term_fall e (arg i) G s n le ok ft here r = here i s n le ft r
      term_fall e (op o ts) G s n le ok ft here r =
          elim (op_broken r refl) [
            | inl q ↦ (let d = row_fall e ts G (domain o) n le ok ft.2 here q in (in_operand d.0, d.1))
            | inr q ↦ (let ds = any_row_found P ok-P e ts G (domain o) n q.0 ok ft.2 q.1 in (divides ds.0 q.2, ds.1))
          ]
      term_fall e (cond t x y) G s n le ok ft here r =
          elim (cond_broken r refl) [
            | inl q ↦ (let d = term_fall e t G yes_no n le ok ft.0 here q in (in_condition d.0, d.1))
            | inr q ↦
                elim q.3 [
                  | inl z ↦
                      (let d = any_found P ok-P e t G yes_no q.0 1 ok ft.0 z.0 in
                      let d' = below e x G s q.1 (omega (arith, q.2)) ok ft.1 z.1 in
                      (in_yes_branch d.0 d'.0, omega (arith, q.2, d.1, d'.1)))
                  | inr z ↦
                      (let d = any_found P ok-P e t G yes_no q.0 0 ok ft.0 z.0 in
                      let d' = below e y G s q.1 (omega (arith, q.2)) ok ft.2 z.1 in
                      (in_no_branch d.0 d'.0, omega (arith, q.2, d.1, d'.1)))
                ]
          ]
      term_fall e (call f ss ws) G s n le ok ft here r =
          let F = ft.0 in
          elim (call_broken r refl) [
            | inl q ↦ (let d = row_fall e ss G (take F.strict F.sorts) n le ok ft.3 here q in (in_strict d.0, d.1))
            | inr q ↦
                (let ds = any_row_found P ok-P e ss G (take F.strict F.sorts) q.0 q.2 ok ft.3 q.5 in
                let in_it : Breaks P (put_in F.body (frame_read (call_frame q.2 ws) (chain_read e))) q.1 =
                rw (call_frame_read q.2 ws (chain_read e)) (subst (λ (H : Function). Breaks P (put_in H.body (vals q.2 followed_by put_all_in ws (chain_read e))) q.1) (one_function q.3 F q.6 ft.1) q.7) in
                let d = below (push (call_frame q.2 ws) e) F.body F.sorts F.result q.1 (omega (arith, q.4)) (G, ok, call_frame_sorted P F q.2 ws G ds.2 ft.4) (ok-P f F ft.1).1 in_it in
                (in_body ds.0 ft.1 d.0, omega (arith, q.4, ds.1, d.1)))
          ]

      row_fall : (e : Chain) (ts : Terms) (G S : List Sort) (n : ℕ) → n ≤ N → ChainSorted P e G → RowSorted P ts G S → Here e G
          → RowBreaks P (put_all_in ts (chain_read e)) n → (ds : RowFall P e ts) × (row_fall_cost ds ≡ n)
      row_fall e nil G S n le ok ft here r = absurd (none_whole r)
      row_fall e (cons t ts) G [] n le ok ft here r = absurd ft
      row_fall e (cons t ts) G (s ∷ S) n le ok ft here r =
          elim (row_parted r refl) [
            | inl q ↦ (let d = term_fall e t G s n le ok ft.0 here q in (at_first d.0, d.1))
            | inr q ↦
                (let d = any_found P ok-P e t G s q.0 q.2 ok ft.0 q.4 in
                let ds = row_fall e ts G S q.1 (omega (arith, q.3, le)) ok ft.1 here q.5 in
                (at_later d.0 ds.0, omega (arith, q.3, d.1, ds.1)))
          ]

    abbrev Shorter : Chain → List Sort → Type 0
    Shorter e G = (u : Term) (s : Sort) (m : ℕ) → m ≤ N → TermSorted P u G s → Breaks P (put_in u (chain_read e)) m → FallFound e u m

    chain_fall : (e : Chain) (t : Term) (G : List Sort) (s : Sort) (n : ℕ) → n ≤ N → ChainSorted P e G → TermSorted P t G s
        → Breaks P (put_in t (chain_read e)) n → FallFound e t n
    unfolding ChainSorted chain_read fall_cost ArgumentSorted
    chain_fall (bottom vs) t G s n le ok ft r =
        term_fall (bottom vs) t G s n le ok ft (λ i s' m l h b. let p = value_there G vs i ok h in absurd (value_whole b (entry_read vs i p.1))) r
    chain_fall (push f e) t G s n le ok ft r = term_fall (push f e) t G s n le ok ft (below_it (λ u s' m l k b. chain_fall e u ok.0 s' m l ok.1 k b)) r
      where
        of : Shorter e ok.0 → (i : ℕ) (s' : Sort) (m : ℕ) → m ≤ N → Breaks P (argument (frame_read f (chain_read e)) i) m → (x : Argument) → get_elem? f i ≡ some x
            → ArgumentSorted P x ok.0 s' → FallFound (push f e) (arg i) m
        of shorter i s' m l b (given v) h k = absurd (value_whole b (given_read f (chain_read e) i h))
        of shorter i s' m l b (waits u) h k = let d = shorter u s' m l k (rw (waits_read f (chain_read e) i h) at b) in (in_waiting h d.0, d.1)

        below_it : Shorter e ok.0 → Here (push f e) G
        below_it shorter i s' m l h b = let p = argument_there P f ok.0 G i ok.2 h in of shorter i s' m l b p.0 p.1 p.2

  fall_below : (N : ℕ) → FallBelow N
  fall_below zero e t G s n lt = absurd (omega arith)
  fall_below (suc N) e t G s n lt = chain_fall N (fall_below N) e t G s n (omega arith)

  pub fall_found : (vs : List ℕ) (t : Term) (G : List Sort) (s : Sort) {n : ℕ} → OfSorts G vs → TermSorted P t G s → Breaks P (put_in t (vals vs)) n
      → (d : Fall P (bottom vs) t) × (fall_cost d ≡ n)
  unfolding ChainSorted chain_read
  fall_found vs t G s {n} ok ft r = fall_below (suc n) (bottom vs) t G s n (omega arith) ok ft r
