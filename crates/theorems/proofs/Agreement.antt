-- Trees and leftmost rewriting agree: a tree's term reaches its value in the tree's rewrites, and where a sorted term reaches a value there is a tree
-- with as many. Assumes nothing.
use mathlib.Core.Path.{◌≡◌, refl, ap, sym, ◌∙◌, subst}
use mathlib.Core.Logic.{inl, inr}
use mathlib.Core.Option.{Option, some}
use mathlib.Core.List.{List, [], ◌∷◌}
use Prim.Native.Nat.{ℕ, zero, suc, ◌≤◌, ◌<◌}
use native.Mathlib.Omega.{arith}
use lib.ListN.{take, get_elem?}
use Rattle.meaning.specs.Arithmetic.{Sort, yes_no, domain, range}
use Rattle.meaning.specs.Terms.{Term, arg, op, cond, call, Terms, nil, cons, Function, Program}
use Rattle.meaning.specs.Rewriting.{val, Closeds, none_left, and_then, ◌followed_by◌, argument, put_in, put_all_in, vals, rewrite}
use Rattle.theorems.proofs.Splitting.{clash, counted, Leads, arrived, RowLeads, row_arrived, row_leads, op_leads, yes_leads, no_leads, call_leads, value_parts, op_parts, cond_parts, call_parts, row_parts, no_parts}
use Rattle.theorems.proofs.Trees.{Argument, given, waits, Chain, bottom, push, all_wait, call_frame, Tree, entry_argument, value_argument, waiting_argument, operation, yes_branch, no_branch, body, Row, done, then, cost, row_cost}
use Rattle.theorems.proofs.Sorts.{OfSort, OfSorts, TermSorted, RowSorted, Sorted, ArgumentSorted, FrameSorted, ChainSorted, value_there, argument_there, call_frame_sorted, apply_sorted, result_sorted}

-- The closed terms that a chain stands for: what is put in for the arguments of a term that stands in it.
unfoldable pub frame_read : List Argument → Closeds → Closeds
frame_read [] cs = none_left
frame_read (given v ∷ f) cs = and_then (val v) (frame_read f cs)
frame_read (waits t ∷ f) cs = and_then (put_in t cs) (frame_read f cs)

unfoldable pub chain_read : Chain → Closeds
chain_read (bottom vs) = vals vs
chain_read (push f e) = frame_read f (chain_read e)

pub entry_read : (vs : List ℕ) (i : ℕ) {v : ℕ} → get_elem? vs i ≡ some v → argument (vals vs) i ≡ val v
unfolding argument vals
entry_read [] i h = clash (cc)
entry_read (x ∷ vs) zero h = cc
entry_read (x ∷ vs) (suc i) h = entry_read vs i h

pub given_read : (f : List Argument) (cs : Closeds) (i : ℕ) {v : ℕ} → get_elem? f i ≡ some (given v) → argument (frame_read f cs) i ≡ val v
unfolding argument frame_read
given_read [] cs i h = clash (cc)
given_read (given x ∷ f) cs zero h = cc
given_read (waits x ∷ f) cs zero h = clash (cc)
given_read (given x ∷ f) cs (suc i) h = given_read f cs i h
given_read (waits x ∷ f) cs (suc i) h = given_read f cs i h

pub waits_read : (f : List Argument) (cs : Closeds) (i : ℕ) {t : Term} → get_elem? f i ≡ some (waits t) → argument (frame_read f cs) i ≡ put_in t cs
unfolding argument frame_read
waits_read [] cs i h = clash (cc)
waits_read (given x ∷ f) cs zero h = clash (cc)
waits_read (waits x ∷ f) cs zero h = cc
waits_read (given x ∷ f) cs (suc i) h = waits_read f cs i h
waits_read (waits x ∷ f) cs (suc i) h = waits_read f cs i h

all_wait_read : (ws : Terms) (cs : Closeds) → frame_read (all_wait ws) cs ≡ put_all_in ws cs
unfolding frame_read all_wait put_all_in
all_wait_read nil cs = refl
all_wait_read (cons t ws) cs = ap (and_then (put_in t cs)) (all_wait_read ws cs)

pub call_frame_read : (vs : List ℕ) (ws : Terms) (cs : Closeds) → frame_read (call_frame vs ws) cs ≡ vals vs followed_by put_all_in ws cs
unfolding frame_read call_frame vals ◌followed_by◌
call_frame_read [] ws cs = all_wait_read ws cs
call_frame_read (v ∷ vs) ws cs = ap (and_then (val v)) (call_frame_read vs ws cs)

-- From trees to rewriting.

module _ {P : Program} where
  mutual
    unfolding cost put_in chain_read rewrite

    pub tree_leads : {e : Chain} {t : Term} {v : ℕ} (d : Tree P e t v) → Leads P (put_in t (chain_read e)) (cost d) v
    tree_leads (entry_argument {vs = vs} {i = i} h) = arrived (ap (rewrite P) (entry_read vs i h))
    tree_leads (value_argument {f = f} {e = e} {i = i} h) = arrived (ap (rewrite P) (given_read f (chain_read e) i h))
    tree_leads (waiting_argument {f = f} {e = e} {i = i} h d) = rw (waits_read f (chain_read e) i h) (counted (omega arith) (tree_leads d))
    tree_leads (operation ds h) = counted (omega arith) (op_leads (row_tree_leads ds) h)
    tree_leads (yes_branch d d') = counted (omega arith) (yes_leads (tree_leads d) (tree_leads d'))
    tree_leads (no_branch d d') = counted (omega arith) (no_leads (tree_leads d) (tree_leads d'))
    tree_leads (body {e = e} {ws = ws} {vs = vs} ds h d) =
        counted (omega arith) (call_leads (row_tree_leads ds) h (rw (call_frame_read vs ws (chain_read e)) at (tree_leads d)))

    pub row_tree_leads : {e : Chain} {ts : Terms} {vs : List ℕ} (ds : Row P e ts vs)
        → RowLeads P (put_all_in ts (chain_read e)) (row_cost ds) vs
    row_tree_leads done = row_arrived refl
    row_tree_leads (then d ds) = row_leads (tree_leads d) (row_tree_leads ds)

-- From rewriting to trees: by the number of rewrites, then by the length of the chain (a waiting argument keeps the number and loses a frame), then by the term.

pub one_function : {x : Option Function} (F G : Function) → x ≡ some F → x ≡ some G → F ≡ G
one_function F G h k = cc

module _ (P : Program) where
  abbrev pub Found : Chain → Term → Sort → ℕ → ℕ → Type 0
  Found e t s n v = (d : Tree P e t v) × (cost d ≡ n) × OfSort s v

  abbrev FoundBelow : ℕ → Type 0
  FoundBelow N =
      (e : Chain) (t : Term) (G : List Sort) (s : Sort) (n v : ℕ) → n < N → ChainSorted P e G → TermSorted P t G s → Leads P (put_in t (chain_read e)) n v → Found e t s n v

  row_found : (N : ℕ) → FoundBelow N → (e : Chain) (ts : Terms) (G S : List Sort) (m : ℕ) (us : List ℕ) → m < N → ChainSorted P e G
      → RowSorted P ts G S → RowLeads P (put_all_in ts (chain_read e)) m us
      → (ds : Row P e ts us) × (row_cost ds ≡ m) × OfSorts S us
  unfolding cost RowSorted put_in OfSorts
  row_found N below e nil G [] m us lt ok ft r = let p = no_parts r in rw (p.0, p.1) (done, refl, tt)
  row_found N below e nil G (s ∷ S) m us lt ok ft r = absurd ft
  row_found N below e (cons t ts) G [] m us lt ok ft r = absurd ft
  row_found N below e (cons t ts) G (s ∷ S) m us lt ok ft r =
      let q = row_parts r refl in
      let d = below e t G s q.0 q.2 (omega (arith, q.4)) ok ft.0 q.6 in
      let ds = row_found N below e ts G S q.1 q.3 (omega (arith, q.4)) ok ft.1 q.7 in
      rw q.5 (then d.0 ds.0, omega (arith, q.4, d.1, ds.1), (d.2, ds.2))

  entry_found : (vs : List ℕ) (G : List Sort) (s : Sort) (n v i : ℕ) → OfSorts G vs → get_elem? G i ≡ some s → Leads P (argument (vals vs) i) n v
      → Found (bottom vs) (arg i) s n v
  unfolding cost
  entry_found vs G s n v i ok ft r =
      let p = value_there G vs i ok ft in
      let q = value_parts r (entry_read vs i p.1) in
      (entry_argument (p.1 ∙ ap some q.1), sym q.0, subst (OfSort s) q.1 p.2)

  argument_found : (f : List Argument) (e : Chain) (G S : List Sort) (s : Sort) (n v : ℕ) → FrameSorted P f G S
      → ((t : Term) → TermSorted P t G s → Leads P (put_in t (chain_read e)) n v → Found e t s n v)
      → (i : ℕ) → get_elem? S i ≡ some s → Leads P (argument (frame_read f (chain_read e)) i) n v → Found (push f e) (arg i) s n v
  unfolding cost ArgumentSorted
  argument_found f e G S s n v ok shorter i ft r = let p = argument_there P f G S i ok ft in go p.0 p.1 p.2
    where
      go : (x : Argument) → get_elem? f i ≡ some x → ArgumentSorted P x G s → Found (push f e) (arg i) s n v
      go (given x) h k =
          let q = value_parts r (given_read f (chain_read e) i h) in (value_argument (h ∙ ap (λ y. some (given y)) q.1), sym q.0, subst (OfSort s) q.1 k)
      go (waits t) h k = let q = shorter t k (rw (waits_read f (chain_read e) i h) at r) in (waiting_argument h q.0, omega (arith, q.1), q.2)

  module _ (ok-P : Sorted P) (N : ℕ) (below : FoundBelow N) where
    term_found : (e : Chain) (t : Term) (G : List Sort) (s : Sort) (n v : ℕ) → n ≤ N → ChainSorted P e G → TermSorted P t G s
        → ((i : ℕ) → get_elem? G i ≡ some s → Leads P (argument (chain_read e) i) n v → Found e (arg i) s n v)
        → Leads P (put_in t (chain_read e)) n v → Found e t s n v
    unfolding cost TermSorted put_in ChainSorted chain_read
    term_found e (arg i) G s n v le ok ft here r = here i ft r
    term_found e (op o ts) G s n v le ok ft here r =
        let q = op_parts r refl in
        let ds = row_found N below e ts G (domain o) q.0 q.1 (omega (arith, q.2)) ok ft.2 q.3 in
        (operation ds.0 q.4, omega (arith, q.2, ds.1), subst (λ x. OfSort x v) ft.0 (result_sorted (range o) (apply_sorted o ft.1 q.1 ds.2) q.4))
    term_found e (cond t x y) G s n v le ok ft here r =
        let q = cond_parts r refl in
        elim q.3 [
          | inl z ↦
              (let d = below e t G yes_no q.0 1 (omega (arith, q.2)) ok ft.0 z.0 in
              let d' = below e x G s q.1 v (omega (arith, q.2)) ok ft.1 z.1 in
              (yes_branch d.0 d'.0, omega (arith, q.2, d.1, d'.1), d'.2))
          | inr z ↦
              (let d = below e t G yes_no q.0 0 (omega (arith, q.2)) ok ft.0 z.0 in
              let d' = below e y G s q.1 v (omega (arith, q.2)) ok ft.2 z.1 in
              (no_branch d.0 d'.0, omega (arith, q.2, d.1, d'.1), d'.2))
        ]
    term_found e (call f ss ws) G s n v le ok ft here r =
        let q = call_parts r refl in
        let F = ft.0 in
        let ds = row_found N below e ss G (take F.strict F.sorts) q.0 q.2 (omega (arith, q.4)) ok ft.3 q.5 in
        let in_body : Leads P (put_in F.body (frame_read (call_frame q.2 ws) (chain_read e))) q.1 v =
        rw (call_frame_read q.2 ws (chain_read e)) (subst (λ (H : Function). Leads P (put_in H.body (vals q.2 followed_by put_all_in ws (chain_read e))) q.1 v) (one_function q.3 F q.6 ft.1) q.7) in
        let d = below (push (call_frame q.2 ws) e) F.body F.sorts F.result q.1 v (omega (arith, q.4)) (G, ok, call_frame_sorted P F q.2 ws G ds.2 ft.4) (ok-P f F ft.1).1 in_body in (
          body ds.0 ft.1 d.0,
          omega (arith, q.4, ds.1, d.1),
          subst (λ x. OfSort x v) ft.2 d.2,
        )

    chain_found : (e : Chain) (t : Term) (G : List Sort) (s : Sort) (n v : ℕ) → n ≤ N → ChainSorted P e G → TermSorted P t G s
        → Leads P (put_in t (chain_read e)) n v → Found e t s n v
    unfolding ChainSorted chain_read cost
    chain_found (bottom vs) t G s n v le ok ft r = term_found (bottom vs) t G s n v le ok ft (λ i. entry_found vs G s n v i ok) r
    chain_found (push f e) t G s n v le ok ft r =
        term_found (push f e) t G s n v le ok ft (argument_found f e ok.0 G s n v ok.2 (λ u fu. chain_found e u ok.0 s n v le ok.1 fu)) r

  found_below : Sorted P → (N : ℕ) → FoundBelow N
  found_below ok-P zero e t G s n v lt = absurd (omega arith)
  found_below ok-P (suc N) e t G s n v lt = chain_found ok-P N (found_below ok-P N) e t G s n v (omega arith)

  -- The same of any number of rewrites, and of a row.
  pub any_found : Sorted P → (e : Chain) (t : Term) (G : List Sort) (s : Sort) (n v : ℕ) → ChainSorted P e G → TermSorted P t G s
      → Leads P (put_in t (chain_read e)) n v → Found e t s n v
  any_found ok-P e t G s n v = found_below ok-P (suc n) e t G s n v (omega arith)

  pub any_row_found : Sorted P → (e : Chain) (ts : Terms) (G S : List Sort) (m : ℕ) (us : List ℕ) → ChainSorted P e G → RowSorted P ts G S
      → RowLeads P (put_all_in ts (chain_read e)) m us → (ds : Row P e ts us) × (row_cost ds ≡ m) × OfSorts S us
  any_row_found ok-P e ts G S m us = row_found (suc m) (found_below ok-P (suc m)) e ts G S m us (omega arith)

  pub tree_found : Sorted P → (vs : List ℕ) (t : Term) (G : List Sort) (s : Sort) {n v : ℕ} → OfSorts G vs → TermSorted P t G s
      → Leads P (put_in t (vals vs)) n v
      → (d : Tree P (bottom vs) t v) × (cost d ≡ n)
  unfolding ChainSorted chain_read
  tree_found ok-P vs t G s {n} {v} ok ft r = let p = found_below ok-P (suc n) (bottom vs) t G s n v (omega arith) ok ft r in (p.0, p.1)
