-- Fifth: machine to trees. From the entrance of a sorted term the machine has a tree's value or a fall's division by 0 to come to, or goes on for as many
-- steps as one likes: it never stands without a next step elsewhere, and never stops with anything else. By the number of steps. Assumes nothing.
use mathlib.Core.Path.{◌≡◌, subst}
use mathlib.Core.Logic.{◌⊎◌, inl, inr, ⊎_elim, ⊎_map}
use mathlib.Core.Option.{Option, some}
use mathlib.Core.List.{List, [], ◌∷◌, ◌++◌, map}
use Prim.Native.Nat.{ℕ, zero, suc, ◌+◌, ◌≤◌, ◌<◌}
use native.Mathlib.Omega.{arith}
use lib.ListN.{take, get_elem?}
use Rattle.meaning.specs.Arithmetic.{Sort, yes_no, Op, domain}
use Rattle.meaning.specs.Terms.{Term, arg, op, cond, call, Terms, nil, cons, Program}
use Rattle.meaning.specs.Code.{size, sizes, entrance, row_entrance, entrances, Instruction}
use Rattle.meaning.specs.Machine.{value, waiting, Environment, Place, at, State, state}
use Rattle.theorems.proofs.Trees.{Argument, given, waits, Chain, bottom, push, call_frame, Tree, entry_argument, value_argument, waiting_argument, operation, yes_branch, no_branch, body, Row, done, then, row_length, Fall, in_waiting, in_operand, divides, in_condition, in_yes_branch, in_no_branch, in_strict, in_body, RowFall, at_first, at_later}
use Rattle.theorems.proofs.Sorts.{OfSort, OfSorts, TermSorted, RowSorted, Sorted, ArgumentSorted, ChainSorted, value_there, argument_there, call_frame_sorted, apply_sorted}
use Rattle.theorems.proofs.Courses.{Goes, stay, ◌▸◌, Comes, comes, ◌▹◌}
use Rattle.theorems.proofs.Holding.{HoldsTerm, HoldsStrict, Loaded}
use Rattle.theorems.proofs.ToMachine.{ChainFor, of_push, waits_slot, call_frame_for, waiting_step, choose_yes, choose_no, call_step, tree_goes, row_goes}

-- Within N steps from s there is an A, or the machine makes at least N steps.
pub data Within (C : ℕ → Option Instruction) (A : Type 0) (N : ℕ) (s : State) : Type 0 where
  found : A → Within C A N s
  goes_on : (m r : ℕ) (s' : State) → N ≤ m → Goes C s m r s' → Within C A N s

module _ {C : ℕ → Option Instruction} where
  after : {A B : Type 0} {N N' k q : ℕ} {s s' : State} → Goes C s k q s' → N ≤ k + N' → (A → B) → Within C A N' s' → Within C B N s
  after g h f (found x) = found (f x)
  after {k = k} {q = q} g h f (goes_on m r s' l g') = goes_on (k + m) (q + r) s' (omega arith) (g ▸ g')

  along : {A B : Type 0} {N q : ℕ} {s s' : State} → Comes C s q s' → (A → B) → Within C A N s' → Within C B N s
  along (comes g) f x = after g (omega arith) f x

  with_it : {A B : Type 0} {N : ℕ} {s : State} → Within C A N s → (A → Within C B N s) → Within C B N s
  with_it (found x) f = f x
  with_it (goes_on m r s' l g) f = goes_on m r s' l g

module _ (P : Program) where
  -- A value of a term, with its tree, or a division by 0 that it meets.
  abbrev pub Value : Chain → Term → Sort → Type 0
  Value e t s = ((v : ℕ) × Tree P e t v × OfSort s v) ⊎ Fall P e t

  abbrev RowValue : Chain → Terms → List Sort → Type 0
  RowValue e ts S = ((vs : List ℕ) × Row P e ts vs × OfSorts S vs) ⊎ RowFall P e ts

module _ (P : Program) (C : ℕ → Option Instruction) (bodies : List ℕ) (ret : ℕ) where
  -- A term has its value within N steps, in any chain that it is sorted in and wherever the code holds it.
  abbrev pub ValueWithin : ℕ → Term → Type 0
  ValueWithin N t =
      (e : Chain) (G : List Sort) (s : Sort) (a b : ℕ) (E : Environment) (rs : List Place) (ds : List ℕ) (es : List Environment)
      → ChainSorted P e G → TermSorted P t G s → HoldsTerm C bodies ret t a b → ChainFor C bodies ret e E
      → Within C (Value P e t s) N (state (at (entrance t a)) rs ds (E ∷ es))

module _ {P : Program} {C : ℕ → Option Instruction} {bodies : List ℕ} {ret : ℕ} (L : Loaded P C bodies ret) (ok-P : Sorted P) where
  module _ (N : ℕ) (fewer : (t : Term) → ValueWithin P C bodies ret N t) where
    argument_within : (i : ℕ) → ValueWithin P C bodies ret (suc N) (arg i)
    unfolding TermSorted HoldsTerm entrance ChainSorted ArgumentSorted
    argument_within i (bottom vs) G s a b E rs ds es ok ft k r = let p = value_there G vs i ok ft in found (inl (p.0, entry_argument p.1, p.2))
    argument_within i (push f e) S s a b E rs ds es ok ft k (of_push {s = z} {E = E'} q r) =
        let p = argument_there P f ok.0 S i ok.2 ft in of p.0 p.1 p.2
      where
        of : (x : Argument) → get_elem? f i ≡ some x → ArgumentSorted P x ok.0 s
            → Within C (Value P (push f e) (arg i) s) (suc N) (state (at a) rs ds ((z ∷ E') ∷ es))
        of (given v) h u = found (inl (v, value_argument h, u))
        of (waits t) h u =
            let p = waits_slot q i h in
            after (waiting_step L k p.1) (omega arith) (⊎_map (λ w. (w.0, waiting_argument h w.1, w.2)) (in_waiting h))
            (fewer t e ok.0 s p.0 ret E' (at b ∷ rs) ds ((z ∷ E') ∷ es) ok.1 u p.2 r)

    cond_within : (t x y : Term) (s : Sort) (e : Chain) (a b : ℕ) (E : Environment) (rs : List Place) (ds : List ℕ) (es : List Environment)
        → HoldsTerm C bodies ret (cond t x y) a b → ChainFor C bodies ret e E
        → (v : ℕ) → Tree P e t v → v < 2
        → Within C (Value P e x s) (suc N) (state (at (entrance x (suc a + size t))) rs ds (E ∷ es))
        → Within C (Value P e y s) (suc N) (state (at (entrance y (suc a + size t + size x))) rs ds (E ∷ es))
        → Within C (Value P e (cond t x y) s) (suc N) (state (at (entrance t (suc a))) rs ds (E ∷ es))
    unfolding HoldsTerm
    cond_within t x y s e a b E rs ds es k r zero d l in-x in-y =
        along (tree_goes L d (suc a) a rs ds es k.1 r ▹ comes (choose_no L k.0)) (⊎_map (λ z. (z.0, no_branch d z.1, z.2)) (in_no_branch d)) in-y
    cond_within t x y s e a b E rs ds es k r (suc zero) d l in-x in-y =
        along (tree_goes L d (suc a) a rs ds es k.1 r ▹ comes (choose_yes L k.0)) (⊎_map (λ z. (z.0, yes_branch d z.1, z.2)) (in_yes_branch d)) in-x
    cond_within t x y s e a b E rs ds es k r (suc (suc v)) d l in-x in-y = absurd (omega arith)

    call_within : (f : ℕ) (ss ws : Terms) (e : Chain) (G : List Sort) (s : Sort) (a b : ℕ) (E : Environment) (rs : List Place) (ds : List ℕ)
        (es : List Environment) → ChainSorted P e G → (ft : TermSorted P (call f ss ws) G s) → HoldsTerm C bodies ret (call f ss ws) a b → ChainFor C bodies ret e E
        → (vs : List ℕ) → Row P e ss vs → OfSorts (unfold TermSorted in take ft.0.strict ft.0.sorts) vs
        → Within C (Value P e (call f ss ws) s) (suc N) (state (at (row_entrance ss (suc a) a)) rs ds (E ∷ es))
    unfolding TermSorted HoldsTerm ChainSorted
    call_within f ss ws e G s a b E rs ds es ok ft k r vs q g =
        let F = ft.0 in
        let p = L.body_held f F ft.1 in
        along (row_goes L q (suc a) a rs ds es k.1 r) (λ z. z)
        (after (call_step L vs k.0 (row_length q)) (omega arith)
        (⊎_map (λ z. (z.0, body q ft.1 z.1, subst (λ x. OfSort x z.0) ft.2 z.2)) (in_body q ft.1))
        (rw (← p.1) at
        (fewer F.body (push (call_frame vs ws) e) F.sorts F.result p.0 ret
        ((map value vs ++ map waiting (entrances ws (suc a + sizes ss))) ∷ E) (at b ∷ rs) ds (E ∷ es)
        (G, ok, call_frame_sorted P F vs ws G g ft.4) (ok-P f F ft.1).1 p.2
        (of_push (call_frame_for vs ws (suc a + sizes ss) k.2) r))))

    op_within : (o : Op) (ts : Terms) (e : Chain) (G : List Sort) (s : Sort) {st : State} → TermSorted P (op o ts) G s → (vs : List ℕ) → Row P e ts vs
        → OfSorts (domain o) vs → Within C (Value P e (op o ts) s) (suc N) st
    unfolding TermSorted
    op_within o ts e G s ft vs q g =
        elim (apply_sorted o ft.1 vs g) [
          | inl w ↦ found (inl (w.0, operation q w.1, subst (λ x. OfSort x w.0) ft.0 w.2))
          | inr z ↦ found (inr (divides q z))
        ]

    mutual
      unfolding TermSorted HoldsTerm entrance OfSort OfSorts

      term_within : (t : Term) → ValueWithin P C bodies ret (suc N) t
      term_within (arg i) e G s a b E rs ds es ok ft k r = argument_within i e G s a b E rs ds es ok ft k r
      term_within (op o ts) e G s a b E rs ds es ok ft k r =
          with_it (row_within ts e G (domain o) (suc a) a E rs ds es ok ft.2 k.1 r)
          (⊎_elim (λ z. op_within o ts e G s ft z.0 z.1 z.2) (λ d. found (inr (in_operand d))))
      term_within (cond t x y) e G s a b E rs ds es ok ft k r =
          with_it (term_within t e G yes_no (suc a) a E rs ds es ok ft.0 k.1 r)
          (⊎_elim (λ z. cond_within t x y s e a b E rs ds es k r z.0 z.1 z.2
          (term_within x e G s (suc a + size t) b E rs ds es ok ft.1 k.2 r)
          (term_within y e G s (suc a + size t + size x) b E rs ds es ok ft.2 k.3 r)) (λ d. found (inr (in_condition d))))
      term_within (call f ss ws) e G s a b E rs ds es ok ft k r =
          with_it (row_within ss e G (take ft.0.strict ft.0.sorts) (suc a) a E rs ds es ok ft.3 k.1 r)
          (⊎_elim (λ z. call_within f ss ws e G s a b E rs ds es ok ft k r z.0 z.1 z.2) (λ d. found (inr (in_strict d))))

      row_within : (ts : Terms) (e : Chain) (G S : List Sort) (a home : ℕ) (E : Environment) (rs : List Place) (ds : List ℕ) (es : List Environment)
          → ChainSorted P e G → RowSorted P ts G S → HoldsStrict C bodies ret ts a home → ChainFor C bodies ret e E
          → Within C (RowValue P e ts S) (suc N) (state (at (row_entrance ts a home)) rs ds (E ∷ es))
      row_within nil e G [] a home E rs ds es ok ft k r = found (inl ([], done, tt))
      row_within nil e G (s ∷ S) a home E rs ds es ok ft k r = absurd ft
      row_within (cons t ts) e G [] a home E rs ds es ok ft k r = absurd ft
      row_within (cons t ts) e G (s ∷ S) a home E rs ds es ok ft k r =
          with_it (term_within t e G s a (row_entrance ts (a + size t) home) E rs ds es ok ft.0 k.0 r)
          (⊎_elim (λ z.
          along (tree_goes L z.1 a (row_entrance ts (a + size t) home) rs ds es k.0 r)
          (⊎_map (λ w. (z.0 ∷ w.0, then z.1 w.1, (z.2, w.2))) (at_later z.1))
          (row_within ts e G S (a + size t) home E rs (z.0 ∷ ds) es ok ft.1 k.1 r)) (λ d. found (inr (at_first d))))

  pub value_within : (N : ℕ) (t : Term) → ValueWithin P C bodies ret N t
  value_within zero t = λ e G s a b E rs ds es ok ft k r. goes_on 0 0 _ (omega arith) stay
  value_within (suc N) t = term_within N (value_within N) t
