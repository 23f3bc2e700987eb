-- Everything joined, for a program that is sorted throughout: the machine without limits stops exactly where leftmost rewriting reaches a value, within
-- the bound, and divides by 0 exactly where it meets such a division; until then it has a next step. Assumes nothing.
use mathlib.Core.Path.{◌≡◌, refl, ap, sym, subst, subst₂}
use mathlib.Core.Logic.{◌⊎◌, inl, inr}
use mathlib.Core.Bool.{true}
use mathlib.Core.List.{List, [], ◌∷◌}
use Prim.Native.Nat.{ℕ, suc, ◌≤◌}
use native.Mathlib.Omega.{arith}
use Rattle.meaning.specs.Terms.{Program}
use Rattle.meaning.specs.Code.{entrance, initial, ret_address}
use Rattle.meaning.specs.Machine.{Environment, Place, stop, at, State, state, next, zero_division, obey, start, top}
use Rattle.meaning.specs.Rewriting.{Reaches, MeetsZero, entry_call}
use Rattle.theorems.specs.Unlimited.{code_of, start_of, machine_after, has_stopped, value_of}
use Rattle.theorems.specs.Limits.{Stops}
use Rattle.theorems.specs.Theorems.{bound}
use Rattle.theorems.proofs.Splitting.{clash, counted, leads_of, reaches_of}
use Rattle.theorems.proofs.Trees.{Tree, bottom, cost, Fall, fall_cost}
use Rattle.theorems.proofs.Breaking.{breaks_of, meets_of, breaks_counted}
use Rattle.theorems.proofs.Sorts.{ChainSorted}
use Rattle.theorems.proofs.Agreement.{chain_read, tree_leads, tree_found}
use Rattle.theorems.proofs.Falling.{fall_breaks, fall_found}
use Rattle.theorems.proofs.Targets.{all_lead, start_works}
use Rattle.theorems.proofs.Paces.{PacedAt, course_paced, start_paced, stop_bound}
use Rattle.theorems.proofs.Courses.{Comes, comes, ◌▹◌, counting, Divides, divides_at, divides_counting, divides_once, up_to_division, stop_or_division, step_to_division, Goes, timed, begins, stops_once, not_past_stop, has_step, has_step_before_stop, after_of, course_of}
use Rattle.theorems.proofs.Holding.{loaded, initial_held}
use Rattle.theorems.proofs.ToMachine.{of_bottom, return_step, tree_goes, fall_goes}
use Rattle.theorems.proofs.FromMachine.{Within, found, goes_on, Value, value_within}
use Rattle.theorems.proofs.Acceptance.{WellMade}

-- Stopping, as a course.

module _ (P : Program) (args : List ℕ) where
  pub stops_of : {n r : ℕ} {rs : List Place} {ds : List ℕ} {es : List Environment} → Goes (code_of P) (start_of P args) n r (state stop rs ds es)
      → Stops P args (top ds) n r
  unfolding has_stopped value_of
  stops_of {rs = rs} {ds = ds} {es = es} g =
      let p = after_of (code_of P) g in record { there = state stop rs ds es; made = p.0; stopped = refl; its_value = refl; rewritten = p.1 }

  pub stop_course : {v n r : ℕ} → Stops P args v n r
      → (rs : List Place) × (ds : List ℕ) × (es : List Environment) × Goes (code_of P) (start_of P args) n r (state stop rs ds es) × (top ds ≡ v)
  unfolding has_stopped value_of
  stop_course {v} {n} {r} S = of S.there S.made S.stopped S.its_value
    where
      of : (s : State) → machine_after P args n ≡ next s → has_stopped s ≡ true → value_of s ≡ v
          → (rs : List Place) × (ds : List ℕ) × (es : List Environment) × Goes (code_of P) (start_of P args) n r (state stop rs ds es) × (top ds ≡ v)
      of (state stop rs ds es) e h k = (rs, ds, es, timed (course_of (code_of P) n (start_of P args) e) refl S.rewritten, k)
      of (state (at a) rs ds es) e h k = clash (cc)

module _ (P : Program) (args : List ℕ) (w : WellMade P args) where
  -- The whole course of a tree of the initial term, and of a fall.
  whole : {v : ℕ} (d : Tree P (bottom args) (initial P) v) → Comes (code_of P) (start_of P args) (cost d) (state stop [] (v ∷ []) [])
  unfolding start_of start
  whole d = counting (tree_goes (loaded P) d 0 (ret_address P) (stop ∷ []) [] [] (initial_held P) of_bottom ▹ comes (return_step (loaded P))) (omega arith)

  whole_fall : (d : Fall P (bottom args) (initial P)) → Divides (code_of P) (start_of P args) (fall_cost d)
  unfolding start_of start
  whole_fall d = fall_goes (loaded P) d 0 (ret_address P) (stop ∷ []) [] [] (initial_held P) of_bottom

  tree_within : (N : ℕ) → Within (code_of P) (Value P (bottom args) (initial P) w.entry_result) N (start_of P args)
  unfolding start_of start ChainSorted
  tree_within N =
      value_within (loaded P) w.program_sorted N (initial P) (bottom args) w.entry_sorts w.entry_result 0 (ret_address P) _ (stop ∷ []) [] []
      w.arguments_sorted w.initial_is_sorted (initial_held P) of_bottom

  -- The pace of every course from the start.
  pub is_paced : {m n : ℕ} {s : State} → Goes (code_of P) (start_of P args) m n s → PacedAt (code_of P) m n s
  unfolding start_of
  is_paced {m} {n} {s} g =
      subst₂ (λ x y. PacedAt (code_of P) x y s) (omega arith) (omega arith)
      (course_paced (code_of P) (all_lead P args w) g (start_paced (code_of P) (entrance (initial P) 0) args (start_works P args w)))

  pub stops_where_reached : {n v : ℕ} → Reaches P (entry_call P args) n v
      → (m : ℕ) × (m ≤ bound n) × Goes (code_of P) (start_of P args) m n (state stop [] (v ∷ []) [])
  unfolding entry_call bound
  stops_where_reached {n} {v} r =
      let t = tree_found P w.program_sorted args (initial P) w.entry_sorts w.entry_result w.arguments_sorted w.initial_is_sorted (leads_of P n r) in
      of (counting (whole t.0) t.1)
    where
      of : Comes (code_of P) (start_of P args) n (state stop [] (v ∷ []) [])
          → (m : ℕ) × (m ≤ bound n) × Goes (code_of P) (start_of P args) m n (state stop [] (v ∷ []) [])
      of (comes {n = m} g) = (m, omega (arith, stop_bound (code_of P) (is_paced g)), g)

  pub divides_where_met : {n : ℕ} → MeetsZero P (entry_call P args) n → Divides (code_of P) (start_of P args) n
  unfolding entry_call
  divides_where_met {n} r =
      let t = fall_found P w.program_sorted args (initial P) w.entry_sorts w.entry_result w.arguments_sorted w.initial_is_sorted (breaks_of P n r) in
      divides_counting (whole_fall t.0) t.1

  -- The value of a tree, once it is known that the machine stops with it; the rewrites of a fall, once it is known that the machine divides by 0.
  reached : {v m n : ℕ} {rs : List Place} {ds : List ℕ} {es : List Environment} (d : Tree P (bottom args) (initial P) v)
      → Goes (code_of P) (start_of P args) m n (state stop rs ds es) → Comes (code_of P) (start_of P args) (cost d) (state stop [] (v ∷ []) [])
      → Reaches P (entry_call P args) n (top ds)
  unfolding entry_call chain_read top value_of
  reached {n = n} d g (comes g') =
      let one = stops_once g g' in
      subst (λ x. Reaches P (entry_call P args) n x) (sym (ap value_of one.2)) (reaches_of (counted (omega (arith, one.1)) (tree_leads d)))

  met : {m n a : ℕ} {rs : List Place} {ds : List ℕ} {es : List Environment} (d : Fall P (bottom args) (initial P))
      → Goes (code_of P) (start_of P args) m n (state (at a) rs ds es) → obey (code_of P a) rs ds es ≡ zero_division
      → Divides (code_of P) (start_of P args) (fall_cost d) → MeetsZero P (entry_call P args) n
  unfolding entry_call chain_read
  met d g o (divides_at g' o') = let one = divides_once g o g' o' in meets_of (breaks_counted (sym one.1) (fall_breaks d))

  not_divided : {r m n : ℕ} {rs : List Place} {ds : List ℕ} {es : List Environment} → Goes (code_of P) (start_of P args) m n (state stop rs ds es)
      → Divides (code_of P) (start_of P args) r → ⊥
  not_divided g (divides_at g' o) = stop_or_division g g' o

  not_stopped : {v r m n a : ℕ} {rs : List Place} {ds : List ℕ} {es : List Environment} → Goes (code_of P) (start_of P args) m n (state (at a) rs ds es)
      → obey (code_of P a) rs ds es ≡ zero_division → Comes (code_of P) (start_of P args) r (state stop [] (v ∷ []) []) → ⊥
  not_stopped g o (comes g') = stop_or_division g' g o

  pub reached_where_stopped : {m n : ℕ} {rs : List Place} {ds : List ℕ} {es : List Environment}
      → Goes (code_of P) (start_of P args) m n (state stop rs ds es) → Reaches P (entry_call P args) n (top ds)
  reached_where_stopped {m} {n} {rs} {ds} {es} g = by (tree_within (suc m))
    where
      by : Within (code_of P) (Value P (bottom args) (initial P) w.entry_result) (suc m) (start_of P args)
          → Reaches P (entry_call P args) n (top ds)
      by (goes_on k r s l g') = absurd (not_past_stop g g' l)
      by (found (inl z)) = reached z.1 g (whole z.1)
      by (found (inr d)) = absurd (not_divided g (whole_fall d))

  pub met_where_divided : {m n a : ℕ} {rs : List Place} {ds : List ℕ} {es : List Environment}
      → Goes (code_of P) (start_of P args) m n (state (at a) rs ds es) → obey (code_of P a) rs ds es ≡ zero_division → MeetsZero P (entry_call P args) n
  met_where_divided {m} {n} g o = by (tree_within (suc m))
    where
      by : Within (code_of P) (Value P (bottom args) (initial P) w.entry_result) (suc m) (start_of P args) → MeetsZero P (entry_call P args) n
      by (goes_on k r s l g') = let p = up_to_division g o g' in absurd (omega (arith, p.0, l))
      by (found (inl z)) = absurd (not_stopped g o (whole z.1))
      by (found (inr d)) = met d g o (whole_fall d)

  pub next_step : {m n a : ℕ} {rs : List Place} {ds : List ℕ} {es : List Environment} → Goes (code_of P) (start_of P args) m n (state (at a) rs ds es)
      → ((s : State) × (obey (code_of P a) rs ds es ≡ next s)) ⊎ (obey (code_of P a) rs ds es ≡ zero_division)
  next_step {m} {n} {a} {rs} {ds} {es} g = by (tree_within (suc m))
    where
      before : {v r : ℕ} → Comes (code_of P) (start_of P args) r (state stop [] (v ∷ []) []) → (s : State) × (obey (code_of P a) rs ds es ≡ next s)
      before (comes g') = has_step_before_stop g' g

      by : Within (code_of P) (Value P (bottom args) (initial P) w.entry_result) (suc m) (start_of P args)
          → ((s : State) × (obey (code_of P a) rs ds es ≡ next s)) ⊎ (obey (code_of P a) rs ds es ≡ zero_division)
      by (goes_on k r s l g') = let p = begins g g' (omega arith) in inl (has_step p.4 (omega (arith, p.2)))
      by (found (inl z)) = inl (before (whole z.1))
      by (found (inr d)) = step_to_division g (whole_fall d)
