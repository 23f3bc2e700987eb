-- How a run of a program ends, in the words of the statements: both ways between each ending and the place where the machine without limits then is.
-- Assumes nothing.
use mathlib.Core.Path.{◌≡◌, refl, ap, sym, ◌∙◌, subst}
use mathlib.Core.Logic.{◌⊎◌, inl, inr, ⊎_elim}
use mathlib.Core.Bool.{false}
use mathlib.Core.List.{List}
use Prim.Native.Nat.{ℕ, suc, ◌+◌, ◌-◌, ◌≤◌, ◌<◌}
use lib.ListN.{length}
use native.Mathlib.Omega.{arith}
use Rattle.meaning.specs.Numbers.{HALT, FUEL, DEEP, STUCK, ZERO, most_height}
use Rattle.meaning.specs.Terms.{Program}
use Rattle.meaning.specs.Machine.{Environment, Place, stop, at, State, state, next, no_step, zero_division, obey, rewrites, too_high, Ending, ended, top, run, start, run_program}
use Rattle.theorems.specs.Unlimited.{step, code_of, start_of, machine_after, has_stopped, value_of, data_height, return_height}
use Rattle.theorems.specs.Limits.{first_too_high, LowUntil, Passes, Stops, DividesByZero, DividesInLimits, StopsInLimits, MeetsStepLimit, MeetsHeightLimit}
use Rattle.theorems.proofs.Splitting.{clash}
use Rattle.theorems.proofs.Courses.{Goes, stay, timed, ◌▸◌, stepped, stops_once, before_stop, has_step_before_stop, stop_or_division, up_to_division, divides_once, step_to_division, divides_at, after_of, course_of, last_step}
use Rattle.theorems.proofs.Limits.{Low, low_of, not_high_of, too_high_of, just_too_high, run_along, run_stopped, run_fuel, run_deep, run_zero, Says, halted, fuelled, deepened, jammed, zeroed, says}
use Rattle.theorems.proofs.Wholes.{stops_of, stop_course}

above : (s : State) → (data_height s ≡ first_too_high) ⊎ (return_height s ≡ first_too_high)
    → (most_height < data_height s) ⊎ (most_height < return_height s)
above s (inl h) = inl (omega arith)
above s (inr h) = inr (omega arith)

module _ (P : Program) (args : List ℕ) where
  start_low : too_high (start_of P args) ≡ false
  unfolding start_of start too_high
  start_low = refl

  low_until : {n m : ℕ} → Low (code_of P) n (start_of P args) → m ≤ n → LowUntil P args m
  low_until low l k s h e = low_of s (low k s (omega arith) e)

  low_from : {n : ℕ} → LowUntil P args n → Low (code_of P) n (start_of P args)
  low_from low k s h e = not_high_of s (low k s h e)

  run_is : (limit : ℕ) → run_program P args limit ≡ run (code_of P) limit (start_of P args) 0 0
  unfolding run_program code_of start_of
  run_is limit = refl

  run_says : (limit : ℕ) {x : Ending} → run_program P args limit ≡ x → Says (code_of P) limit (start_of P args) 0 0 x
  run_says limit e =
      subst (Says (code_of P) limit (start_of P args) 0 0) (sym (run_is limit) ∙ e) (says (code_of P) limit (start_of P args) 0 0 start_low)

  -- From the ending to the place. (That the value is 0 unless HALT is not used.)

  pub fuel_place : (limit : ℕ) {v n r : ℕ} → run_program P args limit ≡ ended FUEL v n r → MeetsStepLimit P args limit n r
  unfolding has_stopped
  fuel_place limit {v} {n} {r} e = by (run_says limit e)
    where
      by : {v : ℕ} → Says (code_of P) limit (start_of P args) 0 0 (ended FUEL v n r) → MeetsStepLimit P args limit n r
      by (fuelled {a = a} {rs = rs} {ds = ds} {es = es} g low h h') =
          let g' : Goes (code_of P) (start_of P args) n r (state (at a) rs ds es) = timed g (omega arith) (omega arith) in
          let p = after_of (code_of P) g' in
          record {
            all_made = omega arith;
            there = state (at a) rs ds es;
            made = p.0;
            not_stopped = refl;
            rewritten = p.1;
            low = low_until low (omega arith);
          }

  pub deep_place : (limit : ℕ) {v n r : ℕ} → run_program P args limit ≡ ended DEEP v n r → MeetsHeightLimit P args limit n r
  deep_place limit {v} {n} {r} e = by (run_says limit e)
    where
      by : {v : ℕ} → Says (code_of P) limit (start_of P args) 0 0 (ended DEEP v n r) → MeetsHeightLimit P args limit n r
      by (deepened {m = m} {a = a} {rs = rs} {ds = ds} {es = es} {s' = s} g low l o b h h') =
          let here : Goes (code_of P) (start_of P args) n r (state (at a) rs ds es) = timed g (omega arith) (omega arith) in
          let there : Goes (code_of P) (start_of P args) (suc n) (r + (rewrites (code_of P a) + 0)) s = timed (here ▸ stepped a rs ds es o stay) (omega arith) refl in
          let low-here = low_of (state (at a) rs ds es) (low m (state (at a) rs ds es) (omega arith) (after_of (code_of P) g).0) in
          record {
            in_steps = omega arith;
            there = s;
            made = (after_of (code_of P) there).0;
            high = just_too_high (code_of P a) (at a) rs ds es o low-here b;
            rewritten = (after_of (code_of P) here).1;
            low = low_until low (omega arith);
          }

  pub halt_place : (limit : ℕ) {v n r : ℕ} → run_program P args limit ≡ ended HALT v n r → StopsInLimits P args limit v n r
  halt_place limit {v} {n} {r} e = by (run_says limit e)
    where
      by : {v : ℕ} → Says (code_of P) limit (start_of P args) 0 0 (ended HALT v n r) → StopsInLimits P args limit v n r
      by (halted g low l t h h') =
          record {
            stops = subst (λ x. Stops P args x n r) (sym t) (stops_of P args (timed g (omega arith) (omega arith)));
            in_steps = omega arith;
            low = low_until low (omega arith);
          }

  pub zero_place : (limit : ℕ) {v n r : ℕ} → run_program P args limit ≡ ended ZERO v n r → DividesInLimits P args limit n r
  unfolding step
  zero_place limit {v} {n} {r} e = by (run_says limit e)
    where
      by : {v : ℕ} → Says (code_of P) limit (start_of P args) 0 0 (ended ZERO v n r) → DividesInLimits P args limit n r
      by (zeroed {a = a} {rs = rs} {ds = ds} {es = es} g low l o h h') =
          let g' : Goes (code_of P) (start_of P args) n r (state (at a) rs ds es) = timed g (omega arith) (omega arith) in
          let p = after_of (code_of P) g' in
          record {
            divides = record { there = state (at a) rs ds es; made = p.0; divides = o; rewritten = p.1 };
            in_steps = omega arith;
            low = low_until low (omega arith);
          }

  -- A division by 0 that the machine comes to, as a course.
  pub division_course : {n r : ℕ} → DividesByZero P args n r
      → (a : ℕ) × (rs : List Place) × (ds : List ℕ) × (es : List Environment) × Goes (code_of P) (start_of P args) n r (state (at a) rs ds es) × (obey (code_of P a) rs ds es ≡ zero_division)
  unfolding step
  division_course {n} {r} D = of D.there D.made D.divides
    where
      of : (s : State) → machine_after P args n ≡ next s → step (code_of P) s ≡ zero_division
          → (a : ℕ) × (rs : List Place) × (ds : List ℕ) × (es : List Environment) × Goes (code_of P) (start_of P args) n r (state (at a) rs ds es) × (obey (code_of P a) rs ds es ≡ zero_division)
      of (state stop rs ds es) e o = clash (cc)
      of (state (at a) rs ds es) e o = (a, rs, ds, es, timed (course_of (code_of P) n (start_of P args) e) refl D.rewritten, o)

  pub division_of : {n r a : ℕ} {rs : List Place} {ds : List ℕ} {es : List Environment} → Goes (code_of P) (start_of P args) n r (state (at a) rs ds es)
      → obey (code_of P a) rs ds es ≡ zero_division → DividesByZero P args n r
  unfolding step
  division_of {a = a} {rs = rs} {ds = ds} {es = es} g o =
      let p = after_of (code_of P) g in record { there = state (at a) rs ds es; made = p.0; divides = o; rewritten = p.1 }

  -- Somewhere on its course the machine has no next step, and has not stopped.
  pub record Jams : Type 0 where
    pub steps : ℕ
    pub rewrites_made : ℕ
    pub address : ℕ
    pub places : List Place
    pub values : List ℕ
    pub chains : List Environment
    pub course : Goes (code_of P) (start_of P args) steps rewrites_made (state (at address) places values chains)
    pub no_next : obey (code_of P address) places values chains ≡ no_step

  pub stuck_place : (limit : ℕ) {v n r : ℕ} → run_program P args limit ≡ ended STUCK v n r → Jams
  stuck_place limit {v} {n} {r} e = by (run_says limit e)
    where
      by : {v : ℕ} → Says (code_of P) limit (start_of P args) 0 0 (ended STUCK v n r) → Jams
      by (jammed {m = m} {q = q} {a = a} {rs = rs} {ds = ds} {es = es} g o) =
          record { steps = m; rewrites_made = q; address = a; places = rs; values = ds; chains = es; course = g; no_next = o }

  -- From the place to the ending.

  pub place_fuel : (limit : ℕ) {n r : ℕ} → MeetsStepLimit P args limit n r → run_program P args limit ≡ ended FUEL 0 n r
  unfolding has_stopped
  place_fuel limit {n} {r} M = of M.there M.made M.not_stopped
    where
      of : (s : State) → machine_after P args n ≡ next s → has_stopped s ≡ false → run_program P args limit ≡ ended FUEL 0 n r
      of (state stop rs ds es) e h = clash (cc)
      of (state (at a) rs ds es) e h =
          run_is limit
          ∙ run_along (code_of P) (course_of (code_of P) n (start_of P args) e) (low_from M.low) limit 0 0 0 n r (omega (arith, M.all_made)) (omega arith) (omega (arith, M.rewritten))
          ∙ run_fuel (code_of P) a rs ds es n r

  pub place_deep : (limit : ℕ) {n r : ℕ} → MeetsHeightLimit P args limit n r → run_program P args limit ≡ ended DEEP 0 n r
  place_deep limit {n} {r} M =
      let l = last_step (course_of (code_of P) (suc n) (start_of P args) M.made) n refl in
      let q = after_of (code_of P) l.5 in
      let left : limit ≡ n + suc (limit - suc n) = omega (arith, M.in_steps) in
      run_is limit
      ∙ run_along (code_of P) l.5 (low_from M.low) limit (suc (limit - suc n)) 0 0 n r left (omega arith) (omega (arith, M.rewritten, q.1))
      ∙ run_deep (code_of P) l.0 l.1 l.2 l.3 (limit - suc n) n r l.6 (too_high_of M.there (above M.there M.high))

  pub place_halt : (limit : ℕ) {v n r : ℕ} → StopsInLimits P args limit v n r → run_program P args limit ≡ ended HALT v n r
  place_halt limit {v} {n} {r} M =
      let c = stop_course P args M.stops in
      let left : limit ≡ n + (limit - n) = omega (arith, M.in_steps) in
      run_is limit
      ∙ run_along (code_of P) c.3 (low_from M.low) limit (limit - n) 0 0 n r left (omega arith) (omega arith)
      ∙ run_stopped (code_of P) (limit - n) c.0 c.1 c.2 n r ∙ ap (λ x. ended HALT x n r) c.4

  pub place_zero : (limit : ℕ) {n r : ℕ} → DividesInLimits P args limit n r → run_program P args limit ≡ ended ZERO 0 n r
  place_zero limit {n} {r} M =
      let c = division_course M.divides in
      let left : limit ≡ n + suc (limit - suc n) = omega (arith, M.in_steps) in
      run_is limit
      ∙ run_along (code_of P) c.4 (low_from M.low) limit (suc (limit - suc n)) 0 0 n r left (omega arith) (omega arith)
      ∙ run_zero (code_of P) c.0 c.1 c.2 c.3 (limit - suc n) n r c.5

  -- A depth limit that is met is really passed.
  pub passes_of : {limit n r : ℕ} → MeetsHeightLimit P args limit n r → Passes P args
  passes_of {n = n} M = record { after = suc n; there = M.there; made = M.made; high = above M.there M.high }

  -- A run whose limit suffices for the machine to stop halts there, or meets the height limit.
  pub enough_steps : (limit : ℕ) {v n r : ℕ} → Stops P args v n r → n ≤ limit
      → (run_program P args limit ≡ ended HALT v n r) ⊎ ((m q : ℕ) × (run_program P args limit ≡ ended DEEP 0 m q))
  unfolding value_of
  enough_steps limit {v} {n} {r} S l = let c = stop_course P args S in by c.3 c.4 (run_says limit refl) refl
    where
      by : {rs : List Place} {ds : List ℕ} {es : List Environment} → Goes (code_of P) (start_of P args) n r (state stop rs ds es) → top ds ≡ v
          → {x : Ending} → Says (code_of P) limit (start_of P args) 0 0 x → run_program P args limit ≡ x
          → (run_program P args limit ≡ ended HALT v n r) ⊎ ((m q : ℕ) × (run_program P args limit ≡ ended DEEP 0 m q))
      by g t (halted {v = u} {N = N} {R = R} g' low k t' h h') e =
          let one = stops_once g g' in
          let n_same : N ≡ n = omega (arith, one.0) in
          let r_same : R ≡ r = omega (arith, one.1) in
          let v_same : u ≡ v = t' ∙ sym (ap value_of one.2) ∙ t in
          inl (e ∙ ended_as v_same n_same r_same)
        where
          ended_as : {u v m n q r : ℕ} → u ≡ v → m ≡ n → q ≡ r → ended HALT u m q ≡ ended HALT v n r
          ended_as h k j = cc
      by g t (fuelled g' low h h') e = let k = before_stop g g' in absurd (omega arith)
      by g t (deepened {N = N} {R = R} g' low k o b h h') e = inr (N, R, place_deep limit (deep_place limit e))
      by g t (jammed g' o) e = let p = has_step_before_stop g g' in clash (cc p.1)
      by g t (zeroed g' low k o h h') e = absurd (stop_or_division g g' o)

  -- Every ending of a run whose machine comes to a division by 0: the limit is met on the way there, or the height, or it is ZERO.
  pub division_ends : (limit : ℕ) {n r : ℕ} → DividesByZero P args n r
      → ((q a : ℕ) × (rs : List Place) × (ds : List ℕ) × (es : List Environment) × (run_program P args limit ≡ ended FUEL 0 limit q)
      × Goes (code_of P) (start_of P args) limit q (state (at a) rs ds es) × (q ≤ r) × (length ds ≤ most_height))
      ⊎ (((m q : ℕ) × (run_program P args limit ≡ ended DEEP 0 m q)) ⊎ ((run_program P args limit ≡ ended ZERO 0 n r) × LowUntil P args n))
  unfolding data_height
  division_ends limit {n} {r} D = let c = division_course D in by c.4 c.5 (run_says limit refl) refl
    where
      by : {a : ℕ} {rs : List Place} {ds : List ℕ} {es : List Environment} → Goes (code_of P) (start_of P args) n r (state (at a) rs ds es)
          → obey (code_of P a) rs ds es ≡ zero_division
          → {x : Ending} → Says (code_of P) limit (start_of P args) 0 0 x → run_program P args limit ≡ x
          → ((q a : ℕ) × (rs : List Place) × (ds : List ℕ) × (es : List Environment) × (run_program P args limit ≡ ended FUEL 0 limit q)
          × Goes (code_of P) (start_of P args) limit q (state (at a) rs ds es) × (q ≤ r) × (length ds ≤ most_height))
          ⊎ (((m q : ℕ) × (run_program P args limit ≡ ended DEEP 0 m q)) ⊎ ((run_program P args limit ≡ ended ZERO 0 n r) × LowUntil P args n))
      by g o (halted g' low k t' h h') e = absurd (stop_or_division g' g o)
      by g o (fuelled {q = q} {a = a} {N = N} {R = R} {rs = rs} {ds = ds} {es = es} g' low h h') e =
          let M = fuel_place limit e in
          let n_same : N ≡ limit = omega arith in
          let r_same : R ≡ q = omega arith in
          let p = up_to_division g o g' in
          let low-here = low_of (state (at a) rs ds es) (low limit (state (at a) rs ds es) (omega arith) (after_of (code_of P) g').0) in
          inl (q, a, rs, ds, es, place_fuel limit M ∙ ended_as n_same r_same, g', p.1, low-here.0)
        where
          ended_as : {m n q r : ℕ} → m ≡ n → q ≡ r → ended FUEL 0 m q ≡ ended FUEL 0 n r
          ended_as h k = cc
      by g o (deepened {N = N} {R = R} g' low k o' b h h') e = inr (inl (N, R, place_deep limit (deep_place limit e)))
      by g o (jammed g' o') e = ⊎_elim (λ p. clash (cc (p.1, o'))) (λ p. clash (cc (p, o'))) (step_to_division g' (divides_at g o))
      by g o (zeroed {N = N} {R = R} g' low k o' h h') e =
          let one = divides_once g o g' o' in
          let M = zero_place limit e in
          let n_same : N ≡ n = omega (arith, one.0) in
          let r_same : R ≡ r = omega (arith, one.1) in
          inr (inr (place_zero limit M ∙ ended_as n_same r_same, subst (LowUntil P args) n_same M.low))
        where
          ended_as : {m n q r : ℕ} → m ≡ n → q ≡ r → ended ZERO 0 m q ≡ ended ZERO 0 n r
          ended_as h k = cc
