-- Last: the statements of specs/Theorems.antt, proved. Assumes nothing.
use mathlib.Core.Path.{◌≡◌, refl, sym, ◌∙◌, subst, subst₂, subst₃}
use mathlib.Core.Logic.{◌⊎◌, inl, inr, ⊎_elim, ⊎_map}
use mathlib.Core.Bool.{true, false}
use Prim.Native.Nat.{ℕ, suc, ◌+◌, ◌*◌, ◌≤◌, ◌<◌}
use native.Mathlib.Nat.{mul-le-mul}
use native.Mathlib.Omega.{arith}
use lib.ListN.{length}
use Rattle.meaning.specs.Numbers.{no, HALT, FUEL, DEEP, STUCK, ZERO, most_height}
use Rattle.meaning.specs.Code.{initial}
use Rattle.meaning.specs.Machine.{State, state, stop, at, next, zero_division, ended, start, top, run_program}
use Rattle.meaning.specs.Rewriting.{Reaches, MeetsZero, entry_call}
use Rattle.theorems.specs.Unlimited.{step, code_of, start_of, machine_after, has_stopped, data_height, return_height, environment_height}
use Rattle.theorems.specs.Limits.{DividesByZero, DividesInLimits, StopsInLimits, MeetsStepLimit, MeetsHeightLimit}
use Rattle.theorems.specs.Theorems.{zero_bound, HaltsRight, LimitsAreTheMachines, InTime, MachineAgrees, ZeroRight, ZeroInTime, MachineDivides, IsPaced, OneEnd, OneOfThree, OneValue, OneCourse, NeverStuck, Height, OneOutcome, RunHaltsRight, RunLimitsAreTheMachines, RunInTime, RunZeroRight, RunZeroInTime, RunNeverStuck, EarlyRefuted}
use Rattle.theorems.proofs.Splitting.{clash, leads_of, leads_once}
use Rattle.theorems.proofs.Breaking.{breaks_of, breaks_once, not_both}
use Rattle.theorems.proofs.Progress.{started}
use Rattle.theorems.proofs.Paces.{pace_bound}
use Rattle.theorems.proofs.Courses.{Divides, divides_at, Goes, stay, timed, ◌▸◌, stepped, stops_once, after_of, course_of}
use Rattle.theorems.proofs.Heights.{heights_after}
use Rattle.theorems.proofs.Acceptance.{well_made}
use Rattle.theorems.proofs.Wholes.{stops_of, stop_course, is_paced, stops_where_reached, divides_where_met, reached_where_stopped, met_where_divided, next_step}
use Rattle.theorems.proofs.Endings.{fuel_place, deep_place, halt_place, zero_place, stuck_place, division_course, division_of, place_fuel, place_deep, place_halt, place_zero, passes_of, enough_steps, division_ends}
use Rattle.theorems.proofs.Refusals.{admitted_answer, answer_runs}
use Rattle.theorems.proofs.Early.{refuted_by_pair}

pub machine_agrees : MachineAgrees
unfolding top
machine_agrees text P args n v ok fit =
    let w = well_made text P args ok fit in (
      λ r. (let c = stops_where_reached P args w r in (c.0, c.1, stops_of P args c.2)),
      λ steps S. (let c = stop_course P args S in subst (λ x. Reaches P (entry_call P args) n x) c.4 (reached_where_stopped P args w c.3)),
    )

pub halts_right : HaltsRight
halts_right text P args limit v steps rewrites ok fit e = (machine_agrees text P args rewrites v ok fit).1 steps (halt_place P args limit e).stops

pub limits_are_the_machines : LimitsAreTheMachines
limits_are_the_machines P args limit steps rewrites =
    ((fuel_place P args limit, place_fuel P args limit), (deep_place P args limit, place_deep P args limit), (zero_place P args limit, place_zero P args limit), λ v. (halt_place P args limit, place_halt P args limit))

pub in_time : InTime
in_time text P args limit n v ok fit r enough =
    let c = (machine_agrees text P args n v ok fit).0 r in
    elim (enough_steps P args limit c.2 (omega (arith, c.1))) [
      | inl e ↦ inl (c.0, c.1, e)
      | inr e ↦ inr (e.0, e.1, e.2, passes_of P args (deep_place P args limit e.2))
    ]

pub machine_divides : MachineDivides
machine_divides text P args n ok fit =
    let w = well_made text P args ok fit in (
      λ r. of (divides_where_met P args w r),
      λ steps D. (let c = division_course P args D in met_where_divided P args w c.4 c.5),
    )
  where
    of : Divides (code_of P) (start_of P args) n → (steps : ℕ) × DividesByZero P args steps n
    of (divides_at {n = m} g o) = (m, division_of P args g o)

pub zero_right : ZeroRight
zero_right text P args limit v steps rewrites ok fit e = (machine_divides text P args rewrites ok fit).1 steps (zero_place P args limit e).divides

-- With r rewrites of n, and no more than 512 values on the data stack.
within_bound : (m r n k : ℕ) → m ≤ 18 * (r * r) + 10 * r + (2 * r + 1) * k → r ≤ n → k ≤ most_height → m < zero_bound n
unfolding zero_bound
within_bound m r n k h l u = omega (arith, mul-le-mul l l, mul-le-mul l u)

pub zero_in_time : ZeroInTime
unfolding data_height
zero_in_time text P args limit n ok fit r =
    let w = well_made text P args ok fit in
    let c = (machine_divides text P args n ok fit).0 r in
    elim (division_ends P args limit c.1) [
      | inl e ↦ inl (limit, e.0, e.5, within_bound limit e.0 n (length e.3) (pace_bound (code_of P) (is_paced P args w e.6)) e.7 e.8)
      | inr e ↦
          elim e [
            | inl d ↦ inr (inl (d.0, d.1, d.2, passes_of P args (deep_place P args limit d.2)))
            | inr z ↦
                (let p = division_course P args c.1 in
                let low = z.1 c.0 (state (at p.0) p.1 p.2 p.3) (omega arith) (after_of (code_of P) p.4).0 in
                inr (inr (c.0, within_bound c.0 n n (length p.2) (pace_bound (code_of P) (is_paced P args w p.4)) (omega arith) low.0, z.0)))
          ]
    ]

pub paced : IsPaced
unfolding has_stopped data_height
paced text P args n (state stop rs ds es) ok fit e h = clash (cc)
paced text P args n (state (at a) rs ds es) ok fit e h =
    pace_bound (code_of P) (is_paced P args (well_made text P args ok fit) (course_of (code_of P) n (start_of P args) e))

pub one_end : OneEnd
unfolding Reaches MeetsZero
one_end P c = (
  λ n m v r z. not_both (leads_of P n r) (breaks_of P m z),
  λ n v r g. clash (cc (r, (g n).1)),
  λ n z g. clash (cc (z, (g n).1)),
  λ n m z z'. breaks_once (breaks_of P n z) (breaks_of P m z'),
)

pub one_of_three : OneOfThree
unfolding entry_call
one_of_three text P args n ok fit =
    let w = well_made text P args ok fit in
    started P w.program_sorted (initial P) w.entry_sorts w.entry_result args w.initial_is_sorted w.arguments_sorted n

pub one_value : OneValue
one_value P c n m v w r r' = leads_once (leads_of P n r) (leads_of P m r')

pub one_course : OneCourse
one_course P args n m s s' e h e' h' = of s s' (course_of (code_of P) n (start_of P args) e) h (course_of (code_of P) m (start_of P args) e') h'
  where
    of : {r q : ℕ} (s s' : State) → Goes (code_of P) (start_of P args) n r s → has_stopped s ≡ true → Goes (code_of P) (start_of P args) m q s'
        → has_stopped s' ≡ true → (n ≡ m) × (s ≡ s')
    of (state (at a) rs ds es) s' g h g' h' = clash (unfold has_stopped in cc)
    of (state stop rs ds es) (state (at a) rs' ds' es') g h g' h' = clash (unfold has_stopped in cc)
    of (state stop rs ds es) (state stop rs' ds' es') g h g' h' = let p = stops_once g g' in (p.0, p.2)

pub never_stuck : NeverStuck
unfolding has_stopped step
never_stuck text P args ok fit = (goes_on, not_stuck)
  where
    goes_on : (n : ℕ) (s : State) → machine_after P args n ≡ next s → has_stopped s ≡ false
        → ((s' : State) × (machine_after P args (suc n) ≡ next s')) ⊎ (step (code_of P) s ≡ zero_division)
    goes_on n (state stop rs ds es) e h = clash (cc)
    goes_on n (state (at a) rs ds es) e h =
        let g = course_of (code_of P) n (start_of P args) e in
        ⊎_map (λ o. (o.0, (after_of (code_of P) (timed {m = suc n} (g ▸ stepped a rs ds es o.1 stay) (omega arith) refl)).0)) (λ o. o)
        (next_step P args (well_made text P args ok fit) g)

    not_stuck : (limit v steps rewrites : ℕ) → run_program P args limit ≡ ended STUCK v steps rewrites → ⊥
    not_stuck limit v steps rewrites e =
        let p = stuck_place P args limit e in
        ⊎_elim (λ o. clash (cc (p.no_next, o.1))) (λ o. clash (cc (p.no_next, o))) (next_step P args (well_made text P args ok fit) p.course)

pub height : Height
unfolding start_of start return_height environment_height
height P args n s e = let h = heights_after (code_of P) n (start_of P args) e in (omega (arith, h.0), omega (arith, h.1))

pub one_outcome : OneOutcome
one_outcome = (
  λ text heads a b x y p q. (p.answered ∙ sym q.answered, p.written ∙ sym q.written),
  λ text code a b x y p q. (p.answered ∙ sym q.answered, p.written ∙ sym q.written),
  λ text args limit code work a b x y z w p q. (p.answered ∙ sym q.answered, p.written ∙ sym q.written, p.cleared ∙ sym q.cleared),
)

-- From the bytes of the text.

pub run_halts_right : RunHaltsRight
unfolding no
run_halts_right text args limit code work e =
    let p = answer_runs text args limit code work HALT (inl (omega arith)) e in
    (p.0, p.1, halts_right text p.0 args limit _ _ _ p.1.accepted p.1.fits p.2)

pub run_limits_are_the_machines : RunLimitsAreTheMachines
unfolding no
run_limits_are_the_machines text args limit code work steps rewrites = (
  (
    λ e.
        let p = answer_runs text args limit code work FUEL (inr (omega arith)) e.0 in
        (p.0, p.1, subst₂ (MeetsStepLimit p.0 args limit) e.1 e.2 (fuel_place p.0 args limit p.2)),
    λ m.
        let a = admitted_answer limit m.1 (place_fuel m.0 args limit m.2) in
        (a.0, a.2, a.3),
  ),
  (
    λ e.
        let p = answer_runs text args limit code work DEEP (inr (omega arith)) e.0 in
        (p.0, p.1, subst₂ (MeetsHeightLimit p.0 args limit) e.1 e.2 (deep_place p.0 args limit p.2)),
    λ m.
        let a = admitted_answer limit m.1 (place_deep m.0 args limit m.2) in
        (a.0, a.2, a.3),
  ),
  (
    λ e.
        let p = answer_runs text args limit code work ZERO (inr (omega arith)) e.0 in
        (p.0, p.1, subst₂ (DividesInLimits p.0 args limit) e.1 e.2 (zero_place p.0 args limit p.2)),
    λ m.
        let a = admitted_answer limit m.1 (place_zero m.0 args limit m.2) in
        (a.0, a.2, a.3),
  ),
  λ v. (
    λ e.
        let p = answer_runs text args limit code work HALT (inl (omega arith)) e.0 in
        (p.0, p.1, subst₃ (StopsInLimits p.0 args limit) e.1 e.2 e.3 (halt_place p.0 args limit p.2)),
    λ m. admitted_answer limit m.1 (place_halt m.0 args limit m.2),
  ),
)

pub run_in_time : RunInTime
unfolding no
run_in_time text args limit code work n v P A r enough =
    elim (in_time text P args limit n v A.accepted A.fits r enough) [
      | inl c ↦ (let a = admitted_answer limit A c.2 in inl (a.0, a.1, a.3, omega (arith, c.1, a.2)))
      | inr c ↦ (let a = admitted_answer limit A c.2 in inr (a.0, c.3))
    ]

pub run_zero_right : RunZeroRight
unfolding no
run_zero_right text args limit code work e =
    let p = answer_runs text args limit code work ZERO (inr (omega arith)) e in
    (p.0, p.1, zero_right text p.0 args limit _ _ _ p.1.accepted p.1.fits p.2)

pub run_zero_in_time : RunZeroInTime
unfolding no
run_zero_in_time text args limit code work n P A r =
    elim (zero_in_time text P args limit n A.accepted A.fits r) [
      | inl c ↦ (let a = admitted_answer limit A c.2 in inl (a.0, c.3))
      | inr e ↦
          elim e [
            | inl c ↦ (let a = admitted_answer limit A c.2 in inr (inl (a.0, c.3)))
            | inr c ↦ (let a = admitted_answer limit A c.2 in inr (inr (a.0, a.1, a.3, omega (arith, c.1, a.2))))
          ]
    ]

pub run_never_stuck : RunNeverStuck
unfolding no
run_never_stuck text args limit code work e =
    let p = answer_runs text args limit code work STUCK (inr (omega arith)) e in
    (never_stuck text p.0 args p.1.accepted p.1.fits).1 limit _ _ _ p.2

pub early_refuted : EarlyRefuted
early_refuted = refuted_by_pair
