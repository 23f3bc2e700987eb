-- The machine without limits, step by step: a course leads from one state to another in so many steps, with so many rewrites. Courses join, a shorter
-- one begins every longer one, and they are what `state_after` and `done_in` compute. Assumes nothing.
use mathlib.Core.Path.{◌≡◌, refl, ap, sym, ◌∙◌, subst}
use mathlib.Core.Logic.{◌⊎◌, inl, inr}
use mathlib.Core.Option.{Option, none, some}
use mathlib.Core.List.{List}
use Prim.Native.Nat.{ℕ, zero, suc, ◌+◌, ◌≤◌, ◌<◌}
use native.Mathlib.Decide.{dec_le}
use native.Mathlib.Omega.{arith}
use Rattle.meaning.specs.Code.{Instruction}
use Rattle.meaning.specs.Machine.{Environment, Place, stop, at, State, state, Next, next, no_step, zero_division, obey, rewrites}
use Rattle.theorems.specs.Unlimited.{step, from_next, state_after, done_in, instruction_at, rewrites_at}
use Rattle.theorems.proofs.Splitting.{clash}

-- From a state to another in n steps with r rewrites.
pub data Goes (code : ℕ → Option Instruction) : State → ℕ → ℕ → State → Type 0 where
  stay : {s : State} → Goes code s 0 0 s
  go : {a : ℕ} {i : Instruction} {rs : List Place} {ds : List ℕ} {es : List Environment} {s s' : State} {n r : ℕ}
      → code a ≡ some i → obey (some i) rs ds es ≡ next s → Goes code s n r s' → Goes code (state (at a) rs ds es) (suc n) (rewrites (some i) + r) s'

module _ {code : ℕ → Option Instruction} where
  pub timed : {s s' : State} {n m r q : ℕ} → Goes code s n r s' → n ≡ m → r ≡ q → Goes code s m q s'
  timed {s} {s'} {n} {m} {r} {q} g h k = subst (λ x. Goes code s m x s') k (subst (λ x. Goes code s x r s') h g)

  infixr 50 ◌▸◌
  pub ◌▸◌ : {s s' s'' : State} {n m r q : ℕ} → Goes code s n r s' → Goes code s' m q s'' → Goes code s (n + m) (r + q) s''
  stay ▸ g = timed g (omega arith) (omega arith)
  go h k f ▸ g = timed (go h k (f ▸ g)) (omega arith) (omega arith)

  -- A step of the machine begins a course.
  pub stepped : (a : ℕ) (rs : List Place) (ds : List ℕ) (es : List Environment) {s s' : State} {m q : ℕ} → obey (code a) rs ds es ≡ next s
      → Goes code s m q s'
      → Goes code (state (at a) rs ds es) (suc m) (rewrites (code a) + q) s'
  unfolding obey
  stepped a rs ds es {s} {s'} {m} {q} e g = of (code a) refl
    where
      of : (x : Option Instruction) → code a ≡ x → Goes code (state (at a) rs ds es) (suc m) (rewrites (code a) + q) s'
      of none h = let h' = ap (λ x. obey x rs ds es) h in clash (cc)
      of (some i) h = timed (go h (sym (ap (λ x. obey x rs ds es) h) ∙ e) g) refl (omega (arith, ap rewrites h))

  -- The machine is deterministic: a shorter course is the beginning of a longer one.
  pub begins : {s s₁ s₂ : State} {n m r q : ℕ} → Goes code s n r s₁ → Goes code s m q s₂ → n ≤ m
      → (k j : ℕ) × (m ≡ n + k) × (q ≡ r + j) × Goes code s₁ k j s₂
  begins {m = m} {q = q} stay g l = (m, q, omega arith, omega arith, g)
  begins (go h k f) stay l = absurd (omega arith)
  begins {s₁ = s₁} {s₂ = s₂} (go {i = i} {s = s} {n = n} {r = r} h k f) (go {i = i'} {s = s'} {n = m} {r = q} h' k' f') l =
      let same : i' ≡ i = cc in
      let there : s' ≡ s = cc in
      let p = begins f (subst (λ x. Goes code x m q s₂) there f') (omega arith) in
      (p.0, p.1, omega (arith, p.2), omega (arith, p.3, ap (λ x. rewrites (some x)) same), p.4)

  from_stop : {rs : List Place} {ds : List ℕ} {es : List Environment} {n r : ℕ} {s : State} → Goes code (state stop rs ds es) n r s
      → (n ≡ 0) × (r ≡ 0) × (s ≡ state stop rs ds es)
  from_stop stay = (refl, refl, refl)

  -- It stops once.
  pub stops_once : {s : State} {n m r q : ℕ} {rs rs' : List Place} {ds ds' : List ℕ} {es es' : List Environment}
      → Goes code s n r (state stop rs ds es) → Goes code s m q (state stop rs' ds' es')
      → (n ≡ m) × (r ≡ q) × (state stop rs ds es ≡ state stop rs' ds' es')
  stops_once {n = n} {m = m} f g =
      elim (dec_le n m) [
        | yes l ↦ (let p = begins f g l in let z = from_stop p.4 in (omega (arith, p.2, z.0), omega (arith, p.3, z.1), sym z.2))
        | no l ↦ (let p = begins g f (omega arith) in let z = from_stop p.4 in (omega (arith, p.2, z.0), omega (arith, p.3, z.1), z.2))
      ]

  -- Having stopped it goes no further, and a state that it goes on from has a next step.
  pub not_past_stop : {s s' : State} {n m r q : ℕ} {rs : List Place} {ds : List ℕ} {es : List Environment} → Goes code s n r (state stop rs ds es)
      → Goes code s m q s' → suc n ≤ m → ⊥
  not_past_stop f g l = let p = begins f g (omega arith) in let z = from_stop p.4 in omega (arith, p.2, z.0)

  pub has_step : {a k j : ℕ} {rs : List Place} {ds : List ℕ} {es : List Environment} {s : State} → Goes code (state (at a) rs ds es) k j s → 0 < k
      → (s' : State) × (obey (code a) rs ds es ≡ next s')
  has_step stay l = absurd (omega arith)
  has_step {rs = rs} {ds = ds} {es = es} (go {s = s} h o f) l = (s, ap (λ x. obey x rs ds es) h ∙ o)

  pub before_stop : {s : State} {n m r q a : ℕ} {rs rs' : List Place} {ds ds' : List ℕ} {es es' : List Environment}
      → Goes code s n r (state stop rs ds es)
      → Goes code s m q (state (at a) rs' ds' es') → m < n
  before_stop {n = n} {m = m} f g =
      elim (dec_le n m) [
        | yes l ↦ (let p = begins f g l in let z = from_stop p.4 in apart z.2)
        | no l ↦ omega arith
      ]
    where
      apart : {A : Type 0} {x : ℕ} {rs rs' : List Place} {ds ds' : List ℕ} {es es' : List Environment}
          → state (at x) rs ds es ≡ state stop rs' ds' es' → A
      apart e = clash (cc)

  pub has_step_before_stop : {s : State} {n m r q a : ℕ} {rs rs' : List Place} {ds ds' : List ℕ} {es es' : List Environment}
      → Goes code s n r (state stop rs ds es)
      → Goes code s m q (state (at a) rs' ds' es') → (s' : State) × (obey (code a) rs' ds' es' ≡ next s')
  has_step_before_stop f g =
      let l = before_stop f g in
      let p = begins g f (omega arith) in
      has_step p.4 (omega (arith, p.2))

-- A course of some number of steps, and one that ends before a division by 0.
module _ (code : ℕ → Option Instruction) where
  pub data Comes (s : State) (r : ℕ) (s' : State) : Type 0 where
    comes : {n : ℕ} → Goes code s n r s' → Comes s r s'

  pub data Divides (s : State) (r : ℕ) : Type 0 where
    divides_at : {n a : ℕ} {rs : List Place} {ds : List ℕ} {es : List Environment} → Goes code s n r (state (at a) rs ds es)
        → obey (code a) rs ds es ≡ zero_division → Divides s r

module _ {code : ℕ → Option Instruction} where
  infixr 50 ◌▹◌
  pub ◌▹◌ : {s s' s'' : State} {r q : ℕ} → Comes code s r s' → Comes code s' q s'' → Comes code s (r + q) s''
  comes f ▹ comes g = comes (f ▸ g)

  pub counting : {s s' : State} {r q : ℕ} → Comes code s r s' → r ≡ q → Comes code s q s'
  counting (comes f) h = comes (timed f refl h)

  pub divides_after : {s s' : State} {r q : ℕ} → Comes code s r s' → Divides code s' q → Divides code s (r + q)
  divides_after (comes f) (divides_at g o) = divides_at (f ▸ g) o

  pub divides_counting : {s : State} {r q : ℕ} → Divides code s r → r ≡ q → Divides code s q
  divides_counting {s} g h = subst (λ x. Divides code s x) h g

  from_division : {a k j : ℕ} {rs : List Place} {ds : List ℕ} {es : List Environment} {s : State} → Goes code (state (at a) rs ds es) k j s
      → obey (code a) rs ds es ≡ zero_division → (k ≡ 0) × (j ≡ 0)
  from_division stay o = (refl, refl)
  from_division {rs = rs} {ds = ds} {es = es} (go h o' f) o = let h' = ap (λ x. obey x rs ds es) h in clash (cc)

  -- No course passes a division by 0, and one that has not stopped there has made no more rewrites.
  pub up_to_division : {s s' : State} {n m r q a : ℕ} {rs : List Place} {ds : List ℕ} {es : List Environment} → Goes code s n r (state (at a) rs ds es)
      → obey (code a) rs ds es ≡ zero_division → Goes code s m q s' → (m ≤ n) × (q ≤ r)
  up_to_division {n = n} {m = m} f o g =
      elim (dec_le n m) [
        | yes l ↦ (let p = begins f g l in let z = from_division p.4 o in (omega (arith, p.2, z.0), omega (arith, p.3, z.1)))
        | no l ↦ (let p = begins g f (omega arith) in (omega arith, omega (arith, p.3)))
      ]

  -- Where it divides by 0 it does so once, and never stops.
  pub divides_once : {s : State} {n m r q a b : ℕ} {rs rs' : List Place} {ds ds' : List ℕ} {es es' : List Environment}
      → Goes code s n r (state (at a) rs ds es) → obey (code a) rs ds es ≡ zero_division
      → Goes code s m q (state (at b) rs' ds' es') → obey (code b) rs' ds' es' ≡ zero_division → (n ≡ m) × (r ≡ q)
  divides_once f o g o' = let p = up_to_division f o g in let p' = up_to_division g o' f in (omega (arith, p.0, p'.0), omega (arith, p.1, p'.1))

  -- On the way to a division by 0 there is a next step, or it is there.
  pub step_to_division : {s : State} {m q r a : ℕ} {rs : List Place} {ds : List ℕ} {es : List Environment} → Goes code s m q (state (at a) rs ds es)
      → Divides code s r → ((s' : State) × (obey (code a) rs ds es ≡ next s')) ⊎ (obey (code a) rs ds es ≡ zero_division)
  step_to_division g (divides_at f o) = let p = begins g f (up_to_division f o g).0 in there p.4 o
    where
      there : {a b k j : ℕ} {rs rs' : List Place} {ds ds' : List ℕ} {es es' : List Environment} → Goes code (state (at a) rs ds es) k j (state (at b) rs' ds' es')
          → obey (code b) rs' ds' es' ≡ zero_division
          → ((s' : State) × (obey (code a) rs ds es ≡ next s')) ⊎ (obey (code a) rs ds es ≡ zero_division)
      there stay o = inr o
      there {rs = rs} {ds = ds} {es = es} (go {s = s} h o' f) o = inl (s, ap (λ x. obey x rs ds es) h ∙ o')

  pub stop_or_division : {s : State} {n m r q a : ℕ} {rs rs' : List Place} {ds ds' : List ℕ} {es es' : List Environment}
      → Goes code s n r (state stop rs ds es) → Goes code s m q (state (at a) rs' ds' es') → obey (code a) rs' ds' es' ≡ zero_division → ⊥
  stop_or_division f g o = let p = has_step_before_stop f g in clash (cc p.1)

-- The last step of a course.
module _ {code : ℕ → Option Instruction} where
  no_steps : {s s' : State} {m r : ℕ} → Goes code s m r s' → m ≡ 0 → s ≡ s'
  no_steps stay e = refl
  no_steps (go h o f) e = absurd (omega arith)

  pub last_step : {s s'' : State} {m r : ℕ} → Goes code s m r s'' → (n : ℕ) → m ≡ suc n
      → (a : ℕ) × (rs : List Place) × (ds : List ℕ) × (es : List Environment) × (q : ℕ) × Goes code s n q (state (at a) rs ds es) × (obey (code a) rs ds es ≡ next s'')
  last_step stay n e = absurd (omega arith)
  last_step (go {a = a} {rs = rs} {ds = ds} {es = es} h o f) zero e =
      (a, rs, ds, es, 0, stay, ap (λ x. obey x rs ds es) h ∙ o ∙ ap next (no_steps f (omega arith)))
  last_step (go h o f) (suc n) e = let p = last_step f n (omega arith) in
      (p.0, p.1, p.2, p.3, _, go {s' = state (at p.0) p.1 p.2 p.3} h o p.5, p.6)

pub next_same : {s s' : State} → next s ≡ next s' → s ≡ s'
next_same e = cc

-- Courses and what the definitions compute.
module _ (code : ℕ → Option Instruction) where
  pub after_of : {s s' : State} {n r : ℕ} → Goes code s n r s' → (state_after code n s ≡ next s') × (done_in code (rewrites_at code) n s ≡ r)
  unfolding state_after done_in step from_next rewrites_at instruction_at
  after_of stay = (refl, refl)
  after_of (go {a = a} {i = i} {rs = rs} {ds = ds} {es = es} {n = n} h o f) =
      let e = ap (λ x. obey x rs ds es) h ∙ o in
      let p = after_of f in (
        ap (λ x. from_next x no_step (state_after code n)) e ∙ p.0,
        ap (λ x. from_next x 0 (λ s'. rewrites (code a) + done_in code (rewrites_at code) n s')) e ∙ omega (arith, p.1, ap rewrites h),
      )

  pub course_of : (n : ℕ) (s : State) {s' : State} → state_after code n s ≡ next s' → Goes code s n (done_in code (rewrites_at code) n s) s'
  unfolding state_after done_in step from_next rewrites_at instruction_at
  course_of zero s {s'} e = subst (λ z. Goes code s 0 0 z) (next_same e) stay
  course_of (suc n) (state stop rs ds es) e = clash (cc)
  course_of (suc n) (state (at a) rs ds es) {s'} e = of (obey (code a) rs ds es) refl e (λ s₁. course_of n s₁)
    where
      of : (x : Next) → obey (code a) rs ds es ≡ x → from_next x no_step (state_after code n) ≡ next s'
          → ((s₁ : State) → state_after code n s₁ ≡ next s' → Goes code s₁ n (done_in code (rewrites_at code) n s₁) s')
          → Goes code (state (at a) rs ds es) (suc n) (from_next x 0 λ s₁. rewrites (code a) + done_in code (rewrites_at code) n s₁) s'
      of no_step h k rec = clash (cc)
      of zero_division h k rec = clash (cc)
      of (next s₁) h k rec = stepped a rs ds es h (rec s₁ k)
