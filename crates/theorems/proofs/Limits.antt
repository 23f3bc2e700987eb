-- Sixth: a run with limits follows the machine without limits until it stops, has made its steps, or would pass 512; each way it ends says how far that
-- machine came, and each such place of that machine ends it so. Assumes nothing.
use mathlib.Core.Path.{◌≡◌, refl, ap, sym, ◌∙◌, subst}
use mathlib.Core.Logic.{◌⊎◌, inl, inr}
use mathlib.Core.Bool.{Bool, true, false, ◌||◌}
use mathlib.Core.Option.{Option}
use mathlib.Core.List.{List}
use Prim.Native.Nat.{ℕ, zero, suc, ◌+◌, ◌≤◌, ◌<◌}
use native.Mathlib.Omega.{arith}
use lib.Dec.{ltb}
use lib.ListN.{length}
use borrow.Author.Tests.{ltb-true, ltb-false, lt-ltb, le-ltb}
use Rattle.meaning.specs.Numbers.{HALT, FUEL, DEEP, STUCK, ZERO, most_height}
use Rattle.meaning.specs.Code.{Instruction}
use Rattle.meaning.specs.Machine.{Environment, Place, stop, at, State, state, Next, next, no_step, zero_division, obey, rewrites, too_high, Ending, ended, top, unless_high, after_step, run}
use Rattle.theorems.specs.Unlimited.{step, from_next, state_after, return_height, data_height}
use Rattle.theorems.specs.Limits.{first_too_high}
use Rattle.theorems.proofs.Splitting.{clash}
use Rattle.theorems.proofs.Courses.{Goes, stay, go, stepped, next_same}
use Rattle.theorems.proofs.Heights.{one_at_most}

-- Heights as numbers and as the machine tests them.

abbrev pub IsLow : State → Type 0
IsLow s = (data_height s ≤ most_height) × (return_height s ≤ most_height)

neither : (a b : Bool) → (a || b) ≡ false → (a ≡ false) × (b ≡ false)
neither true b e = clash (cc)
neither false b e = (refl, e)

one_of : (a b : Bool) → (a || b) ≡ true → (a ≡ true) ⊎ (b ≡ true)
one_of true b e = inl refl
one_of false b e = inr e

second : (a b : Bool) → b ≡ true → (a || b) ≡ true
second true b e = refl
second false b e = e

pub low_of : (s : State) → too_high s ≡ false → IsLow s
unfolding too_high data_height return_height
low_of (state p rs ds es) e =
    let q = neither (ltb most_height (length ds)) (ltb most_height (length rs)) e in
    (ltb-false most_height (length ds) q.0, ltb-false most_height (length rs) q.1)

pub not_high_of : (s : State) → IsLow s → too_high s ≡ false
unfolding too_high data_height return_height
not_high_of (state p rs ds es) h =
    ap (λ b. b || ltb most_height (length rs)) (le-ltb most_height (length ds) h.0) ∙ le-ltb most_height (length rs) h.1

pub high_of : (s : State) → too_high s ≡ true → (most_height < data_height s) ⊎ (most_height < return_height s)
unfolding too_high data_height return_height
high_of (state p rs ds es) e =
    elim (one_of (ltb most_height (length ds)) (ltb most_height (length rs)) e) [
      | inl h ↦ inl (ltb-true most_height (length ds) h)
      | inr h ↦ inr (ltb-true most_height (length rs) h)
    ]

pub too_high_of : (s : State) → (most_height < data_height s) ⊎ (most_height < return_height s) → too_high s ≡ true
unfolding too_high data_height return_height
too_high_of (state p rs ds es) (inl h) = ap (λ b. b || ltb most_height (length rs)) (lt-ltb most_height (length ds) h)
too_high_of (state p rs ds es) (inr h) = second (ltb most_height (length ds)) (ltb most_height (length rs)) (lt-ltb most_height (length rs) h)

-- The first state that is too high is just 513 high.
pub just_too_high : (i : Option Instruction) (p : Place) (rs : List Place) (ds : List ℕ) (es : List Environment) {s : State}
    → obey i rs ds es ≡ next s → IsLow (state p rs ds es) → too_high s ≡ true
    → (data_height s ≡ first_too_high) ⊎ (return_height s ≡ first_too_high)
unfolding data_height return_height
just_too_high i p rs ds es {s} o l e =
    let m = one_at_most i rs ds es o in
    elim (high_of s e) [ inl h ↦ inl (omega arith) | inr h ↦ inr (omega arith) ]

module _ (code : ℕ → Option Instruction) where
  -- No state of the first n steps is too high.
  abbrev pub Low : ℕ → State → Type 0
  Low n s = (k : ℕ) (s' : State) → k ≤ n → state_after code k s ≡ next s' → too_high s' ≡ false

  one_later : (s₀ : State) {s : State} → step code s₀ ≡ next s → (k : ℕ) → state_after code (suc k) s₀ ≡ state_after code k s
  unfolding state_after from_next
  one_later s₀ e k = ap (λ x. from_next x no_step (state_after code k)) e

  low_at : (s : State) → too_high s ≡ false → Low 0 s
  unfolding state_after
  low_at s e zero s' l h = subst (λ z. too_high z ≡ false) (next_same h) e
  low_at s e (suc k) s' l h = absurd (omega arith)

  low_before : (s₀ : State) {m : ℕ} {s : State} → too_high s₀ ≡ false → step code s₀ ≡ next s → Low m s → Low (suc m) s₀
  unfolding state_after
  low_before s₀ e o low zero s' l h = subst (λ z. too_high z ≡ false) (next_same h) e
  low_before s₀ e o low (suc k) s' l h = low k s' (omega arith) (sym (one_later s₀ o k) ∙ h)

  -- Along a course that keeps low, a run is where the machine is.
  pub run_along : {s s' : State} {m q : ℕ} → Goes code s m q s' → Low m s → (k left n r N R : ℕ) → k ≡ m + left → N ≡ n + m → R ≡ r + q
      → run code k s n r ≡ run code left s' N R
  unfolding run after_step unless_high step
  run_along stay low k left n r N R hk hn hr =
      let k' : k ≡ left = omega arith in
      let n' : n ≡ N = omega arith in
      let r' : r ≡ R = omega arith in cc
  run_along (go h o f) low zero left n r N R hk hn hr = absurd (omega arith)
  run_along (go {a = a} {rs = rs} {ds = ds} {es = es} {s = s} {n = m} {r = q} h o f) low (suc k) left n r N R hk hn hr =
      let made : obey (code a) rs ds es ≡ next s = ap (λ x. obey x rs ds es) h ∙ o in
      let fine_here : too_high s ≡ false = low (suc zero) s (omega arith) (one_later (state (at a) rs ds es) made zero ∙ at_once) in
      ap (λ x. after_step x n r onward) made ∙ ap (λ b. unless_high b n r s onward) fine_here
      ∙ run_along f (λ j s'' l e. low (suc j) s'' (omega arith) (one_later (state (at a) rs ds es) made j ∙ e)) k left (n + 1) (r + rewrites (code a)) N R (omega arith) (omega arith) (omega (arith, ap rewrites h))
    where
      onward : State → Ending
      onward x = run code k x (n + 1) (r + rewrites (code a))

      at_once : state_after code zero s ≡ next s
      at_once = unfold state_after in refl

  -- Each place of the machine ends the run.

  pub run_stopped : (left : ℕ) (rs : List Place) (ds : List ℕ) (es : List Environment) (n r : ℕ)
      → run code left (state stop rs ds es) n r ≡ ended HALT (top ds) n r
  unfolding run
  run_stopped zero rs ds es n r = refl
  run_stopped (suc left) rs ds es n r = refl

  pub run_fuel : (a : ℕ) (rs : List Place) (ds : List ℕ) (es : List Environment) (n r : ℕ)
      → run code zero (state (at a) rs ds es) n r ≡ ended FUEL 0 n r
  unfolding run
  run_fuel a rs ds es n r = refl

  pub run_deep : (a : ℕ) (rs : List Place) (ds : List ℕ) (es : List Environment) {s : State} (left n r : ℕ) → obey (code a) rs ds es ≡ next s
      → too_high s ≡ true
      → run code (suc left) (state (at a) rs ds es) n r ≡ ended DEEP 0 n r
  unfolding run after_step unless_high
  run_deep a rs ds es {s} left n r o e =
      let onward : State → Ending = λ x. run code left x (n + 1) (r + rewrites (code a)) in
      ap (λ x. after_step x n r onward) o ∙ ap (λ b. unless_high b n r s onward) e

  pub run_zero : (a : ℕ) (rs : List Place) (ds : List ℕ) (es : List Environment) (left n r : ℕ) → obey (code a) rs ds es ≡ zero_division
      → run code (suc left) (state (at a) rs ds es) n r ≡ ended ZERO 0 n r
  unfolding run after_step
  run_zero a rs ds es left n r o = ap (λ x. after_step x n r (λ s. run code left s (n + 1) (r + rewrites (code a)))) o

  -- What each ending of a run says.
  pub data Says (k : ℕ) (s : State) (n r : ℕ) : Ending → Type 0 where
    halted : {m q v N R : ℕ} {rs : List Place} {ds : List ℕ} {es : List Environment} → Goes code s m q (state stop rs ds es) → Low m s → m ≤ k
        → v ≡ top ds → N ≡ n + m → R ≡ r + q
        → Says k s n r (ended HALT v N R)
    fuelled : {q a v N R : ℕ} {rs : List Place} {ds : List ℕ} {es : List Environment} → Goes code s k q (state (at a) rs ds es) → Low k s → N ≡ n + k
        → R ≡ r + q
        → Says k s n r (ended FUEL v N R)
    deepened : {m q a v N R : ℕ} {rs : List Place} {ds : List ℕ} {es : List Environment} {s' : State} → Goes code s m q (state (at a) rs ds es)
        → Low m s → m < k
        → obey (code a) rs ds es ≡ next s' → too_high s' ≡ true → N ≡ n + m → R ≡ r + q → Says k s n r (ended DEEP v N R)
    jammed : {m q a v N R : ℕ} {rs : List Place} {ds : List ℕ} {es : List Environment} → Goes code s m q (state (at a) rs ds es)
        → obey (code a) rs ds es ≡ no_step → Says k s n r (ended STUCK v N R)
    zeroed : {m q a v N R : ℕ} {rs : List Place} {ds : List ℕ} {es : List Environment} → Goes code s m q (state (at a) rs ds es) → Low m s → m < k
        → obey (code a) rs ds es ≡ zero_division → N ≡ n + m → R ≡ r + q → Says k s n r (ended ZERO v N R)

  said_before : {a k n r : ℕ} {rs : List Place} {ds : List ℕ} {es : List Environment} {s : State} {x : Ending}
      → too_high (state (at a) rs ds es) ≡ false → obey (code a) rs ds es ≡ next s
      → Says k s (n + 1) (r + rewrites (code a)) x → Says (suc k) (state (at a) rs ds es) n r x
  unfolding step
  said_before {a} {rs = rs} {ds = ds} {es = es} e o (halted {N = N} {R = R} g low l t h h') =
      halted {N = N} {R = R} (stepped a rs ds es o g) (low_before (state (at a) rs ds es) e o low) (omega arith) t (omega arith) (omega arith)
  said_before {a} {rs = rs} {ds = ds} {es = es} e o (fuelled {N = N} {R = R} g low h h') =
      fuelled {N = N} {R = R} (stepped a rs ds es o g) (low_before (state (at a) rs ds es) e o low) (omega arith) (omega arith)
  said_before {a} {rs = rs} {ds = ds} {es = es} e o (deepened {N = N} {R = R} g low l p b h h') =
      deepened {N = N} {R = R} (stepped a rs ds es o g) (low_before (state (at a) rs ds es) e o low) (omega arith) p b (omega arith) (omega arith)
  said_before {a} {rs = rs} {ds = ds} {es = es} e o (zeroed {N = N} {R = R} g low l p h h') =
      zeroed {N = N} {R = R} (stepped a rs ds es o g) (low_before (state (at a) rs ds es) e o low) (omega arith) p (omega arith) (omega arith)
  said_before {a} {rs = rs} {ds = ds} {es = es} e o (jammed g p) = jammed (stepped a rs ds es o g) p

  pub says : (k : ℕ) (s : State) (n r : ℕ) → too_high s ≡ false → Says k s n r (run code k s n r)
  unfolding run after_step unless_high
  says zero (state stop rs ds es) n r low =
      halted {N = n} {R = r} stay (low_at (state stop rs ds es) low) (omega arith) refl (omega arith) (omega arith)
  says zero (state (at a) rs ds es) n r low = fuelled {N = n} {R = r} stay (low_at (state (at a) rs ds es) low) (omega arith) (omega arith)
  says (suc k) (state stop rs ds es) n r low =
      halted {N = n} {R = r} stay (low_at (state stop rs ds es) low) (omega arith) refl (omega arith) (omega arith)
  says (suc k) (state (at a) rs ds es) n r low = of (obey (code a) rs ds es) refl (λ s'. says k s' (n + 1) (r + rewrites (code a)))
    where
      onward : State → Ending
      onward x = run code k x (n + 1) (r + rewrites (code a))

      test : (s : State) (b : Bool) → too_high s ≡ b → obey (code a) rs ds es ≡ next s
          → (too_high s ≡ false → Says k s (n + 1) (r + rewrites (code a)) (onward s))
          → Says (suc k) (state (at a) rs ds es) n r (unless_high b n r s onward)
      test s true e h rec = deepened {N = n} {R = r} stay (low_at (state (at a) rs ds es) low) (omega arith) h e (omega arith) (omega arith)
      test s false e h rec = said_before low h (rec e)

      of : (x : Next) → obey (code a) rs ds es ≡ x → ((s' : State) → too_high s' ≡ false → Says k s' (n + 1) (r + rewrites (code a)) (onward s'))
          → Says (suc k) (state (at a) rs ds es) n r (after_step x n r onward)
      of no_step h rec = jammed stay h
      of zero_division h rec = zeroed {N = n} {R = r} stay (low_at (state (at a) rs ds es) low) (omega arith) h (omega arith) (omega arith)
      of (next s) h rec = test s (too_high s) refl h (rec s)
