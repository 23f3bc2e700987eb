-- Third: how many steps r rewrites can take, at every place of the machine's course. Every call is a rewrite; every value that is looked up is taken by a
-- rewrite, or still stands on the data stack; waiting lookups go down the chain of frames, which is no longer than the calls made, and only a rewrite or a value
-- that has come up lets the machine start from another chain. Assumes nothing.
use mathlib.Core.Path.{◌≡◌, refl, ap, subst, subst₂}
use mathlib.Core.Logic.{◌⊎◌, inl, inr}
use mathlib.Core.Option.{Option, none, some}
use mathlib.Core.List.{List, [], ◌∷◌, ◌++◌, map}
use Prim.Native.Nat.{ℕ, zero, suc, ◌+◌, ◌*◌, ◌≤◌}
use native.Mathlib.Nat.{mul-le-mul_right}
use native.Mathlib.Omega.{arith}
use lib.ListN.{length, get_elem?}
use Rattle.meaning.specs.Arithmetic.{Op, Applied, gives, by_zero, unfit, apply, domain}
use Rattle.meaning.specs.Numbers.{most_arguments}
use Rattle.meaning.specs.Code.{Instruction, EVAL, EXEC, SELECT, CALL, RET}
use Rattle.meaning.specs.Machine.{Slot, value, waiting, Frame, Environment, Place, stop, at, State, state, next, taken, look_at, look_up, push_result, execute, choose, enter, call_body, go_back, obey, rewrites, start}
use Rattle.theorems.proofs.Splitting.{clash}
use Rattle.theorems.proofs.Sorts.{two_at_most}
use Rattle.theorems.proofs.Courses.{Goes, stay, go, next_same}
use Rattle.theorems.proofs.Targets.{Works, AllWork, Leading}

-- A frame in which nothing waits.
unfoldable pub NoneWaits : Frame → Type 0
NoneWaits [] = Unit {0}
NoneWaits (value v ∷ f) = NoneWaits f
NoneWaits (waiting a ∷ f) = ⊥

-- Where the machine is, then all return addresses: they end with the stop.
unfoldable pub Closing : Place → List Place → Type 0
Closing stop [] = Unit {0}
Closing stop (p ∷ rs) = ⊥
Closing (at a) [] = ⊥
Closing (at a) (p ∷ rs) = Closing p rs

unfoldable pub top_length : List Environment → ℕ
top_length [] = 1
top_length (E ∷ es) = length E

never_waits : (f : Frame) (i : ℕ) {w : ℕ} → NoneWaits f → get_elem? f i ≡ some (waiting w) → ⊥
unfolding NoneWaits
never_waits [] i h e = clash (cc)
never_waits (value v ∷ f) zero h e = clash (cc)
never_waits (value v ∷ f) (suc i) h e = never_waits f i h e
never_waits (waiting a ∷ f) i h e = h

values_wait_not : (vs : List ℕ) → NoneWaits (map value vs)
unfolding NoneWaits
values_wait_not [] = tt
values_wait_not (v ∷ vs) = values_wait_not vs

closing_any : (a b : ℕ) (rs : List Place) → Closing (at a) rs → Closing (at b) rs
unfolding Closing
closing_any a b [] h = absurd h
closing_any a b (p ∷ rs) h = h

some_return : (a : ℕ) (rs : List Place) → Closing (at a) rs → 1 ≤ length rs
unfolding Closing
some_return a [] h = absurd h
some_return a (p ∷ rs) h = omega arith

taken_length : (k : ℕ) (vs ds us ds' : List ℕ) → taken k vs ds ≡ some (us, ds') → length ds ≡ length ds' + k
unfolding taken
taken_length zero vs ds us ds' e = let h : ds ≡ ds' = ap (λ p. p.1) (same e) in omega (arith, ap length h)
  where
    same : {x y : List ℕ × List ℕ} → some x ≡ some y → x ≡ y
    same e = cc
taken_length (suc k) vs [] us ds' e = clash (cc)
taken_length (suc k) vs (d ∷ ds) us ds' e = omega (arith, taken_length k (d ∷ vs) ds us ds' e)

module _ (C : ℕ → Option Instruction) where
  -- A frame whose waiting arguments are entered at no RET.
  unfoldable pub FrameWorks : Frame → Type 0
  FrameWorks [] = Unit {0}
  FrameWorks (value v ∷ f) = FrameWorks f
  FrameWorks (waiting a ∷ f) = Works (C a) × FrameWorks f

  -- A chain of such frames; nothing waits in the lowest.
  pub data Chained : Environment → Type 0 where
    lowest : {f : Frame} → NoneWaits f → Chained (f ∷ [])
    above : {f : Frame} {E : Environment} → FrameWorks f → Chained E → Chained (f ∷ E)

  -- Every chain on the stack is one, and none is longer than n.
  pub data AllChained (n : ℕ) : List Environment → Type 0 where
    no_chain : AllChained n []
    and_chain : {E : Environment} {es : List Environment} → Chained E → length E ≤ n → AllChained n es → AllChained n (E ∷ es)

  unfoldable pub PlaceWorks : Place → Type 0
  PlaceWorks stop = Unit {0}
  PlaceWorks (at a) = Works (C a)

  -- v value lookups, w waiting lookups and r rewrites so far: the machine walks down a chain, or a value has just come up.
  abbrev pub Walk : ℕ → ℕ → ℕ → Place → List Environment → Type 0
  Walk v w r p es = (PlaceWorks p × (w + top_length es ≤ (v + r) * r + 1)) ⊎ (w + r ≤ (v + r) * r)

  -- After n steps with r rewrites: so many lookups of values and of waiting arguments, returns, and calls that pushed.
  pub record Paced (n r : ℕ) (p : Place) (rs : List Place) (ds : List ℕ) (es : List Environment) : Type 0 where
    pub values : ℕ
    pub waitings : ℕ
    pub returns : ℕ
    pub pushes : ℕ
    pub every_step : n ≡ r + values + waitings + returns
    pub pushes_rewrite : pushes ≤ r
    pub heights : length rs + returns ≡ 1 + pushes + waitings
    pub values_taken : values ≤ most_arguments * r + length ds
    pub closing : Closing p rs
    pub chained : AllChained (suc r) es
    pub walk : Walk values waitings r p es

  pub data PacedAt (n r : ℕ) : State → Type 0 where
    paced : {p : Place} {rs : List Place} {ds : List ℕ} {es : List Environment} → Paced n r p rs ds es → PacedAt n r (state p rs ds es)

  waiting_works : (f : Frame) (i : ℕ) {w : ℕ} → FrameWorks f → get_elem? f i ≡ some (waiting w) → Works (C w)
  unfolding FrameWorks
  waiting_works [] i h e = clash (cc)
  waiting_works (value v ∷ f) zero h e = clash (cc)
  waiting_works (value v ∷ f) (suc i) h e = waiting_works f i h e
  waiting_works (waiting a ∷ f) zero {w} h e = let same : a ≡ w = cc in subst (λ x. Works (C x)) same h.0
  waiting_works (waiting a ∷ f) (suc i) h e = waiting_works f i h.1 e

  frame_works : (vs ws : List ℕ) → AllWork C ws → FrameWorks (map value vs ++ map waiting ws)
  unfolding FrameWorks AllWork
  frame_works [] [] h = tt
  frame_works [] (w ∷ ws) h = (h.0, frame_works [] ws h.1)
  frame_works (v ∷ vs) ws h = frame_works vs ws h

  some_frame : {E : Environment} → Chained E → 1 ≤ length E
  some_frame (lowest h) = omega arith
  some_frame (above h c) = omega arith

  longer : {n m : ℕ} {es : List Environment} → n ≤ m → AllChained n es → AllChained m es
  longer l no_chain = no_chain
  longer l (and_chain c k cs) = and_chain c (omega arith) (longer l cs)

  -- However it walks, there is room for the chain on top.
  top_room : (v w r : ℕ) (p : Place) (es : List Environment) → Walk v w r p es → AllChained (suc r) es
      → (w + top_length es ≤ (v + r) * r + 1) × (w ≤ (v + r) * r)
  unfolding top_length
  top_room v w r p [] (inl h) c = (h.1, omega (arith, h.1))
  top_room v w r p (E ∷ es) (inl h) (and_chain c k cs) = (h.1, omega (arith, h.1, some_frame c))
  top_room v w r p [] (inr h) c = (omega arith, omega arith)
  top_room v w r p (E ∷ es) (inr h) (and_chain c k cs) = (omega arith, omega arith)

  -- One step of each kind.

  to_next : {n r : ℕ} {p : Place} {rs : List Place} {ds : List ℕ} {es : List Environment} {s : State} → next (state p rs ds es) ≡ next s
      → Paced n r p rs ds es → PacedAt n r s
  to_next {n} {r} e h = subst (PacedAt n r) (next_same e) (paced h)

  module _ {n r a : ℕ} {rs : List Place} {ds : List ℕ} where
    value_paced : {b v : ℕ} {es : List Environment} → Paced n r (at a) rs ds es → Paced (n + 1) (r + 0) (at b) rs (v ∷ ds) es
    value_paced {es = es} h =
        let t = top_room h.values h.waitings r (at a) es h.walk h.chained in
        record {
          values = h.values + 1;
          waitings = h.waitings;
          returns = h.returns;
          pushes = h.pushes;
          every_step = omega (arith, h.every_step);
          pushes_rewrite = omega (arith, h.pushes_rewrite);
          heights = h.heights;
          values_taken = omega (arith, h.values_taken);
          closing = closing_any a _ rs h.closing;
          chained = longer (omega arith) h.chained;
          walk = inr (omega (arith, t.1));
        }

    waiting_paced : {b w : ℕ} {f : Frame} {E : Environment} {es : List Environment} → Works (C w) → Chained E
        → Paced n r (at a) rs ds ((f ∷ E) ∷ es) → Paced (n + 1) (r + 0) (at w) (at b ∷ rs) ds (E ∷ (f ∷ E) ∷ es)
    unfolding Closing PlaceWorks top_length
    waiting_paced {f = f} {E = E} {es = es} k c h =
        let t = top_room h.values h.waitings r (at a) ((f ∷ E) ∷ es) h.walk h.chained in
        let l = top_low h.chained in
        record {
          values = h.values;
          waitings = h.waitings + 1;
          returns = h.returns;
          pushes = h.pushes;
          every_step = omega (arith, h.every_step);
          pushes_rewrite = omega (arith, h.pushes_rewrite);
          heights = omega (arith, h.heights);
          values_taken = omega (arith, h.values_taken);
          closing = closing_any a _ rs h.closing;
          chained = and_chain c (omega (arith, l)) (longer (omega arith) h.chained);
          walk = inl (k, omega (arith, t.0));
        }
      where
        top_low : {m : ℕ} → AllChained m ((f ∷ E) ∷ es) → suc (length E) ≤ m
        top_low (and_chain c l cs) = l

    result_paced : {b v k : ℕ} {ds' : List ℕ} {es : List Environment} → k ≤ 2 → length ds ≡ length ds' + k → Paced n r (at a) rs ds es
        → Paced (n + 1) (r + 1) (at b) rs (v ∷ ds') es
    result_paced {es = es} k l h =
        let t = top_room h.values h.waitings r (at a) es h.walk h.chained in
        record {
          values = h.values;
          waitings = h.waitings;
          returns = h.returns;
          pushes = h.pushes;
          every_step = omega (arith, h.every_step);
          pushes_rewrite = omega (arith, h.pushes_rewrite);
          heights = h.heights;
          values_taken = omega (arith, h.values_taken);
          closing = closing_any a _ rs h.closing;
          chained = longer (omega arith) h.chained;
          walk = inr (omega (arith, t.1));
        }

    branch_paced : {b : ℕ} {ds' : List ℕ} {es : List Environment} → Works (C b) → length ds ≡ length ds' + 1 → Paced n r (at a) rs ds es
        → Paced (n + 1) (r + 1) (at b) rs ds' es
    unfolding PlaceWorks
    branch_paced {es = es} k l h =
        let t = top_room h.values h.waitings r (at a) es h.walk h.chained in
        record {
          values = h.values;
          waitings = h.waitings;
          returns = h.returns;
          pushes = h.pushes;
          every_step = omega (arith, h.every_step);
          pushes_rewrite = omega (arith, h.pushes_rewrite);
          heights = h.heights;
          values_taken = omega (arith, h.values_taken);
          closing = closing_any a _ rs h.closing;
          chained = longer (omega arith) h.chained;
          walk = inl (k, omega (arith, t.0));
        }

    call_paced : {x b k : ℕ} {ds' : List ℕ} {f : Frame} {E : Environment} {es : List Environment} → Works (C x) → FrameWorks f → k ≤ most_arguments
        → length ds ≡ length ds' + k
        → Paced n r (at a) rs ds (E ∷ es) → Paced (n + 1) (r + 1) (at x) (at b ∷ rs) ds' ((f ∷ E) ∷ E ∷ es)
    unfolding Closing PlaceWorks top_length
    call_paced {f = f} {E = E} {es = es} w g k l h =
        let t = top_room h.values h.waitings r (at a) (E ∷ es) h.walk h.chained in
        record {
          values = h.values;
          waitings = h.waitings;
          returns = h.returns;
          pushes = h.pushes + 1;
          every_step = omega (arith, h.every_step);
          pushes_rewrite = omega (arith, h.pushes_rewrite);
          heights = omega (arith, h.heights);
          values_taken = omega (arith, h.values_taken);
          closing = closing_any a _ rs h.closing;
          chained = grown h.chained;
          walk = inl (w, omega (arith, t.0));
        }
      where
        grown : AllChained (suc r) (E ∷ es) → AllChained (suc (r + 1)) ((f ∷ E) ∷ E ∷ es)
        grown (and_chain c m cs) = and_chain (above g c) (omega arith) (and_chain c (omega arith) (longer (omega arith) cs))

  return_paced : {n r a : ℕ} {p : Place} {rs : List Place} {ds : List ℕ} {E : Environment} {es : List Environment} → C a ≡ some RET
      → Paced n r (at a) (p ∷ rs) ds (E ∷ es) → Paced (n + 1) (r + 0) p rs ds es
  unfolding Closing PlaceWorks Works
  return_paced {r = r} {a = a} {p = p} {E = E} {es = es} e h =
      record {
        values = h.values;
        waitings = h.waitings;
        returns = h.returns + 1;
        pushes = h.pushes;
        every_step = omega (arith, h.every_step);
        pushes_rewrite = omega (arith, h.pushes_rewrite);
        heights = omega (arith, h.heights);
        values_taken = omega (arith, h.values_taken);
        closing = h.closing;
        chained = fewer h.chained;
        walk = inr (rested h.values h.waitings h.walk);
      }
    where
      fewer : AllChained (suc r) (E ∷ es) → AllChained (suc (r + 0)) es
      fewer (and_chain c l cs) = longer (omega arith) cs

      rested : (v w : ℕ) → Walk v w r (at a) (E ∷ es) → w + (r + 0) ≤ (v + (r + 0)) * (r + 0)
      rested v w (inl k) = absurd (subst Works e k.0)
      rested v w (inr k) = omega arith

  -- The step that the machine makes.

  first_chained : {m : ℕ} {E : Environment} {es : List Environment} → AllChained m (E ∷ es) → Chained E
  first_chained (and_chain c l cs) = c

  one_down : (f : Frame) (E : Environment) (i : ℕ) {w : ℕ} → Chained (f ∷ E) → get_elem? f i ≡ some (waiting w) → Works (C w) × Chained E
  one_down f E i (lowest z) e = absurd (never_waits f i z e)
  one_down f E i (above z c) e = (waiting_works f i z e, c)

  module _ {n r a : ℕ} {rs : List Place} {ds : List ℕ} {s : State} where
    found_paced : (x : Option Slot) (i b : ℕ) (f : Frame) (E : Environment) (es : List Environment) → get_elem? f i ≡ x → look_at x b rs ds f E es ≡ next s
        → Paced n r (at a) rs ds ((f ∷ E) ∷ es) → PacedAt (n + 1) (r + 0) s
    unfolding look_at
    found_paced none i b f E es e o p = clash (cc)
    found_paced (some (value v)) i b f E es e o p = to_next o (value_paced p)
    found_paced (some (waiting w)) i b f E es e o p =
        let d = one_down f E i (first_chained p.chained) e in to_next o (waiting_paced d.0 d.1 p)

    lookup_paced : (i b : ℕ) (es : List Environment) → look_up i b rs ds es ≡ next s → Paced n r (at a) rs ds es → PacedAt (n + 1) (r + 0) s
    unfolding look_up
    lookup_paced i b [] o p = clash (cc)
    lookup_paced i b ([] ∷ es) o p = clash (cc)
    lookup_paced i b ((f ∷ E) ∷ es) o p = found_paced (get_elem? f i) i b f E es refl o p

    push_paced : (x : Applied) (b k : ℕ) (ds' : List ℕ) (es : List Environment) → push_result x b rs ds' es ≡ next s → k ≤ 2 → length ds ≡ length ds' + k
        → Paced n r (at a) rs ds es → PacedAt (n + 1) (r + 1) s
    unfolding push_result
    push_paced (gives v) b k ds' es o m l p = to_next o (result_paced m l p)
    push_paced by_zero b k ds' es o m l p = clash (cc)
    push_paced unfit b k ds' es o m l p = clash (cc)

    execute_paced : (o' : Op) (x : Option (List ℕ × List ℕ)) (b k : ℕ) (es : List Environment) → execute o' x b rs es ≡ next s → k ≤ 2
        → ((us ds' : List ℕ) → x ≡ some (us, ds') → length ds ≡ length ds' + k)
        → Paced n r (at a) rs ds es → PacedAt (n + 1) (r + 1) s
    unfolding execute
    execute_paced o' none b k es o m l p = clash (cc)
    execute_paced o' (some q) b k es o m l p = push_paced (apply o' q.0) b k q.1 es o m (l q.0 q.1 refl) p

    enter_paced : (x : Option (List ℕ × List ℕ)) (c k : ℕ) (ws : List ℕ) (b : ℕ) (E : Environment) (es : List Environment) → enter x c ws b rs E es ≡ next s
        → k ≤ most_arguments → Works (C c) → AllWork C ws → ((us ds' : List ℕ) → x ≡ some (us, ds') → length ds ≡ length ds' + k)
        → Paced n r (at a) rs ds (E ∷ es) → PacedAt (n + 1) (r + 1) s
    unfolding enter
    enter_paced none c k ws b E es o m w g l p = clash (cc)
    enter_paced (some q) c k ws b E es o m w g l p = to_next o (call_paced w (frame_works q.0 ws g) m (l q.0 q.1 refl) p)

    call_body_paced : (c k : ℕ) (ws : List ℕ) (b : ℕ) (es : List Environment) → call_body c k ws b rs ds es ≡ next s → k ≤ most_arguments → Works (C c)
        → AllWork C ws → Paced n r (at a) rs ds es → PacedAt (n + 1) (r + 1) s
    unfolding call_body
    call_body_paced c k ws b [] o m w g p = clash (cc)
    call_body_paced c k ws b (E ∷ es) o m w g p =
        enter_paced (taken k [] ds) c k ws b E es o m w g (λ us ds' e. taken_length k [] ds us ds' e) p

  choose_paced : {n r a : ℕ} {rs : List Place} {s : State} (x y : ℕ) (ds : List ℕ) (es : List Environment) → choose x y rs ds es ≡ next s → Works (C x)
      → Works (C y) → Paced n r (at a) rs ds es → PacedAt (n + 1) (r + 1) s
  unfolding choose
  choose_paced x y [] es o k k' p = clash (cc)
  choose_paced x y (zero ∷ ds) es o k k' p = to_next o (branch_paced k' (omega arith) p)
  choose_paced x y (suc zero ∷ ds) es o k k' p = to_next o (branch_paced k (omega arith) p)
  choose_paced x y (suc (suc v) ∷ ds) es o k k' p = clash (cc)

  back_paced : {n r a : ℕ} {s : State} (rs : List Place) (ds : List ℕ) (es : List Environment) → C a ≡ some RET → go_back rs ds es ≡ next s
      → Paced n r (at a) rs ds es → PacedAt (n + 1) (r + 0) s
  unfolding go_back
  back_paced [] ds es h o p = clash (cc)
  back_paced (q ∷ rs) ds [] h o p = clash (cc)
  back_paced (q ∷ rs) ds (E ∷ es) h o p = to_next o (return_paced h p)

  step_paced : (a : ℕ) (i : Instruction) (rs : List Place) (ds : List ℕ) (es : List Environment) {n r : ℕ} {s : State} → C a ≡ some i → Leading C i
      → obey (some i) rs ds es ≡ next s → Paced n r (at a) rs ds es → PacedAt (n + 1) (r + rewrites (some i)) s
  unfolding obey rewrites Leading
  step_paced a (EVAL i b) rs ds es h l o p = lookup_paced i b es o p
  step_paced a (EXEC o' b) rs ds es h l o p =
      execute_paced o' (taken (length (domain o')) [] ds) b (length (domain o')) es o (two_at_most o') (λ us ds' e. taken_length (length (domain o')) [] ds us ds' e) p
  step_paced a (SELECT x y) rs ds es h l o p = choose_paced x y ds es o l.0 l.1 p
  step_paced a (CALL x k ws b) rs ds es h l o p = call_body_paced x k ws b es o l.0 l.1 l.2 p
  step_paced a RET rs ds es h l o p = back_paced rs ds es h o p

  -- A course.
  pub course_paced : ((a : ℕ) (i : Instruction) → C a ≡ some i → Leading C i) → {s s' : State} {n r m q : ℕ} → Goes C s m q s' → PacedAt n r s
      → PacedAt (n + m) (r + q) s'
  course_paced lead {s} {n = n} {r = r} stay p = subst₂ (λ x y. PacedAt x y s) (omega arith) (omega arith) p
  course_paced lead {s' = s'} {n = n} {r = r} (go {a = a} {i = i} {rs = rs} {ds = ds} {es = es} h o f) (paced p) =
      subst₂ (λ x y. PacedAt x y s') (omega arith) (omega arith) (course_paced lead f (step_paced a i rs ds es h (lead a i h) o p))

  -- The bound, with k values on the data stack.
  pace_most : {n r : ℕ} {p : Place} {rs : List Place} {ds : List ℕ} {es : List Environment} → Paced n r p rs ds es
      → n + length rs ≤ 18 * (r * r) + 10 * r + (2 * r + 1) * length ds + 1
  pace_most {n} {r} {p} {rs} {ds} {es} h =
      let t = top_room h.values h.waitings r p es h.walk h.chained in
      let many : h.values + r ≤ 9 * r + length ds = omega (arith, h.values_taken) in
      omega (arith, h.every_step, h.pushes_rewrite, h.heights, h.values_taken, t.1, mul-le-mul_right r many)

  pub pace_bound : {n r a : ℕ} {rs : List Place} {ds : List ℕ} {es : List Environment} → PacedAt n r (state (at a) rs ds es)
      → n ≤ 18 * (r * r) + 10 * r + (2 * r + 1) * length ds
  pace_bound {a = a} {rs = rs} (paced h) = omega (arith, pace_most h, some_return a rs h.closing)

  pub stop_bound : {n r : ℕ} {rs : List Place} {ds : List ℕ} {es : List Environment} → PacedAt n r (state stop rs ds es)
      → n ≤ 18 * (r * r) + 10 * r + (2 * r + 1) * length ds + 1
  stop_bound (paced h) = omega (arith, pace_most h)

  pub start_paced : (a : ℕ) (vs : List ℕ) → Works (C a) → PacedAt 0 0 (start a vs)
  unfolding start Closing PlaceWorks top_length
  start_paced a vs w =
      paced {p = at a} {rs = stop ∷ []} {ds = []} {es = (map value vs ∷ []) ∷ []} (record {
        values = 0;
        waitings = 0;
        returns = 0;
        pushes = 0;
        every_step = refl;
        pushes_rewrite = omega arith;
        heights = refl;
        values_taken = omega arith;
        closing = tt;
        chained = and_chain (lowest (values_wait_not vs)) (omega arith) no_chain;
        walk = inl (w, omega arith);
      })
