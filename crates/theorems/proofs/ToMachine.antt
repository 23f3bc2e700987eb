-- Fourth: trees to machine. From the entrance of a term the machine comes to what follows it, with the tree's value on the data stack, in exactly the
-- rewrites that the tree costs; with a fall it comes to a division by 0. Assumes nothing.
use mathlib.Core.Path.{◌≡◌, refl, ap, ◌∙◌}
use mathlib.Core.Option.{Option, some}
use mathlib.Core.List.{List, [], ◌∷◌, ◌++◌, map}
use Prim.Native.Nat.{ℕ, zero, suc, ◌+◌}
use native.Mathlib.Omega.{arith}
use lib.ListN.{length, get_elem?}
use Rattle.meaning.specs.Arithmetic.{Op, constant, add, sub, mul, div, rem, eq, lt, and, or, neg, domain, Applied, gives, by_zero, unfit, apply, of_none, of_one, of_two, of_divided}
use Rattle.meaning.specs.Terms.{Term, Terms, nil, cons, Program}
use Rattle.meaning.specs.Code.{size, sizes, entrance, row_entrance, entrances, unsorted, Instruction, EVAL, EXEC, SELECT, CALL}
use Rattle.meaning.specs.Machine.{value, waiting, Frame, Environment, Place, at, state, taken, look_at, look_up, push_result, execute, choose, enter, call_body, go_back, obey, rewrites}
use Rattle.theorems.proofs.Splitting.{clash}
use Rattle.theorems.proofs.Trees.{Argument, given, waits, Chain, bottom, push, all_wait, call_frame, Tree, entry_argument, value_argument, waiting_argument, operation, yes_branch, no_branch, body, Row, done, then, row_length, cost, row_cost, Fall, in_waiting, in_operand, divides, in_condition, in_yes_branch, in_no_branch, in_strict, in_body, RowFall, at_first, at_later, fall_cost, row_fall_cost}
use Rattle.theorems.proofs.Courses.{Goes, stay, go, timed, Comes, comes, ◌▹◌, counting, Divides, divides_at, divides_after, divides_counting}
use Rattle.theorems.proofs.Holding.{HoldsTerm, HoldsStrict, HoldsWaiting, Loaded}

-- An operation that has a value, or divides by 0, was given as many values as it takes.

unfoldable Fit : Applied → Type 0
Fit (gives v) = Unit {0}
Fit by_zero = Unit {0}
Fit unfit = ⊥

two_given : (f : ℕ → ℕ → ℕ) (vs : List ℕ) → Fit (of_two f vs) → length vs ≡ 2
unfolding of_two Fit
two_given f [] h = absurd h
two_given f (a ∷ []) h = absurd h
two_given f (a ∷ b ∷ []) h = refl
two_given f (a ∷ b ∷ x ∷ vs) h = absurd h

divided_given : (f : ℕ → ℕ → ℕ) (vs : List ℕ) → Fit (of_divided f vs) → length vs ≡ 2
unfolding of_divided Fit
divided_given f [] h = absurd h
divided_given f (a ∷ []) h = absurd h
divided_given f (a ∷ b ∷ []) h = refl
divided_given f (a ∷ b ∷ x ∷ vs) h = absurd h

one_given : (f : ℕ → ℕ) (vs : List ℕ) → Fit (of_one f vs) → length vs ≡ 1
unfolding of_one Fit
one_given f [] h = absurd h
one_given f (a ∷ []) h = refl
one_given f (a ∷ b ∷ vs) h = absurd h

none_given : (w : ℕ) (vs : List ℕ) → Fit (of_none w vs) → length vs ≡ 0
unfolding of_none Fit
none_given w [] h = refl
none_given w (a ∷ vs) h = absurd h

enough_given : (o : Op) (vs : List ℕ) → Fit (apply o vs) → length vs ≡ length (domain o)
unfolding apply domain
enough_given (constant s w) vs h = none_given _ vs h
enough_given add vs h = two_given _ vs h
enough_given sub vs h = two_given _ vs h
enough_given mul vs h = two_given _ vs h
enough_given div vs h = divided_given _ vs h
enough_given rem vs h = divided_given _ vs h
enough_given eq vs h = two_given _ vs h
enough_given lt vs h = two_given _ vs h
enough_given and vs h = two_given _ vs h
enough_given or vs h = two_given _ vs h
enough_given neg vs h = one_given _ vs h

-- In code a constant has lost its sort, and nothing else.
unsorted_apply : (o : Op) → apply (unsorted o) ≡ apply o
unfolding apply unsorted
unsorted_apply (constant s w) = refl
unsorted_apply add = refl
unsorted_apply sub = refl
unsorted_apply mul = refl
unsorted_apply div = refl
unsorted_apply rem = refl
unsorted_apply eq = refl
unsorted_apply lt = refl
unsorted_apply and = refl
unsorted_apply or = refl
unsorted_apply neg = refl

-- The values of a row on the data stack, the last on top, and how they are taken off again.

unfoldable pub pile : List ℕ → List ℕ → List ℕ
pile [] ds = ds
pile (v ∷ vs) ds = pile vs (v ∷ ds)

taken_as : {n m : ℕ} (vs ds : List ℕ) → n ≡ m → taken n vs ds ≡ taken m vs ds
taken_as vs ds h = ap (λ n. taken n vs ds) h

taken_more : (vs us ds : List ℕ) (k : ℕ) → taken (length vs + k) us (pile vs ds) ≡ taken k (vs ++ us) ds
unfolding pile taken
taken_more [] us ds k = taken_as {n = 0 + k} {m = k} us ds (omega arith)
taken_more (v ∷ vs) us ds k =
    taken_as {n = suc (length vs) + k} {m = length vs + suc k} us (pile vs (v ∷ ds)) (omega arith) ∙ taken_more vs us (v ∷ ds) (suc k)

append_nil : (vs : List ℕ) → vs ++ [] ≡ vs
append_nil [] = refl
append_nil (v ∷ vs) = ap (λ l. v ∷ l) (append_nil vs)

taken_pile : (k : ℕ) (vs ds : List ℕ) → length vs ≡ k → taken k [] (pile vs ds) ≡ some (vs, ds)
unfolding taken
taken_pile k vs ds h =
    taken_as {n = k} {m = length vs + 0} [] (pile vs ds) (omega arith) ∙ taken_more vs [] ds 0 ∙ ap (λ l. some (l, ds)) (append_nil vs)

-- The machine's frames stand for the chain's: values are the same, and an address is the entrance of the term that waits.

module _ (C : ℕ → Option Instruction) (bodies : List ℕ) (ret : ℕ) where
  pub data FrameFor : List Argument → Frame → Type 0 where
    empty : FrameFor [] []
    of_given : {v : ℕ} {f : List Argument} {s : Frame} → FrameFor f s → FrameFor (given v ∷ f) (value v ∷ s)
    of_waits : {t : Term} (a : ℕ) {f : List Argument} {s : Frame} → HoldsTerm C bodies ret t a ret → FrameFor f s
        → FrameFor (waits t ∷ f) (waiting (entrance t a) ∷ s)

  pub data ChainFor : Chain → Environment → Type 0 where
    of_bottom : {vs : List ℕ} → ChainFor (bottom vs) (map value vs ∷ [])
    of_push : {f : List Argument} {e : Chain} {s : Frame} {E : Environment} → FrameFor f s → ChainFor e E → ChainFor (push f e) (s ∷ E)

entry_slot : (vs : List ℕ) (i : ℕ) {v : ℕ} → get_elem? vs i ≡ some v → get_elem? (map value vs) i ≡ some (value v)
entry_slot [] i h = clash (cc)
entry_slot (x ∷ vs) zero h = cc
entry_slot (x ∷ vs) (suc i) h = entry_slot vs i h

module _ {C : ℕ → Option Instruction} {bodies : List ℕ} {ret : ℕ} where
  given_slot : {f : List Argument} {s : Frame} → FrameFor C bodies ret f s → (i : ℕ) {v : ℕ} → get_elem? f i ≡ some (given v)
      → get_elem? s i ≡ some (value v)
  given_slot empty i h = clash (cc)
  given_slot (of_given r) zero h = cc
  given_slot (of_given r) (suc i) h = given_slot r i h
  given_slot (of_waits a k r) zero h = clash (cc)
  given_slot (of_waits a k r) (suc i) h = given_slot r i h

  pub waits_slot : {f : List Argument} {s : Frame} → FrameFor C bodies ret f s → (i : ℕ) {t : Term} → get_elem? f i ≡ some (waits t)
      → (a : ℕ) × (get_elem? s i ≡ some (waiting (entrance t a))) × HoldsTerm C bodies ret t a ret
  waits_slot empty i h = clash (cc)
  waits_slot (of_given r) zero h = clash (cc)
  waits_slot (of_given r) (suc i) h = waits_slot r i h
  waits_slot (of_waits {t = u} a k r) zero {t} h = let same : u ≡ t = cc in rw (← same) (a, refl, k)
  waits_slot (of_waits a k r) (suc i) h = waits_slot r i h

  pub call_frame_for : (vs : List ℕ) (ws : Terms) (a : ℕ) → HoldsWaiting C bodies ret ws a
      → FrameFor C bodies ret (call_frame vs ws) (map value vs ++ map waiting (entrances ws a))
  unfolding call_frame all_wait entrances HoldsWaiting
  call_frame_for [] nil a h = empty
  call_frame_for [] (cons t ws) a h = of_waits a h.0 (call_frame_for [] ws (a + size t) h.1)
  call_frame_for (v ∷ vs) ws a h = of_given (call_frame_for vs ws a h)

module _ {P : Program} {C : ℕ → Option Instruction} {bodies : List ℕ} {ret : ℕ} (L : Loaded P C bodies ret) where
  -- One step of each kind.

  value_step : {a i b v : ℕ} {rs : List Place} {ds : List ℕ} {f : Frame} {E : Environment} {es : List Environment} → C a ≡ some (EVAL i b)
      → get_elem? f i ≡ some (value v)
      → Goes C (state (at a) rs ds ((f ∷ E) ∷ es)) 1 0 (state (at b) rs (v ∷ ds) ((f ∷ E) ∷ es))
  unfolding obey look_up look_at rewrites
  value_step {b = b} {rs = rs} {ds = ds} {f = f} {E = E} {es = es} h k =
      timed (go h (ap (λ x. look_at x b rs ds f E es) k) stay) (omega arith) (omega arith)

  pub waiting_step : {a i b w : ℕ} {rs : List Place} {ds : List ℕ} {f : Frame} {E : Environment} {es : List Environment} → C a ≡ some (EVAL i b)
      → get_elem? f i ≡ some (waiting w)
      → Goes C (state (at a) rs ds ((f ∷ E) ∷ es)) 1 0 (state (at w) (at b ∷ rs) ds (E ∷ (f ∷ E) ∷ es))
  unfolding obey look_up look_at rewrites
  waiting_step {b = b} {rs = rs} {ds = ds} {f = f} {E = E} {es = es} h k =
      timed (go h (ap (λ x. look_at x b rs ds f E es) k) stay) (omega arith) (omega arith)

  pub return_step : {p : Place} {rs : List Place} {ds : List ℕ} {E : Environment} {es : List Environment}
      → Goes C (state (at ret) (p ∷ rs) ds (E ∷ es)) 1 0 (state p rs ds es)
  unfolding obey go_back rewrites
  return_step = timed (go L.ret_held refl stay) (omega arith) (omega arith)

  -- An EXEC finds the values that its operation takes.
  executed : (o : Op) (vs : List ℕ) {a b : ℕ} (rs : List Place) (ds : List ℕ) (es : List Environment) → C a ≡ some (EXEC (unsorted o) b)
      → Fit (apply o vs) → obey (some (EXEC (unsorted o) b)) rs (pile vs ds) es ≡ push_result (apply o vs) b rs ds es
  unfolding obey execute
  executed o vs {b = b} rs ds es h k =
      let same : apply (unsorted o) vs ≡ apply o vs = ap (λ f. f vs) (unsorted_apply o) in
      ap (λ x. execute (unsorted o) x b rs es) (taken_pile (length (domain (unsorted o))) vs ds (enough_given (unsorted o) vs (rw same k))) ∙ ap (λ x. push_result x b rs ds es) same

  operation_step : (o : Op) (vs : List ℕ) {a b v : ℕ} {rs : List Place} {ds : List ℕ} {es : List Environment} → C a ≡ some (EXEC (unsorted o) b)
      → apply o vs ≡ gives v
      → Goes C (state (at a) rs (pile vs ds) es) 1 1 (state (at b) rs (v ∷ ds) es)
  unfolding push_result rewrites Fit
  operation_step o vs {b = b} {rs = rs} {ds = ds} {es = es} h k =
      timed (go h (executed o vs rs ds es h (rw k tt) ∙ ap (λ x. push_result x b rs ds es) k) stay) (omega arith) (omega arith)

  zero_step : (o : Op) (vs : List ℕ) {a b : ℕ} (rs : List Place) (ds : List ℕ) (es : List Environment) → C a ≡ some (EXEC (unsorted o) b)
      → apply o vs ≡ by_zero → Divides C (state (at a) rs (pile vs ds) es) 0
  unfolding push_result Fit
  zero_step o vs {b = b} rs ds es h k =
      divides_at stay (ap (λ x. obey x rs (pile vs ds) es) h ∙ executed o vs rs ds es h (rw k tt) ∙ ap (λ x. push_result x b rs ds es) k)

  pub choose_yes : {a x y : ℕ} {rs : List Place} {ds : List ℕ} {es : List Environment} → C a ≡ some (SELECT x y)
      → Goes C (state (at a) rs (1 ∷ ds) es) 1 1 (state (at x) rs ds es)
  unfolding obey choose rewrites
  choose_yes h = timed (go h refl stay) (omega arith) (omega arith)

  pub choose_no : {a x y : ℕ} {rs : List Place} {ds : List ℕ} {es : List Environment} → C a ≡ some (SELECT x y)
      → Goes C (state (at a) rs (0 ∷ ds) es) 1 1 (state (at y) rs ds es)
  unfolding obey choose rewrites
  choose_no h = timed (go h refl stay) (omega arith) (omega arith)

  pub call_step : (vs : List ℕ) {a x k b : ℕ} {ws : List ℕ} {rs : List Place} {ds : List ℕ} {E : Environment} {es : List Environment}
      → C a ≡ some (CALL x k ws b) → length vs ≡ k
      → Goes C (state (at a) rs (pile vs ds) (E ∷ es)) 1 1 (state (at x) (at b ∷ rs) ds (((map value vs ++ map waiting ws) ∷ E) ∷ E ∷ es))
  unfolding obey call_body enter rewrites
  call_step vs {x = x} {k = k} {b = b} {ws = ws} {rs = rs} {ds = ds} {E = E} {es = es} h l =
      timed (go h (ap (λ p. enter p x ws b rs E es) (taken_pile k vs ds l)) stay) (omega arith) (omega arith)

  -- A tree's whole course.
  mutual
    unfolding cost HoldsTerm entrance pile

    pub tree_goes : {e : Chain} {t : Term} {v : ℕ} (d : Tree P e t v) (a b : ℕ) {E : Environment} (rs : List Place) (ds : List ℕ) (es : List Environment) → HoldsTerm C bodies ret t a b → ChainFor C bodies ret e E
        → Comes C (state (at (entrance t a)) rs ds (E ∷ es)) (cost d) (state (at b) rs (v ∷ ds) (E ∷ es))
    tree_goes (entry_argument {vs = vs} {i = i} h) a b rs ds es k of_bottom = comes (value_step k (entry_slot vs i h))
    tree_goes (value_argument {i = i} h) a b rs ds es k (of_push q r) = comes (value_step k (given_slot q i h))
    tree_goes (waiting_argument {i = i} h d) a b rs ds es k (of_push {s = s} {E = E} q r) =
        let p = waits_slot q i h in
        counting (comes (waiting_step k p.1) ▹ tree_goes d p.0 ret (at b ∷ rs) ds ((s ∷ E) ∷ es) p.2 r ▹ comes return_step) (omega arith)
    tree_goes (operation {o = o} {vs = vs} ts h) a b rs ds es k r =
        counting (row_goes ts (suc a) a rs ds es k.1 r ▹ comes (operation_step o vs k.0 h)) (omega arith)
    tree_goes (yes_branch d d') a b rs ds es k r =
        counting (tree_goes d (suc a) a rs ds es k.1 r ▹ comes (choose_yes k.0) ▹ tree_goes d' _ b rs ds es k.2 r) (omega arith)
    tree_goes (no_branch d d') a b rs ds es k r =
        counting (tree_goes d (suc a) a rs ds es k.1 r ▹ comes (choose_no k.0) ▹ tree_goes d' _ b rs ds es k.3 r) (omega arith)
    tree_goes (body {f = f} {F = F} {ss = ss} {ws = ws} {vs = vs} ts h d) a b {E} rs ds es k r =
        let p = L.body_held f F h in
        counting
        (row_goes ts (suc a) a rs ds es k.1 r ▹ comes (call_step vs k.0 (row_length ts))
        ▹ (rw (← p.1) at (tree_goes d p.0 ret (at b ∷ rs) ds (E ∷ es) p.2 (of_push (call_frame_for vs ws (suc a + sizes ss) k.2) r))) ▹ comes return_step)
        (omega arith)

    pub row_goes : {e : Chain} {ts : Terms} {vs : List ℕ} (q : Row P e ts vs) (a home : ℕ) {E : Environment} (rs : List Place) (ds : List ℕ) (es : List Environment) → HoldsStrict C bodies ret ts a home → ChainFor C bodies ret e E
        → Comes C (state (at (row_entrance ts a home)) rs ds (E ∷ es)) (row_cost q) (state (at home) rs (pile vs ds) (E ∷ es))
    row_goes done a home rs ds es k r = comes stay
    row_goes (then {t = t} {v = v} d q) a home rs ds es k r = tree_goes d a _ rs ds es k.0 r ▹ row_goes q (a + size t) home rs (v ∷ ds) es k.1 r

  -- A fall's course, up to the division by 0.
  mutual
    unfolding fall_cost HoldsTerm entrance pile

    pub fall_goes : {e : Chain} {t : Term} (d : Fall P e t) (a b : ℕ) {E : Environment} (rs : List Place) (ds : List ℕ) (es : List Environment) → HoldsTerm C bodies ret t a b → ChainFor C bodies ret e E
        → Divides C (state (at (entrance t a)) rs ds (E ∷ es)) (fall_cost d)
    fall_goes (in_waiting {i = i} h d) a b rs ds es k (of_push {s = s} {E = E} q r) =
        let p = waits_slot q i h in
        divides_counting (divides_after (comes (waiting_step k p.1)) (fall_goes d p.0 ret (at b ∷ rs) ds ((s ∷ E) ∷ es) p.2 r)) (omega arith)
    fall_goes (in_operand ts) a b rs ds es k r = row_fall_goes ts (suc a) a rs ds es k.1 r
    fall_goes (divides {o = o} {vs = vs} ts h) a b rs ds es k r =
        divides_counting (divides_after (row_goes ts (suc a) a rs ds es k.1 r) (zero_step o vs rs ds (_ ∷ es) k.0 h)) (omega arith)
    fall_goes (in_condition d) a b rs ds es k r = fall_goes d (suc a) a rs ds es k.1 r
    fall_goes (in_yes_branch d d') a b rs ds es k r =
        divides_counting (divides_after (tree_goes d (suc a) a rs ds es k.1 r ▹ comes (choose_yes k.0)) (fall_goes d' _ b rs ds es k.2 r)) (omega arith)
    fall_goes (in_no_branch d d') a b rs ds es k r =
        divides_counting (divides_after (tree_goes d (suc a) a rs ds es k.1 r ▹ comes (choose_no k.0)) (fall_goes d' _ b rs ds es k.3 r)) (omega arith)
    fall_goes (in_strict ts) a b rs ds es k r = row_fall_goes ts (suc a) a rs ds es k.1 r
    fall_goes (in_body {f = f} {F = F} {ss = ss} {ws = ws} {vs = vs} ts h d) a b {E} rs ds es k r =
        let p = L.body_held f F h in
        divides_counting
        (divides_after (row_goes ts (suc a) a rs ds es k.1 r ▹ comes (call_step vs k.0 (row_length ts)))
        (rw (← p.1) at (fall_goes d p.0 ret (at b ∷ rs) ds (E ∷ es) p.2 (of_push (call_frame_for vs ws (suc a + sizes ss) k.2) r))))
        (omega arith)

    row_fall_goes : {e : Chain} {ts : Terms} (q : RowFall P e ts) (a home : ℕ) {E : Environment} (rs : List Place) (ds : List ℕ) (es : List Environment) → HoldsStrict C bodies ret ts a home → ChainFor C bodies ret e E
        → Divides C (state (at (row_entrance ts a home)) rs ds (E ∷ es)) (row_fall_cost q)
    row_fall_goes (at_first d) a home rs ds es k r = fall_goes d a _ rs ds es k.0 r
    row_fall_goes (at_later {t = t} {v = v} d q) a home rs ds es k r =
        divides_after (tree_goes d a _ rs ds es k.0 r) (row_fall_goes q (a + size t) home rs (v ∷ ds) es k.1 r)
