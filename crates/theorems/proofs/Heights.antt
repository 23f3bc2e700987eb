-- How high the stacks stand: a call and a waiting lookup add one level to the return stack and to the environments, a return takes one off both, and no
-- step adds more than one to a stack. Assumes nothing.
use mathlib.Core.Path.{◌≡◌, refl, ap, subst}
use mathlib.Core.Option.{Option, none, some}
use mathlib.Core.List.{List, [], ◌∷◌}
use Prim.Native.Nat.{ℕ, zero, suc, ◌+◌, ◌≤◌}
use native.Mathlib.Omega.{arith}
use lib.ListN.{length, get_elem?}
use Rattle.meaning.specs.Arithmetic.{Op, Applied, gives, by_zero, unfit, apply, domain}
use Rattle.meaning.specs.Code.{Instruction, EVAL, EXEC, SELECT, CALL, RET}
use Rattle.meaning.specs.Machine.{Slot, value, waiting, Frame, Environment, Place, stop, at, State, state, Next, next, no_step, zero_division, taken, look_at, look_up, push_result, execute, choose, enter, call_body, go_back, obey}
use Rattle.theorems.specs.Unlimited.{step, from_next, state_after, done_in, instruction_at, calls, calls_at, returns, returns_at, is_waiting, looked_at, waiting_lookups, waiting_lookups_at, return_height, data_height, environment_height, environments}
use Rattle.theorems.proofs.Splitting.{clash}
use Rattle.theorems.proofs.Courses.{next_same}

-- What one step does to the heights, `opened` levels being opened and `closed` ones closed.
record Moves (opened closed : ℕ) (rs : List Place) (ds : List ℕ) (es : List Environment) (s : State) : Type 0 where
  pub returns_move : return_height s + closed ≡ length rs + opened
  pub environments_move : environment_height s + closed ≡ length es + opened
  pub data_rises : data_height s ≤ suc (length ds)
  pub returns_rise : return_height s ≤ suc (length rs)

module _ {opened closed : ℕ} {rs : List Place} {ds : List ℕ} {es : List Environment} where
  to_state : {p : Place} {rs' : List Place} {ds' : List ℕ} {es' : List Environment} {s : State} → next (state p rs' ds' es') ≡ next s
      → length rs' + closed ≡ length rs + opened → length es' + closed ≡ length es + opened → length ds' ≤ suc (length ds)
      → length rs' ≤ suc (length rs) → Moves opened closed rs ds es s
  unfolding return_height environment_height data_height
  to_state {p} {rs'} {ds'} {es'} {s} e h k l m =
      subst (Moves opened closed rs ds es) (next_same e) (record { returns_move = h; environments_move = k; data_rises = l; returns_rise = m })

taken_fewer : (k : ℕ) (vs ds : List ℕ) (us ds' : List ℕ) → taken k vs ds ≡ some (us, ds') → length ds' ≤ length ds
unfolding taken
taken_fewer zero vs ds us ds' e = let h : ds ≡ ds' = ap (λ p. p.1) (same e) in omega (arith, ap length h)
  where
    same : {x y : List ℕ × List ℕ} → some x ≡ some y → x ≡ y
    same e = cc
taken_fewer (suc k) vs [] us ds' e = clash (cc)
taken_fewer (suc k) vs (d ∷ ds) us ds' e = omega (arith, taken_fewer k (d ∷ vs) ds us ds' e)

look_at_moves : (x : Option Slot) (b : ℕ) (rs : List Place) (ds : List ℕ) (f : Frame) (E : Environment) (es : List Environment) {s : State}
    → look_at x b rs ds f E es ≡ next s
    → Moves (is_waiting x) 0 rs ds ((f ∷ E) ∷ es) s
unfolding look_at is_waiting
look_at_moves none b rs ds f E es e = clash (cc)
look_at_moves (some (value v)) b rs ds f E es e = to_state e (omega arith) (omega arith) (omega arith) (omega arith)
look_at_moves (some (waiting a)) b rs ds f E es e = to_state e (omega arith) (omega arith) (omega arith) (omega arith)

look_up_moves : (i b : ℕ) (rs : List Place) (ds : List ℕ) (es : List Environment) {s : State} → look_up i b rs ds es ≡ next s
    → Moves (is_waiting (looked_at i es)) 0 rs ds es s
unfolding look_up looked_at
look_up_moves i b rs ds [] e = clash (cc)
look_up_moves i b rs ds ([] ∷ es) e = clash (cc)
look_up_moves i b rs ds ((f ∷ E) ∷ es) e = look_at_moves (get_elem? f i) b rs ds f E es e

push_moves : (x : Applied) (b : ℕ) (rs : List Place) (ds ds' : List ℕ) (es : List Environment) {s : State} → push_result x b rs ds' es ≡ next s
    → length ds' ≤ length ds → Moves 0 0 rs ds es s
unfolding push_result
push_moves unfit b rs ds ds' es e l = clash (cc)
push_moves by_zero b rs ds ds' es e l = clash (cc)
push_moves (gives v) b rs ds ds' es e l = to_state e (omega arith) (omega arith) (omega arith) (omega arith)

execute_moves : (o : Op) (x : Option (List ℕ × List ℕ)) (b : ℕ) (rs : List Place) (ds : List ℕ) (es : List Environment) {s : State}
    → execute o x b rs es ≡ next s
    → ((us ds' : List ℕ) → x ≡ some (us, ds') → length ds' ≤ length ds) → Moves 0 0 rs ds es s
unfolding execute
execute_moves o none b rs ds es e l = clash (cc)
execute_moves o (some p) b rs ds es e l = push_moves (apply o p.0) b rs ds p.1 es e (l p.0 p.1 refl)

choose_moves : (x y : ℕ) (rs : List Place) (ds : List ℕ) (es : List Environment) {s : State} → choose x y rs ds es ≡ next s → Moves 0 0 rs ds es s
unfolding choose
choose_moves x y rs [] es e = clash (cc)
choose_moves x y rs (zero ∷ ds) es e = to_state e (omega arith) (omega arith) (omega arith) (omega arith)
choose_moves x y rs (suc zero ∷ ds) es e = to_state e (omega arith) (omega arith) (omega arith) (omega arith)
choose_moves x y rs (suc (suc v) ∷ ds) es e = clash (cc)

enter_moves : (x : Option (List ℕ × List ℕ)) (a : ℕ) (ws : List ℕ) (b : ℕ) (rs : List Place) (ds : List ℕ) (E : Environment) (es : List Environment) {s : State} → enter x a ws b rs E es ≡ next s
    → ((us ds' : List ℕ) → x ≡ some (us, ds') → length ds' ≤ length ds) → Moves 1 0 rs ds (E ∷ es) s
unfolding enter
enter_moves none a ws b rs ds E es e l = clash (cc)
enter_moves (some p) a ws b rs ds E es e l = to_state e (omega arith) (omega arith) (omega (arith, l p.0 p.1 refl)) (omega arith)

call_moves : (a k : ℕ) (ws : List ℕ) (b : ℕ) (rs : List Place) (ds : List ℕ) (es : List Environment) {s : State}
    → call_body a k ws b rs ds es ≡ next s → Moves 1 0 rs ds es s
unfolding call_body
call_moves a k ws b rs ds [] e = clash (cc)
call_moves a k ws b rs ds (E ∷ es) e = enter_moves (taken k [] ds) a ws b rs ds E es e (λ us ds' h. taken_fewer k [] ds us ds' h)

back_moves : (rs : List Place) (ds : List ℕ) (es : List Environment) {s : State} → go_back rs ds es ≡ next s → Moves 0 1 rs ds es s
unfolding go_back
back_moves [] ds es e = clash (cc)
back_moves (p ∷ rs) ds [] e = clash (cc)
back_moves (p ∷ rs) ds (E ∷ es) e = to_state e (omega arith) (omega arith) (omega arith) (omega arith)

obey_moves : (i : Option Instruction) (rs : List Place) (ds : List ℕ) (es : List Environment) {s : State} → obey i rs ds es ≡ next s
    → Moves (calls i + waiting_lookups i es) (returns i) rs ds es s
unfolding obey calls waiting_lookups returns
obey_moves none rs ds es e = clash (cc)
obey_moves (some (EVAL i b)) rs ds es {s} e = subst (λ n. Moves n 0 rs ds es s) (omega arith) (look_up_moves i b rs ds es e)
obey_moves (some (EXEC o b)) rs ds es e =
    execute_moves o (taken (length (domain o)) [] ds) b rs ds es e (λ us ds' h. taken_fewer (length (domain o)) [] ds us ds' h)
obey_moves (some (SELECT x y)) rs ds es e = choose_moves x y rs ds es e
obey_moves (some (CALL a k ws b)) rs ds es e = call_moves a k ws b rs ds es e
obey_moves (some RET) rs ds es e = back_moves rs ds es e

-- No step adds more than one to a stack.
pub one_at_most : (i : Option Instruction) (rs : List Place) (ds : List ℕ) (es : List Environment) {s : State} → obey i rs ds es ≡ next s
    → (data_height s ≤ suc (length ds)) × (return_height s ≤ suc (length rs))
one_at_most i rs ds es e = let m = obey_moves i rs ds es e in (m.data_rises, m.returns_rise)

-- The heights after n steps, against those before.
module _ (code : ℕ → Option Instruction) where
  abbrev HeightsAfter : ℕ → State → State → Type 0
  HeightsAfter n s s' =
      (return_height s' + done_in code (returns_at code) n s ≡ return_height s + done_in code (calls_at code) n s + done_in code (waiting_lookups_at code) n s)
      × (environment_height s' + return_height s ≡ return_height s' + environment_height s)

  pub heights_after : (n : ℕ) (s : State) {s' : State} → state_after code n s ≡ next s' → HeightsAfter n s s'
  unfolding state_after done_in step from_next instruction_at environments calls_at returns_at waiting_lookups_at return_height environment_height
  heights_after zero s {s'} e =
      let h : s ≡ s' = next_same e in (omega (arith, ap return_height h), omega (arith, ap return_height h, ap environment_height h))
  heights_after (suc n) (state stop rs ds es) e = clash (cc)
  heights_after (suc n) (state (at a) rs ds es) {s'} e = of (obey (code a) rs ds es) refl e (λ s₁. heights_after n s₁)
    where
      of : (x : Next) → obey (code a) rs ds es ≡ x → from_next x no_step (state_after code n) ≡ next s'
          → ((s₁ : State) → state_after code n s₁ ≡ next s' → HeightsAfter n s₁ s')
          → (return_height s' + from_next x 0 (λ s₁. returns (code a) + done_in code (returns_at code) n s₁)
          ≡ length rs + from_next x 0 (λ s₁. calls (code a) + done_in code (calls_at code) n s₁) + from_next x 0 (λ s₁. waiting_lookups (code a) es + done_in code (waiting_lookups_at code) n s₁))
          × (environment_height s' + length rs ≡ return_height s' + length es)
      of no_step h k rec = clash (cc)
      of zero_division h k rec = clash (cc)
      of (next s₁) h k rec =
          let m = obey_moves (code a) rs ds es h in
          let r = rec s₁ k in
          (omega (arith, m.returns_move, r.0), omega (arith, m.returns_move, m.environments_move, r.1))
