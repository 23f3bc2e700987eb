-- First: leftmost rewriting goes argument by argument. A term that reaches a value splits into parts that reach theirs, and parts that reach theirs
-- make a term that does, rewrites added up. So a term reaches one value in one number of rewrites. Assumes nothing.
use mathlib.Core.Path.{◌≡◌, refl, ap, ap₂, ◌∙◌, subst}
use mathlib.Core.Logic.{◌⊎◌, inl, inr}
use mathlib.Core.Option.{Option, none, some}
use mathlib.Core.List.{List, [], ◌∷◌}
use Prim.Native.Nat.{ℕ, zero, suc, ◌+◌}
use native.Mathlib.Omega.{arith}
use lib.ListN.{get_elem?}
use Rattle.meaning.specs.Arithmetic.{Op, Applied, gives, by_zero, unfit, apply}
use Rattle.meaning.specs.Terms.{Function, Program}
use Rattle.meaning.specs.Rewriting.{Closed, val, op_of, cond_of, call_of, Closeds, none_left, and_then, ◌followed_by◌, put_in, vals}
use Rattle.meaning.specs.Rewriting.{Rewrite, is_value, becomes, meets_zero, no_rule, RowRewrite, are_values, become, row_meets_zero, no_rules, after_value, in_row, to_value, rewrite_op, branch, rewrite_cond, body_of, rewrite_call, rewrite, rewrite_row, from_there, rewrite_times, Reaches}

-- Two constructors are never equal.
pub clash {ℓ} : {A : Type ℓ} → ◌≡◌ {A = ℕ} 0 1 → A
clash z = absurd (omega arith)

-- What one rewrite came from.

from_value : (x : Applied) {d : Closed} → to_value x ≡ becomes d → (w : ℕ) × (x ≡ gives w) × (d ≡ val w)
unfolding to_value
from_value (gives w) e = (w, refl, cc)
from_value by_zero e = clash (cc)
from_value unfit e = clash (cc)

no_value : (x : Applied) {v : ℕ} → to_value x ≡ is_value v → ⊥
unfolding to_value
no_value (gives w) e = clash (cc)
no_value by_zero e = clash (cc)
no_value unfit e = clash (cc)

pub op_becomes : (o : Op) (m : RowRewrite) {d : Closed} → rewrite_op o m ≡ becomes d
    → ((vs : List ℕ) × (w : ℕ) × (m ≡ are_values vs) × (apply o vs ≡ gives w) × (d ≡ val w)) ⊎ ((ds : Closeds) × (m ≡ become ds) × (d ≡ op_of o ds))
unfolding rewrite_op
op_becomes o (are_values vs) e = let p = from_value (apply o vs) e in inl (vs, p.0, refl, p.1, p.2)
op_becomes o (become ds) e = inr (ds, refl, cc)
op_becomes o row_meets_zero e = clash (cc)
op_becomes o no_rules e = clash (cc)

op_no_value : (o : Op) (m : RowRewrite) {v : ℕ} → rewrite_op o m ≡ is_value v → ⊥
unfolding rewrite_op
op_no_value o (are_values vs) e = no_value (apply o vs) e
op_no_value o (become ds) e = clash (cc)
op_no_value o row_meets_zero e = clash (cc)
op_no_value o no_rules e = clash (cc)

pub cond_becomes : (m : Rewrite) (x y : Closed) {d : Closed} → rewrite_cond m x y ≡ becomes d
    → ((m ≡ is_value 1) × (d ≡ x)) ⊎ (((m ≡ is_value 0) × (d ≡ y)) ⊎ ((c : Closed) × (m ≡ becomes c) × (d ≡ cond_of c x y)))
unfolding rewrite_cond branch
cond_becomes (is_value zero) x y e = inr (inl (refl, cc))
cond_becomes (is_value (suc zero)) x y e = inl (refl, cc)
cond_becomes (is_value (suc (suc n))) x y e = clash (cc)
cond_becomes (becomes c) x y e = inr (inr (c, refl, cc))
cond_becomes meets_zero x y e = clash (cc)
cond_becomes no_rule x y e = clash (cc)

cond_no_value : (m : Rewrite) (x y : Closed) {v : ℕ} → rewrite_cond m x y ≡ is_value v → ⊥
unfolding rewrite_cond branch
cond_no_value (is_value zero) x y e = clash (cc)
cond_no_value (is_value (suc zero)) x y e = clash (cc)
cond_no_value (is_value (suc (suc n))) x y e = clash (cc)
cond_no_value (becomes c) x y e = clash (cc)
cond_no_value meets_zero x y e = clash (cc)
cond_no_value no_rule x y e = clash (cc)

body_becomes : (x : Option Function) (cs : Closeds) {d : Closed} → body_of x cs ≡ becomes d
    → (F : Function) × (x ≡ some F) × (d ≡ put_in F.body cs)
unfolding body_of
body_becomes none cs e = clash (cc)
body_becomes (some F) cs e = (F, refl, cc)

body_no_value : (x : Option Function) (cs : Closeds) {v : ℕ} → body_of x cs ≡ is_value v → ⊥
unfolding body_of
body_no_value none cs e = clash (cc)
body_no_value (some F) cs e = clash (cc)

pub call_becomes : (P : Program) (f : ℕ) (m : RowRewrite) (ws : Closeds) {d : Closed} → rewrite_call P f m ws ≡ becomes d
    → ((vs : List ℕ) × (F : Function) × (m ≡ are_values vs) × (get_elem? P f ≡ some F) × (d ≡ put_in F.body (vals vs followed_by ws))) ⊎ ((ss : Closeds) × (m ≡ become ss) × (d ≡ call_of f ss ws))
unfolding rewrite_call
call_becomes P f (are_values vs) ws e = let p = body_becomes (get_elem? P f) (vals vs followed_by ws) e in inl (vs, p.0, refl, p.1, p.2)
call_becomes P f (become ss) ws e = inr (ss, refl, cc)
call_becomes P f row_meets_zero ws e = clash (cc)
call_becomes P f no_rules ws e = clash (cc)

call_no_value : (P : Program) (f : ℕ) (m : RowRewrite) (ws : Closeds) {v : ℕ} → rewrite_call P f m ws ≡ is_value v → ⊥
unfolding rewrite_call
call_no_value P f (are_values vs) ws e = body_no_value (get_elem? P f) (vals vs followed_by ws) e
call_no_value P f (become ss) ws e = clash (cc)
call_no_value P f row_meets_zero ws e = clash (cc)
call_no_value P f no_rules ws e = clash (cc)

row_are_values : (m : Rewrite) (cs : Closeds) (ms : RowRewrite) {us : List ℕ} → in_row m cs ms ≡ are_values us
    → (v : ℕ) × (vs : List ℕ) × (m ≡ is_value v) × (ms ≡ are_values vs) × (us ≡ v ∷ vs)
unfolding in_row after_value
row_are_values (is_value v) cs (are_values vs) e = (v, vs, refl, refl, cc)
row_are_values (is_value v) cs (become ds) e = clash (cc)
row_are_values (is_value v) cs row_meets_zero e = clash (cc)
row_are_values (is_value v) cs no_rules e = clash (cc)
row_are_values (becomes c) cs ms e = clash (cc)
row_are_values meets_zero cs ms e = clash (cc)
row_are_values no_rule cs ms e = clash (cc)

pub row_become : (m : Rewrite) (cs : Closeds) (ms : RowRewrite) {ds : Closeds} → in_row m cs ms ≡ become ds
    → ((v : ℕ) × (bs : Closeds) × (m ≡ is_value v) × (ms ≡ become bs) × (ds ≡ and_then (val v) bs)) ⊎ ((c : Closed) × (m ≡ becomes c) × (ds ≡ and_then c cs))
unfolding in_row after_value
row_become (is_value v) cs (are_values vs) e = clash (cc)
row_become (is_value v) cs (become bs) e = inl (v, bs, refl, refl, cc)
row_become (is_value v) cs row_meets_zero e = clash (cc)
row_become (is_value v) cs no_rules e = clash (cc)
row_become (becomes c) cs ms e = inr (c, refl, cc)
row_become meets_zero cs ms e = clash (cc)
row_become no_rule cs ms e = clash (cc)

-- `Reaches`, rewrite by rewrite, and the same for a row of terms.

pub data Leads (P : Program) : Closed → ℕ → ℕ → Type 0 where
  arrived : {c : Closed} {v : ℕ} → rewrite P c ≡ is_value v → Leads P c 0 v
  onward : {c d : Closed} {n v : ℕ} → rewrite P c ≡ becomes d → Leads P d n v → Leads P c (suc n) v

pub data RowLeads (P : Program) : Closeds → ℕ → List ℕ → Type 0 where
  row_arrived : {cs : Closeds} {vs : List ℕ} → rewrite_row P cs ≡ are_values vs → RowLeads P cs 0 vs
  row_onward : {cs ds : Closeds} {n : ℕ} {vs : List ℕ} → rewrite_row P cs ≡ become ds → RowLeads P ds n vs → RowLeads P cs (suc n) vs

there_is_value : (x : Rewrite) (go_on : Closed → Rewrite) {v : ℕ} → from_there x go_on ≡ is_value v
    → (d : Closed) × (x ≡ becomes d) × (go_on d ≡ is_value v)
unfolding from_there
there_is_value (is_value w) go_on e = clash (cc)
there_is_value (becomes d) go_on e = (d, refl, e)
there_is_value meets_zero go_on e = clash (cc)
there_is_value no_rule go_on e = clash (cc)

pub leads_of : (P : Program) (n : ℕ) {c : Closed} {v : ℕ} → Reaches P c n v → Leads P c n v
unfolding Reaches rewrite_times
leads_of P zero r = arrived r
leads_of P (suc n) {c} r = let p = there_is_value (rewrite P c) (rewrite_times P n) r in onward p.1 (leads_of P n p.2)

pub reaches_of : {P : Program} {n : ℕ} {c : Closed} {v : ℕ} → Leads P c n v → Reaches P c n v
unfolding Reaches rewrite_times from_there
reaches_of (arrived e) = e
reaches_of {P} (onward {n = n} e r) = ap (λ x. from_there x (rewrite_times P n)) e ∙ reaches_of r

-- One value, one number of rewrites.
pub leads_once : {P : Program} {c : Closed} {n m v w : ℕ} → Leads P c n v → Leads P c m w → (n ≡ m) × (v ≡ w)
leads_once (arrived e) (arrived e') = (refl, cc)
leads_once (arrived e) (onward e' r) = clash (cc)
leads_once (onward e r) (arrived e') = clash (cc)
leads_once {P} {w = w} (onward {d = d} e r) (onward {d = d'} {n = m} e' r') =
    let same : d' ≡ d = cc in
    let p = leads_once r (subst (λ z. Leads P z m w) same r') in
    (ap suc p.0, p.1)

module _ {P : Program} where
  pub counted : {c : Closed} {n m v : ℕ} → n ≡ m → Leads P c n v → Leads P c m v
  counted {c} {v = v} e r = subst (λ k. Leads P c k v) e r

  row_counted : {cs : Closeds} {n m : ℕ} {vs : List ℕ} → n ≡ m → RowLeads P cs n vs → RowLeads P cs m vs
  row_counted {cs} {vs = vs} e r = subst (λ k. RowLeads P cs k vs) e r

  -- Putting together.

  pub after_a_value : {cs : Closeds} {m : ℕ} {vs : List ℕ} (v : ℕ) → RowLeads P cs m vs → RowLeads P (and_then (val v) cs) m (v ∷ vs)
  unfolding rewrite in_row after_value
  after_a_value v (row_arrived h) = row_arrived (ap (after_value v) h)
  after_a_value v (row_onward h r) = row_onward (ap (after_value v) h) (after_a_value v r)

  pub row_leads : {c : Closed} {cs : Closeds} {n m v : ℕ} {vs : List ℕ} → Leads P c n v → RowLeads P cs m vs
      → RowLeads P (and_then c cs) (n + m) (v ∷ vs)
  unfolding rewrite in_row after_value
  row_leads {cs = cs} (arrived e) (row_arrived h) = row_counted (omega arith) (row_arrived (ap₂ (λ a b. in_row a cs b) e h))
  row_leads {cs = cs} (arrived e) (row_onward h r) = row_counted (omega arith) (row_onward (ap₂ (λ a b. in_row a cs b) e h) (after_a_value _ r))
  row_leads {cs = cs} (onward e r) rs = row_counted (omega arith) (row_onward (ap (λ a. in_row a cs (rewrite_row P cs)) e) (row_leads r rs))

  pub op_leads : {o : Op} {cs : Closeds} {n v : ℕ} {vs : List ℕ} → RowLeads P cs n vs → apply o vs ≡ gives v → Leads P (op_of o cs) (suc n) v
  unfolding rewrite rewrite_op to_value
  op_leads {o = o} (row_arrived h) a = onward (ap (rewrite_op o) h ∙ ap to_value a) (arrived refl)
  op_leads {o = o} (row_onward h r) a = onward (ap (rewrite_op o) h) (op_leads r a)

  pub yes_leads : {c x y : Closed} {n m v : ℕ} → Leads P c n 1 → Leads P x m v → Leads P (cond_of c x y) (suc (n + m)) v
  unfolding rewrite rewrite_cond branch
  yes_leads {x = x} {y = y} (arrived e) s = counted (omega arith) (onward (ap (λ m. rewrite_cond m x y) e) s)
  yes_leads {x = x} {y = y} (onward e r) s = counted (omega arith) (onward (ap (λ m. rewrite_cond m x y) e) (yes_leads r s))

  pub no_leads : {c x y : Closed} {n m v : ℕ} → Leads P c n 0 → Leads P y m v → Leads P (cond_of c x y) (suc (n + m)) v
  unfolding rewrite rewrite_cond branch
  no_leads {x = x} {y = y} (arrived e) s = counted (omega arith) (onward (ap (λ m. rewrite_cond m x y) e) s)
  no_leads {x = x} {y = y} (onward e r) s = counted (omega arith) (onward (ap (λ m. rewrite_cond m x y) e) (no_leads r s))

  pub call_leads : {f : ℕ} {F : Function} {ss ws : Closeds} {vs : List ℕ} {n m v : ℕ} → RowLeads P ss n vs → get_elem? P f ≡ some F
      → Leads P (put_in F.body (vals vs followed_by ws)) m v → Leads P (call_of f ss ws) (suc (n + m)) v
  unfolding rewrite rewrite_call body_of
  call_leads {f = f} {ws = ws} {vs = vs} (row_arrived h) k s =
      counted (omega arith) (onward (ap (λ m. rewrite_call P f m ws) h ∙ ap (λ g. body_of g (vals vs followed_by ws)) k) s)
  call_leads {f = f} {ws = ws} (row_onward h r) k s = counted (omega arith) (onward (ap (λ m. rewrite_call P f m ws) h) (call_leads r k s))

  -- Taking apart.

  pub value_parts : {c : Closed} {n w : ℕ} → Leads P c n w → {v : ℕ} → c ≡ val v → (n ≡ 0) × (v ≡ w)
  unfolding rewrite
  value_parts (arrived e) k = (refl, cc)
  value_parts (onward e r) k = clash (cc)

  pub op_parts : {c : Closed} {n v : ℕ} → Leads P c n v → {o : Op} {cs : Closeds} → c ≡ op_of o cs
      → (m : ℕ) × (vs : List ℕ) × (n ≡ suc m) × RowLeads P cs m vs × (apply o vs ≡ gives v)
  unfolding rewrite
  op_parts (arrived e) {o} {cs} k = absurd (op_no_value o (rewrite_row P cs) (rw k at e))
  op_parts (onward e r) {o} {cs} k =
      elim (op_becomes o (rewrite_row P cs) (rw k at e)) [
        | inl p ↦ (let q = value_parts r p.4 in (0, p.0, omega arith, row_arrived p.2, p.3 ∙ ap gives q.1))
        | inr p ↦ (let q = op_parts r p.2 in (suc q.0, q.1, ap suc q.2, row_onward p.1 q.3, q.4))
      ]

  pub cond_parts : {c : Closed} {n v : ℕ} → Leads P c n v → {t x y : Closed} → c ≡ cond_of t x y
      → (m k : ℕ) × (n ≡ suc (m + k)) × ((Leads P t m 1 × Leads P x k v) ⊎ (Leads P t m 0 × Leads P y k v))
  unfolding rewrite
  cond_parts (arrived e) {t} {x} {y} k = absurd (cond_no_value (rewrite P t) x y (rw k at e))
  cond_parts (onward {n = n} {v = v} e r) {t} {x} {y} k =
      elim (cond_becomes (rewrite P t) x y (rw k at e)) [
        | inl p ↦ (0, n, omega arith, inl (arrived p.0, rw p.1 at r))
        | inr s ↦
            elim s [
              | inl p ↦ (0, n, omega arith, inr (arrived p.0, rw p.1 at r))
              | inr p ↦ one_more p.1 (cond_parts r p.2)
            ]
      ]
    where
      one_more : {d : Closed} → rewrite P t ≡ becomes d
          → (m j : ℕ) × (n ≡ suc (m + j)) × ((Leads P d m 1 × Leads P x j v) ⊎ (Leads P d m 0 × Leads P y j v))
          → (m j : ℕ) × (suc n ≡ suc (m + j)) × ((Leads P t m 1 × Leads P x j v) ⊎ (Leads P t m 0 × Leads P y j v))
      one_more h q =
          (suc q.0, q.1, omega (arith, q.2), elim q.3 [ inl s ↦ inl (onward h s.0, s.1) | inr s ↦ inr (onward h s.0, s.1) ])

  pub call_parts : {c : Closed} {n v : ℕ} → Leads P c n v → {f : ℕ} {ss ws : Closeds} → c ≡ call_of f ss ws
      → (m k : ℕ) × (vs : List ℕ) × (F : Function) × (n ≡ suc (m + k)) × RowLeads P ss m vs × (get_elem? P f ≡ some F) × Leads P (put_in F.body (vals vs followed_by ws)) k v
  unfolding rewrite
  call_parts (arrived e) {f} {ss} {ws} k = absurd (call_no_value P f (rewrite_row P ss) ws (rw k at e))
  call_parts (onward {n = n} e r) {f} {ss} {ws} k =
      elim (call_becomes P f (rewrite_row P ss) ws (rw k at e)) [
        | inl p ↦ (0, n, p.0, p.1, omega arith, row_arrived p.2, p.3, rw p.4 at r)
        | inr p ↦
            (let q = call_parts r p.2 in
            (suc q.0, q.1, q.2, q.3, omega (arith, q.4), row_onward p.1 q.5, q.6, q.7))
      ]

  pub row_parts : {bs : Closeds} {n : ℕ} {us : List ℕ} → RowLeads P bs n us → {c : Closed} {cs : Closeds} → bs ≡ and_then c cs
      → (m k v : ℕ) × (vs : List ℕ) × (n ≡ m + k) × (us ≡ v ∷ vs) × Leads P c m v × RowLeads P cs k vs
  unfolding rewrite
  row_parts (row_arrived h) {c} {cs} k =
      let p = row_are_values (rewrite P c) cs (rewrite_row P cs) (rw k at h) in
      (0, 0, p.0, p.1, omega arith, p.4, arrived p.2, row_arrived p.3)
  row_parts (row_onward {n = n} h r) {c} {cs} k =
      elim (row_become (rewrite P c) cs (rewrite_row P cs) (rw k at h)) [
        | inl p ↦
            (let q = row_parts r p.4 in
            let o = value_parts q.6 refl in
            (0, suc q.1, q.2, q.3, omega (arith, q.4, o.0), q.5, arrived (p.2 ∙ ap is_value o.1), row_onward p.3 q.7))
        | inr p ↦
            (let q = row_parts r p.2 in
            (suc q.0, q.1, q.2, q.3, omega (arith, q.4), q.5, onward p.1 q.6, q.7))
      ]

  pub no_parts : {n : ℕ} {us : List ℕ} → RowLeads P none_left n us → (n ≡ 0) × (us ≡ [])
  unfolding rewrite
  no_parts (row_arrived h) = (refl, cc)
  no_parts (row_onward h r) = clash (cc)
