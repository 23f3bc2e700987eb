-- First, once more, for terms whose rewriting meets a division by 0: such a term splits into parts that reach values and one that meets it, and such parts
-- make a term that meets it, rewrites added up. Assumes nothing.
use mathlib.Core.Path.{◌≡◌, refl, ap, ap₂, ◌∙◌, subst}
use mathlib.Core.Logic.{◌⊎◌, inl, inr}
use mathlib.Core.Option.{Option, none, some}
use mathlib.Core.List.{List}
use Prim.Native.Nat.{ℕ, zero, suc, ◌+◌}
use native.Mathlib.Omega.{arith}
use lib.ListN.{get_elem?}
use Rattle.meaning.specs.Arithmetic.{Op, Applied, gives, by_zero, unfit, apply}
use Rattle.meaning.specs.Terms.{Function, Program}
use Rattle.meaning.specs.Rewriting.{Closed, val, op_of, cond_of, call_of, Closeds, none_left, and_then, ◌followed_by◌, put_in, vals}
use Rattle.meaning.specs.Rewriting.{Rewrite, is_value, becomes, meets_zero, no_rule, RowRewrite, are_values, become, row_meets_zero, no_rules, after_value, in_row, to_value, rewrite_op, branch, rewrite_cond, body_of, rewrite_call, rewrite, rewrite_row, from_there, rewrite_times, MeetsZero}
use Rattle.theorems.proofs.Splitting.{clash, op_becomes, cond_becomes, call_becomes, row_become, Leads, arrived, onward, RowLeads, row_arrived, row_onward, value_parts}

-- Where a division by 0 that one rewrite meets stands.

value_zero : (x : Applied) → to_value x ≡ meets_zero → x ≡ by_zero
unfolding to_value
value_zero (gives w) e = clash (cc)
value_zero by_zero e = refl
value_zero unfit e = clash (cc)

op_zero : (o : Op) (m : RowRewrite) → rewrite_op o m ≡ meets_zero
    → (m ≡ row_meets_zero) ⊎ ((vs : List ℕ) × (m ≡ are_values vs) × (apply o vs ≡ by_zero))
unfolding rewrite_op
op_zero o (are_values vs) e = inr (vs, refl, value_zero (apply o vs) e)
op_zero o (become ds) e = clash (cc)
op_zero o row_meets_zero e = inl refl
op_zero o no_rules e = clash (cc)

cond_zero : (m : Rewrite) (x y : Closed) → rewrite_cond m x y ≡ meets_zero → m ≡ meets_zero
unfolding rewrite_cond branch
cond_zero (is_value zero) x y e = clash (cc)
cond_zero (is_value (suc zero)) x y e = clash (cc)
cond_zero (is_value (suc (suc n))) x y e = clash (cc)
cond_zero (becomes c) x y e = clash (cc)
cond_zero meets_zero x y e = refl
cond_zero no_rule x y e = clash (cc)

body_no_zero : (x : Option Function) (cs : Closeds) → body_of x cs ≡ meets_zero → ⊥
unfolding body_of
body_no_zero none cs e = clash (cc)
body_no_zero (some F) cs e = clash (cc)

call_zero : (P : Program) (f : ℕ) (m : RowRewrite) (ws : Closeds) → rewrite_call P f m ws ≡ meets_zero → m ≡ row_meets_zero
unfolding rewrite_call
call_zero P f (are_values vs) ws e = absurd (body_no_zero (get_elem? P f) (vals vs followed_by ws) e)
call_zero P f (become ss) ws e = clash (cc)
call_zero P f row_meets_zero ws e = refl
call_zero P f no_rules ws e = clash (cc)

row_zero : (m : Rewrite) (cs : Closeds) (ms : RowRewrite) → in_row m cs ms ≡ row_meets_zero
    → (m ≡ meets_zero) ⊎ ((v : ℕ) × (m ≡ is_value v) × (ms ≡ row_meets_zero))
unfolding in_row after_value
row_zero (is_value v) cs (are_values vs) e = clash (cc)
row_zero (is_value v) cs (become ds) e = clash (cc)
row_zero (is_value v) cs row_meets_zero e = inr (v, refl, refl)
row_zero (is_value v) cs no_rules e = clash (cc)
row_zero (becomes c) cs ms e = clash (cc)
row_zero meets_zero cs ms e = inl refl
row_zero no_rule cs ms e = clash (cc)

-- `MeetsZero`, rewrite by rewrite, and the same for a row of terms.

pub data Breaks (P : Program) : Closed → ℕ → Type 0 where
  broken : {c : Closed} → rewrite P c ≡ meets_zero → Breaks P c 0
  breaks_on : {c d : Closed} {n : ℕ} → rewrite P c ≡ becomes d → Breaks P d n → Breaks P c (suc n)

pub data RowBreaks (P : Program) : Closeds → ℕ → Type 0 where
  row_broken : {cs : Closeds} → rewrite_row P cs ≡ row_meets_zero → RowBreaks P cs 0
  row_breaks_on : {cs ds : Closeds} {n : ℕ} → rewrite_row P cs ≡ become ds → RowBreaks P ds n → RowBreaks P cs (suc n)

there_meets_zero : (x : Rewrite) (go_on : Closed → Rewrite) → from_there x go_on ≡ meets_zero → (d : Closed) × (x ≡ becomes d) × (go_on d ≡ meets_zero)
unfolding from_there
there_meets_zero (is_value w) go_on e = clash (cc)
there_meets_zero (becomes d) go_on e = (d, refl, e)
there_meets_zero meets_zero go_on e = clash (cc)
there_meets_zero no_rule go_on e = clash (cc)

pub breaks_of : (P : Program) (n : ℕ) {c : Closed} → MeetsZero P c n → Breaks P c n
unfolding MeetsZero rewrite_times
breaks_of P zero r = broken r
breaks_of P (suc n) {c} r = let p = there_meets_zero (rewrite P c) (rewrite_times P n) r in breaks_on p.1 (breaks_of P n p.2)

pub meets_of : {P : Program} {n : ℕ} {c : Closed} → Breaks P c n → MeetsZero P c n
unfolding MeetsZero rewrite_times from_there
meets_of (broken e) = e
meets_of {P} (breaks_on {n = n} e r) = ap (λ x. from_there x (rewrite_times P n)) e ∙ meets_of r

-- It is met once, and then no value is reached.
pub breaks_once : {P : Program} {c : Closed} {n m : ℕ} → Breaks P c n → Breaks P c m → n ≡ m
breaks_once (broken e) (broken e') = refl
breaks_once (broken e) (breaks_on e' r) = clash (cc)
breaks_once (breaks_on e r) (broken e') = clash (cc)
breaks_once {P} (breaks_on {d = d} e r) (breaks_on {d = d'} {n = m} e' r') =
    let same : d' ≡ d = cc in ap suc (breaks_once r (subst (λ z. Breaks P z m) same r'))

pub not_both : {P : Program} {c : Closed} {n m v : ℕ} → Leads P c n v → Breaks P c m → ⊥
not_both (arrived e) (broken e') = clash (cc)
not_both (arrived e) (breaks_on e' r) = clash (cc)
not_both (onward e r) (broken e') = clash (cc)
not_both {P} (onward {d = d} e r) (breaks_on {d = d'} {n = m} e' r') = let same : d' ≡ d = cc in not_both r (subst (λ z. Breaks P z m) same r')

module _ {P : Program} where
  pub breaks_counted : {c : Closed} {n m : ℕ} → n ≡ m → Breaks P c n → Breaks P c m
  breaks_counted {c} e r = subst (λ k. Breaks P c k) e r

  row_breaks_counted : {cs : Closeds} {n m : ℕ} → n ≡ m → RowBreaks P cs n → RowBreaks P cs m
  row_breaks_counted {cs} e r = subst (λ k. RowBreaks P cs k) e r

  -- Putting together.

  pub first_breaks : {c : Closed} {cs : Closeds} {n : ℕ} → Breaks P c n → RowBreaks P (and_then c cs) n
  unfolding rewrite in_row
  first_breaks {cs = cs} (broken e) = row_broken (ap (λ a. in_row a cs (rewrite_row P cs)) e)
  first_breaks {cs = cs} (breaks_on e r) = row_breaks_on (ap (λ a. in_row a cs (rewrite_row P cs)) e) (first_breaks r)

  value_first : {cs : Closeds} {m : ℕ} (v : ℕ) → RowBreaks P cs m → RowBreaks P (and_then (val v) cs) m
  unfolding rewrite in_row after_value
  value_first v (row_broken h) = row_broken (ap (after_value v) h)
  value_first v (row_breaks_on h r) = row_breaks_on (ap (after_value v) h) (value_first v r)

  pub later_breaks : {c : Closed} {cs : Closeds} {n m v : ℕ} → Leads P c n v → RowBreaks P cs m → RowBreaks P (and_then c cs) (n + m)
  unfolding rewrite in_row after_value
  later_breaks {cs = cs} (arrived e) (row_broken h) = row_breaks_counted (omega arith) (row_broken (ap₂ (λ a b. in_row a cs b) e h))
  later_breaks {cs = cs} (arrived e) (row_breaks_on h r) =
      row_breaks_counted (omega arith) (row_breaks_on (ap₂ (λ a b. in_row a cs b) e h) (value_first _ r))
  later_breaks {cs = cs} (onward e r) rs = row_breaks_counted (omega arith) (row_breaks_on (ap (λ a. in_row a cs (rewrite_row P cs)) e) (later_breaks r rs))

  pub operand_breaks : {o : Op} {cs : Closeds} {n : ℕ} → RowBreaks P cs n → Breaks P (op_of o cs) n
  unfolding rewrite rewrite_op
  operand_breaks {o = o} (row_broken h) = broken (ap (rewrite_op o) h)
  operand_breaks {o = o} (row_breaks_on h r) = breaks_on (ap (rewrite_op o) h) (operand_breaks r)

  pub division_breaks : {o : Op} {cs : Closeds} {n : ℕ} {vs : List ℕ} → RowLeads P cs n vs → apply o vs ≡ by_zero → Breaks P (op_of o cs) n
  unfolding rewrite rewrite_op to_value
  division_breaks {o = o} (row_arrived h) a = broken (ap (rewrite_op o) h ∙ ap to_value a)
  division_breaks {o = o} (row_onward h r) a = breaks_on (ap (rewrite_op o) h) (division_breaks r a)

  pub condition_breaks : {c x y : Closed} {n : ℕ} → Breaks P c n → Breaks P (cond_of c x y) n
  unfolding rewrite rewrite_cond
  condition_breaks {x = x} {y = y} (broken e) = broken (ap (λ m. rewrite_cond m x y) e)
  condition_breaks {x = x} {y = y} (breaks_on e r) = breaks_on (ap (λ m. rewrite_cond m x y) e) (condition_breaks r)

  pub yes_breaks : {c x y : Closed} {n m : ℕ} → Leads P c n 1 → Breaks P x m → Breaks P (cond_of c x y) (suc (n + m))
  unfolding rewrite rewrite_cond branch
  yes_breaks {x = x} {y = y} (arrived e) s = breaks_counted (omega arith) (breaks_on (ap (λ m. rewrite_cond m x y) e) s)
  yes_breaks {x = x} {y = y} (onward e r) s = breaks_counted (omega arith) (breaks_on (ap (λ m. rewrite_cond m x y) e) (yes_breaks r s))

  pub no_breaks : {c x y : Closed} {n m : ℕ} → Leads P c n 0 → Breaks P y m → Breaks P (cond_of c x y) (suc (n + m))
  unfolding rewrite rewrite_cond branch
  no_breaks {x = x} {y = y} (arrived e) s = breaks_counted (omega arith) (breaks_on (ap (λ m. rewrite_cond m x y) e) s)
  no_breaks {x = x} {y = y} (onward e r) s = breaks_counted (omega arith) (breaks_on (ap (λ m. rewrite_cond m x y) e) (no_breaks r s))

  pub strict_breaks : {f : ℕ} {ss ws : Closeds} {n : ℕ} → RowBreaks P ss n → Breaks P (call_of f ss ws) n
  unfolding rewrite rewrite_call
  strict_breaks {f = f} {ws = ws} (row_broken h) = broken (ap (λ m. rewrite_call P f m ws) h)
  strict_breaks {f = f} {ws = ws} (row_breaks_on h r) = breaks_on (ap (λ m. rewrite_call P f m ws) h) (strict_breaks r)

  pub body_breaks : {f : ℕ} {F : Function} {ss ws : Closeds} {vs : List ℕ} {n m : ℕ} → RowLeads P ss n vs → get_elem? P f ≡ some F
      → Breaks P (put_in F.body (vals vs followed_by ws)) m → Breaks P (call_of f ss ws) (suc (n + m))
  unfolding rewrite rewrite_call body_of
  body_breaks {f = f} {ws = ws} {vs = vs} (row_arrived h) k s =
      breaks_counted (omega arith) (breaks_on (ap (λ m. rewrite_call P f m ws) h ∙ ap (λ g. body_of g (vals vs followed_by ws)) k) s)
  body_breaks {f = f} {ws = ws} (row_onward h r) k s =
      breaks_counted (omega arith) (breaks_on (ap (λ m. rewrite_call P f m ws) h) (body_breaks r k s))

  -- Taking apart.

  pub value_whole : {c : Closed} {n : ℕ} → Breaks P c n → {v : ℕ} → c ≡ val v → ⊥
  unfolding rewrite
  value_whole (broken e) k = clash (cc)
  value_whole (breaks_on e r) k = clash (cc)

  pub none_whole : {n : ℕ} → RowBreaks P none_left n → ⊥
  unfolding rewrite
  none_whole (row_broken h) = clash (cc)
  none_whole (row_breaks_on h r) = clash (cc)

  pub op_broken : {c : Closed} {n : ℕ} → Breaks P c n → {o : Op} {cs : Closeds} → c ≡ op_of o cs
      → RowBreaks P cs n ⊎ ((vs : List ℕ) × RowLeads P cs n vs × (apply o vs ≡ by_zero))
  unfolding rewrite
  op_broken (broken e) {o} {cs} k =
      elim (op_zero o (rewrite_row P cs) (rw k at e)) [ inl p ↦ inl (row_broken p) | inr p ↦ inr (p.0, row_arrived p.1, p.2) ]
  op_broken (breaks_on e r) {o} {cs} k =
      elim (op_becomes o (rewrite_row P cs) (rw k at e)) [
        | inl p ↦ absurd (value_whole r p.4)
        | inr p ↦ elim (op_broken r p.2) [ inl q ↦ inl (row_breaks_on p.1 q) | inr q ↦ inr (q.0, row_onward p.1 q.1, q.2) ]
      ]

  pub cond_broken : {c : Closed} {n : ℕ} → Breaks P c n → {t x y : Closed} → c ≡ cond_of t x y
      → Breaks P t n ⊎ ((m k : ℕ) × (n ≡ suc (m + k)) × ((Leads P t m 1 × Breaks P x k) ⊎ (Leads P t m 0 × Breaks P y k)))
  unfolding rewrite
  cond_broken (broken e) {t} {x} {y} k = inl (broken (cond_zero (rewrite P t) x y (rw k at e)))
  cond_broken (breaks_on {n = n} e r) {t} {x} {y} k =
      elim (cond_becomes (rewrite P t) x y (rw k at e)) [
        | inl p ↦ inr (0, n, omega arith, inl (arrived p.0, rw p.1 at r))
        | inr s ↦
            elim s [
              | inl p ↦ inr (0, n, omega arith, inr (arrived p.0, rw p.1 at r))
              | inr p ↦ one_more p.1 (cond_broken r p.2)
            ]
      ]
    where
      one_more : {d : Closed} → rewrite P t ≡ becomes d
          → Breaks P d n ⊎ ((m j : ℕ) × (n ≡ suc (m + j)) × ((Leads P d m 1 × Breaks P x j) ⊎ (Leads P d m 0 × Breaks P y j)))
          → Breaks P t (suc n) ⊎ ((m j : ℕ) × (suc n ≡ suc (m + j)) × ((Leads P t m 1 × Breaks P x j) ⊎ (Leads P t m 0 × Breaks P y j)))
      one_more h (inl q) = inl (breaks_on h q)
      one_more h (inr q) =
          inr (suc q.0, q.1, omega (arith, q.2), elim q.3 [ inl s ↦ inl (onward h s.0, s.1) | inr s ↦ inr (onward h s.0, s.1) ])

  pub call_broken : {c : Closed} {n : ℕ} → Breaks P c n → {f : ℕ} {ss ws : Closeds} → c ≡ call_of f ss ws
      → RowBreaks P ss n
      ⊎ ((m k : ℕ) × (vs : List ℕ) × (F : Function) × (n ≡ suc (m + k)) × RowLeads P ss m vs × (get_elem? P f ≡ some F) × Breaks P (put_in F.body (vals vs followed_by ws)) k)
  unfolding rewrite
  call_broken (broken e) {f} {ss} {ws} k = inl (row_broken (call_zero P f (rewrite_row P ss) ws (rw k at e)))
  call_broken (breaks_on {n = n} e r) {f} {ss} {ws} k =
      elim (call_becomes P f (rewrite_row P ss) ws (rw k at e)) [
        | inl p ↦ inr (0, n, p.0, p.1, omega arith, row_arrived p.2, p.3, rw p.4 at r)
        | inr p ↦
            elim (call_broken r p.2) [
              | inl q ↦ inl (row_breaks_on p.1 q)
              | inr q ↦ inr (suc q.0, q.1, q.2, q.3, omega (arith, q.4), row_onward p.1 q.5, q.6, q.7)
            ]
      ]

  pub row_parted : {bs : Closeds} {n : ℕ} → RowBreaks P bs n → {c : Closed} {cs : Closeds} → bs ≡ and_then c cs
      → Breaks P c n ⊎ ((m k v : ℕ) × (n ≡ m + k) × Leads P c m v × RowBreaks P cs k)
  unfolding rewrite
  row_parted (row_broken h) {c} {cs} k =
      elim (row_zero (rewrite P c) cs (rewrite_row P cs) (rw k at h)) [
        | inl p ↦ inl (broken p)
        | inr p ↦ inr (0, 0, p.0, omega arith, arrived p.1, row_broken p.2)
      ]
  row_parted (row_breaks_on {n = n} h r) {c} {cs} k =
      elim (row_become (rewrite P c) cs (rewrite_row P cs) (rw k at h)) [
        | inl p ↦
            elim (row_parted r p.4) [
              | inl q ↦ absurd (value_whole q refl)
              | inr q ↦
                  (let o = value_parts q.4 refl in
                  inr (0, suc q.1, q.2, omega (arith, q.3, o.0), arrived (p.2 ∙ ap is_value o.1), row_breaks_on p.3 q.5))
            ]
        | inr p ↦
            elim (row_parted r p.2) [
              | inl q ↦ inl (breaks_on p.1 q)
              | inr q ↦ inr (suc q.0, q.1, q.2, omega (arith, q.3), onward p.1 q.4, q.5)
            ]
      ]
