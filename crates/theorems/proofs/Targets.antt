-- The code of an accepted program leads to RET only where a value has just come up: a branch, a body and a waiting argument are never entered at RET. And
-- no call takes more than eight values. Assumes nothing.
use mathlib.Core.Path.{◌≡◌, refl, subst}
use mathlib.Core.Option.{Option, none, some}
use mathlib.Core.List.{List, [], ◌∷◌, ◌++◌}
use Prim.Native.Nat.{ℕ, zero, suc, ◌+◌, ◌≤◌}
use lib.ListN.{get_elem?, take}
use Rattle.meaning.specs.Arithmetic.{Sort, yes_no, domain}
use Rattle.meaning.specs.Numbers.{most_arguments}
use Rattle.meaning.specs.Terms.{Term, arg, op, cond, call, Terms, nil, cons, Function, Program}
use Rattle.meaning.specs.Code.{size, sizes, entrance, row_entrance, entrances, Instruction, EVAL, EXEC, SELECT, CALL, RET, code, strict_code, waiting_code, bodies_code, initial, ret_address, translation}
use Rattle.theorems.specs.Unlimited.{code_of}
use Rattle.theorems.proofs.Splitting.{clash}
use Rattle.theorems.proofs.Sorts.{TermSorted, RowSorted, Sorted, few_strict}
use Rattle.theorems.proofs.Holding.{HoldsTerm, HoldsStrict, HoldsWaiting, Loaded, loaded, initial_held, BodiesHeld, all_bodies_held}
use Rattle.theorems.proofs.Acceptance.{WellMade}

-- Another instruction than RET.
unfoldable pub Works : Option Instruction → Type 0
Works none = Unit {0}
Works (some (EVAL i b)) = Unit {0}
Works (some (EXEC o b)) = Unit {0}
Works (some (SELECT x y)) = Unit {0}
Works (some (CALL a k ws b)) = Unit {0}
Works (some RET) = ⊥

module _ (C : ℕ → Option Instruction) where
  unfoldable pub AllWork : List ℕ → Type 0
  AllWork [] = Unit {0}
  AllWork (w ∷ ws) = Works (C w) × AllWork ws

  -- An instruction that leads nowhere but so.
  unfoldable pub Leading : Instruction → Type 0
  Leading (EVAL i b) = Unit {0}
  Leading (EXEC o b) = Unit {0}
  Leading (SELECT x y) = Works (C x) × Works (C y)
  Leading (CALL a k ws b) = (k ≤ most_arguments) × Works (C a) × AllWork ws
  Leading RET = Unit {0}

  unfoldable pub AllLead : List Instruction → Type 0
  AllLead [] = Unit {0}
  AllLead (i ∷ is) = Leading i × AllLead is

  lead_none : AllLead []
  unfolding AllLead
  lead_none = tt

  lead_more : (x : Instruction) (xs : List Instruction) → Leading x → AllLead xs → AllLead (x ∷ xs)
  unfolding AllLead
  lead_more x xs p q = (p, q)

  lead_joined : (xs ys : List Instruction) → AllLead xs → AllLead ys → AllLead (xs ++ ys)
  unfolding AllLead
  lead_joined [] ys p q = q
  lead_joined (x ∷ xs) ys p q = (p.0, lead_joined xs ys p.1 q)

  lead_there : (is : List Instruction) → AllLead is → (a : ℕ) {i : Instruction} → get_elem? is a ≡ some i → Leading i
  unfolding AllLead
  lead_there [] h a e = clash (cc)
  lead_there (x ∷ is) h zero {i} e = let same : x ≡ i = cc in subst Leading same h.0
  lead_there (x ∷ is) h (suc a) e = lead_there is h.1 a e

module _ {P : Program} {C : ℕ → Option Instruction} {bodies : List ℕ} {ret : ℕ} (L : Loaded P C bodies ret) (ok-P : Sorted P) where
  mutual
    unfolding HoldsTerm entrance Works

    entrance_works : (t : Term) (a b : ℕ) → HoldsTerm C bodies ret t a b → Works (C (entrance t a))
    entrance_works (arg i) a b k = rw k tt
    entrance_works (op o ts) a b k = row_entrance_works ts (suc a) a k.1 (rw k.0 tt)
    entrance_works (cond t x y) a b k = entrance_works t (suc a) a k.1
    entrance_works (call f ss ws) a b k = row_entrance_works ss (suc a) a k.1 (rw k.0 tt)

    row_entrance_works : (ts : Terms) (a home : ℕ) → HoldsStrict C bodies ret ts a home → Works (C home) → Works (C (row_entrance ts a home))
    row_entrance_works nil a home k n = n
    row_entrance_works (cons t ts) a home k n = entrance_works t a (row_entrance ts (a + size t) home) k.0

  entrances_work : (ts : Terms) (a : ℕ) → HoldsWaiting C bodies ret ts a → AllWork C (entrances ts a)
  unfolding HoldsTerm entrances AllWork
  entrances_work nil a k = tt
  entrances_work (cons t ts) a k = (entrance_works t a ret k.0, entrances_work ts (a + size t) k.1)

  mutual
    unfolding code HoldsTerm TermSorted Leading

    code_leads : (t : Term) (G : List Sort) (s : Sort) (a b : ℕ) → TermSorted P t G s → HoldsTerm C bodies ret t a b → AllLead C (code bodies ret t a b)
    code_leads (arg i) G s a b ft k = lead_more C _ _ tt (lead_none C)
    code_leads (op o ts) G s a b ft k = lead_more C _ _ tt (strict_leads ts G (domain o) (suc a) a ft.2 k.1)
    code_leads (cond t x y) G s a b ft k =
        lead_more C _ _ (entrance_works x (suc a + size t) b k.2, entrance_works y (suc a + size t + size x) b k.3)
        (lead_joined C _ _ (code_leads t G yes_no (suc a) a ft.0 k.1)
        (lead_joined C _ _ (code_leads x G s (suc a + size t) b ft.1 k.2) (code_leads y G s (suc a + size t + size x) b ft.2 k.3)))
    code_leads (call f ss ws) G s a b ft k =
        let F = ft.0 in
        let p = L.body_held f F ft.1 in
        lead_more C _ _
        (few_strict P ok-P f F ss G ft.1 ft.3, rw p.1 (entrance_works F.body p.0 ret p.2), entrances_work ws (suc a + sizes ss) k.2)
        (lead_joined C _ _ (strict_leads ss G (take F.strict F.sorts) (suc a) a ft.3 k.1) (waiting_leads ws G _ (suc a + sizes ss) ft.4 k.2))

    strict_leads : (ts : Terms) (G S : List Sort) (a home : ℕ) → RowSorted P ts G S → HoldsStrict C bodies ret ts a home
        → AllLead C (strict_code bodies ret ts a home)
    strict_leads nil G S a home ft k = lead_none C
    strict_leads (cons t ts) G [] a home ft k = absurd ft
    strict_leads (cons t ts) G (s ∷ S) a home ft k =
        lead_joined C _ _ (code_leads t G s a (row_entrance ts (a + size t) home) ft.0 k.0) (strict_leads ts G S (a + size t) home ft.1 k.1)

    waiting_leads : (ts : Terms) (G S : List Sort) (a : ℕ) → RowSorted P ts G S → HoldsWaiting C bodies ret ts a
        → AllLead C (waiting_code bodies ret ts a)
    waiting_leads nil G S a ft k = lead_none C
    waiting_leads (cons t ts) G [] a ft k = absurd ft
    waiting_leads (cons t ts) G (s ∷ S) a ft k = lead_joined C _ _ (code_leads t G s a ret ft.0 k.0) (waiting_leads ts G S (a + size t) ft.1 k.1)

  bodies_lead : (Q : Program) (a : ℕ) → ((f : ℕ) (F : Function) → get_elem? Q f ≡ some F → TermSorted P F.body F.sorts F.result)
      → BodiesHeld C bodies ret Q a → AllLead C (bodies_code bodies ret Q a)
  unfolding bodies_code BodiesHeld
  bodies_lead [] a ft k = lead_none C
  bodies_lead (F ∷ Q) a ft k =
      lead_joined C _ _ (code_leads F.body F.sorts F.result a ret (ft 0 F refl) k.0) (bodies_lead Q (a + size F.body) (λ f G e. ft (suc f) G e) k.1)

module _ (P : Program) (args : List ℕ) (w : WellMade P args) where
  pub all_lead : (a : ℕ) (i : Instruction) → code_of P a ≡ some i → Leading (code_of P) i
  unfolding code_of translation Leading
  all_lead a i e =
      lead_there (code_of P) (translation P)
      (lead_joined (code_of P) _ _ (code_leads (loaded P) w.program_sorted (initial P) w.entry_sorts w.entry_result 0 (ret_address P) w.initial_is_sorted (initial_held P))
      (lead_joined (code_of P) _ _ (bodies_lead (loaded P) w.program_sorted P (size (initial P)) (λ f F e. (w.program_sorted f F e).1) (all_bodies_held P)) (lead_more (code_of P) _ _ tt (lead_none (code_of P)))))
      a e

  -- The machine starts at no RET.
  pub start_works : Works (code_of P (entrance (initial P) 0))
  start_works = entrance_works (loaded P) w.program_sorted (initial P) 0 (ret_address P) (initial_held P)
