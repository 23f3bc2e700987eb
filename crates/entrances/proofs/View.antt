-- A term is its symbol and its row: the pages of `meaning` and of the table, by the view of specs/View.antt. Assumes nothing.
use mathlib.Core.Path.{◌≡◌, refl, ap, sym, ◌∙◌}
use mathlib.Core.List.{List, [], ◌∷◌, ◌++◌, append_assoc, append-nil}
use Prim.Native.Nat.{ℕ, suc, ◌+◌, ◌≤◌, max}
use native.Mathlib.Omega.{arith}
use lib.ListN.{length}
use Rattle.meaning.specs.Arithmetic.{Op, constant, add, sub, mul, div, rem, eq, lt, and, or, neg, domain}
use Rattle.meaning.specs.Numbers.{most_arguments}
use Rattle.meaning.specs.Terms.{Term, arg, op, cond, call, Terms, nil, cons}
use Rattle.meaning.specs.Code.{size, sizes, count, entrance, row_entrance, code, strict_code, waiting_code, Instruction}
use Rattle.table.specs.Symbols.{op_symbol}
use Rattle.table.specs.Table.{term_symbols, row_symbols, term_ends, row_ends}
use Rattle.table.specs.declared.Signature.{Signature}
use Rattle.table.specs.declared.Symbol.{Symbol}
use Rattle.table.specs.declared.Symbol.TheVariants.{Function}
use Rattle.accepted.specs.Accepted.{depth, depths, Shaped, AllShaped}
use Rattle.entrances.specs.View.{joined, root, row, lead, leads_of, after, follower_of, instruction_of, row_code}
use Rattle.entrances.specs.Entrances.{Told}

-- Rows joined.
pub joined_sizes : (ss ws : Terms) → sizes (joined ss ws) ≡ sizes ss + sizes ws
unfolding joined size
joined_sizes nil ws = omega arith
joined_sizes (cons s ss) ws = omega (arith, joined_sizes ss ws)

joined_depths : (ss ws : Terms) → depths (joined ss ws) ≡ max (depths ss) (depths ws)
unfolding joined depth
joined_depths nil ws = omega arith
joined_depths (cons s ss) ws = omega (arith, joined_depths ss ws)

joined_count : (ss ws : Terms) → count (joined ss ws) ≡ count ss + count ws
unfolding joined count
joined_count nil ws = omega arith
joined_count (cons s ss) ws = omega (arith, joined_count ss ws)

joined_symbols : (ss ws : Terms) → row_symbols (joined ss ws) ≡ row_symbols ss ++ row_symbols ws
unfolding joined term_symbols
joined_symbols nil ws = refl
joined_symbols (cons s ss) ws = rw (joined_symbols ss ws) (sym (append_assoc (term_symbols s) (row_symbols ss) (row_symbols ws)))

joined_ends : (ss ws : Terms) (a : ℕ) → row_ends (joined ss ws) a ≡ row_ends ss a ++ row_ends ws (a + sizes ss)
unfolding joined term_ends size
joined_ends nil ws a = ap (row_ends ws) (omega arith)
joined_ends (cons s ss) ws a =
    let same : a + size s + sizes ss ≡ a + (size s + sizes ss) = omega arith in
    rw (joined_ends ss ws (a + size s), same) (sym (append_assoc (term_ends s a) (row_ends ss (a + size s)) (row_ends ws (a + (size s + sizes ss)))))

-- The view.
pub size_view : (t : Term) → size t ≡ suc (sizes (row t))
unfolding size row
size_view (arg i) = refl
size_view (op o ts) = refl
size_view (cond t x y) = omega arith
size_view (call f ss ws) = ap suc (sym (joined_sizes ss ws))

pub some_size : (t : Term) → 1 ≤ size t
some_size t = omega (arith, size_view t)

pub depth_view : (t : Term) → depth t ≡ suc (depths (row t))
unfolding depth row
depth_view (arg i) = refl
depth_view (op o ts) = refl
depth_view (cond t x y) = omega arith
depth_view (call f ss ws) = ap suc (sym (joined_depths ss ws))

pub symbols_view : (t : Term) → term_symbols t ≡ root t ∷ row_symbols (row t)
unfolding term_symbols row root
symbols_view (arg i) = refl
symbols_view (op o ts) = refl
symbols_view (cond t x y) = simp append-nil
symbols_view (call f ss ws) = ap (λ (l : List Symbol). Function f ∷ l) (sym (joined_symbols ss ws))

pub ends_view : (t : Term) (a : ℕ) → term_ends t a ≡ (a + size t) ∷ row_ends (row t) (suc a)
unfolding term_ends row size
ends_view (arg i) a = ap (λ (n : ℕ). n ∷ []) (omega arith)
ends_view (op o ts) a = ap (λ (n : ℕ). n ∷ row_ends ts (suc a)) (omega arith)
ends_view (cond t x y) a =
    let same : suc a + (size t + (size x + size y)) ≡ a + suc (size t + (size x + size y)) = omega arith in
    simp (append-nil, same)
ends_view (call f ss ws) a =
    let same : suc a + (sizes ss + sizes ws) ≡ a + suc (sizes ss + sizes ws) = omega arith in
    rw (same, joined_ends ss ws (suc a))

module _ (C : ℕ → ℕ → ℕ → Type 0) (n : ℕ) where
  pub joined_shaped : (ss ws : Terms) → AllShaped C n ss → AllShaped C n ws → AllShaped C n (joined ss ws)
  unfolding joined Shaped
  joined_shaped nil ws p q = q
  joined_shaped (cons s ss) ws p q = (p.0, joined_shaped ss ws p.1 q)

  pub shaped_view : (t : Term) → Shaped C n t → AllShaped C n (row t)
  unfolding row Shaped
  shaped_view (arg i) h = tt
  shaped_view (op o ts) h = h.1
  shaped_view (cond t x y) h = (h.0, (h.1, (h.2, tt)))
  shaped_view (call f ss ws) h = joined_shaped ss ws h.1 h.2

pub lead_few : (t : Term) → lead t ≤ count (row t)
unfolding lead row count
lead_few (arg i) = omega arith
lead_few (op o ts) = omega arith
lead_few (cond t x y) = omega arith
lead_few (call f ss ws) = omega (arith, joined_count ss ws)

op_leads : (H : List Signature) (o : Op) → leads_of H (op_symbol o) ≡ length (domain o)
unfolding leads_of op_symbol domain
op_leads H (constant s v) = refl
op_leads H add = refl
op_leads H sub = refl
op_leads H mul = refl
op_leads H div = refl
op_leads H rem = refl
op_leads H eq = refl
op_leads H lt = refl
op_leads H and = refl
op_leads H or = refl
op_leads H neg = refl

pub lead_view : (H : List Signature) (t : Term) → Shaped (Told H) most_arguments t → leads_of H (root t) ≡ lead t
unfolding leads_of root lead Shaped
lead_view H (arg i) h = refl
lead_view H (op o ts) h = op_leads H o ∙ sym h.0
lead_view H (cond t x y) h = refl
lead_view H (call f ss ws) h = h.0.strict

row_entered : (ts us : Terms) (a home others : ℕ) → follower_of (suc (count ts)) (joined ts us) a home others ≡ row_entrance ts a home
unfolding follower_of count joined entrance
row_entered nil us a home others = refl
row_entered (cons t ts) us a home others = refl

row_followed : (ts : Terms) (a home others : ℕ) → follower_of (suc (count ts)) ts a home others ≡ row_entrance ts a home
unfolding follower_of count entrance
row_followed nil a home others = refl
row_followed (cons t ts) a home others = refl

-- A term is entered where the symbol's leading arguments are, if there are any.
pub entrance_view : (t : Term) (a : ℕ) → entrance t a ≡ follower_of (suc (lead t)) (row t) (suc a) a 0
unfolding entrance lead row
entrance_view (arg i) a = unfold follower_of in refl
entrance_view (op o ts) a = sym (row_followed ts (suc a) a 0)
entrance_view (cond t x y) a = unfold follower_of in refl
entrance_view (call f ss ws) a = sym (row_entered ss ws (suc a) a 0)

module _ (B : List ℕ) (ret : ℕ) where
  pub waiting_row : (ts : Terms) (a home : ℕ) → row_code B ret 0 ts a home ret ≡ waiting_code B ret ts a
  unfolding row_code code
  waiting_row nil a home = refl
  waiting_row (cons t ts) a home = ap (λ (l : List Instruction). code B ret t a ret ++ l) (waiting_row ts (a + size t) home)

  strict_row : (ts : Terms) (a home others : ℕ) → row_code B ret (count ts) ts a home others ≡ strict_code B ret ts a home
  unfolding row_code code count
  strict_row nil a home others = refl
  strict_row (cons t ts) a home others = rw (row_followed ts (a + size t) home others, strict_row ts (a + size t) home others)

  mixed_row : (ss ws : Terms) (a home : ℕ) → row_code B ret (count ss) (joined ss ws) a home ret ≡ strict_code B ret ss a home ++ waiting_code B ret ws (a + sizes ss)
  unfolding row_code code count joined size
  mixed_row nil ws a home = waiting_row ws a home ∙ ap (waiting_code B ret ws) (omega arith)
  mixed_row (cons s ss) ws a home =
      let same : a + size s + sizes ss ≡ a + (size s + sizes ss) = omega arith in
      let first = code B ret s a (row_entrance ss (a + size s) home) in
      rw (row_entered ss ws (a + size s) home ret, mixed_row ss ws (a + size s) home, same)
      (sym (append_assoc first (strict_code B ret ss (a + size s) home) (waiting_code B ret ws (a + (size s + sizes ss)))))

  pub code_view : (t : Term) (a b : ℕ) → code B ret t a b ≡ instruction_of B t a b ∷ row_code B ret (lead t) (row t) (suc a) a (after ret t b)
  unfolding code lead row after instruction_of
  code_view (arg i) a b = unfold row_code in refl
  code_view (op o ts) a b = rw (strict_row ts (suc a) a b)
  code_view (cond t x y) a b = unfold row_code follower_of in simp append-nil
  code_view (call f ss ws) a b = rw (mixed_row ss ws (suc a) a)
