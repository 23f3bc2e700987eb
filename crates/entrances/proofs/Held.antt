-- What a table tells of the term that it holds at an address. Assumes nothing.
use mathlib.Core.Path.{◌≡◌, refl, ap, sym, ◌∙◌, subst}
use mathlib.Core.List.{List, ◌∷◌, ◌++◌, append_assoc}
use Prim.Native.Nat.{ℕ, suc, ◌+◌, ◌-◌, ◌≤◌}
use native.Mathlib.Omega.{arith}
use native.Mathlib.Numerals.{add-one}
use lib.ListN.{length, get_or, drop, length-append, length-drop}
use lib.Seq.{drop-drop, drop_at, get_or-drop}
use Rattle.meaning.specs.Numbers.{most_arguments}
use Rattle.meaning.specs.Terms.{Term, arg, op, cond, call, Terms, nil, cons}
use Rattle.meaning.specs.Code.{size, sizes}
use Rattle.table.specs.Table.{term_symbols, row_symbols, term_ends, row_ends, Begins}
use Rattle.table.specs.declared.Signature.{Signature}
use Rattle.table.specs.declared.Symbol.{Symbol}
use Rattle.table.specs.declared.Symbol.TheVariants.{Unknown}
use Rattle.accepted.specs.Accepted.{depth, Shaped}
use Rattle.entrances.specs.View.{joined, root, row, lead, leads_of}
use Rattle.entrances.specs.Entrances.{Told, TermAt, RowAt}
use Rattle.entrances.proofs.View.{some_size, depth_view, symbols_view, ends_view, shaped_view, lead_view}

-- As many symbols and ends as the size says.
mutual
  unfolding term_symbols size

  pub length_symbols : (t : Term) → length (term_symbols t) ≡ size t
  length_symbols (arg i) = refl
  length_symbols (op o ts) = ap suc (length_row_symbols ts)
  length_symbols (cond t x y) = simp length-append (omega (arith, length_symbols t, length_symbols x, length_symbols y))
  length_symbols (call f ss ws) = simp length-append (omega (arith, length_row_symbols ss, length_row_symbols ws))

  pub length_row_symbols : (ts : Terms) → length (row_symbols ts) ≡ sizes ts
  length_row_symbols nil = refl
  length_row_symbols (cons t ts) = simp length-append (omega (arith, length_symbols t, length_row_symbols ts))

mutual
  unfolding term_ends size

  pub length_ends : (t : Term) (a : ℕ) → length (term_ends t a) ≡ size t
  length_ends (arg i) a = refl
  length_ends (op o ts) a = ap suc (length_row_ends ts (suc a))
  length_ends (cond t x y) a =
      simp length-append (omega (arith, length_ends t (suc a), length_ends x (suc a + size t), length_ends y (suc a + size t + size x)))
  length_ends (call f ss ws) a = simp length-append (omega (arith, length_row_ends ss (suc a), length_row_ends ws (suc a + sizes ss)))

  length_row_ends : (ts : Terms) (a : ℕ) → length (row_ends ts a) ≡ sizes ts
  length_row_ends nil a = refl
  length_row_ends (cons t ts) a = simp length-append (omega (arith, length_ends t a, length_row_ends ts (a + size t)))

-- A slice that begins with a list from a on.
head_is : {A : Type 0} (S : List A) (a : ℕ) (z : A) {x : A} {xs : List A} → Begins (drop a S) (x ∷ xs) → get_or S a z ≡ x
head_is S a z b = ap (λ (n : ℕ). get_or S n z) (omega arith) ∙ sym (get_or-drop a S 0 z) ∙ ap (λ l. get_or l 0 z) b.whole

tail_is : {A : Type 0} (S : List A) (a : ℕ) {x : A} {xs : List A} → Begins (drop a S) (x ∷ xs) → Begins (drop (suc a) S) xs
tail_is S a b = record { rest = b.rest; whole = ap (λ (n : ℕ). drop n S) (sym (add-one a)) ∙ sym (drop-drop 1 a S) ∙ ap (drop 1) b.whole }

pub front_is : {A : Type 0} {S : List A} (xs ys : List A) → Begins S (xs ++ ys) → Begins S xs
front_is xs ys b = record { rest = ys ++ b.rest; whole = b.whole ∙ append_assoc xs ys b.rest }

pub back_is : {A : Type 0} (S : List A) (a : ℕ) (xs ys : List A) (n : ℕ) → length xs ≡ n → Begins (drop a S) (xs ++ ys) → Begins (drop (a + n) S) ys
back_is S a xs ys n l b =
    record { rest = b.rest; whole = sym (drop-drop n a S) ∙ ap (drop n) (b.whole ∙ append_assoc xs ys b.rest) ∙ drop_at xs (ys ++ b.rest) n l }

begins_by : {A : Type 0} {S xs ys : List A} → xs ≡ ys → Begins S xs → Begins S ys
begins_by {A} {S} e b = subst (Begins S) e b

-- A term.
module _ {H : List Signature} {W : List Symbol} {E : List ℕ} {a d : ℕ} {t : Term} (h : TermAt H W E a d t) where
  pub symbol_is : get_or W a Unknown ≡ root t
  symbol_is = head_is W a Unknown (begins_by (symbols_view t) h.symbols)

  pub end_is : get_or E a 0 ≡ a + size t
  end_is = head_is E a 0 (begins_by (ends_view t a) h.ends)

  pub leads_are : leads_of H (get_or W a Unknown) ≡ lead t
  leads_are = ap (leads_of H) symbol_is ∙ lead_view H t h.shaped

  pub row_at : RowAt H W E (suc a) (d - 1) (row t)
  row_at =
      record {
        symbols = tail_is W a (begins_by (symbols_view t) h.symbols);
        ends = tail_is E a (begins_by (ends_view t a) h.ends);
        shaped = shaped_view (Told H) most_arguments t h.shaped;
        deep = omega (arith, h.deep, depth_view t);
      }

  pub within : a + size t ≤ length W
  within = omega (arith, length-drop a W, ap length h.symbols.whole, length-append (term_symbols t) h.symbols.rest, length_symbols t, some_size t)

  pub not_too_deep : 1 ≤ d
  not_too_deep = omega (arith, h.deep, depth_view t)

-- A row.
module _ {H : List Signature} {W : List Symbol} {E : List ℕ} {a d : ℕ} {t : Term} {ts : Terms} (h : RowAt H W E a d (cons t ts)) where
  pub first_at : TermAt H W E a d t
  unfolding term_symbols term_ends Shaped depth
  first_at =
      record {
        symbols = front_is (term_symbols t) (row_symbols ts) h.symbols;
        ends = front_is (term_ends t a) (row_ends ts (a + size t)) h.ends;
        shaped = h.shaped.0;
        deep = omega (arith, h.deep);
      }

  pub others_at : RowAt H W E (a + size t) d ts
  unfolding term_symbols term_ends Shaped depth
  others_at =
      record {
        symbols = back_is W a (term_symbols t) (row_symbols ts) (size t) (length_symbols t) h.symbols;
        ends = back_is E a (term_ends t a) (row_ends ts (a + size t)) (size t) (length_ends t a) h.ends;
        shaped = h.shaped.1;
        deep = omega (arith, h.deep);
      }

-- What may stand deeper may stand as deep.
pub deeper : {H : List Signature} {W : List Symbol} {E : List ℕ} {a : ℕ} (c d : ℕ) {ts : Terms} → c ≤ d → RowAt H W E a c ts → RowAt H W E a d ts
deeper c d l h = record { symbols = h.symbols; ends = h.ends; shaped = h.shaped; deep = omega (arith, h.deep, l) }

pub joined_others : {H : List Signature} {W : List Symbol} {E : List ℕ} {a d : ℕ} (ss ws : Terms) → RowAt H W E a d (joined ss ws) → RowAt H W E (a + sizes ss) d ws
unfolding joined size
joined_others {H} {W} {E} {a} {d} nil ws h = subst (λ (n : ℕ). RowAt H W E n d ws) (omega arith) h
joined_others {H} {W} {E} {a} {d} (cons s ss) ws h = subst (λ (n : ℕ). RowAt H W E n d ws) (omega arith) (joined_others {a = a + size s} ss ws (others_at h))
