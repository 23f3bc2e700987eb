-- From the pieces to the whole: the table of an accepted program holds its initial term and its bodies, and their code is the translation.
-- Assumes nothing.
use mathlib.Core.Path.{◌≡◌, refl, ap, sym, ◌∙◌, subst}
use mathlib.Core.Option.{some}
use mathlib.Core.List.{List, [], ◌∷◌, ◌++◌, append_assoc, append-nil}
use Prim.Native.Nat.{ℕ, zero, suc, ◌+◌, ◌-◌, ◌*◌, ◌/◌, ◌≤◌, ◌<◌}
use native.Mathlib.Omega.{arith}
use lib.ListN.{length, get_or, get_elem?, take, drop, replicate, length-append}
use lib.Seq.{take_at, get_or-drop}
use Rattle.meaning.specs.Basics.{written_over}
use Rattle.meaning.specs.Numbers.{most_arguments, most_functions, most_depth, instruction_words}
use Rattle.meaning.specs.Terms.{Term, arg, op, cond, call, Terms, nil, cons, Function, Program}
use Rattle.meaning.specs.Code.{size, sizes, count, entrance, entrances, row_entrance, Instruction, RET, code, strict_code, waiting_code, bodies_code, body_entrances, bodies_size, initial, ret_address, translation, used_words, twelve, code_words}
use Rattle.table.specs.Table.{term_symbols, row_symbols, term_ends, row_ends, bodies_symbols, table_symbols, bodies_ends, table_ends, signatures, Begins, Holds}
use Rattle.table.specs.declared.Signature.{Signature}
use Rattle.table.specs.declared.Symbol.{Symbol}
use Rattle.accepted.specs.Accepted.{depth, depths, Shaped, AllShaped, Called, Sound, Every, Accepted}
use Rattle.accepted.proofs.Accepted.{reshaped, every_there}
use Rattle.accepted.proofs.Reading.{clash}
use Rattle.accepted.proofs.Initial.{initial_deep, initial_shaped}
use Rattle.accepted.proofs.Length.{length_waiting, translation_length, translation_few}
use Rattle.entrances.specs.View.{strict_at, bodies_row}
use Rattle.entrances.specs.Entrances.{most_words, written_at, Told, RowAt, Entrances}
use Rattle.entrances.proofs.View.{waiting_row}
use Rattle.entrances.proofs.Held.{first_at, others_at, length_symbols, length_row_symbols, end_is}
use Rattle.entrances.proofs.Laws.{written_more}
use Rattle.coding.specs.Coding.{EmittedRow, EmittedAll, Translated}
use Rattle.accepted.proofs.Length.{words_long}
use Rattle.coding.proofs.Emitting.{words_joined}

-- Signatures.
strict_here : (P : Program) (rest : List Signature) (f : ℕ) (F : Function) → get_elem? P f ≡ some F → strict_at (signatures P ++ rest) f ≡ F.strict
unfolding signatures
strict_here [] rest f F e = clash (cc)
strict_here (G ∷ P) rest zero F e = let same : G ≡ F = cc in ap (λ (Z : Function). Z.strict) same
strict_here (G ∷ P) rest (suc f) F e = strict_here P rest f F e

module _ (P : Program) (acc : Accepted P) (H : List Signature) (held : Begins H (signatures P)) where
  told : (f s w : ℕ) → Called P f s w → Told H f s w
  told f s w c =
      let F = c.function in
      let sound : Sound P F = every_there (Sound P) P acc.sound f F c.there in
      record {
        strict = ap (λ (l : List Signature). strict_at l f) held.whole ∙ strict_here P held.rest f F c.there ∙ sym c.strict;
        few = omega (arith, c.all, sound.few_arguments);
      }

  bodies_shaped : (Q : Program) → Every (Sound P) Q → AllShaped (Told H) most_arguments (bodies_row Q)
  unfolding Every bodies_row Shaped
  bodies_shaped [] h = tt
  bodies_shaped (F ∷ Q) h =
      (reshaped (Called P) (Told H) told (length F.sorts) most_arguments h.0.few_arguments F.body h.0.shaped, bodies_shaped Q h.1)

  bodies_deep : (Q : Program) → Every (Sound P) Q → depths (bodies_row Q) ≤ most_depth
  unfolding Every bodies_row depth
  bodies_deep [] h = omega arith
  bodies_deep (F ∷ Q) h = omega (arith, h.0.not_deep, bodies_deep Q h.1)

-- The initial term.
initial_told : (P : Program) (acc : Accepted P) (H : List Signature) → Begins H (signatures P) → Shaped (Told H) most_arguments (initial P)
unfolding Every
initial_told [] acc H held = absurd (omega (arith, acc.some_function))
initial_told (F ∷ P) acc H held =
    let s = acc.sound.0 in
    reshaped (Called (F ∷ P)) (Told H) (told (F ∷ P) acc H held) (length F.sorts) most_arguments s.few_arguments (initial (F ∷ P)) (initial_shaped F P s.few_strict)

-- The bodies as a row.
row_of_symbols : (P : Program) → bodies_symbols P ≡ row_symbols (bodies_row P)
unfolding bodies_symbols bodies_row term_symbols
row_of_symbols [] = refl
row_of_symbols (F ∷ P) = ap (λ (l : List Symbol). term_symbols F.body ++ l) (row_of_symbols P)

row_of_ends : (P : Program) (a : ℕ) → bodies_ends P a ≡ row_ends (bodies_row P) a
unfolding bodies_ends bodies_row term_ends
row_of_ends [] a = refl
row_of_ends (F ∷ P) a = ap (λ (l : List ℕ). term_ends F.body a ++ l) (row_of_ends P (a + size F.body))

row_of_sizes : (P : Program) → bodies_size P ≡ sizes (bodies_row P)
unfolding bodies_size bodies_row size
row_of_sizes [] = refl
row_of_sizes (F ∷ P) = ap (λ (n : ℕ). size F.body + n) (row_of_sizes P)

row_of_count : (P : Program) → length P ≡ count (bodies_row P)
unfolding bodies_row count
row_of_count [] = refl
row_of_count (F ∷ P) = ap suc (row_of_count P)

row_of_entrances : (P : Program) (a : ℕ) → body_entrances P a ≡ entrances (bodies_row P) a
unfolding body_entrances bodies_row entrances
row_of_entrances [] a = refl
row_of_entrances (F ∷ P) a = ap (λ (l : List ℕ). entrance F.body a ∷ l) (row_of_entrances P (a + size F.body))

row_of_code : (B : List ℕ) (ret : ℕ) (P : Program) (a : ℕ) → bodies_code B ret P a ≡ waiting_code B ret (bodies_row P) a
unfolding bodies_code bodies_row code
row_of_code B ret [] a = refl
row_of_code B ret (F ∷ P) a = ap (λ (l : List Instruction). code B ret F.body a ret ++ l) (row_of_code B ret P (a + size F.body))

table_long : (P : Program) → length (table_symbols P) ≡ ret_address P
unfolding table_symbols ret_address
table_long P =
    length-append (term_symbols (initial P)) (bodies_symbols P)
    ∙ omega (arith, length_symbols (initial P), ap length (row_of_symbols P), length_row_symbols (bodies_row P), row_of_sizes P)

-- The table holds them.
module _ (P : Program) (acc : Accepted P) (H : List Signature) (W : List Symbol) (E : List ℕ) (symbols : W ≡ table_symbols P) (ends : Begins E (table_ends P)) (heads : Begins H (signatures P)) where
  -- one row: the initial term, then the bodies
  pub table_at : RowAt H W E 0 most_depth (cons (initial P) (bodies_row P))
  unfolding table_symbols table_ends term_symbols term_ends Shaped depth
  table_at =
      record {
        symbols = record { rest = []; whole = symbols ∙ ap (λ (l : List Symbol). term_symbols (initial P) ++ l) (row_of_symbols P) ∙ sym (append-nil (row_symbols (cons (initial P) (bodies_row P)))) };
        ends = subst (λ (l : List ℕ). Begins E (term_ends (initial P) 0 ++ l)) (row_of_ends P (size (initial P)) ∙ ap (row_ends (bodies_row P)) from_0) ends;
        shaped = (initial_told P acc H heads, bodies_shaped P acc H heads P acc.sound);
        deep = omega (arith, initial_deep P, bodies_deep P acc H heads P acc.sound);
      }
    where
      from_0 : size (initial P) ≡ 0 + size (initial P)
      from_0 = omega arith

  pub bodies_at : RowAt H W E (size (initial P)) most_depth (bodies_row P)
  bodies_at = let past : 0 + size (initial P) ≡ size (initial P) = omega arith in subst (λ (n : ℕ). RowAt H W E n most_depth (bodies_row P)) past (others_at table_at)

  pub first_body : get_or E 0 0 ≡ size (initial P)
  first_body = end_is (first_at table_at) ∙ omega arith

  pub last_body : length W ≡ size (initial P) + sizes (bodies_row P)
  unfolding ret_address
  last_body = ap length symbols ∙ table_long P ∙ ap (λ (n : ℕ). size (initial P) + n) (row_of_sizes P)

-- Code depends on the entrances of bodies alone.
module _ (B C : List ℕ) (ret : ℕ) (same : (f : ℕ) → get_or B f 0 ≡ get_or C f 0) where
  mutual
    unfolding code

    same_code : (t : Term) (a b : ℕ) → code B ret t a b ≡ code C ret t a b
    same_code (arg i) a b = refl
    same_code (op o ts) a b = rw (same_strict ts (suc a) a)
    same_code (cond t x y) a b = rw (same_code t (suc a) a, same_code x (suc a + size t) b, same_code y (suc a + size t + size x) b)
    same_code (call f ss ws) a b = rw (same f, same_strict ss (suc a) a, same_waiting ws (suc a + sizes ss))

    same_strict : (ts : Terms) (a home : ℕ) → strict_code B ret ts a home ≡ strict_code C ret ts a home
    same_strict nil a home = refl
    same_strict (cons t ts) a home = rw (same_code t a (row_entrance ts (a + size t) home), same_strict ts (a + size t) home)

    same_waiting : (ts : Terms) (a : ℕ) → waiting_code B ret ts a ≡ waiting_code C ret ts a
    same_waiting nil a = refl
    same_waiting (cons t ts) a = rw (same_code t a ret, same_waiting ts (a + size t))

zero_at : (m i : ℕ) → get_or {A = ℕ} (replicate m 0) i 0 ≡ 0
zero_at zero i = refl
zero_at (suc m) zero = refl
zero_at (suc m) (suc i) = zero_at m i

zeros_after : (xs : List ℕ) (k m i : ℕ) → get_or (xs ++ drop k (replicate m 0)) i 0 ≡ get_or xs i 0
zeros_after [] k m i = get_or-drop k (replicate m 0) i 0 ∙ zero_at m (k + i)
zeros_after (x ∷ xs) k m zero = refl
zeros_after (x ∷ xs) k m (suc i) = zeros_after xs k m i

-- Two writings, one after the other.
twice : (c c₁ c₂ xs ys : List ℕ) (n : ℕ) → length xs ≡ n → c₁ ≡ written_at 0 xs c → c₂ ≡ written_at n ys c₁ → c₂ ≡ written_over (xs ++ ys) c
unfolding written_over
twice c c₁ c₂ xs ys n p e₁ e₂ =
    let from_n : n ≡ 0 + n = omega arith in
    e₂ ∙ rw e₁ (ap (λ (k : ℕ). written_at k ys (written_at 0 xs c)) from_n ∙ written_more c 0 n xs ys p (omega arith))

-- The initial term and the bodies, then RET.
pub all_emitted : (H : List Signature) (W : List Symbol) (E c B c₁ c₂ : List ℕ) (first : ℕ) → first ≡ get_or E 0 0 → Entrances H W E first (length W) most_depth 0 (replicate most_functions 0) B →
    EmittedRow H B W E 0 (length W) 0 0 (length W) most_depth c c₁ →
    c₂ ≡ written_at (instruction_words * length W) (5 ∷ 0 ∷ 0 ∷ 0 ∷ 0 ∷ 0 ∷ 0 ∷ 0 ∷ 0 ∷ 0 ∷ 0 ∷ 0 ∷ []) c₁ → EmittedAll H W E c c₂
unfolding EmittedAll Entrances EmittedRow translation code_words used_words twelve code size
all_emitted H W E c B c₁ c₂ first z b e₁ e₂ P acc symbols ends heads =
    let n = size (initial P) in
    let ret = ret_address P in
    let entries = body_entrances P n in
    let row = cons (initial P) (bodies_row P) in
    let start : first ≡ n = z ∙ first_body P acc H W E symbols ends heads in
    let last : length W ≡ n + sizes (bodies_row P) = last_body P acc H W E symbols ends heads in
    let few : 0 + count (bodies_row P) ≤ length (replicate {A = ℕ} most_functions 0) = omega (arith, acc.few_functions, row_of_count P) in
    let held : B ≡ written_at 0 (entrances (bodies_row P) n) (replicate most_functions 0)
    = rw start at b (bodies_row P) (bodies_at P acc H W E symbols ends heads) last few in
    let same : (f : ℕ) → get_or B f 0 ≡ get_or entries f 0
    = λ f. rw (held, row_of_entrances P n) (zeros_after (entrances (bodies_row P) n) (length (entrances (bodies_row P) n)) most_functions f) in
    let addr : length W ≡ ret = ap length symbols ∙ table_long P in
    let A = code entries ret (initial P) 0 ret in
    let Z = bodies_code entries ret P n in
    let past : 0 + n ≡ n = omega arith in
    let is : waiting_code entries ret row 0 ≡ A ++ Z = ap (λ (l : List Instruction). A ++ l) (ap (waiting_code entries ret (bodies_row P)) past ∙ sym (row_of_code entries ret P n)) in
    let one : c₁ ≡ written_at 0 (code_words (A ++ Z)) c
    = e₁ row (table_at P acc H W E symbols ends heads) (last ∙ omega arith) (omega arith)
    ∙ rw (addr, waiting_row B ret row 0 0, same_waiting B entries ret same row 0, is) in
    let long : length (code_words (A ++ Z)) ≡ instruction_words * length W
    = words_long (A ++ Z) ∙ ap (λ (k : ℕ). instruction_words * k) (ap length (sym is) ∙ length_waiting entries ret row 0 ∙ sym last) in
    twice c c₁ c₂ (code_words (A ++ Z)) (code_words (RET ∷ [])) (instruction_words * length W) long one e₂
    ∙ ap (λ (l : List ℕ). written_over l c) (sym (words_joined (A ++ Z) (RET ∷ [])) ∙ ap code_words (append_assoc A Z (RET ∷ [])))

-- The tests of `emit`.
module _ (symbols : List Symbol) (ends : List ℕ) (heads : List Signature) (instructions : ℕ) (c : List ℕ) where
  pub none_translated : instructions ≡ 0 → Translated symbols ends heads instructions c c
  unfolding Translated
  none_translated z P bodies acc h n room = absurd (omega (arith, translation_length P))

  few_held : (P : Program) (bodies : List ℕ) → Holds P symbols ends heads bodies → ret_address P ≤ length symbols
  few_held P bodies h = omega (arith, ap length h.symbols_held.whole, length-append (table_symbols P) h.symbols_held.rest, table_long P)

  pub short_translated : length symbols < instructions - 1 → Translated symbols ends heads instructions c c
  unfolding Translated
  short_translated z P bodies acc h n room = absurd (omega (arith, translation_length P, few_held P bodies h))

  pub many_translated : most_words < instructions - 1 → Translated symbols ends heads instructions c c
  unfolding Translated
  many_translated z P bodies acc h n room = absurd (omega (arith, translation_few P acc))

  pub room_translated : length c / instruction_words < instructions → Translated symbols ends heads instructions c c
  unfolding Translated
  room_translated z P bodies acc h n room = absurd (omega (arith, room))

  pub all_translated : (ws : List Symbol) (c' : List ℕ) → ws ≡ take (instructions - 1) symbols → EmittedAll heads ws ends c c' → Translated symbols ends heads instructions c c'
  unfolding Translated EmittedAll
  all_translated ws c' q e P bodies acc h n room =
      let long : length (table_symbols P) ≡ instructions - 1 = table_long P ∙ omega (arith, translation_length P) in
      let same : ws ≡ table_symbols P
      = q ∙ ap (take (instructions - 1)) h.symbols_held.whole ∙ take_at (table_symbols P) h.symbols_held.rest (instructions - 1) long in
      e P acc same h.ends_held h.heads_held
