-- Laws of bodies: from fields to the table, from the table to the definition's terms, and from line to line. Assumes nothing.
use Rattle.std.specs.Prelude.{Result, Ok, Err}
use mathlib.Core.Path.{◌≡◌, refl, ap, sym, ◌∙◌, subst}
use mathlib.Core.Bool.{true}
use mathlib.Core.List.{List, [], ◌∷◌, ◌++◌, map, map-map, append-nil}
use Prim.Native.Nat.{ℕ, zero, suc, ◌+◌, ◌-◌, ◌<◌, ◌≤◌}
use native.Mathlib.Omega.{arith}
use lib.ListN.{length, get_or, take, drop, set, length-append, length-map}
use lib.Seq.{take_at, drop_at, length-take-le, take-append-add}
use Rattle.meaning.specs.Numbers.{most_depth}
use Rattle.meaning.specs.Text.{Field, Line, Verdict, fine, refused, ◌>>=◌, pieces, line_of, lines, is_name, value, sort_of, wrong_field}
use Rattle.meaning.specs.Terms.{Term, Symbol, symbol, Read, got, fault, Program, read_term, nothing_after, read_body, function_of, read_bodies}
use Rattle.meaning.specs.Code.{size, bodies_size}
use Rattle.meaning.specs.declared.Refusal.{Refusal}
use Rattle.meaning.specs.declared.Wrong.TheVariants.{LeftOver}
use Rattle.table.specs.Symbols.{sort_in, symbol_in}
use Rattle.table.specs.Table as table
use Rattle.table.specs.Table.{term_ends, bodies_symbols, bodies_ends, addresses_from}
use Rattle.table.specs.declared.Sort.TheVariants.{Number}
use Rattle.table.specs.declared.Signature.{Signature}
use Rattle.table.specs.declared.Symbol.{Symbol as Entry}
use Rattle.fields.specs.Fields.{rest, packed}
use Rattle.symbols.specs.Symbols.{symbol_by}
use Rattle.symbols.proofs.Names.{Names, is_a_name, visible_bytes, symbol_is}
use Rattle.lines.specs.Splice.{splice}
use Rattle.lines.specs.Lines.{body_fields, total, Right, raw_lines, Parted, name_number, line_signature}
use Rattle.lines.proofs.Splice.{splice_none, splice_more, splice_set, splice_length}
use Rattle.lines.proofs.Laws.{rest_all, as_line, lines_raw, right_here, body_length, Visible, Forms, right_forms, few_sorts}
use Rattle.terms.specs.Terms.{World, Said, Whole, Within, fault_at}
use Rattle.terms.specs.declared.Fault.{Fault}
use Rattle.terms.proofs.Flat.{term_symbols, symbols_are, symbol_count, end_count, Taken, taken_term}
use Rattle.bodies.specs.Bodies.{symbols_by, Finishes, refused_at}

-- From fields to the table.

-- One field more, and none.
pub one_symbol : (M : List ℕ) (f : Field) (fs gs : List Field) → fs ≡ f ∷ gs → symbols_by M fs ≡ symbol_in (symbol_by M f) ∷ symbols_by M gs
unfolding symbols_by
one_symbol M f fs gs e = ap (symbols_by M) e

pub no_symbols : (M : List ℕ) (fs : List Field) → fs ≡ [] → symbols_by M fs ≡ []
unfolding symbols_by
no_symbols M fs e = rw e

-- Symbols by packed names are the definition's.

abbrev pub names : List Line → List Field
names H = map (λ k. k.name) H

pub names_packed : (H : List Line) → map name_number H ≡ map packed (names H)
unfolding name_number
names_packed H = sym (map-map packed (λ k. k.name) H)

symbols_meant : (N : List Field) (fs : List Field) → Names N → Visible fs → symbols_by (map packed N) fs ≡ map symbol_in (map (symbol N) fs)
unfolding symbols_by Visible
symbols_meant N [] p q = refl
symbols_meant N (f ∷ fs) p q = rw (symbol_is N f p (visible_bytes f q.0), symbols_meant N fs p q.1)

-- A line of the right shape, and its body with the tab before it.

abbrev tail : List ℕ → ℕ → List ℕ
tail l d = take (length l - d) (drop d l)

module _ (l : List ℕ) (a b c d : ℕ) (p : Parted l a b c d) where
  body_is : (line_of (pieces 9 l)).body ≡ rest 9 (tail l d)
  unfolding line_of
  body_is = ap (drop 4) p.fields ∙ sym (ap (rest 9) (rest_all l d))

  pub body_count : body_fields l ≡ length (rest 9 (tail l d))
  unfolding body_fields line_of
  body_count = ap length body_is

line_sorts : (fs : List Field) → Forms fs → length (line_of fs).sorts ≤ 8
unfolding line_of
line_sorts fs p = rw (length-map (get_or fs 2 []) sort_of) (few_sorts (value (get_or fs 1 [])) (get_or fs 2 []) p.sorts_form)

line_visible : (fs : List Field) → Forms fs → Visible (line_of fs).body
unfolding line_of
line_visible fs p = p.body_form

line_named : (fs : List Field) → Forms fs → is_name (line_of fs).name ≡ true
unfolding line_of
line_named fs p = p.name_form

pub named_lines : (ps : List Field) → Right ps → Names (names (map (λ p. line_of (pieces 9 p)) ps))
unfolding Right Names
named_lines [] r = tt
named_lines (p ∷ ps) r = (is_a_name _ (line_named (pieces 9 p) (right_forms (pieces 9 p) r.0)), named_lines ps r.1)

-- From the table to the definition's terms.

-- The table up to the address after what was written.
written : (w xs : List Entry) (from to : ℕ) → to ≡ from + length xs → from + length xs ≤ length w → drop from (take to (splice w from xs)) ≡ xs
written w xs from to e h =
    let n : to ≡ length (take from w) + length xs = omega (arith, e, length-take-le from w (omega arith)) in
    let head : length (take from w) ≡ from = length-take-le from w (omega arith) in
    rw (n, take-append-add (take from w) (xs ++ drop (length xs) (drop from w)) (length xs), take_at xs (drop (length xs) (drop from w)) (length xs) refl, drop_at (take from w) xs from head)

written_length : (w xs : List Entry) (from to : ℕ) → to ≡ from + length xs → from + length xs ≤ length w → length (take to (splice w from xs)) ≡ to
written_length w xs from to e h = length-take-le to (splice w from xs) (omega (arith, splice_length w from xs h))

all_symbols : (M : List ℕ) (fs : List Field) → length (symbols_by M fs) ≡ length fs
unfolding symbols_by
all_symbols M [] = refl
all_symbols M (f ∷ fs) = ap suc (all_symbols M fs)

-- How long the table is up to the address after a line's symbols.
pub table_end : (line M : List ℕ) (from to : ℕ) (w w1 : List Entry) (a b c d : ℕ) → Parted line a b c d → to ≡ from + length (rest 9 (tail line d)) → w1 ≡ splice w from (symbols_by M (rest 9 (tail line d))) → from + body_fields line ≤ length w →
    length (take to w1) ≡ from + body_fields line
table_end line M from to w w1 a b c d P x y h =
    let n = all_symbols M (rest 9 (tail line d)) in
    let k : length (take to w1) ≡ to =
    rw y (written_length w (symbols_by M (rest 9 (tail line d))) from to (omega (arith, x, n)) (omega (arith, h, n, body_count line a b c d P))) in
    omega (arith, k, x, body_count line a b c d P)

-- What reading the body of the line h answers, and leaves in the table from `from` on.
unfoldable pub Filled : Line → ℕ → List Entry → List Entry → List ℕ → List ℕ → Read Term → Result ℕ Fault → Type 0
Filled h from w w' e e' (got t ys) r = (r ≡ Ok (from + size t)) × (w' ≡ splice w from (table.term_symbols t)) × (e' ≡ splice e from (term_ends t from))
Filled h from w w' e e' (fault x ys) r = (r ≡ Err (fault_at x (from + (length h.body - length ys)))) × (length ys ≤ length h.body)

meant_by : (h : Line) (w w1 W : List Entry) (e e1 : List ℕ) (from : ℕ) (X : List Entry) (ys : List Symbol) (R : Read Term) (r : Result ℕ Fault) →
    w1 ≡ splice w from X → X ≡ map symbol_in ys → length ys ≡ length h.body → length W ≡ from + length h.body → Taken ys R → Said W from e e1 (nothing_after R) r → Filled h from w w1 e e1 (nothing_after R) r
unfolding Taken Said Filled nothing_after
meant_by h w w1 W e e1 from X ys (got t []) r p x k o s d =
    let all : ys ≡ term_symbols t = s ∙ append-nil (term_symbols t) in
    (d.0, p ∙ ap (splice w from) (x ∙ ap (map symbol_in) all ∙ sym (symbols_are t)), d.1)
meant_by h w w1 W e e1 from X ys (got t (y ∷ zs)) r p x k o s d =
    let m : suc (length zs) ≤ length h.body = omega (arith, k, ap length s, length-append (term_symbols t) (y ∷ zs)) in
    (d ∙ ap (λ (p : ℕ). Err (fault_at LeftOver p)) (omega (arith, o, m)), m)
meant_by h w w1 W e e1 from X ys (fault u zs) r p x k o s d =
    let m : length zs ≤ length h.body = omega (arith, k, s) in
    (d ∙ ap (λ (p : ℕ). Err (fault_at u p)) (omega (arith, o, m)), m)

module _ (line M : List ℕ) (S : List Signature) (own : Signature) (from to : ℕ) (w w1 : List Entry) (e e1 : List ℕ) (r : Result ℕ Fault) (a b c d : ℕ) (P : Parted line a b c d) (right : wrong_field (pieces 9 line) ≡ 0)
    (x : to ≡ from + length (rest 9 (tail line d))) (y : w1 ≡ splice w from (symbols_by M (rest 9 (tail line d))))
    (room : from + body_fields line ≤ length w) (u : Whole (take to w1) S own from e e1 r) where
  abbrev h : Line
  h = line_of (pieces 9 line)

  world : (H : List Line) → S ≡ map line_signature H → own ≡ line_signature h → World S own
  unfolding line_signature
  world H s o =
      record {
        functions = H;
        arguments = h.sorts;
        heads = s;
        few = line_sorts (pieces 9 line) (right_forms (pieces 9 line) right);
        sorts = ap (λ (k : Signature). k.sorts) o;
      }

  expected : own ≡ line_signature h → own.result ≡ sort_in h.result
  unfolding line_signature
  expected o = ap (λ (k : Signature). k.result) o

  length_there : from + length (symbols_by M (rest 9 (tail line d))) ≤ length w
  length_there = omega (arith, room, body_count line a b c d P, all_symbols M (rest 9 (tail line d)))

  to_is : to ≡ from + length (symbols_by M (rest 9 (tail line d)))
  to_is = omega (arith, x, all_symbols M (rest 9 (tail line d)))

  there : (H : List Line) → M ≡ map name_number H → Names (names H) → symbols_by M (rest 9 (tail line d)) ≡ map symbol_in (map (symbol (names H)) h.body)
  there H m F =
      ap (symbols_by M) (sym (body_is line a b c d P)) ∙ ap (λ (N : List ℕ). symbols_by N h.body) (m ∙ names_packed H)
      ∙ symbols_meant (names H) h.body F (line_visible (pieces 9 line) (right_forms (pieces 9 line) right))

  pub meant : (H : List Line) → M ≡ map name_number H → S ≡ map line_signature H → Names (names H) → own ≡ line_signature h → Filled h from w w1 e e1 (read_body H h) r
  unfolding read_body world
  meant H m s F o =
      let n : length (take to w1) ≡ from + length h.body = omega (arith, table_end line M from to w w1 a b c d P x y room, body_count line a b c d P, ap length (body_is line a b c d P)) in
      meant_by h w w1 (take to w1) e e1 from (symbols_by M (rest 9 (tail line d))) (map (symbol (names H)) h.body)
      (read_term H h.sorts most_depth h.result (map (symbol (names H)) h.body)) r y (there H m F) (length-map h.body (symbol (names H)))
      n
      (taken_term H h.sorts most_depth h.result (map (symbol (names H)) h.body))
      (u.whole (world H s o) h.result (map (symbol (names H)) h.body) (expected o) (rw y (written w (symbols_by M (rest 9 (tail line d))) from to to_is length_there ∙ there H m F)))

-- From line to line.

-- What an index past the signatures would give.
abbrev pub no_signature : Signature
no_signature = record { sorts = record { count = 0; mask = 0 }; strict = 0; result = Number }

pub first_line : (L : List Line) (l : ℕ) (h : Line) (hs : List Line) → drop l L ≡ h ∷ hs → (l < length L) × (get_or (map line_signature L) l no_signature ≡ line_signature h) × (drop (l + 1) L ≡ hs)
first_line [] zero h hs e = absurd (omega (arith, ap length e))
first_line [] (suc l) h hs e = absurd (omega (arith, ap length e))
first_line (k ∷ L) zero h hs e = let x : k ≡ h = cc in let y : L ≡ hs = cc in (omega arith, ap line_signature x, y)
first_line (k ∷ L) (suc l) h hs e =
    let r = first_line L l h hs e in
    let n : suc l + 1 ≡ suc (l + 1) = omega arith in
    (omega (arith, r.0), r.1, ap (λ (m : ℕ). drop m (k ∷ L)) n ∙ r.2)

pub none_left : (L hs : List Line) (l from k : ℕ) (b : List ℕ) (w : List Entry) (e : List ℕ) → hs ≡ [] → Finishes l from b b w w e e (read_bodies L k hs) (Ok from)
unfolding Finishes read_bodies bodies_size addresses_from bodies_symbols bodies_ends
none_left L hs l from k b w e x = rw x (ap Ok (omega arith), splice_none b l, splice_none w from, splice_none e from)

-- What is at fault, told by the answer.
fault_is : {r : Result ℕ Fault} {f g : Fault} → r ≡ Err f → r ≡ Err g → f ≡ g
fault_is p q = cc

fault_place : (h : Line) (from : ℕ) (w w1 : List Entry) (e e1 : List ℕ) (R : Read Term) (r : Result ℕ Fault) (f : Fault) → Filled h from w w1 e e1 R r → r ≡ Err f → from ≤ f.at
unfolding Filled
fault_place h from w w1 e e1 (got t ys) r f k q = cc (k.0)
fault_place h from w w1 e e1 (fault u ys) r f k q = omega (arith, ap (λ (g : Fault). g.at) (fault_is q k.0))

fault_line : (L : List Line) (h : Line) (l from : ℕ) (w w1 : List Entry) (e e1 : List ℕ) (hs : List Line) (R : Read Term) (r : Result ℕ Fault) (f : Fault) (b b1 : List ℕ) (w2 : List Entry) (e2 : List ℕ) →
    Filled h from w w1 e e1 R r → r ≡ Err f → Finishes l from b b1 w w2 e e2 (function_of (l + 1) h R >>= λ F. read_bodies L (l + 1 + 1) hs >>= λ P. fine (F ∷ P)) (Err (refused_at f l from))
unfolding Filled Finishes function_of ◌>>=◌
fault_line L h l from w w1 e e1 hs (got t ys) r f b b1 w2 e2 k q = cc (k.0)
fault_line L h l from w w1 e e1 hs (fault u ys) r f b b1 w2 e2 k q =
    let m : 5 + (from + (length h.body - length ys) - from) ≡ 5 + length h.body - length ys = omega (arith, k.1) in
    rw (fault_is q k.0, m)

one_more : (l from n : ℕ) (h : Line) (t : Term) (b b1 : List ℕ) (w w1 w2 : List Entry) (e e1 e2 : List ℕ) (R : Verdict Program) (g : Result ℕ Refusal) → l < length b → from ≤ length w → from ≤ length e → n ≡ from + size t →
    w1 ≡ splice w from (table.term_symbols t) → e1 ≡ splice e from (term_ends t from) →
    Finishes (l + 1) n (set b l from) b1 w1 w2 e1 e2 R g →
    Finishes l from b b1 w w2 e e2 (R >>= λ P. fine (record { sorts = h.sorts; strict = h.strict; result = h.result; body = t } ∷ P)) g
unfolding Finishes ◌>>=◌ bodies_size addresses_from bodies_symbols bodies_ends
one_more l from n h t b b1 w w1 w2 e e1 e2 (refused m i k) g a o q x y u f = f
one_more l from n h t b b1 w w1 w2 e e1 e2 (fine P) g a o q x y u f =
    let many : length (table.term_symbols t) ≡ size t = ap length (symbols_are t) ∙ length-map (term_symbols t) symbol_in ∙ symbol_count t in (
      f.0 ∙ ap Ok (omega (arith, x)),
      f.1 ∙ rw x (splice_set b l from (addresses_from (from + size t) P) a),
      f.2 ∙ rw (x, y) (splice_more w from (size t) (table.term_symbols t) (bodies_symbols P) many o),
      f.3 ∙ rw (x, u) (splice_more e from (size t) (term_ends t from) (bodies_ends P (from + size t)) (end_count t from) q),
    )

next_is : {r : Result ℕ Fault} {p q : ℕ} → r ≡ Ok p → r ≡ Ok q → p ≡ q
next_is p q = cc

good_line : (L : List Line) (h : Line) (l from next : ℕ) (w w1 w2 : List Entry) (e e1 e2 b b1 : List ℕ) (hs : List Line) (R : Read Term) (r : Result ℕ Fault) (g : Result ℕ Refusal) → l < length b → from ≤ length w → from ≤ length e →
    Filled h from w w1 e e1 R r → r ≡ Ok next → Finishes (l + 1) next (set b l from) b1 w1 w2 e1 e2 (read_bodies L (l + 1 + 1) hs) g →
    Finishes l from b b1 w w2 e e2 (function_of (l + 1) h R >>= λ F. read_bodies L (l + 1 + 1) hs >>= λ P. fine (F ∷ P)) g
unfolding Filled function_of ◌>>=◌
good_line L h l from next w w1 w2 e e1 e2 b b1 hs (fault u ys) r g a o q k x f = cc (k.0)
good_line L h l from next w w1 w2 e e1 e2 b b1 hs (got t ys) r g a o q k x f =
    one_more l from next h t b b1 w w1 w2 e e1 e2 (read_bodies L (l + 1 + 1) hs) g a o q (next_is x k.0) k.1 k.2 f

-- The reading, line by line: what was written before line n, counted from 0, and what is still to come from the address `at` on.

pub record Reading (t : List ℕ) (l : ℕ) (hs : List Line) (b₀ b : List ℕ) (w₀ w : List Entry) (e₀ e : List ℕ) (from at n : ℕ) (left : List Field) : Type 0 where
  pub place : n + length left ≡ l + length hs
  pub index : drop n (lines t) ≡ map as_line left
  pub shapes : Right left
  pub room : at + total (map as_line left) ≤ from + total hs
  pub goes_on : (b1 : List ℕ) (w1 : List Entry) (e1 : List ℕ) (g : Result ℕ Refusal) → Finishes n at b b1 w w1 e e1 (read_bodies (lines t) (n + 1) (map as_line left)) g →
      Finishes l from b₀ b1 w₀ w1 e₀ e1 (read_bodies (lines t) (l + 1) hs) g

begins : (t : List ℕ) (l : ℕ) (s b : List ℕ) (w : List Entry) (e : List ℕ) (from : ℕ) → Right (raw_lines s) → drop l (lines t) ≡ lines s →
    Reading t l (lines s) b b w w e e from from l (raw_lines s)
begins t l s b w e from r d =
    let x : map as_line (raw_lines s) ≡ lines s = sym (lines_raw s) in
    record {
      place = omega (arith, ap length x, length-map (raw_lines s) as_line);
      index = d ∙ sym x;
      shapes = r;
      room = omega (arith, ap total x);
      goes_on = λ b1 w1 e1 g f. subst (λ (R : Verdict Program). Finishes l from b b1 w w1 e e1 R g) (ap (read_bodies (lines t) (l + 1)) x) f;
    }

pub reading_begins : (t : List ℕ) (l n : ℕ) (s b : List ℕ) (w : List Entry) (e : List ℕ) (from : ℕ) → n ≡ l → Right (raw_lines s) → drop l (lines t) ≡ lines s →
    Reading t l (lines s) b b w w e e from from n (raw_lines s)
reading_begins t l n s b w e from z r d = rw z (begins t l s b w e from r d)

module _ (t : List ℕ) (l : ℕ) (hs : List Line) (b₀ b : List ℕ) (w₀ w : List Entry) (e₀ e : List ℕ) (from at n : ℕ) (left : List Field) (i : Reading t l hs b₀ b w₀ w e₀ e from at n left) where
  pub reading_ends : left ≡ [] → Finishes l from b₀ b w₀ w e₀ e (read_bodies (lines t) (l + 1) hs) (Ok at)
  reading_ends x = i.goes_on b w e (Ok at) (none_left (lines t) (map as_line left) n at (n + 1) b w e (ap (map as_line) x))

  -- One line.
  module _ (p : Field) (next : List Field) (x : left ≡ p ∷ next) where
    lefts : map as_line left ≡ as_line p ∷ map as_line next
    lefts = ap (map as_line) x

    pub here : (n < length (lines t)) × (get_or (map line_signature (lines t)) n no_signature ≡ line_signature (as_line p)) × (drop (n + 1) (lines t) ≡ map as_line next)
    here = first_line (lines t) n (as_line p) (map as_line next) (i.index ∙ lefts)

    pub shaped : (wrong_field (pieces 9 p) ≡ 0) × Right next
    shaped = right_here left p next i.shapes x

    pub fields_left : at + (body_fields p + total (map as_line next)) ≤ from + total hs
    unfolding total
    fields_left = omega (arith, i.room, ap total lefts, body_length p)

    module _ (right : Right (raw_lines t)) (M : List ℕ) (S : List Signature) (own : Signature) (to : ℕ) (w1 : List Entry) (e1 : List ℕ) (r : Result ℕ Fault) (a b1 c d : ℕ) (P : Parted p a b1 c d)
        (m : M ≡ map name_number (lines t)) (s : S ≡ map line_signature (lines t)) (o : own ≡ get_or S n no_signature) (filled_to : to ≡ at + length (rest 9 (tail p d)))
        (filled_symbols : w1 ≡ splice w at (symbols_by M (rest 9 (tail p d))))
        (fits : at + body_fields p ≤ length w) (k : Whole (take to w1) S own at e e1 r) where
      filled : Filled (as_line p) at w w1 e e1 (read_body (lines t) (as_line p)) r
      filled =
          meant p M S own at to w w1 e e1 r a b1 c d P shaped.0 filled_to filled_symbols fits k
          (lines t) m s (rw (lines_raw t) (named_lines (raw_lines t) right)) (o ∙ ap (λ (X : List Signature). get_or X n no_signature) s ∙ here.1)

      pub bad_place : (f : Fault) → r ≡ Err f → at ≤ f.at
      bad_place f q = fault_place (as_line p) at w w1 e e1 (read_body (lines t) (as_line p)) r f filled q

      pub bad_line : (b2 : List ℕ) (f : Fault) → r ≡ Err f → Finishes l from b₀ b2 w₀ w1 e₀ e1 (read_bodies (lines t) (l + 1) hs) (Err (refused_at f n at))
      unfolding read_bodies
      bad_line b2 f q =
          i.goes_on b2 w1 e1 (Err (refused_at f n at))
          (rw lefts (fault_line (lines t) (as_line p) n at w w1 e e1 (map as_line next) (read_body (lines t) (as_line p)) r f b b2 w1 e1 filled q))

      pub reading_on : (there m : ℕ) → m ≡ n + 1 → r ≡ Ok there → n < length b → at ≤ length w → at ≤ length e → there ≤ at + body_fields p → Reading t l hs b₀ (set b n at) w₀ w1 e₀ e1 from there m next
      unfolding read_bodies
      reading_on there m u q h c1 f z =
          rw u record {
            place = omega (arith, i.place, ap length x);
            index = here.2;
            shapes = shaped.1;
            room = omega (arith, fields_left, z);
            goes_on = λ b2 w2 e2 g y.
                i.goes_on b2 w2 e2 g
                (rw lefts (good_line (lines t) (as_line p) n at there w w1 w2 e e1 e2 b b2 (map as_line next) (read_body (lines t) (as_line p)) r g h c1 f filled q y));
          }

-- Where the reading ends, in a table that is n long.
pub next_within : (n at p : ℕ) (r : Result ℕ Fault) → Within n at r → r ≡ Ok p → p ≤ n
next_within n at p r h e = (subst (Within n at) e h).0

pub fault_within : (n at : ℕ) (f : Fault) (r : Result ℕ Fault) → Within n at r → r ≡ Err f → f.at ≤ n
fault_within n at f r h e = subst (Within n at) e h
