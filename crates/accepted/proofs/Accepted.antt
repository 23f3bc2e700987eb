-- A text that Check accepts holds an accepted program. Assumes nothing.
use mathlib.Core.Path.{◌≡◌, refl, ap, sym, ◌∙◌, subst}
use mathlib.Core.Option.{some}
use mathlib.Core.List.{List, [], ◌∷◌, map}
use Prim.Native.Nat.{ℕ, zero, suc, ◌+◌, ◌≤◌}
use native.Mathlib.Omega.{arith}
use lib.ListN.{length, get_elem?, length-map}
use Rattle.meaning.specs.Numbers.{most_depth}
use Rattle.meaning.specs.Text.{Verdict, fine, refused, ◌>>=◌, ◌>>◌, Passed, Line, judge_length, judge_shape, judge_counts, judge_names, lines}
use Rattle.meaning.specs.Terms.{Term, arg, op, cond, call, Terms, nil, cons, Function, Program, Symbol, symbol, Read, got, fault, nothing_after, read_term, read_body, function_of, read_bodies}
use Rattle.meaning.specs.Check.{check}
use Rattle.meaning.specs.Code.{size, bodies_size}
use Rattle.accepted.specs.Accepted.{depth, Shaped, AllShaped, Called, Sound, Every, Accepted}
use Rattle.accepted.proofs.Reading.{clash, OnLine, TermRead, Strict, term_read}
use Rattle.accepted.proofs.Lines.{Lined, shape_lines, symbols, counts_few}

fine_then : {A : Type 0} (x : Passed) (y : Verdict A) {a : A} → x >> y ≡ fine a → (x ≡ fine tt) × (y ≡ fine a)
unfolding ◌>>◌
fine_then (fine tt) y e = (refl, e)
fine_then (refused n l k) y e = clash (cc)

pub fine_bind : {A B : Type 0} (x : Verdict A) (f : A → Verdict B) {b : B} → x >>= f ≡ fine b → (a : A) × (x ≡ fine a) × (f a ≡ fine b)
unfolding ◌>>=◌
fine_bind (fine a) f e = (a, refl, e)
fine_bind (refused n l k) f e = clash (cc)

pub fine_same : {A : Type 0} {a b : A} → fine a ≡ fine b → a ≡ b
fine_same e = cc

-- What asks less of a call asks less of a term, and so do more arguments.
module _ (C D : ℕ → ℕ → ℕ → Type 0) (weaker : (f s w : ℕ) → C f s w → D f s w) (n m : ℕ) (more : n ≤ m) where
  mutual
    unfolding Shaped

    pub reshaped : (t : Term) → Shaped C n t → Shaped D m t
    reshaped (arg i) h = omega (arith, h, more)
    reshaped (op o ts) h = (h.0, all_reshaped ts h.1)
    reshaped (cond t x y) h = (reshaped t h.0, reshaped x h.1, reshaped y h.2)
    reshaped (call f ss ws) h = (weaker f _ _ h.0, all_reshaped ss h.1, all_reshaped ws h.2)

    pub all_reshaped : (ts : Terms) → AllShaped C n ts → AllShaped D m ts
    all_reshaped nil h = tt
    all_reshaped (cons t ts) h = (reshaped t h.0, all_reshaped ts h.1)

-- The function that a line of H gives.
record Given (H : List Line) (h : Line) (F : Function) : Type 0 where
  sorts : F.sorts ≡ h.sorts
  strict : F.strict ≡ h.strict
  deep : depth F.body ≤ most_depth
  used : size F.body ≡ length h.body
  fitting : Shaped (OnLine H) (length h.sorts) F.body

data Each (H : List Line) : List Line → Program → Type 0 where
  none_given : Each H [] []
  one_given : {h : Line} {F : Function} {hs : List Line} {P : Program} → Given H h F → Each H hs P → Each H (h ∷ hs) (F ∷ P)

function_given : (H : List Line) (ys : List Symbol) (l : ℕ) (h : Line) (R : Read Term) {F : Function} → length ys ≡ length h.body → TermRead H h.sorts most_depth ys R →
    function_of l h (nothing_after R) ≡ fine F → Given H h F
unfolding function_of nothing_after TermRead
function_given H ys l h (fault w zs) n p e = clash (cc)
function_given H ys l h (got t (z ∷ zs)) n p e = clash (cc)
function_given H ys l h (got t []) n p e =
    subst (Given H h) (fine_same e) (record { sorts = refl; strict = refl; deep = p.deep; used = omega (arith, p.used, n); fitting = p.fitting })

module _ (H : List Line) (ok : Strict H) where
  bodies_given : (l : ℕ) (hs : List Line) (P : Program) → read_bodies H l hs ≡ fine P → Each H hs P
  unfolding read_bodies read_body
  bodies_given l [] P e = subst (Each H []) (fine_same e) none_given
  bodies_given l (h ∷ hs) P e =
      let ys = map (symbol (map (λ k. k.name) H)) h.body in
      let R = read_term H h.sorts most_depth h.result ys in
      let p = fine_bind (function_of l h (nothing_after R)) (λ F. read_bodies H (l + 1) hs >>= λ Q. fine (F ∷ Q)) e in
      let q = fine_bind (read_bodies H (l + 1) hs) (λ Q. fine (p.0 ∷ Q)) p.2 in
      subst
      (Each H (h ∷ hs))
      (fine_same q.2)
      (one_given
      (function_given H ys l h R (length-map h.body (symbol (map (λ k. k.name) H))) (term_read H h.sorts ok most_depth h.result ys) p.1)
      (bodies_given (l + 1) hs q.0 q.1))

each_length : {H hs : List Line} {P : Program} → Each H hs P → length P ≡ length hs
each_length none_given = refl
each_length (one_given g r) = ap suc (each_length r)

each_size : {H hs : List Line} {P : Program} → Each H hs P → bodies_size P ≡ symbols hs
unfolding bodies_size symbols
each_size none_given = refl
each_size (one_given g r) = omega (arith, g.used, each_size r)

each_there : {H hs : List Line} {P : Program} → Each H hs P → (f : ℕ) (h : Line) → get_elem? hs f ≡ some h → (F : Function) × (get_elem? P f ≡ some F) × Given H h F
each_there none_given f h e = clash (cc)
each_there {H} (one_given {h = k} {F = F} g r) zero h e = let same : k ≡ h = cc in (F, refl, subst (λ z. Given H z F) same g)
each_there (one_given g r) (suc f) h e = each_there r f h e

on_line_called : {H : List Line} {P : Program} → Each H H P → (f s w : ℕ) → OnLine H f s w → Called P f s w
on_line_called r f s w o =
    let p = each_there r f o.line o.there in
    record { function = p.0; there = p.1; strict = o.strict ∙ sym p.2.strict; all = o.all ∙ ap length (sym p.2.sorts) }

pub every_there : {A : Type 0} (Q : A → Type 0) (xs : List A) → Every Q xs → (i : ℕ) (x : A) → get_elem? xs i ≡ some x → Q x
unfolding Every
every_there Q [] h i x e = clash (cc)
every_there Q (y ∷ xs) h zero x e = let same : y ≡ x = cc in subst Q same h.0
every_there Q (y ∷ xs) h (suc i) x e = every_there Q xs h.1 i x e

each_sound : {H hs : List Line} {P : Program} (Q : Program) → ((f s w : ℕ) → OnLine H f s w → Called Q f s w) → Each H hs P → Every Lined hs → Every (Sound Q) P
unfolding Every
each_sound Q c none_given l = tt
each_sound {H} Q c (one_given {h = h} {F = F} g r) l =
    let same : length h.sorts ≡ length F.sorts = ap length (sym g.sorts) in (
      record {
        some_argument = omega (arith, l.0.some_argument);
        few_arguments = omega (arith, l.0.few_arguments);
        few_strict = omega (arith, l.0.few_strict, g.strict);
        not_deep = g.deep;
        shaped = subst (λ n. Shaped (Called Q) n F.body) same (reshaped (OnLine H) (Called Q) c (length h.sorts) (length h.sorts) (omega arith) F.body g.fitting);
      },
      each_sound Q c r l.1,
    )

pub accepted : (text : List ℕ) (P : Program) → check text ≡ fine P → Accepted P
unfolding check
accepted text P e =
    let H = lines text in
    let p = fine_then (judge_length text) _ e in
    let q = fine_then (judge_shape text) _ p.1 in
    let r = fine_then (judge_counts H) _ q.1 in
    let s = fine_then (judge_names 1 [] (map (λ h. h.name) H)) _ r.1 in
    let shape = shape_lines text q.0 in
    let few = counts_few H r.0 in
    let ok : Strict H = λ f h t. (every_there Lined H shape.each f h t).few_strict in
    let each : Each H H P = bodies_given H ok 1 H P s.1 in
    record {
      some_function = omega (arith, shape.some_line, each_length each);
      few_functions = omega (arith, few.0, each_length each);
      few_symbols = omega (arith, few.1, each_size each);
      sound = each_sound P (on_line_called each) each shape.each;
    }
