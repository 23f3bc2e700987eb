-- Laws of first lines: one argument more, and what the whole line asks for. Assumes nothing.
use Rattle.std.specs.Prelude.{if◌then◌else◌, Option, Some, None}
use Rattle.std.specs.Option.{option_map}
use mathlib.Core.Path.{◌≡◌, refl, ap, sym, ◌∙◌}
use mathlib.Core.Bool.{Bool, true, false, ◌&&◌, and-false}
use mathlib.Core.List.{List, [], ◌∷◌, ◌++◌, map, append-nil, append_assoc}
use Prim.Native.Nat.{ℕ, suc, ◌+◌, ◌≤◌, ◌<◌}
use native.Mathlib.Omega.{arith}
use native.Mathlib.Nat.{zero-add}
use lib.Dec.{leb, leb-suc-suc}
use lib.ListN.{length, take, drop, length-take, length-append}
use borrow.Author.Tests.{le-leb, lt-leb, leb-true, leb-false}
use Rattle.meaning.specs.Text.{Field, pieces, tab, line_end, value}
use Rattle.meaning.specs.Terms.{is_decimal}
use Rattle.meaning.specs.Program.{malformed, order, are_decimals, is_first_line, limit_and_arguments, ordered, order_of}
use Rattle.fields.specs.Fields.{span, rest, decimal_of}
use Rattle.fields.proofs.Laws.{first_piece, next_piece, no_piece}
use Rattle.order.specs.Lists.{values_of, with_argument}
use Rattle.order.specs.Asked.{Said, said, arguments_from, line_read, Asks}
use Rattle.order.specs.declared.Order.{Order as Read}
use Rattle.order.specs.declared.list.ArgumentList.{ArgumentList}

-- a field that is a decimal, and one that is none
is_value : (f : Field) (b : Bool) (v : ℕ) → (if b then Some (value f) else None) ≡ Some v → (b ≡ true) × (value f ≡ v)
is_value f true v e = (refl, cc)
is_value f false v e = (cc, cc)

is_none : (f : Field) (b : Bool) → (if b then Some (value f) else None) ≡ None → b ≡ false
is_none f true e = cc
is_none f false e = refl

either_none : (b : Bool) → ◌≡◌ {A = Option (List ℕ)} (if b then None else None) None
either_none true = refl
either_none false = refl

has_room : (b : Bool) (us ws : List ℕ) → Some ws ≡ (if b then None else Some us) → (b ≡ false) × (ws ≡ us)
has_room true us ws e = (cc, cc)
has_room false us ws e = (refl, cc)

no_room : (b : Bool) (us : List ℕ) → None ≡ (if b then None else Some us) → b ≡ true
no_room true us e = refl
no_room false us e = cc

-- One field more: a decimal, none, or one too many.
module _ (f : Field) (fs : List Field) (vs : List ℕ) where
  pub one_argument : (v : ℕ) (ws : List ℕ) → Some ws ≡ with_argument vs v → Some v ≡ decimal_of f → arguments_from ws fs ≡ arguments_from vs (f ∷ fs)
  unfolding arguments_from decimal_of with_argument
  one_argument v ws w d =
      let e = has_room (leb 8 (length vs)) (vs ++ (v ∷ [])) ws w in
      let n = is_value f (is_decimal f) v (sym d) in
      simp (e.0, n.0, n.1, e.1)

  pub no_argument : None ≡ decimal_of f → arguments_from vs (f ∷ fs) ≡ None
  unfolding arguments_from decimal_of
  no_argument d = let w = is_none f (is_decimal f) (sym d) in rw w (either_none (leb 8 (length vs)))

  pub too_many : (v : ℕ) → None ≡ with_argument vs v → arguments_from vs (f ∷ fs) ≡ None
  unfolding arguments_from with_argument
  too_many v w = simp (no_room (leb 8 (length vs)) (vs ++ (v ∷ [])) w)

pub no_more : (vs : List ℕ) (fs : List Field) → fs ≡ [] → arguments_from vs fs ≡ Some vs
unfolding arguments_from
no_more vs fs h = rw h

-- The first field of a line: it is no decimal, or it is the limit.
pub line_none : (line : List ℕ) (e text : ℕ) → e ≡ 0 + span tab (drop 0 line) → None ≡ decimal_of (take e line) → None ≡ line_read text (pieces tab line)
unfolding line_read decimal_of
line_none line e text q d =
    let k : e ≡ span tab line = omega arith in
    let w = is_none (take (span tab line) line) (is_decimal (take (span tab line) line)) (sym (rw k at d)) in
    rw first_piece (simp w)

with_arguments : (limit text : ℕ) (r : Option ArgumentList) → option_map said (option_map (λ a. record { limit = limit; args = a; text = text }) r) ≡ option_map {U = Said} (λ a. record { limit = limit; args = a; text = text }) (option_map values_of r)
with_arguments limit text (Some a) = refl
with_arguments limit text None = refl

pub line_some : (line : List ℕ) (e text v : ℕ) (r : Option ArgumentList) → e ≡ 0 + span tab (drop 0 line) → Some v ≡ decimal_of (take e line) → option_map values_of r ≡ arguments_from [] (rest tab (drop e line))
    → option_map said (option_map (λ a. record { limit = v; args = a; text = text }) r) ≡ line_read text (pieces tab line)
unfolding line_read decimal_of
line_some line e text v r q d x =
    let k : e ≡ span tab line = omega arith in
    let w = is_value (take (span tab line) line) (is_decimal (take (span tab line) line)) v (sym (rw k at d)) in
    rw (with_arguments v text r, x, first_piece, k) (simp (w.0, w.1))

-- All arguments of a line at once.
pub arguments_are : (vs : List ℕ) (fs : List Field) → length vs ≤ 8 → arguments_from vs fs ≡ (if leb (length vs + length fs) 8 && are_decimals fs then Some (vs ++ map value fs) else None)
unfolding arguments_from are_decimals
arguments_are vs [] h = simp (append-nil, le-leb (length vs + 0) 8 (omega arith))
arguments_are vs (f ∷ fs) h = by (leb 8 (length vs)) refl (is_decimal f) refl (λ k. arguments_are (vs ++ (value f ∷ [])) fs k)
  where
    by : (b : Bool) → leb 8 (length vs) ≡ b → (d : Bool) → is_decimal f ≡ d
        → (length (vs ++ (value f ∷ [])) ≤ 8 → arguments_from (vs ++ (value f ∷ [])) fs ≡ (if leb (length (vs ++ (value f ∷ [])) + length fs) 8 && are_decimals fs then Some ((vs ++ (value f ∷ [])) ++ map value fs) else None))
        → (if leb 8 (length vs) then None else if is_decimal f then arguments_from (vs ++ (value f ∷ [])) fs else None)
        ≡ (if leb (length vs + suc (length fs)) 8 && (is_decimal f && are_decimals fs) then Some (vs ++ (value f ∷ map value fs)) else None)
    by true e d k ih = let m = leb-true 8 (length vs) e in simp (e, lt-leb (length vs + suc (length fs)) 8 (omega arith))
    by false e false k ih = simp (e, k, and-false)
    by false e true k ih =
        let m = leb-false 8 (length vs) e in
        let n : length (vs ++ (value f ∷ [])) ≡ length vs + 1 = length-append vs (value f ∷ []) in
        let z : length (vs ++ (value f ∷ [])) + length fs ≡ length vs + suc (length fs) = omega arith in
        simp (e, k) (ih (omega arith) ∙ simp append_assoc (ap {B = Option (List ℕ)} (λ l. if leb l 8 && are_decimals fs then Some (vs ++ (value f ∷ map value fs)) else None) z))

-- What is asked where the first line is not ended, and where it ends at e.
pub order_unended : (input : List ℕ) → length input ≤ span line_end input → order_of input ≡ malformed
unfolding order_of ordered
order_unended input h = rw (first_piece line_end input, no_piece line_end input (span line_end input) h)

pub order_ended : (input : List ℕ) (e : ℕ) → span line_end input ≡ e → e < length input
    → order_of input ≡ (if is_first_line (take e input) then limit_and_arguments (pieces tab (take e input)) (drop (e + 1) input) else malformed)
unfolding order_of ordered
order_ended input e k h =
    let z = e + 1 + span line_end (drop (e + 1) input) in
    let n : length (take e input) ≡ e = length-take e input ∙ omega arith in
    rw (first_piece line_end input, k, next_piece line_end input e (e + 1) z h refl refl, n)

pub unended : (input : List ℕ) (e : ℕ) → e ≡ 0 + span line_end (drop 0 input) → length input ≤ e → Asks input (order_of input) None
unfolding Asks
unended input e q h = rw (order_unended input (omega arith))

pub too_long : (input : List ℕ) (e : ℕ) → e ≡ 0 + span line_end (drop 0 input) → e < length input → 128 < e → Asks input (order_of input) None
unfolding Asks is_first_line
too_long input e p h l =
    rw (order_ended input e (omega arith) h) (simp (lt-leb (length (take e input)) 128 (omega (arith, length-take e input))))

-- What is said of what was read.
none_said : (r : Option Read) → option_map said r ≡ None → r ≡ None
none_said None h = refl
none_said (Some o) h = cc

some_said : (input : List ℕ) (r : Option Read) (limit k : ℕ) (args : List ℕ) → k ≤ length input → option_map said r ≡ Some (record { limit = limit; args = args; text = k }) → Asks input (order limit args (drop k input)) r
unfolding Asks
some_said input None limit k args in_it h = cc
some_said input (Some o) limit k args in_it h =
    let e : said o ≡ record { limit = limit; args = args; text = k } = cc in
    let few : length (values_of o.args) ≤ 8 = omega (arith, length-take o.args.count o.args.values) in
    (ap (λ s. s.limit) e, ap (λ s. s.args) e, few, ap (λ s. drop s.text input) e, omega (arith, ap (λ s. s.text) e))

-- What the fields of an ended line ask for.
asked : (input : List ℕ) (k : ℕ) (f : Field) (fs : List Field) (r : Option Read) → k ≤ length input → option_map said r ≡ line_read k (f ∷ fs)
    → Asks input (if leb (length (f ∷ fs)) 9 && are_decimals (f ∷ fs) then limit_and_arguments (f ∷ fs) (drop k input) else malformed) r
unfolding line_read Asks limit_and_arguments are_decimals
asked input k f fs r in_it h = rw (leb-suc-suc (length fs) 8) (by (is_decimal f) (leb (length fs) 8) (are_decimals fs) (rw (arguments_are [] fs (omega arith), zero-add) at h))
  where
    by : (d l a : Bool) → option_map said r ≡ (if d then option_map (λ a. record { limit = value f; args = a; text = k }) (if l && a then Some (map value fs) else None) else None)
        → Asks input (if l && (d && a) then order (value f) (map value fs) (drop k input) else malformed) r
    by true true true h = some_said input r (value f) k (map value fs) in_it h
    by true true false h = none_said r h
    by true false true h = none_said r h
    by true false false h = none_said r h
    by false true true h = none_said r h
    by false true false h = none_said r h
    by false false true h = none_said r h
    by false false false h = none_said r h

pub well_ended : (input : List ℕ) (e : ℕ) (r : Option Read) → e ≡ 0 + span line_end (drop 0 input) → e < length input → e ≤ 128 → option_map said r ≡ line_read (e + 1) (pieces tab (take e input))
    → Asks input (order_of input) r
unfolding is_first_line
well_ended input e r q h l f =
    let p = take e input in
    let fits : length p ≤ 128 = omega (arith, length-take e input) in
    rw (order_ended input e (omega arith) h)
    (simp (le-leb (length p) 128 fits) (rw (first_piece tab p) (asked input (e + 1) (take (span tab p) p) (rest tab (drop (span tab p) p)) r (omega arith) (rw (first_piece tab p) at f))))
