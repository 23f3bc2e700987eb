-- A symbol by packed names is the definition's symbol, and packed names are the same where names are. Assumes nothing.
use Rattle.std.specs.Prelude.{if◌then◌else◌}
use mathlib.Core.Path.{◌≡◌, refl, ap, sym, ◌∙◌}
use mathlib.Core.List.{List, [], ◌∷◌, map}
use mathlib.Core.Bool.{Bool, true, false, ◌&&◌, ◌||◌, and-false, false≢true}
use Prim.Native.Nat.{ℕ, suc, ◌+◌, ◌<◌, ◌≤◌}
use native.Mathlib.Omega.{arith}
use lib.Dec.{ltb, leb, eqb}
use lib.ListN.{length}
use borrow.Author.Tests.{ne_eqb, ltb-true, leb-true}
use Rattle.meaning.specs.Basics.{all, between, bytes}
use Rattle.meaning.specs.Arithmetic.{number, yes_no, constant}
use Rattle.meaning.specs.Text.{Field, same, value, is_name, is_visible, is_capital, is_digit}
use Rattle.meaning.specs.Terms.{Symbol, operation, condition, function, unknown, Word, vocabulary, spelt_in, named, is_decimal, symbol}
use Rattle.fields.specs.Fields.{packed, is_name_byte}
use Rattle.fields.proofs.Laws.{and_left, and_right, Bytes, packed_same}
use Rattle.table.specs.Symbols.{symbol_in}
use Rattle.table.specs.declared.Symbol.{Symbol as Entry}
use Rattle.symbols.specs.Symbols.{Named, Spelt, AllSpelt, named_as, short_symbol, or_else, one_byte_symbol, decimal_or, some_bytes_symbol, symbol_by}

-- Names and visible fields are made of bytes from 1 to 255.

range_bytes : (a b x : ℕ) → between a b x ≡ true → 1 ≤ a → b ≤ 255 → (1 ≤ x) × (x ≤ 255)
range_bytes a b x e h k =
    (omega (arith, leb-true a x (and_left (leb a x) (leb x b) e)), omega (arith, leb-true x b (and_right (leb a x) (leb x b) e)))

name_byte : (x : ℕ) (t : Bool) → is_capital x ≡ t → t || is_digit x ≡ true → (1 ≤ x) × (x ≤ 255)
name_byte x true e h = range_bytes 65 90 x e (omega arith) (omega arith)
name_byte x false e h = range_bytes 48 57 x h (omega arith) (omega arith)

name_bytes : (f : Field) → all is_name_byte f ≡ true → Bytes f
unfolding all Bytes
name_bytes [] e = tt
name_bytes (x ∷ f) e =
    let p = name_byte x (is_capital x) refl (and_left (is_name_byte x) (all is_name_byte f) e) in
    (p.0, p.1, name_bytes f (and_right (is_name_byte x) (all is_name_byte f) e))

visible_all : (f : Field) → all (between 33 126) f ≡ true → Bytes f
unfolding all Bytes
visible_all [] e = tt
visible_all (x ∷ f) e =
    let p = range_bytes 33 126 x (and_left (between 33 126 x) (all (between 33 126) f) e) (omega arith) (omega arith) in
    (p.0, p.1, visible_all f (and_right (between 33 126 x) (all (between 33 126) f) e))

pub visible_bytes : (f : Field) → is_visible f ≡ true → Bytes f
unfolding is_visible
visible_bytes f e = visible_all f (and_right (leb 1 (length f)) (all (between 33 126) f) e)

-- A field that can be a name: bytes from 1 to 255, eight at most.
pub record Name (f : Field) : Type 0 where
  pub made_of : Bytes f
  pub short : length f ≤ 8

pub is_a_name : (f : Field) → is_name f ≡ true → Name f
unfolding is_name Bytes
is_a_name [] e = absurd (false≢true e)
is_a_name (x ∷ f) e =
    let p = range_bytes 65 90 x (and_left (is_capital x) (leb (length f) 7 && all is_name_byte f) e) (omega arith) (omega arith) in
    let q = and_right (is_capital x) (leb (length f) 7 && all is_name_byte f) e in
    let r : length f ≤ 7 = leb-true (length f) 7 (and_left (leb (length f) 7) (all is_name_byte f) q) in
    record { made_of = (p.0, p.1, name_bytes f (and_right (leb (length f) 7) (all is_name_byte f) q)); short = omega arith }

unfoldable pub Names : List Field → Type 0
Names [] = Unit {0}
Names (n ∷ N) = Name n × Names N

-- Packed names.

pub named_packed : (i : ℕ) (N : List Field) (f : Field) → Names N → Bytes f → named_as i (map packed N) (packed f) ≡ named i N f
unfolding named_as named Names
named_packed i [] f p q = refl
named_packed i (n ∷ N) f p q = rw (← packed_same f n q p.0.made_of, named_packed (i + 1) N f p.1 q)

other_lengths : (f g : Field) → (length f ≡ length g → ⊥) → same f g ≡ false
unfolding same
other_lengths [] [] h = absurd (h refl)
other_lengths [] (y ∷ g) h = refl
other_lengths (x ∷ f) [] h = refl
other_lengths (x ∷ f) (y ∷ g) h = rw (other_lengths f g λ e. h (ap suc e)) (and-false (eqb x y))

named_long : (i : ℕ) (N : List Field) (f : Field) → Names N → 8 < length f → named i N f ≡ unknown
unfolding named Names
named_long i [] f p h = refl
named_long i (n ∷ N) f p h = rw (other_lengths f n (λ e. omega (arith, p.0.short, e)), named_long (i + 1) N f p.1 h)

-- A field that is a symbol whatever names there are, or else a name.

Spoken : List Word → Type 0
Spoken [] = Unit {0}
Spoken (w ∷ ws) = ((y : Symbol) → or_else w.means y ≡ w.means) × Spoken ws

spoken : Spoken vocabulary
unfolding Spoken or_else
spoken = (λ y. refl, (λ y. refl, (λ y. refl, (λ y. refl, (λ y. refl, (λ y. refl, (λ y. refl, (λ y. refl, (λ y. refl, (λ y. refl, (λ y. refl, (λ y. refl, (λ y. refl, (λ y. refl, (λ y. refl, (λ y. refl, (λ y. refl, (λ y. refl, (λ y. refl, (λ y. refl, (λ y. refl, tt)))))))))))))))))))))

spelt_by : (t : Bool) (m y z Z : Symbol) → or_else m y ≡ m → Z ≡ or_else z y → (if t then m else Z) ≡ or_else (if t then m else z) y
spelt_by true m y z Z e x = sym e
spelt_by false m y z Z e x = x

spelt_or : (ws : List Word) (f : Field) (d : Bool) (v : ℕ) (y : Symbol) → Spoken ws →
    spelt_in ws f (if d then operation (constant number v) else y) ≡ or_else (spelt_in ws f (if d then operation (constant number v) else unknown)) y
unfolding spelt_in or_else Spoken
spelt_or [] f true v y p = refl
spelt_or [] f false v y p = refl
spelt_or (w ∷ ws) f d v y p =
    spelt_by (same f w.spelt) w.means y (spelt_in ws f (if d then operation (constant number v) else unknown))
    (spelt_in ws f (if d then operation (constant number v) else y)) (p.0 y) (spelt_or ws f d v y p.1)

symbol_or : (N : List Field) (f : Field) → symbol N f ≡ or_else (symbol [] f) (named 0 N f)
unfolding symbol named
symbol_or N f = spelt_or vocabulary f (is_decimal f) (value f) (named 0 N f) spoken

one_byte_is : (N : List Field) (x : ℕ) → Names N → Bytes (x ∷ []) → one_byte_symbol (map packed N) (x ∷ []) ≡ symbol N (x ∷ [])
unfolding one_byte_symbol short_symbol
one_byte_is N x p q = rw (named_packed 0 N (x ∷ []) p q) (sym (symbol_or N (x ∷ [])))

-- A field of another length is one of the three longer words, a decimal or a name.

not_single : (f : Field) (x : ℕ) → (length f ≡ 1 → ⊥) → same f (x ∷ []) ≡ false
not_single f x h = other_lengths f (x ∷ []) h

spelt_long : (f : Field) (y : Symbol) → (length f ≡ 1 → ⊥) →
    spelt_in vocabulary f y
    ≡ (if same f (bytes "true")
    then operation (constant yes_no 1)
    else if same f (bytes "false")
    then operation (constant yes_no 0)
    else if same f (bytes "cond")
    then condition
    else y)
unfolding spelt_in
spelt_long f y h =
    rw (not_single f 97 h, not_single f 98 h, not_single f 99 h, not_single f 100 h, not_single f 101 h, not_single f 102 h, not_single f 103 h, not_single f 104 h, not_single f 43 h, not_single f 45 h, not_single f 42 h, not_single f 47 h, not_single f 37 h, not_single f 61 h, not_single f 60 h, not_single f 38 h, not_single f 124 h, not_single f 33 h)

word_bytes : Bytes (bytes "true") × Bytes (bytes "false") × Bytes (bytes "cond")
unfolding Bytes
word_bytes = (
  (omega arith, omega arith, (omega arith, omega arith, (omega arith, omega arith, (omega arith, omega arith, tt)))),
  (omega arith, omega arith, (omega arith, omega arith, (omega arith, omega arith, (omega arith, omega arith, (omega arith, omega arith, tt))))),
  (omega arith, omega arith, (omega arith, omega arith, (omega arith, omega arith, (omega arith, omega arith, tt)))),
)

some_bytes_is : (N : List Field) (f : Field) → Names N → Bytes f → (length f ≡ 1 → ⊥) → some_bytes_symbol (map packed N) f ≡ symbol N f
unfolding some_bytes_symbol symbol decimal_or
some_bytes_is N f p q h =
    rw (named_packed 0 N f p q, spelt_long f (if is_decimal f then operation (constant number (value f)) else named 0 N f) h, packed_same f (bytes "true") q word_bytes.0, packed_same f (bytes "false") q word_bytes.1, packed_same f (bytes "cond") q word_bytes.2)

too_long : (N : List Field) (f : Field) → Names N → 8 < length f → decimal_or f unknown ≡ symbol N f
unfolding symbol decimal_or
too_long N f p h =
    rw (spelt_long f (if is_decimal f then operation (constant number (value f)) else named 0 N f) (λ e. omega (arith, e)), other_lengths f (bytes "true") (λ e. omega (arith, e)), other_lengths f (bytes "false") (λ e. omega (arith, e)), other_lengths f (bytes "cond") (λ e. omega (arith, e)), named_long 0 N f p h)

by_length : (N : List Field) (f : Field) (t : Bool) → Names N → Bytes f → (length f ≡ 1 → ⊥) → ltb 8 (length f) ≡ t → (if t then decimal_or f unknown else some_bytes_symbol (map packed N) f) ≡ symbol N f
by_length N f true p q h e = too_long N f p (ltb-true 8 (length f) e)
by_length N f false p q h e = some_bytes_is N f p q h

pub symbol_is : (N : List Field) (f : Field) → Names N → Bytes f → symbol_by (map packed N) f ≡ symbol N f
unfolding symbol_by
symbol_is N [] p q = by_length N [] (ltb 8 0) p q (λ e. omega (arith, e)) refl
symbol_is N (x ∷ []) p q = one_byte_is N x p q
symbol_is N (x ∷ y ∷ f) p q = rw (ne_eqb (length (x ∷ y ∷ f)) 1 λ e. omega (arith, e)) (by_length N (x ∷ y ∷ f) (ltb 8 (length (x ∷ y ∷ f))) p q (λ e. omega (arith, e)) refl)

named_names : (N : List Field) → Named N → Names N
unfolding Named Names
named_names [] p = tt
named_names (n ∷ N) p = (is_a_name n p.0, named_names N p.1)

-- Where the packed names are those of N, a visible field is N's symbol.
pub meant : (M : List ℕ) (f : Field) (r : Entry) → r ≡ symbol_in (symbol_by M f) →
    (r ≡ symbol_in (symbol_by M f)) × ((N : List Field) → Named N → M ≡ map packed N → is_visible f ≡ true → r ≡ symbol_in (symbol N f))
meant M f r e =
    (e, λ N p m v. e ∙ ap (λ (X : List ℕ). symbol_in (symbol_by X f)) m ∙ ap symbol_in (symbol_is N f (named_names N p) (visible_bytes f v)))

-- Of the symbols of a text, the arguments are a to h.
WordsSpelt : List Word → Type 0
WordsSpelt [] = Unit {0}
WordsSpelt (w ∷ ws) = Spelt w.means × WordsSpelt ws

words_spelt : WordsSpelt vocabulary
unfolding WordsSpelt Spelt
words_spelt = (omega arith, (omega arith, (omega arith, (omega arith, (omega arith, (omega arith, (omega arith, (omega arith, (tt, (tt, (tt, (tt, (tt, (tt, (tt, (tt, (tt, (tt, (tt, (tt, (tt, tt)))))))))))))))))))))

if_spelt : (t : Bool) (y z : Symbol) → Spelt y → Spelt z → Spelt (if t then y else z)
if_spelt true y z p q = p
if_spelt false y z p q = q

spelt_spelt : (ws : List Word) (f : Field) (y : Symbol) → WordsSpelt ws → Spelt y → Spelt (spelt_in ws f y)
unfolding spelt_in WordsSpelt
spelt_spelt [] f y p q = q
spelt_spelt (w ∷ ws) f y p q = if_spelt (same f w.spelt) w.means (spelt_in ws f y) p.0 (spelt_spelt ws f y p.1 q)

named_spelt : (i : ℕ) (N : List Field) (f : Field) → Spelt (named i N f)
unfolding named Spelt
named_spelt i [] f = tt
named_spelt i (n ∷ N) f = if_spelt (same f n) (function i) (named (i + 1) N f) tt (named_spelt (i + 1) N f)

pub symbol_spelt : (N : List Field) (f : Field) → Spelt (symbol N f)
unfolding symbol Spelt
symbol_spelt N f = spelt_spelt vocabulary f _ words_spelt (if_spelt (is_decimal f) (operation (constant number (value f))) (named 0 N f) tt (named_spelt 0 N f))

pub all_symbols_spelt : (N fs : List Field) → AllSpelt (map (symbol N) fs)
unfolding AllSpelt
all_symbols_spelt N [] = tt
all_symbols_spelt N (f ∷ fs) = (symbol_spelt N f, all_symbols_spelt N fs)
