-- Digits by place, without leading zeros, are the digits that std prints. Assumes nothing.
use Rattle.std.proofs.Common.{ℕ, zero, suc, ◌≡◌, ◌+◌, ◌/◌, ◌%◌, ◌^◌, ◌<◌, ◌≤◌, List, [], ◌∷◌, ◌++◌, append_assoc, ap, sym, ◌∙◌, arith, eqb, false, inl, inr, lit<}
use Rattle.std.proofs.Math.Nat.{div-one, div-eq_of_lt, div-div-eq-div-mul, div-lt_iff_lt-mul, le-div_iff_mul-le, pow-suc, pow-succ', mod-eq_of_lt, one-le-pow}
use Rattle.std.proofs.lemmas.Bool.{cases_lt, ne_eqb}
use mathlib.Core.List.{append-nil}
use native.Mathlib.Numerals.{add-one}
use lib.ListN.{length, get_or, drop, drop_of_length-le}
use lib.Seq.{drop-cons}
use borrow.Author.Tests.{eq-eqb}
use Rattle.std.specs.Fmt as text
use Rattle.std.proofs.lemmas.Fmt.{decimal_digit, decimal_step}
use Rattle.meaning.specs.Program.{ten_places, without_zeros, decimal, printed_field}

-- The last k digits of n, as bytes.
unfoldable digits : ℕ → ℕ → List ℕ
digits zero n = []
digits (suc k) n = (48 + n / 10 ^ k % 10) ∷ digits k n

-- The last of them is n's last.
digits_step : (k n : ℕ) → digits (suc k) n ≡ digits k (n / 10) ++ ((48 + n % 10) ∷ [])
unfolding digits
digits_step zero n = rw div-one
digits_step (suc k) n = rw (pow-succ', ← div-div-eq-div-mul n 10 (10 ^ k)) (ap (λ ds. (48 + n / 10 / 10 ^ k % 10) ∷ ds) (digits_step k n))

digit : (n : ℕ) → n < 10 ^ 1 → n < 2 ^ 64 → text.decimal n ≡ digits 1 n
unfolding digits
digit n h s = rw (div-one, mod-eq_of_lt h) (decimal_digit n h)

-- A number of k + 1 digits is printed as these.
all_digits : (k n : ℕ) → 10 ^ k ≤ n → n < 10 ^ suc k → n < 2 ^ 64 → text.decimal n ≡ digits (suc k) n
all_digits zero n l h s = digit n h s
all_digits (suc k) n l h s =
    let l' : 10 ^ k ≤ n / 10 = (le-div_iff_mul-le (lit< tt)).1 (rw (← pow-suc 10 k) l) in
    let h' : n / 10 < 10 ^ suc k = (div-lt_iff_lt-mul (lit< tt)).1 (rw (← pow-suc 10 (suc k)) h) in
    decimal_step n (omega (arith, one-le-pow k 10 (lit< tt), pow-suc 10 k, l)) s
    ∙ ap (λ ds. ds ++ ((48 + n % 10) ∷ [])) (all_digits k (n / 10) l' h' (omega (arith, s)))
    ∙ sym (digits_step (suc k) n)

-- Where 10 ^ k <= n, the first of k + 1 digits is not 0.
first : (k n : ℕ) → 10 ^ k ≤ n → n < 10 ^ suc k → eqb (48 + n / 10 ^ k % 10) 48 ≡ false
first k n l h =
    let p : 1 ≤ 10 ^ k = one-le-pow k 10 (lit< tt) in
    let some : 1 ≤ n / 10 ^ k = (le-div_iff_mul-le p).1 (omega (arith, l)) in
    let small : n / 10 ^ k < 10 = (div-lt_iff_lt-mul p).1 (rw (← pow-succ' 10 k) h) in
    ne_eqb (48 + n / 10 ^ k % 10) 48 (λ e. absurd (omega (arith, mod-eq_of_lt small, some, e)))

zeros_passed : (k n : ℕ) → n < 10 ^ suc k → n < 2 ^ 64 → without_zeros (digits (suc k) n) ≡ text.decimal n
unfolding digits without_zeros
zeros_passed zero n h s = sym (digit n h s)
zeros_passed (suc k) n h s =
    elim (cases_lt n (10 ^ suc k)) [ inl l ↦ rw (div-eq_of_lt l) (zeros_passed k n l s) | inr l ↦ rw (first (suc k) n l h) (sym (all_digits (suc k) n l h s)) ]

-- What std prints of a number is meaning's decimal.
decimal_is : (n : ℕ) → n < 2 ^ 32 → decimal n ≡ text.decimal n
unfolding decimal digits
decimal_is n h = zeros_passed 9 n (omega (arith, h)) (omega (arith, h))

-- A line with a number as std prints it and the byte after it.
pub field_printed : (line : List ℕ) (n end : ℕ) → n < 2 ^ 32 → (line ++ text.decimal n) ++ (end ∷ []) ≡ line ++ printed_field n end
unfolding printed_field
field_printed line n end h = rw (append_assoc, decimal_is n h)

-- a leading zero is passed over where another digit follows
pub skip : (xs : List ℕ) (i : ℕ) → suc i < length xs → get_or xs i 0 ≡ 48 → without_zeros (drop i xs) ≡ without_zeros (drop (suc i) xs)
unfolding without_zeros
skip [] i h e = absurd (omega arith)
skip (x ∷ []) i h e = absurd (omega arith)
skip (x ∷ y ∷ xs) zero h e = simp (eq-eqb x 48 e)
skip (x ∷ y ∷ xs) (suc i) h e = skip (y ∷ xs) i (omega arith) e

-- a digit that is no zero begins what is shown
pub begin : (xs : List ℕ) (i : ℕ) → suc i < length xs → (get_or xs i 0 ≡ 48 → ⊥) → without_zeros (drop i xs) ≡ drop i xs
unfolding without_zeros
begin [] i h e = absurd (omega arith)
begin (x ∷ []) i h e = absurd (omega arith)
begin (x ∷ y ∷ xs) zero h e = simp (ne_eqb x 48 e)
begin (x ∷ y ∷ xs) (suc i) h e = begin (y ∷ xs) i (omega arith) e

pub place_positive : (i : ℕ) → i < 10 → 1 ≤ get_or ten_places i 0
place_positive zero h = omega arith
place_positive (suc zero) h = omega arith
place_positive (suc (suc zero)) h = omega arith
place_positive (suc (suc (suc zero))) h = omega arith
place_positive (suc (suc (suc (suc zero)))) h = omega arith
place_positive (suc (suc (suc (suc (suc zero))))) h = omega arith
place_positive (suc (suc (suc (suc (suc (suc zero)))))) h = omega arith
place_positive (suc (suc (suc (suc (suc (suc (suc zero))))))) h = omega arith
place_positive (suc (suc (suc (suc (suc (suc (suc (suc zero)))))))) h = omega arith
place_positive (suc (suc (suc (suc (suc (suc (suc (suc (suc zero))))))))) h = omega arith
place_positive (suc (suc (suc (suc (suc (suc (suc (suc (suc (suc i)))))))))) h = absurd (omega arith)

-- a line with one more of the bytes ys
pub one_more : (s xs ys whole : List ℕ) (i d : ℕ) → s ≡ xs ++ (d ∷ []) → d ≡ get_or ys i 0 → i < length ys → xs ++ drop i ys ≡ whole → s ++ drop (i + 1) ys ≡ whole
one_more s xs ys whole i d e k h w =
    ap (λ l. l ++ drop (i + 1) ys) e
    ∙ append_assoc xs (d ∷ []) (drop (i + 1) ys)
    ∙ ap (λ l. xs ++ l) (rw (add-one, k) (sym (drop-cons ys i 0 h)))
    ∙ w

-- a line with all of them
pub no_more : (s ys whole : List ℕ) (i : ℕ) → length ys ≤ i → s ++ drop i ys ≡ whole → s ≡ whole
no_more s ys whole i h w = sym (append-nil s) ∙ ap (λ l. s ++ l) (sym (drop_of_length-le ys h)) ∙ w
