-- The laws of Hours for 2^32, with the `-` of rule texts, and for the values that Run answers for DIF; and what breaks without the conditions: the hours that were lost. Assumes nothing.
use Rattle.std.specs.Prelude.{◌≡◌, refl, List, [], ◌∷◌, ◌++◌, ℕ, ◌-◌, ◌^◌, ◌≤◌}
use Rattle.meaning.specs.Basics.{bytes}
use Rattle.meaning.specs.Numbers.{work_words}
use Rattle.meaning.specs.Arithmetic.{modulus, difference}
use Rattle.meaning.specs.Program.{most_code_words}
use Rattle.meaning.specs.Answers.{run_answer}
use Rattle.hours.specs.Hours.{Hours, HoursAddUp, last, added_up, shown, hourly, less_modulo}

-- `for_32_bits`: all four, with meaning's `difference`. `for_64_bits`: the same of a Counter64.
abbrev pub For32Bits : Type 0
For32Bits = Hours modulus difference

abbrev pub For64Bits : Type 0
For64Bits = Hours (2 ^ 64) (less_modulo (2 ^ 64))

-- DIF 2, which works its arguments out first, and DIF 0, which lets them wait.
abbrev pub dif : List ℕ
dif = bytes "DIF\t2\tnn\tn\t-\ta\tb\n"

abbrev pub dif_waiting : List ℕ
dif_waiting = bytes "DIF\t0\tnn\tn\t-\ta\tb\n"

-- Run on a text at a later and an earlier reading: with a limit of so many steps or more, 84 words of code (seven instructions) and 8,192 of work, or more,
-- it halts after those steps and two rewrites, and its value is `difference` of the two.
abbrev pub Subtracts : List ℕ → ℕ → Type 0
Subtracts text steps =
    (later earlier limit code work : ℕ) → steps ≤ limit → 84 ≤ code → work_words ≤ work
    → run_answer text (later ∷ earlier ∷ []) limit code work
    ≡ record { number = 0; value = difference later earlier; line = 0; field = 0; steps = steps; rewrites = 2 }

-- `run_subtracts`, `run_subtracts_waiting`.
abbrev pub RunSubtracts : Type 0
RunSubtracts = Subtracts dif 8

abbrev pub RunSubtractsWaiting : Type 0
RunSubtractsWaiting = Subtracts dif_waiting 10

-- What Run answers, with the limit that a day of readings has.
unfoldable pub run_dif : ℕ → ℕ → ℕ
run_dif later earlier = (run_answer dif (later ∷ earlier ∷ []) 100000 most_code_words work_words).value

-- `for_run`: all four, of the values that Run answers.
abbrev pub ForRun : Type 0
ForRun = Hours modulus run_dif

-- A counter that passes its top in the second hour, 5, 4294967290, 3, by a subtraction that stops at zero (so does `-` here): the hours are 4294967285 and 0 where
-- 4294967285 and 9 were used, their sum is 4294967285, and last less first is 0.
pub stopped_hours : hourly ◌-◌ (5 ∷ 4294967290 ∷ 3 ∷ []) ++ (added_up ◌-◌ (5 ∷ 4294967290 ∷ 3 ∷ []) ∷ (3 - 5) ∷ []) ≡ 4294967285 ∷ 0 ∷ 4294967285 ∷ 0 ∷ []
unfolding hourly added_up
stopped_hours = refl

-- `stopping_breaks`. So the law is false of it.
abbrev pub StoppingBreaks : Type 0
StoppingBreaks = HoursAddUp modulus ◌-◌ → ⊥

-- One hour's true use of 2^32: it does not show, and the plain sum is 7 where 4294967303 were used.
abbrev one_too_much : List ℕ
one_too_much = 0 ∷ 4294967296 ∷ 4294967303 ∷ []

pub lost_round : shown modulus one_too_much ++ (added_up difference (shown modulus one_too_much) ∷ []) ≡ 0 ∷ 0 ∷ 7 ∷ 7 ∷ []
unfolding hourly added_up shown difference
lost_round = refl

-- `below_is_needed`. With uses of at most 2^32 in the place of uses below it, the plain sum is not the true use.
abbrev pub EachUseAtMost : ℕ → ℕ → List ℕ → Type 0
EachUseAtMost m first [] = Unit {0}
EachUseAtMost m first (second ∷ others) = (first ≤ second) × (second - first ≤ m) × EachUseAtMost m second others

abbrev pub BelowIsNeeded : Type 0
BelowIsNeeded =
    ((first : ℕ) (others : List ℕ) → EachUseAtMost modulus first others → added_up difference (shown modulus (first ∷ others)) ≡ last first others - first)
    → ⊥

-- The plain sum of a day passes 2^32 where the true use does: whoever adds needs more than 32 bits.
pub plain_sum_is_wide : added_up difference (shown modulus (0 ∷ 4294967295 ∷ 8589934590 ∷ [])) ≡ 8589934590
unfolding hourly added_up shown difference
plain_sum_is_wide = refl
