-- Document 02, h: "Hours add up to the day." What is said of the readings of one counter, over any modulus m of 1 or more; an example at 2^32 beside each.
-- proofs/Headlines.antt proves each statement under the name that its comment gives. Assumes nothing.
use Rattle.std.specs.Prelude.{◌≡◌, refl, List, [], ◌∷◌, ◌++◌, map, ℕ, ◌+◌, ◌-◌, ◌%◌, ◌≤◌, ◌<◌}
use Rattle.meaning.specs.Arithmetic.{modulus, difference}

-- A list of readings stands in the order of their times. How one is subtracted from another is handed over: `less later earlier`.

-- The figure of each hour: every reading less the one before it.
unfoldable pub hourly : (ℕ → ℕ → ℕ) → List ℕ → List ℕ
hourly less [] = []
hourly less (r ∷ []) = []
hourly less (r ∷ s ∷ rs) = less s r ∷ hourly less (s ∷ rs)

-- The sum, without modulus.
unfoldable pub plain_sum : List ℕ → ℕ
plain_sum [] = 0
plain_sum (x ∷ xs) = x + plain_sum xs

-- What billing adds up: the sum of the neighbouring differences, without modulus.
unfoldable pub added_up : (ℕ → ℕ → ℕ) → List ℕ → ℕ
unfolding hourly plain_sum
added_up less readings = plain_sum (hourly less readings)

-- The last of a list that begins with `first`.
unfoldable pub last : ℕ → List ℕ → ℕ
last first [] = first
last first (second ∷ others) = last second others

-- Later less earlier modulo m, on a counter that goes from m - 1 to 0.
unfoldable pub less_modulo : ℕ → ℕ → ℕ → ℕ
less_modulo m later earlier = (later + (m - earlier)) % m

-- Every reading is below m.
abbrev pub AllBelow : ℕ → List ℕ → Type 0
AllBelow m [] = Unit {0}
AllBelow m (r ∷ rs) = (r < m) × AllBelow m rs

-- True counts, `first` before `others`: none falls, and each single interval's true use is below m.
abbrev pub EachUseBelow : ℕ → ℕ → List ℕ → Type 0
EachUseBelow m first [] = Unit {0}
EachUseBelow m first (second ∷ others) = (first ≤ second) × (second - first < m) × EachUseBelow m second others

-- A counter shows the remainder of the true count.
unfoldable pub shown : ℕ → List ℕ → List ℕ
shown m counts = map (λ count. count % m) counts

-- `hours_add_up`. "for every list of two or more readings .. the sum of neighbouring differences modulo 2^32 is the last minus the first modulo 2^32"
abbrev pub HoursAddUp : ℕ → (ℕ → ℕ → ℕ) → Type 0
HoursAddUp m less =
    (first second : ℕ) (others : List ℕ) → AllBelow m (first ∷ second ∷ others)
    → added_up less (first ∷ second ∷ others) % m ≡ less (last second others) first

-- A counter that passes its top twice in a list: the hours, their sum modulo 2^32, and the last reading less the first.
pub wraps_twice : hourly difference (4294967290 ∷ 3 ∷ 4294967295 ∷ 1 ∷ []) ++ (added_up difference (4294967290 ∷ 3 ∷ 4294967295 ∷ 1 ∷ []) % modulus ∷ difference 1 4294967290 ∷ [])
    ≡ 9 ∷ 4294967292 ∷ 2 ∷ 7 ∷ 7 ∷ []
unfolding hourly plain_sum added_up difference
wraps_twice = refl

-- `cut_anywhere`. "the list may be cut at any reading and the parts added": the reading at the cut stands in both parts. With and without the modulus.
abbrev pub CutAnywhere : ℕ → (ℕ → ℕ → ℕ) → Type 0
CutAnywhere m less =
    (before : List ℕ) (cut : ℕ) (after : List ℕ)
    → (added_up less (before ++ cut ∷ after) ≡ added_up less (before ++ cut ∷ []) + added_up less (cut ∷ after))
    × (added_up less (before ++ cut ∷ after) % m ≡ (added_up less (before ++ cut ∷ []) % m + added_up less (cut ∷ after) % m) % m)

-- The same list cut at its third reading: the parts, their sum, and the whole.
pub cut_in_two : added_up difference (4294967290 ∷ 3 ∷ 4294967295 ∷ []) ∷ added_up difference (4294967295 ∷ 1 ∷ []) ∷ added_up difference (4294967290 ∷ 3 ∷ 4294967295 ∷ 1 ∷ []) ∷ []
    ≡ 4294967301 ∷ 2 ∷ 4294967303 ∷ []
unfolding hourly plain_sum added_up difference
cut_in_two = refl

-- `one_reading`. "One reading gives 0."
abbrev pub OneReading : (ℕ → ℕ → ℕ) → Type 0
OneReading less = (reading : ℕ) → added_up less (reading ∷ []) ≡ 0

pub one_alone : added_up difference (4294967290 ∷ []) ≡ 0
unfolding hourly plain_sum added_up
one_alone = refl

-- `true_use`. "Where each single interval's true use is below 2^32 .. the plain sum of the differences, without modulus, is the true use."
abbrev pub TrueUse : ℕ → (ℕ → ℕ → ℕ) → Type 0
TrueUse m less = (first : ℕ) (others : List ℕ) → EachUseBelow m first others → added_up less (shown m (first ∷ others)) ≡ last first others - first

-- True counts that pass 2^32 once: what the counter shows, and the plain sum, which is 4294967299 - 5.
pub wraps_once : shown modulus (5 ∷ 4294967290 ∷ 4294967299 ∷ []) ++ (added_up difference (shown modulus (5 ∷ 4294967290 ∷ 4294967299 ∷ [])) ∷ []) ≡ 5 ∷ 4294967290 ∷ 3 ∷ 4294967294 ∷ []
unfolding hourly plain_sum added_up shown difference
wraps_once = refl

-- The four together.
pub record Hours (m : ℕ) (less : ℕ → ℕ → ℕ) : Type 0 where
  pub hours_add_up : HoursAddUp m less
  pub cut_anywhere : CutAnywhere m less
  pub one_reading : OneReading less
  pub true_use : TrueUse m less

-- `over_any_modulus`.
abbrev pub OverAnyModulus : Type 0
OverAnyModulus = (m : ℕ) → 1 ≤ m → Hours m (less_modulo m)
