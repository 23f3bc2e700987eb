-- How words hold a state of the machine. The return stack, the environments and the frames grow together, so each height p from 1 to 512 has one level,
-- twelve words from 12 p on: where to go on once it returns, the link, and a frame of its own: strict count, size, eight slots.
-- The link is the number of the level whose frame is first in the environment below: that to which a call goes back, and the rest of its own frame's chain.
-- A level that a waiting argument opened owns no frame. A link always names a lower level, so none dangles, and the frame of a call that has returned is used again.
-- Of the data stack the top is in a register, the others are words behind the levels. Assumes nothing.
use Rattle.std.specs.Prelude.{◌≡◌, Bool, false, List, [], ◌∷◌, ◌++◌, map, ℕ, zero, suc, ◌+◌, ◌-◌, ◌*◌, ◌≤◌, ◌<◌, eqb, length, get_or, take, drop, if◌then◌else◌}
use Rattle.std.proofs.Common.{arith}
use Rattle.meaning.specs.Numbers.{most_height, most_arguments, work_words}
use Rattle.meaning.specs.Machine.{value, waiting, Frame, Environment, Place, stop, at, State, state, Next, next, no_step, zero_division, too_high}
use Rattle.layout.specs.Decoding.{row}

abbrev pub level_words : ℕ
level_words = 12

abbrev pub return_word : ℕ
return_word = 0

abbrev pub link_word : ℕ
link_word = 1

abbrev pub strict_word : ℕ
strict_word = 2

abbrev pub size_word : ℕ
size_word = 3

abbrev pub slot_words : ℕ
slot_words = 4

abbrev pub values_from : ℕ
values_from = level_words * (most_height + 1)

-- The levels end where the data stack begins, and all of it fits "8,192 words for work", whatever is run.
pub levels_fit : level_words * most_height + level_words ≤ values_from
levels_fit = omega arith

pub values_fit : values_from + most_height < work_words
values_fit = omega arith

-- word j of level p
abbrev pub cell : List ℕ → ℕ → ℕ → ℕ
cell w p j = get_or w (level_words * p + j) 0

-- k values, then what waits, n in all
unfoldable pub slots : ℕ → ℕ → List ℕ → Frame
slots k n ws = map value (take k ws) ++ map waiting (take (n - k) (drop k ws))

unfoldable pub frame : List ℕ → ℕ → Frame
frame w p = slots (cell w p strict_word) (cell w p size_word) (row w (level_words * p + slot_words) most_arguments)

-- the chain of frames from level p on, where the levels up to n are looked at
unfoldable pub chain : List ℕ → ℕ → ℕ → Environment
chain w zero p = []
chain w (suc n) p = if eqb p (suc n) then frame w (suc n) ∷ chain w n (cell w (suc n) link_word) else chain w n p

-- the environments at height n, the first being the chain from level e on
unfoldable pub environments : List ℕ → ℕ → ℕ → List Environment
environments w e zero = []
environments w e (suc n) = chain w (suc n) e ∷ environments w (cell w (suc n) link_word) n

-- above height 0 a place is an address
unfoldable pub place : ℕ → ℕ → Place
place zero a = stop
place (suc n) a = at a

unfoldable pub returns : List ℕ → ℕ → List Place
returns w zero = []
returns w (suc n) = place n (cell w (suc n) return_word) ∷ returns w n

-- the n values that lie in the words
unfoldable pub stored : List ℕ → ℕ → List ℕ
stored w zero = []
stored w (suc n) = get_or w (values_from + suc n) 0 ∷ stored w n

-- d values, of which the top is held
unfoldable pub values : List ℕ → ℕ → ℕ → List ℕ
values w held zero = []
values w held (suc n) = held ∷ stored w n

-- the state of address a, environment e, height h, and d values with this top, over the words w
unfoldable pub holds : List ℕ → ℕ → ℕ → ℕ → ℕ → ℕ → State
holds w a e h held d = state (place h a) (returns w h) (values w held d) (environments w e h)

-- What is kept while the machine runs: room, heights, and that links name lower levels.
abbrev pub Links : List ℕ → ℕ → Type 0
Links w h = (j : ℕ) → 1 ≤ j → j ≤ h → cell w j link_word < j

pub record Good (w : List ℕ) (e h d : ℕ) : Type 0 where
  pub room : work_words ≤ length w
  pub high : h ≤ most_height
  pub deep : d ≤ most_height
  pub inner : e ≤ h
  pub links : Links w h

-- The machine's step is made, and the words v hold what it comes to; words behind the first 8,192 stay.
pub record Comes (o : Next) (w v : List ℕ) (a e h held d : ℕ) : Type 0 where
  pub step : o ≡ next (holds v a e h held d)
  pub good : Good v e h d
  pub kept : drop work_words v ≡ drop work_words w

-- The step exists and would make a stack 513 high.
unfoldable pub would_be_high : Next → Bool
would_be_high no_step = false
would_be_high zero_division = false
would_be_high (next s) = too_high s

-- A level more, at a and to go on at b, with the environment below the frame of level e: what a waiting argument opens.
unfoldable pub opened : List ℕ → ℕ → ℕ → ℕ → ℕ → ℕ → ℕ → State
opened w a b e h held d =
    state (at a) (at b ∷ returns w h) (values w held d) (chain w h (cell w e link_word) ∷ environments w e h)
