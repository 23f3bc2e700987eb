-- What a first line that is read settles. Assumes nothing.
use Rattle.std.proofs.Common.{◌≡◌, ℕ, ◌≤◌, List, Some, None, length, drop, refl}
use Rattle.meaning.specs.Program.{Order, malformed, order}
use Rattle.order.specs.Lists.{values_of}
use Rattle.order.specs.Asked.{Asks}
use Rattle.order.specs.declared.Order.{Order as Read}

-- What is read of a well-formed first line is its order, and the text begins within the input.
pub asked : (input : List ℕ) (o : Order) (r : Read) → Asks input o (Some r) → (o ≡ order r.limit (values_of r.args) (drop r.text input)) × (r.text ≤ length input)
unfolding Asks
asked input malformed r h = absurd (cc h)
asked input (order limit args text) r h = (rw (h.0, h.1, h.3), h.4)

-- Where nothing is read the first line is malformed.
pub nothing_asked : (input : List ℕ) (o : Order) → Asks input o None → o ≡ malformed
unfolding Asks
nothing_asked input malformed h = refl
nothing_asked input (order limit args text) h = absurd h
