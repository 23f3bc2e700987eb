-- What a first line asks for, argument by argument. Assumes nothing.
use Rattle.std.specs.Prelude.{◌≡◌, List, [], ◌∷◌, ◌++◌, ℕ, ◌≤◌, leb, length, drop, if◌then◌else◌, Option, Some, None, IsSomeAnd}
use Rattle.std.specs.Option.{option_map}
use Rattle.meaning.specs.Numbers.{most_arguments}
use Rattle.meaning.specs.Text.{Field, value}
use Rattle.meaning.specs.Terms.{is_decimal}
use Rattle.meaning.specs.Program.{Order, malformed, order}
use Rattle.order.specs.Lists.{values_of}
use Rattle.order.specs.declared.Order.{Order as Read}

-- The arguments vs and those of the fields after them; none where one is no decimal or they are too many.
unfoldable pub arguments_from : List ℕ → List Field → Option (List ℕ)
arguments_from vs [] = Some vs
arguments_from vs (f ∷ fs) = if leb most_arguments (length vs) then None else if is_decimal f then arguments_from (vs ++ (value f ∷ [])) fs else None

-- A limit, arguments, and where the text begins.
pub record Said : Type 0 where
  pub limit : ℕ
  pub args : List ℕ
  pub text : ℕ

abbrev pub said : Read → Said
said o = record { limit = o.limit; args = values_of o.args; text = o.text }

-- What a line of these fields asks for, the text after it beginning at `text`.
unfoldable pub line_read : ℕ → List Field → Option Said
line_read text [] = None
line_read text (f ∷ fs) = if is_decimal f then option_map (λ a. record { limit = value f; args = a; text = text }) (arguments_from [] fs) else None

-- The struct says what standard input asks for; there is none where the first line is malformed.
unfoldable pub Asks : List ℕ → Order → Option Read → Type 0
Asks input malformed r = r ≡ None
Asks input (order limit args text) r =
    IsSomeAnd r (λ o. (o.limit ≡ limit) × (values_of o.args ≡ args) × (length (values_of o.args) ≤ most_arguments) × (drop o.text input ≡ text) × (o.text ≤ length input))
