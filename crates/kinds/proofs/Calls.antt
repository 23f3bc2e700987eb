-- CALL over the words, by the tests that the code makes: k is the strict count. Assumes nothing.
use mathlib.Core.Path.{◌≡◌, refl, ◌∙◌}
use mathlib.Core.Logic.{◌⊎◌, inl, inr}
use mathlib.Core.List.{List}
use Prim.Native.Nat.{ℕ, zero, suc, ◌+◌, ◌-◌, ◌≤◌, ◌<◌}
use native.Mathlib.Omega.{arith}
use lib.ListN.{length, get_or, take, drop}
use lib.Seq.{get_or-take, get_or-drop}
use native.Mathlib.Nat.{zero-add}
use borrow.Author.Tests.{lt-ltb, le-ltb}
use Rattle.meaning.specs.Numbers.{most_arguments}
use Rattle.meaning.specs.Machine.{Place, Environment, Next, no_step, call_body, obey, rewrites}
use Rattle.layout.specs.Decoding.{next_word, body_word, entrance_words, row, leading, an_eval, a_call}
use Rattle.layout.specs.Layout.{values_from, returns, values, environments}
use Rattle.layout.proofs.Rows.{row_same}
use Rattle.layout.proofs.Steps.{call_none}

-- EVAL is no rewrite
pub rewrites_eval : (x b : ℕ) → rewrites (an_eval x b) ≡ 0
unfolding rewrites an_eval
rewrites_eval zero b = refl
rewrites_eval (suc i) b = refl

pub calls_too_many : (code : List ℕ) (base x k : ℕ) → k ≡ x → (rs : List Place) (ds : List ℕ) (es : List Environment) → most_arguments < k → obey (a_call code base x) rs ds es ≡ no_step
unfolding obey a_call
calls_too_many code base x k kx rs ds es l = rw (lt-ltb most_arguments x (omega arith))

module _ (words : List ℕ) (k : ℕ) where
  -- the words behind the strict count
  abbrev entrances : List ℕ
  entrances = take most_arguments (drop entrance_words words)

  pub rewrites_call : k ≤ most_arguments → rewrites (a_call words 0 k) ≡ 1
  unfolding rewrites a_call
  rewrites_call l = rw (le-ltb most_arguments k l)

  module _ (w : List ℕ) (h held d e : ℕ) where
    abbrev calls : Next
    calls = obey (a_call words 0 k) (returns w h) (values w held d) (environments w e h)

    pub calls_body : k ≤ most_arguments
        → calls ≡ call_body (get_or words body_word 0) k (leading (row entrances 0 (most_arguments - k))) (get_or words next_word 0) (returns w h) (values w held d) (environments w e h)
    unfolding obey a_call
    calls_body l =
        let ws : row entrances 0 (most_arguments - k) ≡ row words entrance_words (most_arguments - k) =
        row_same words entrances entrance_words 0 (most_arguments - k)
        (λ i n. rw zero-add (get_or-take most_arguments (drop entrance_words words) i 0 (omega arith) ∙ get_or-drop entrance_words words i 0)) in
        rw (le-ltb most_arguments k l, ws)

    -- too many values for a frame, or more than there are
    pub calls_nothing : 1 ≤ h → values_from + d < length w → (most_arguments < k) ⊎ ((k ≤ most_arguments) × (d < k)) → calls ≡ no_step
    unfolding obey a_call
    calls_nothing z room (inl l) = rw (lt-ltb most_arguments k l)
    calls_nothing z room (inr l) = calls_body l.0 ∙ call_none w e h held d _ k _ _ _ z room l.1
