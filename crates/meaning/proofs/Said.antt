-- What src/ says of a verdict is what the definitions answer for it. Assumes nothing.
use Rattle.std.proofs.Common.{◌≡◌, ℕ, Ok, Err, refl, sym}
use Rattle.meaning.specs.Numbers.{no}
use Rattle.meaning.specs.Numbers as names
use Rattle.meaning.specs.Text.{Verdict, fine, refused}
use Rattle.meaning.specs.Terms.{Program}
use Rattle.meaning.specs.Answers.{checked}
use Rattle.meaning.specs.Said.{said, number_word, refusal, found, accepted, checked_result}
use Rattle.meaning.specs.declared.Refusal.{Refusal}

pub number_said : (n : names.Number) → number_word (said n) ≡ no n
unfolding no
number_said names.HALT = refl
number_said names.LONG = refl
number_said names.LINE = refl
number_said names.COUNT = refl
number_said names.NAME = refl
number_said names.TERM = refl
number_said names.NEST = refl
number_said names.ARGS = refl
number_said names.ROOM = refl
number_said names.FUEL = refl
number_said names.DEEP = refl
number_said names.STUCK = refl
number_said names.ZERO = refl
number_said names.UNKNOWN = refl
number_said names.SORT = refl
number_said names.SHORT = refl

pub checked_found : (v : Verdict Program) → checked_result (found accepted v) ≡ checked v
unfolding found checked no
checked_found (fine P) = refl
checked_found (refused n l f) = rw (number_said n) refl

-- What is found of a text that is not refused.
pub found_fine : {A B : Type 0} (f : A → B) (v : Verdict A) (b : B) → found f v ≡ Ok b → (a : A) × (v ≡ fine a) × (b ≡ f a)
unfolding found
found_fine f (fine a) b e = (a, refl, sym (cc))
found_fine f (refused n l k) b e = absurd (cc)

-- And of one that is refused.
pub found_refused : {A B : Type 0} (f : A → B) (v : Verdict A) (r : Refusal) → found f v ≡ Err r → (w : names.Number × (ℕ × ℕ)) × (v ≡ refused w.0 w.1.0 w.1.1) × (r ≡ refusal w.0 w.1.0 w.1.1)
unfolding found
found_refused f (fine a) r e = absurd (cc)
found_refused f (refused n l k) r e = ((n, (l, k)), refl, sym (cc))
