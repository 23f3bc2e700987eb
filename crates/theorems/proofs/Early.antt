-- A rewriting that works waiting arguments out early is refuted by document 01's PAIR: at 5 and 7 the run halts with 5 after 5 rewrites, and in 5 early
-- rewrites there is no value yet (LOOP never has one). Assumes nothing.
use mathlib.Core.Path.{◌≡◌, refl, ap}
use mathlib.Core.Bool.{Bool, true, false}
use mathlib.Core.List.{List, [], ◌∷◌}
use Prim.Native.Nat.{ℕ}
use Prim.Native.String.{String}
use Rattle.meaning.specs.Basics.{bytes}
use Rattle.meaning.specs.Numbers.{HALT}
use Rattle.meaning.specs.Arithmetic.{apply, of_none, of_one, of_two, less}
use Rattle.meaning.specs.Text.{fine}
use Rattle.meaning.specs.Terms.{Program}
use Rattle.meaning.specs.Check.{check, check_text, found}
use Rattle.meaning.specs.Code.{translate_text}
use Rattle.meaning.specs.Machine.{taken, look_at, look_up, push_result, execute, choose, enter, call_body, go_back, obey, rewrites, too_high, ended, top, unless_high, after_step, run, start, run_program}
use Rattle.meaning.specs.Rewriting.{Rewrite, is_value, becomes, meets_zero, no_rule, rewrite_text, rewrite_times, Reaches, entry_call}
use Rattle.meaning.specs.Answers.{fitting, all_fit, fits}
use Rattle.theorems.specs.Early.{one_row, early_term, early}
use Rattle.theorems.specs.Theorems.{EarlyRefuted}
use Rattle.theorems.proofs.Splitting.{clash}

abbrev pair : String
pair = "USE\t1\tnn\tn\tGAP\ta\tLOOP\tb\nGAP\t1\tnn\tn\tcond\t<\ta\t9\ta\tb\nLOOP\t0\tn\tn\tLOOP\t+\ta\t1\n"

abbrev five_and_seven : List ℕ
five_and_seven = 5 ∷ 7 ∷ []

PAIR : Program
unfolding check_text found
PAIR = found (check_text pair)

pair_accepted : check (bytes pair) ≡ fine PAIR
unfolding check_text found PAIR
pair_accepted = refl

pair_fits : fitting PAIR five_and_seven ≡ true
unfolding PAIR fitting all_fit fits
pair_fits = refl

pair_halts : run_program PAIR five_and_seven 12 ≡ ended HALT 5 12 5
unfolding PAIR translate_text apply of_none of_one of_two less taken look_at look_up push_result execute choose enter call_body go_back obey rewrites too_high top unless_high after_step run start run_program
pair_halts = refl

is_a_value : Rewrite → Bool
is_a_value (is_value v) = true
is_a_value (becomes c) = false
is_a_value meets_zero = false
is_a_value no_rule = false

not_early : is_a_value (rewrite_times (early PAIR) 5 (entry_call (early PAIR) five_and_seven)) ≡ false
unfolding PAIR rewrite_text early one_row early_term is_a_value
not_early = refl

pub refuted_by_pair : EarlyRefuted
unfolding Reaches is_a_value
refuted_by_pair would =
    let reached = would (bytes pair) PAIR five_and_seven 12 5 12 5 pair_accepted pair_fits pair_halts in
    clash (cc (not_early, ap is_a_value reached))
