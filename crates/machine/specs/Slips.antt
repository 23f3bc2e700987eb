-- "Keeping the value of a waiting argument after its first lookup: rewrites come out too few": that the machine does not, which no small edit of the code shows.
-- Assumes nothing.
use Rattle.std.specs.Prelude.{◌≡◌, refl, List, [], ◌∷◌, ℕ}
use Rattle.std.proofs.Math.Option.{some}
use Rattle.std.proofs.Math.ListN.{get_elem?}
use Rattle.meaning.specs.Arithmetic.{apply, of_none, of_two, sum}
use Rattle.meaning.specs.Numbers.{HALT}
use Rattle.meaning.specs.Code.{translate_text}
use Rattle.meaning.specs.Machine.{waiting, Frame, Environment, Place, at, state, next, look_at, look_up, go_back, taken, push_result, execute, enter, call_body, obey, rewrites, too_high, ended, top, unless_high, after_step, run, start}

-- A lookup leaves the frame that holds the argument as it was, below the environment in which the argument's term is worked out;
-- so does the way back, with the value on the data stack alone. The next lookup begins where the first began.
pub looked_up_anew : (i a b : ℕ) (rs : List Place) (ds us : List ℕ) (f : Frame) (e : Environment) (es : List Environment)
    → get_elem? f i ≡ some (waiting a)
    → (look_up i b rs ds ((f ∷ e) ∷ es) ≡ next (state (at a) (at b ∷ rs) ds (e ∷ (f ∷ e) ∷ es)))
    × (go_back (at b ∷ rs) us (e ∷ (f ∷ e) ∷ es) ≡ next (state (at b) rs us ((f ∷ e) ∷ es)))
unfolding look_up look_at go_back
looked_up_anew i a b rs ds us f e es h = (rw h, refl)

-- `TWICE` asks twice for `+ a 1`, which makes two rewrites each time: 7 in all, where a kept value would leave 5.
pub worked_out_twice : run (get_elem? (translate_text "USE\t1\tn\tn\tTWICE\t+\ta\t1\nTWICE\t0\tn\tn\t+\ta\ta\n")) 100 (start 1 (7 ∷ [])) 0 0 ≡ ended HALT 16 17 7
unfolding translate_text run start after_step unless_high too_high top obey rewrites look_up look_at execute push_result taken apply of_none of_two sum call_body enter go_back
worked_out_twice = refl
