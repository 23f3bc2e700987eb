-- What was ordered (document 00, demands 2 and 3) and what document 01 promises besides, stated over the definitions. proofs/Headlines.antt proves each
-- under the name that its comment gives. Assumes nothing.
use Rattle.std.specs.Prelude.{◌≡◌, ◌⊎◌, ◌↔◌, true, false, List, ℕ, suc, ◌+◌, ◌*◌, ◌≤◌, ◌<◌}
use Rattle.meaning.specs.Numbers.{HALT, FUEL, DEEP, STUCK, ZERO}
use Rattle.meaning.specs.Text.{fine}
use Rattle.meaning.specs.Terms.{Program}
use Rattle.meaning.specs.Check.{check}
use Rattle.meaning.specs.Machine.{State, next, zero_division, ended, run_program}
use Rattle.meaning.specs.Rewriting.{Closed, becomes, rewrite_times, Reaches, MeetsZero, entry_call}
use Rattle.meaning.specs.Answers.{fitting, run_answer}
use Rattle.meaning.specs.declared.Head.{Head}
use Rattle.meaning.specs.declared.Checked.{Checked}
use Rattle.meaning.specs.declared.Answer.{Answer}
use Rattle.theorems.specs.Unlimited.{step, code_of, machine_after, rewrites_after, calls_after, returns_after, waiting_lookups_after, has_stopped, return_height, data_height, environment_height}
use Rattle.theorems.specs.Limits.{Passes, Stops, DividesByZero, DividesInLimits, StopsInLimits, MeetsStepLimit, MeetsHeightLimit}
use Rattle.theorems.specs.Outcomes.{CheckAllows, TranslateAllows, RunAllows, Admitted}
use Rattle.theorems.specs.Early.{early}

-- Demand 3's bound on the steps that n rewrites take.
unfoldable pub bound : ℕ → ℕ
bound n = 18 * (n * n) + 12 * n + 2

-- The step limit that is enough to come to a division by 0 after n rewrites, or to pass 512 on the way there.
unfoldable pub zero_bound : ℕ → ℕ
zero_bound n = 18 * (n * n) + 1034 * n + 513

-- 1. `halts_right`. "The engine halts with a value only if leftmost rewriting of the entry call reaches that value", and in the rewrites that it reports.
-- Rules out: a Run that answers one value, a value found another way, invented rewrite counts.
abbrev pub HaltsRight : Type 0
HaltsRight =
    (text : List ℕ) (P : Program) (args : List ℕ) (limit v steps rewrites : ℕ) → check text ≡ fine P → fitting P args ≡ true
    → run_program P args limit ≡ ended HALT v steps rewrites
    → Reaches P (entry_call P args) rewrites v

-- 2. `limits_are_the_machines`. "It reports a step limit or a depth limit exactly where the paper's machine meets that limit before it stops", halts
-- exactly where that machine stops first, and answers ZERO exactly where it comes to a division by 0 first; steps and rewrites are those made so far. It holds of every program, accepted or not.
-- Rules out: a Run that gives up earlier or later, that refuses all, or that finds the value at once and idles through the rest.
abbrev pub LimitsAreTheMachines : Type 0
LimitsAreTheMachines =
    (P : Program) (args : List ℕ) (limit steps rewrites : ℕ)
    → ((run_program P args limit ≡ ended FUEL 0 steps rewrites) ↔ MeetsStepLimit P args limit steps rewrites)
    × ((run_program P args limit ≡ ended DEEP 0 steps rewrites) ↔ MeetsHeightLimit P args limit steps rewrites)
    × ((run_program P args limit ≡ ended ZERO 0 steps rewrites) ↔ DividesInLimits P args limit steps rewrites)
    × ((v : ℕ) → (run_program P args limit ≡ ended HALT v steps rewrites) ↔ StopsInLimits P args limit v steps rewrites)

-- 3. `in_time`. "If leftmost rewriting reaches a value in n rewrites, and the step limit is at least 18 n² + 12 n + 2, the engine never answers that steps
-- ran out: it halts with that value and reports exactly n rewrites", within that many steps, "or it answers that a stack passed 512 entries, and then the
-- paper's machine really passes it". It holds of every limit, below 2^32 or not.
-- Rules out: an engine that runs out of steps on a rule that has a value, or blames its stacks where they suffice.
abbrev pub InTime : Type 0
InTime =
    (text : List ℕ) (P : Program) (args : List ℕ) (limit n v : ℕ) → check text ≡ fine P → fitting P args ≡ true
    → Reaches P (entry_call P args) n v → bound n ≤ limit
    → ((steps : ℕ) × (steps ≤ bound n) × (run_program P args limit ≡ ended HALT v steps n))
    ⊎ ((steps rewrites : ℕ) × (run_program P args limit ≡ ended DEEP 0 steps rewrites) × Passes P args)

-- `machine_agrees`. What both demands rest on, the paper's theorem with the rewrites counted: the machine without limits stops with v after n rewrites
-- exactly where leftmost rewriting reaches v in n, and then within the bound. Rules out: a rule with a value on which the machine never stops.
abbrev pub MachineAgrees : Type 0
MachineAgrees =
    (text : List ℕ) (P : Program) (args : List ℕ) (n v : ℕ) → check text ≡ fine P → fitting P args ≡ true
    → (Reaches P (entry_call P args) n v → (steps : ℕ) × (steps ≤ bound n) × Stops P args v steps n)
    × ((steps : ℕ) → Stops P args v steps n → Reaches P (entry_call P args) n v)

-- `zero_right`. "The stop is given exactly where leftmost rewriting meets the division": a run answers ZERO only there, and in the rewrites that it reports.
-- Rules out: a run that stops at a division which rewriting never comes to, such as one in a waiting argument that is not looked at.
abbrev pub ZeroRight : Type 0
ZeroRight =
    (text : List ℕ) (P : Program) (args : List ℕ) (limit v steps rewrites : ℕ) → check text ≡ fine P → fitting P args ≡ true
    → run_program P args limit ≡ ended ZERO v steps rewrites
    → MeetsZero P (entry_call P args) rewrites

-- `zero_in_time`. If leftmost rewriting meets a division by 0 after n rewrites, a run answers FUEL, DEEP or ZERO at every limit; FUEL at none from
-- 18 n² + 1034 n + 513 on; DEEP only where the machine really passes 512; and ZERO with exactly n rewrites, within that many steps.
-- Rules out: a division that is passed over, or found only after steps without end.
abbrev pub ZeroInTime : Type 0
ZeroInTime =
    (text : List ℕ) (P : Program) (args : List ℕ) (limit n : ℕ) → check text ≡ fine P → fitting P args ≡ true → MeetsZero P (entry_call P args) n
    → ((steps rewrites : ℕ) × (run_program P args limit ≡ ended FUEL 0 steps rewrites) × (limit < zero_bound n))
    ⊎ (((steps rewrites : ℕ) × (run_program P args limit ≡ ended DEEP 0 steps rewrites) × Passes P args)
    ⊎ ((steps : ℕ) × (steps < zero_bound n) × (run_program P args limit ≡ ended ZERO 0 steps n)))

-- `machine_divides`. The machine without limits comes to a division by 0 after n rewrites exactly where leftmost rewriting meets one after n.
abbrev pub MachineDivides : Type 0
MachineDivides =
    (text : List ℕ) (P : Program) (args : List ℕ) (n : ℕ) → check text ≡ fine P → fitting P args ≡ true
    → (MeetsZero P (entry_call P args) n → (steps : ℕ) × DividesByZero P args steps n)
    × ((steps : ℕ) → DividesByZero P args steps n → MeetsZero P (entry_call P args) n)

-- `paced`. Wherever the machine without limits is, its rewrites and the height of its data stack bound the steps that it has made.
-- Rules out: a machine that walks about without end and rewrites nothing.
abbrev pub IsPaced : Type 0
IsPaced =
    (text : List ℕ) (P : Program) (args : List ℕ) (n : ℕ) (s : State) → check text ≡ fine P → fitting P args ≡ true
    → machine_after P args n ≡ next s → has_stopped s ≡ false →
    let r = rewrites_after P args n in
    n ≤ 18 * (r * r) + 10 * r + (2 * r + 1) * data_height s

-- 4. `one_value`. Leftmost rewriting reaches at most one value, in one number of rewrites. Rules out: two right answers. The next two take ZERO in.
abbrev pub OneValue : Type 0
OneValue = (P : Program) (c : Closed) (n m v w : ℕ) → Reaches P c n v → Reaches P c m w → (n ≡ m) × (v ≡ w)

-- `one_end`. Leftmost rewriting reaches a value, meets a division by 0 or goes on for ever, and never two of these; it meets one division, in one number of
-- rewrites. Rules out: a term that has a value and divides by 0.
abbrev pub GoesOn : Program → Closed → Type 0
GoesOn P c = (n : ℕ) → (d : Closed) × (rewrite_times P n c ≡ becomes d)

abbrev pub OneEnd : Type 0
OneEnd =
    (P : Program) (c : Closed)
    → ((n m v : ℕ) → Reaches P c n v → MeetsZero P c m → ⊥)
    × ((n v : ℕ) → Reaches P c n v → GoesOn P c → ⊥)
    × ((n : ℕ) → MeetsZero P c n → GoesOn P c → ⊥)
    × ((n m : ℕ) → MeetsZero P c n → MeetsZero P c m → n ≡ m)

-- `one_of_three`. And of an accepted text it is one of the three (document 000, Lemma 43): within n rewrites the entry call has reached a value or met a
-- division by 0, or it has been rewritten n times and can be rewritten again. Rules out: a term that no rule fits.
abbrev pub OneOfThree : Type 0
OneOfThree =
    (text : List ℕ) (P : Program) (args : List ℕ) (n : ℕ) → check text ≡ fine P → fitting P args ≡ true
    → ((m v : ℕ) × (m ≤ n) × Reaches P (entry_call P args) m v)
    ⊎ (((m : ℕ) × (m ≤ n) × MeetsZero P (entry_call P args) m) ⊎ ((d : Closed) × (rewrite_times P n (entry_call P args) ≡ becomes d)))

-- `one_course`. The machine is deterministic: after n steps it is in one state (`machine_after` is a function), and it stops once. Rules out: two runs
-- of one text that end differently.
abbrev pub OneCourse : Type 0
OneCourse =
    (P : Program) (args : List ℕ) (n m : ℕ) (s s' : State) → machine_after P args n ≡ next s → has_stopped s ≡ true
    → machine_after P args m ≡ next s' → has_stopped s' ≡ true
    → (n ≡ m) × (s ≡ s')

-- 5. `never_stuck`. At an accepted text and fitting arguments the machine has a next step wherever it has not stopped and does not divide by 0, and no run
-- answers STUCK.
-- Rules out: an accepted text whose code reads an argument that is not there, takes too many values or chooses by a number above 1.
abbrev pub NeverStuck : Type 0
NeverStuck =
    (text : List ℕ) (P : Program) (args : List ℕ) → check text ≡ fine P → fitting P args ≡ true
    → ((n : ℕ) (s : State) → machine_after P args n ≡ next s → has_stopped s ≡ false
    → ((s' : State) × (machine_after P args (suc n) ≡ next s')) ⊎ (step (code_of P) s ≡ zero_division))
    × ((limit v steps rewrites : ℕ) → run_program P args limit ≡ ended STUCK v steps rewrites → ⊥)

-- 6. `height`. "The return stack's height is 1 + calls + waiting lookups - returns", and the environment stack is as high. (The returns stand on the left,
-- so that no difference is cut off at 0.)
-- Rules out: a frame dropped or kept out of turn, and a third stack that could pass 512 by itself.
abbrev pub Height : Type 0
Height =
    (P : Program) (args : List ℕ) (n : ℕ) (s : State) → machine_after P args n ≡ next s
    → (return_height s + returns_after P args n ≡ 1 + calls_after P args n + waiting_lookups_after P args n)
    × (environment_height s ≡ return_height s)

-- 7. `one_outcome`. Two outcomes that the contracts of Check, Translate and Run allow for one input are equal, in every answer field and every lent word and
-- head. Rules out: a contract that leaves one of them open. (That the code meets these contracts is proved with the code.)
abbrev pub OneOutcome : Type 0
OneOutcome =
    ((text : List ℕ) (heads : List Head) (a b : Checked) (x y : List Head) → CheckAllows text heads a x → CheckAllows text heads b y → (a ≡ b) × (x ≡ y))
    × ((text code : List ℕ) (a b : Checked) (x y : List ℕ) → TranslateAllows text code a x → TranslateAllows text code b y → (a ≡ b) × (x ≡ y))
    × ((text args : List ℕ) (limit : ℕ) (code work : List ℕ) (a b : Answer) (x y z w : List ℕ)
    → RunAllows text args limit code work a x z → RunAllows text args limit code work b y w → (a ≡ b) × (x ≡ y) × (z ≡ w))

-- 8. The demands once more, from the bytes of a text to the fields of Run's answer; `code` and `work` are the lengths of the lent slices.

-- `run_halts_right`. Demand 2, the value: an answer 0 has the value and the rewrites of leftmost rewriting.
abbrev pub RunHaltsRight : Type 0
RunHaltsRight =
    (text args : List ℕ) (limit code work : ℕ) →
    let answer = run_answer text args limit code work in
    answer.number ≡ 0
    → (P : Program) × Admitted text args code work P × Reaches P (entry_call P args) answer.rewrites answer.value

-- `run_zero_right`. Request b, demand 2: an answer 12 is given only where leftmost rewriting meets a division by 0, after as many rewrites.
abbrev pub RunZeroRight : Type 0
RunZeroRight =
    (text args : List ℕ) (limit code work : ℕ) →
    let answer = run_answer text args limit code work in
    answer.number ≡ 12
    → (P : Program) × Admitted text args code work P × MeetsZero P (entry_call P args) answer.rewrites

-- `run_zero_in_time`. And where it meets one, unless FUEL or DEEP comes before.
abbrev pub RunZeroInTime : Type 0
RunZeroInTime =
    (text args : List ℕ) (limit code work n : ℕ) (P : Program) → Admitted text args code work P → MeetsZero P (entry_call P args) n →
    let answer = run_answer text args limit code work in
    ((answer.number ≡ 9) × (limit < zero_bound n))
    ⊎ (((answer.number ≡ 10) × Passes P args)
    ⊎ ((answer.number ≡ 12) × (answer.value ≡ 0) × (answer.rewrites ≡ n) × (answer.steps < zero_bound n)))

-- `run_limits_are_the_machines`. Demand 2, the limits: the answers 9, 10, 12 and 0 are given exactly where the machine meets its step limit, meets its height
-- limit, divides by 0, or stops first, with its steps and rewrites.
abbrev pub RunLimitsAreTheMachines : Type 0
RunLimitsAreTheMachines =
    (text args : List ℕ) (limit code work steps rewrites : ℕ) →
    let answer = run_answer text args limit code work in
    (((answer.number ≡ 9) × (answer.steps ≡ steps) × (answer.rewrites ≡ rewrites))
    ↔ ((P : Program) × Admitted text args code work P × MeetsStepLimit P args limit steps rewrites))
    × (((answer.number ≡ 10) × (answer.steps ≡ steps) × (answer.rewrites ≡ rewrites))
    ↔ ((P : Program) × Admitted text args code work P × MeetsHeightLimit P args limit steps rewrites))
    × (((answer.number ≡ 12) × (answer.steps ≡ steps) × (answer.rewrites ≡ rewrites))
    ↔ ((P : Program) × Admitted text args code work P × DividesInLimits P args limit steps rewrites))
    × ((v : ℕ) → ((answer.number ≡ 0) × (answer.value ≡ v) × (answer.steps ≡ steps) × (answer.rewrites ≡ rewrites))
    ↔ ((P : Program) × Admitted text args code work P × StopsInLimits P args limit v steps rewrites))

-- `run_in_time`. Demand 3.
abbrev pub RunInTime : Type 0
RunInTime =
    (text args : List ℕ) (limit code work n v : ℕ) (P : Program) → Admitted text args code work P
    → Reaches P (entry_call P args) n v → bound n ≤ limit →
    let answer = run_answer text args limit code work in
    ((answer.number ≡ 0) × (answer.value ≡ v) × (answer.rewrites ≡ n) × (answer.steps ≤ bound n))
    ⊎ ((answer.number ≡ 10) × Passes P args)

-- `run_never_stuck`. No text, arguments, limit and memory lead to the answer 11.
abbrev pub RunNeverStuck : Type 0
RunNeverStuck = (text args : List ℕ) (limit code work : ℕ) → (run_answer text args limit code work).number ≡ 11 → ⊥

-- `early_refuted`. The first statement is false of a rewriting that works waiting arguments out early (specs/Early.antt).
abbrev pub EarlyRefuted : Type 0
EarlyRefuted =
    ((text : List ℕ) (P : Program) (args : List ℕ) (limit v steps rewrites : ℕ) → check text ≡ fine P → fitting P args ≡ true
    → run_program P args limit ≡ ended HALT v steps rewrites
    → Reaches (early P) (entry_call (early P) args) rewrites v)
    → ⊥
