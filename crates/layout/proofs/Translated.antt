-- Decoding the words of instructions gives the instructions, so a run over the code words of a program is its run. Assumes nothing.
use Rattle.std.specs.Prelude.{if◌then◌else◌}
use mathlib.Core.Path.{◌≡◌, refl, ap, ◌∙◌, fun_ext}
use mathlib.Core.Bool.{Bool, true, false}
use mathlib.Core.Option.{Option, none, some}
use mathlib.Core.List.{List, [], ◌∷◌, ◌++◌}
use Prim.Native.Nat.{ℕ, zero, suc, ◌+◌, ◌*◌, ◌-◌, ◌≤◌, ◌<◌}
use native.Mathlib.Omega.{arith}
use lib.Dec.{ltb, eqb}
use lib.ListN.{length, get_or, take, replicate, get_elem?, length-append}
use lib.Seq.{get_or-append-add}
use borrow.Author.Tests.{ne_eqb, lt-ltb, le-ltb, ltb-true, ltb-false}
use Rattle.meaning.specs.Arithmetic.{Op, constant, add, sub, mul, div, rem, eq, lt, and, or, neg, op_number, op_constant}
use Rattle.meaning.specs.Numbers.{instruction_words, most_arguments}
use Rattle.meaning.specs.Terms.{Program}
use Rattle.meaning.specs.Code.{Instruction, EVAL, EXEC, SELECT, CALL, RET, unsorted, used_words, twelve, code_words, code, count, own, initial, entrance, row_entrance, translation}
use Rattle.meaning.specs.Machine.{State, run, start, run_program}
use Rattle.accepted.specs.Accepted.{Every, Accepted}
use Rattle.accepted.specs.Readable.{Readable}
use Rattle.accepted.proofs.Length.{twelve_long}
use Rattle.accepted.proofs.Readable.{readable}
use Rattle.layout.specs.Decoding.{row, leading, operation, an_eval, an_exec, a_call, of_kind, decode, first_entrance}
use Rattle.layout.proofs.Rows.{row_behind, leading_cons}
use Rattle.layout.proofs.Reading.{of_kind_same}

-- the entrances up to the first 0 are those that were written
entrances_back : (n m z : ℕ) (ws rest : List ℕ) → length ws ≤ m → m ≤ n → n ≤ z → Every (λ w. 1 ≤ w) ws → leading (row (take n (ws ++ replicate z 0) ++ rest) 0 m) ≡ ws
unfolding leading row Every
entrances_back n zero z [] rest l k j s = refl
entrances_back zero (suc m) z [] rest l k j s = absurd (omega arith)
entrances_back (suc n) (suc m) zero [] rest l k j s = absurd (omega arith)
entrances_back (suc n) (suc m) (suc z) [] rest l k j s = refl
entrances_back n zero z (w ∷ ws) rest l k j s = absurd (omega arith)
entrances_back zero (suc m) z (w ∷ ws) rest l k j s = absurd (omega arith)
entrances_back (suc n) (suc m) z (w ∷ ws) rest l k j s =
    leading_cons w (row (w ∷ (take n (ws ++ replicate z 0) ++ rest)) 1 m) (λ e. omega (arith, s.0))
    ∙ ap (λ (l : List ℕ). w ∷ l) (ap leading (row_behind w (take n (ws ++ replicate z 0) ++ rest) 0 m) ∙ entrances_back n m z ws rest (omega arith) (omega arith) (omega arith) s.1)

operation_back : (o : Op) → operation (op_number o) (op_constant o) ≡ some (unsorted o)
unfolding operation op_number op_constant unsorted
operation_back (constant s v) = refl
operation_back add = refl
operation_back sub = refl
operation_back mul = refl
operation_back div = refl
operation_back rem = refl
operation_back eq = refl
operation_back lt = refl
operation_back and = refl
operation_back or = refl
operation_back neg = refl

here : (i : Instruction) (rest : List ℕ) → Readable i → of_kind (get_or (twelve (used_words i) ++ rest) 0 0) (twelve (used_words i) ++ rest) 0 ≡ some i
unfolding of_kind twelve used_words an_eval an_exec a_call Readable
here (EVAL i b) rest s = refl
here (EXEC o b) rest s = rw (operation_back o, s)
here (SELECT x y) rest s = refl
here (CALL a k ws b) rest s =
    let tail : List ℕ = take most_arguments (ws ++ replicate instruction_words 0) ++ rest in
    let e : leading (row (4 ∷ b ∷ a ∷ k ∷ tail) 4 (most_arguments - k)) ≡ ws =
    ap leading (row_behind 4 (b ∷ a ∷ k ∷ tail) 3 (most_arguments - k) ∙ row_behind b (a ∷ k ∷ tail) 2 (most_arguments - k) ∙ row_behind a (k ∷ tail) 1 (most_arguments - k) ∙ row_behind k tail 0 (most_arguments - k))
    ∙ entrances_back most_arguments (most_arguments - k) instruction_words ws rest (omega (arith, s.0)) (omega arith) (omega arith) s.1 in
    rw (le-ltb most_arguments k (omega (arith, s.0)), e)
here RET rest s = refl

behind_by : (xs c : List ℕ) (a : ℕ) (b : Bool) → length xs ≡ instruction_words → ltb (length c) (instruction_words * a + instruction_words) ≡ b → decode (xs ++ c) (suc a) ≡ decode c a
unfolding decode
behind_by xs c a true l e =
    let h : length c < instruction_words * a + instruction_words = ltb-true (length c) (instruction_words * a + instruction_words) e in
    let g : length (xs ++ c) < instruction_words * suc a + instruction_words = omega (arith, length-append xs c) in
    rw (e, lt-ltb (length (xs ++ c)) (instruction_words * suc a + instruction_words) g)
behind_by xs c a false l e =
    let h : instruction_words * a + instruction_words ≤ length c = ltb-false (length c) (instruction_words * a + instruction_words) e in
    let g : instruction_words * suc a + instruction_words ≤ length (xs ++ c) = omega (arith, length-append xs c) in
    rw (e, le-ltb (length (xs ++ c)) (instruction_words * suc a + instruction_words) g) (of_kind_same c (xs ++ c) (instruction_words * a) (instruction_words * suc a) (λ j h. word j))
  where
    word : (j : ℕ) → get_or (xs ++ c) (instruction_words * suc a + j) 0 ≡ get_or c (instruction_words * a + j) 0
    word j =
        let p : instruction_words * suc a + j ≡ length xs + (instruction_words * a + j) = omega arith in
        ap (λ (n : ℕ). get_or (xs ++ c) n 0) p ∙ get_or-append-add xs c (instruction_words * a + j) 0

nothing : (a : ℕ) → decode [] a ≡ none
unfolding decode
nothing a = rw (lt-ltb 0 (instruction_words * a + instruction_words) (omega arith))

first_here : (i : Instruction) (rest : List ℕ) → Readable i → decode (twelve (used_words i) ++ rest) 0 ≡ some i
unfolding decode
first_here i rest s =
    let g : instruction_words * 0 + instruction_words ≤ length (twelve (used_words i) ++ rest) = omega (arith, length-append (twelve (used_words i)) rest, twelve_long (used_words i)) in
    rw (le-ltb (length (twelve (used_words i) ++ rest)) (instruction_words * 0 + instruction_words) g) (here i rest s)

-- The code words of instructions decode to them, at every address.
pub decode_code : (is : List Instruction) → Every Readable is → (a : ℕ) → decode (code_words is) a ≡ get_elem? is a
unfolding code_words Every
decode_code [] s a = nothing a
decode_code (i ∷ is) s zero = first_here i (code_words is) s.0
decode_code (i ∷ is) s (suc a) =
    behind_by (twelve (used_words i)) (code_words is) a (ltb (length (code_words is)) (instruction_words * a + instruction_words)) (twelve_long (used_words i)) refl ∙ decode_code is s.1 a

-- So a run over the words is the run over the instructions ..
pub run_code : (is : List Instruction) → Every Readable is → (left : ℕ) (s : State) (n r : ℕ) → run (decode (code_words is)) left s n r ≡ run (get_elem? is) left s n r
run_code is c left s n r = ap (λ (f : ℕ → Option Instruction). run f left s n r) (fun_ext (decode_code is c))

-- .. it begins where the initial term is entered ..
entered_first : (n : ℕ) → if eqb (count (own n 0)) 0 then 0 else 1 ≡ row_entrance (own n 0) 1 0
unfolding count own entrance
entered_first zero = refl
entered_first (suc n) = rw (ne_eqb (suc (count (own n 1))) 0 (λ q. omega arith))

pub first_of_code : (P : Program) → first_entrance (code_words (translation P)) ≡ entrance (initial P) 0
unfolding first_entrance code_words translation initial code used_words twelve entrance
first_of_code [] = refl
first_of_code (F ∷ P) = entered_first F.strict

-- .. and for an accepted program it is the program's run.
pub run_translated : (P : Program) → Accepted P → (vs : List ℕ) (limit : ℕ)
    → run (decode (code_words (translation P))) limit (start (first_entrance (code_words (translation P))) vs) 0 0 ≡ run_program P vs limit
unfolding run_program
run_translated P ok vs limit =
    run_code (translation P) (readable P ok) limit (start (first_entrance (code_words (translation P))) vs) 0 0
    ∙ ap (λ (a : ℕ). run (get_elem? (translation P)) limit (start a vs) 0 0) (first_of_code P)
