-- How long the code is: one instruction a symbol, twelve words an instruction. Assumes nothing.
use mathlib.Core.Path.{◌≡◌, refl, ap, ◌∙◌}
use mathlib.Core.List.{List, [], ◌∷◌}
use Prim.Native.Nat.{ℕ, suc, ◌+◌, ◌*◌, ◌≤◌}
use native.Mathlib.Omega.{arith}
use lib.ListN.{length, take, drop, length-append, length-take, length-replicate}
use lib.Seq.{take_at}
use Rattle.meaning.specs.Basics.{written_over}
use Rattle.meaning.specs.Numbers.{instruction_words}
use Rattle.meaning.specs.Terms.{Term, arg, op, cond, call, Terms, nil, cons, Program}
use Rattle.meaning.specs.Code.{size, sizes, row_entrance, code, strict_code, waiting_code, bodies_code, body_entrances, bodies_size, initial, ret_address, translation, Instruction, used_words, twelve, code_words}
use Rattle.accepted.proofs.Initial.{initial_size}
use Rattle.accepted.specs.Accepted.{Every, Accepted}

module _ (B : List ℕ) (ret : ℕ) where
  mutual
    unfolding code size

    pub length_code : (t : Term) (a b : ℕ) → length (code B ret t a b) ≡ size t
    length_code (arg i) a b = refl
    length_code (op o ts) a b = ap suc (length_strict ts (suc a) a)
    length_code (cond t x y) a b =
        simp length-append (omega (arith, length_code t (suc a) a, length_code x (suc a + size t) b, length_code y (suc a + size t + size x) b))
    length_code (call f ss ws) a b = simp length-append (omega (arith, length_strict ss (suc a) a, length_waiting ws (suc a + sizes ss)))

    pub length_strict : (ts : Terms) (a home : ℕ) → length (strict_code B ret ts a home) ≡ sizes ts
    length_strict nil a home = refl
    length_strict (cons t ts) a home =
        simp length-append (omega (arith, length_code t a (row_entrance ts (a + size t) home), length_strict ts (a + size t) home))

    pub length_waiting : (ts : Terms) (a : ℕ) → length (waiting_code B ret ts a) ≡ sizes ts
    length_waiting nil a = refl
    length_waiting (cons t ts) a = simp length-append (omega (arith, length_code t a ret, length_waiting ts (a + size t)))

  length_bodies : (P : Program) (a : ℕ) → length (bodies_code B ret P a) ≡ bodies_size P
  unfolding bodies_code bodies_size
  length_bodies [] a = refl
  length_bodies (F ∷ P) a = simp length-append (omega (arith, length_code F.body a ret, length_bodies P (a + size F.body)))

pub translation_length : (P : Program) → length (translation P) ≡ ret_address P + 1
unfolding translation ret_address
translation_length P =
    let n = size (initial P) in
    let ret = ret_address P in
    let B = body_entrances P n in
    simp length-append (omega (arith, length_code B ret (initial P) 0 ret, length_bodies B ret P n))

-- "The largest code is 1,034 instructions": 9 symbols of the initial term, 1,024 of the bodies, and RET.
pub translation_few : (P : Program) → Accepted P → length (translation P) ≤ 1034
unfolding ret_address Every
translation_few [] h = absurd (omega (arith, h.some_function))
translation_few (F ∷ P) h =
    let s = h.sound.0 in
    omega (arith, translation_length (F ∷ P), initial_size F P s.few_strict, s.few_arguments, h.few_symbols)

-- Twelve words an instruction.
pub twelve_long : (ws : List ℕ) → length (twelve ws) ≡ instruction_words
unfolding twelve
twelve_long ws = simp (length-take, length-append, length-replicate) (omega arith)

pub words_long : (is : List Instruction) → length (code_words is) ≡ instruction_words * length is
unfolding code_words
words_long [] = refl
words_long (i ∷ is) = length-append (twelve (used_words i)) (code_words is) ∙ omega (arith, twelve_long (used_words i), words_long is)

-- Code words at the beginning of a longer slice: as many as the instructions need are theirs.
pub words_of_written : (is : List Instruction) (code : List ℕ) → take (instruction_words * length is) (written_over (code_words is) code) ≡ code_words is
unfolding written_over
words_of_written is code = take_at (code_words is) (drop (length (code_words is)) code) (instruction_words * length is) (words_long is)
