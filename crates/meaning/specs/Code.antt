-- Document 01, 'Code': addresses, entrances, what follows a term, the five instructions and their twelve words. Assumes nothing.
use Rattle.std.specs.Prelude.{◌≡◌, refl, List, [], ◌∷◌, ◌++◌, ℕ, zero, suc, ◌+◌, ◌-◌, length, get_or, take, replicate}
use Prim.Native.String.{String}
use Rattle.meaning.specs.Arithmetic.{number, Op, constant, add, sub, mul, div, rem, eq, lt, and, or, neg, op_number, op_constant}
use Rattle.meaning.specs.Numbers.{instruction_words}
use Rattle.meaning.specs.Terms.{Term, arg, op, cond, call, Terms, nil, cons, Program}
use Rattle.meaning.specs.Check.{check_text, found}

-- "Number all symbols in prefix order from 0": how many symbols a term has, and a row of terms.
unfoldable mutual
  pub size : Term → ℕ
  size (arg i) = 1
  size (op o ts) = suc (sizes ts)
  size (cond t x y) = suc (size t + (size x + size y))
  size (call f ss ws) = suc (sizes ss + sizes ws)

  pub sizes : Terms → ℕ
  sizes nil = 0
  sizes (cons t ts) = size t + sizes ts

-- How many terms a row has.
unfoldable pub count : Terms → ℕ
count nil = 0
count (cons t ts) = suc (count ts)

-- "The entrance of a term is its own address for an argument, a constant, or a call with strict count 0; else the entrance of its first argument."
-- Of a term at address a; of a row of terms from address a on, `home` where it is empty.
unfoldable mutual
  pub entrance : Term → ℕ → ℕ
  entrance (arg i) a = a
  entrance (op o ts) a = row_entrance ts (suc a) a
  entrance (cond t x y) a = entrance t (suc a)
  entrance (call f ss ws) a = row_entrance ss (suc a) a

  pub row_entrance : Terms → ℕ → ℕ → ℕ
  row_entrance nil a home = home
  row_entrance (cons t ts) a home = entrance t a

-- The entrance of each term of a row.
unfoldable pub entrances : Terms → ℕ → List ℕ
entrances nil a = []
entrances (cons t ts) a = entrance t a ∷ entrances ts (a + size t)

-- In code a constant has no sort.
unfoldable pub unsorted : Op → Op
unsorted (constant s v) = constant number v
unsorted add = add
unsorted sub = sub
unsorted mul = mul
unsorted div = div
unsorted rem = rem
unsorted eq = eq
unsorted lt = lt
unsorted and = and
unsorted or = or
unsorted neg = neg

-- EVAL argument next; EXEC operation next; SELECT yes no; CALL body strict waiting next; RET.
pub data Instruction : Type 0 where
  EVAL : ℕ → ℕ → Instruction
  EXEC : Op → ℕ → Instruction
  SELECT : ℕ → ℕ → Instruction
  CALL : ℕ → ℕ → List ℕ → ℕ → Instruction
  RET : Instruction

-- The instructions of a term at address a where b follows it; `bodies` are the entrances of the bodies, `ret` is the address of RET.
-- "What follows a term: the entrance of the next argument of an operation or of the next strict argument; after the last of these, the symbol
-- itself; after a condition, its `cond`; after either branch, what follows that `cond`; after a waiting argument, a body or the initial term, RET."
module _ (bodies : List ℕ) (ret : ℕ) where
  unfoldable mutual
    pub code : Term → ℕ → ℕ → List Instruction
    code (arg i) a b = EVAL i b ∷ []
    code (op o ts) a b = EXEC (unsorted o) b ∷ strict_code ts (suc a) a
    code (cond t x y) a b =
        SELECT (entrance x (suc a + size t)) (entrance y (suc a + size t + size x))
        ∷ code t (suc a) a ++ (code x (suc a + size t) b ++ code y (suc a + size t + size x) b)
    code (call f ss ws) a b =
        CALL (get_or bodies f 0) (count ss) (entrances ws (suc a + sizes ss)) b
        ∷ strict_code ss (suc a) a ++ waiting_code ws (suc a + sizes ss)

    -- of a row that is worked out from the left, before the symbol at `home`
    pub strict_code : Terms → ℕ → ℕ → List Instruction
    strict_code nil a home = []
    strict_code (cons t ts) a home = code t a (row_entrance ts (a + size t) home) ++ strict_code ts (a + size t) home

    pub waiting_code : Terms → ℕ → List Instruction
    waiting_code nil a = []
    waiting_code (cons t ts) a = code t a ret ++ waiting_code ts (a + size t)

  -- the bodies, the first at address a
  unfoldable pub bodies_code : Program → ℕ → List Instruction
  bodies_code [] a = []
  bodies_code (F ∷ P) a = code F.body a ret ++ bodies_code P (a + size F.body)

-- The entrance of each body, and how many symbols they have in all.
unfoldable pub body_entrances : Program → ℕ → List ℕ
body_entrances [] a = []
body_entrances (F ∷ P) a = entrance F.body a ∷ body_entrances P (a + size F.body)

unfoldable pub bodies_size : Program → ℕ
bodies_size [] = 0
bodies_size (F ∷ P) = size F.body + bodies_size P

-- "The initial term is the entry applied to its own arguments." `own n i` are n arguments from the i-th on.
unfoldable pub own : ℕ → ℕ → Terms
own zero i = nil
own (suc n) i = cons (arg i) (own n (suc i))

-- The initial term. (No text without functions is accepted: `arg 0` stands for none.)
unfoldable pub initial : Program → Term
initial [] = arg 0
initial (F ∷ P) = call 0 (own F.strict 0) (own (length F.sorts - F.strict) F.strict)

-- "the initial term first, then the bodies by line .. the last address is the one shared RET"
unfoldable pub ret_address : Program → ℕ
ret_address P = size (initial P) + bodies_size P

-- All instructions of a program, by address.
unfoldable pub translation : Program → List Instruction
translation P =
    let n = size (initial P) in
    let ret = ret_address P in
    let entries = body_entrances P n in
    code entries ret (initial P) 0 ret ++ (bodies_code entries ret P n ++ (RET ∷ []))

-- "An instruction is twelve words, unused ones 0: kind, next address, then .." EVAL's argument position is counted from 1.
unfoldable pub used_words : Instruction → List ℕ
used_words (EVAL i b) = 1 ∷ b ∷ suc i ∷ []
used_words (EXEC o b) = 2 ∷ b ∷ op_number o ∷ op_constant o ∷ []
used_words (SELECT x y) = 3 ∷ 0 ∷ x ∷ y ∷ []
used_words (CALL e k ws b) = 4 ∷ b ∷ e ∷ k ∷ ws
used_words RET = 5 ∷ 0 ∷ []

-- Twelve words, and the words of code.
unfoldable pub twelve : List ℕ → List ℕ
twelve ws = take instruction_words (ws ++ replicate instruction_words 0)

unfoldable pub code_words : List Instruction → List ℕ
code_words [] = []
code_words (i ∷ is) = twelve (used_words i) ++ code_words is

-- The instructions of a text, for the examples, with all that they compute by.
unfoldable pub translate_text : String → List Instruction
unfolding check_text found size count entrance entrances unsorted code bodies_code body_entrances bodies_size own initial ret_address translation
translate_text s = translation (found (check_text s))

-- "`ID 1 n n a` translates to four instructions, leading words `4 3 2 1`, `1 0 1`, `1 3 1`, `5 0`."
pub id_code : translate_text "ID\t1\tn\tn\ta\n" ≡ CALL 2 1 [] 3 ∷ EVAL 0 0 ∷ EVAL 0 3 ∷ RET ∷ []
unfolding translate_text
id_code = refl

pub id_words : code_words (translate_text "ID\t1\tn\tn\ta\n") ≡ twelve (4 ∷ 3 ∷ 2 ∷ 1 ∷ []) ++ twelve (1 ∷ 0 ∷ 1 ∷ []) ++ twelve (1 ∷ 3 ∷ 1 ∷ []) ++ twelve (5 ∷ 0 ∷ [])
unfolding translate_text code_words used_words twelve
id_words = refl
