-- Second: what stands between rewriting and the machine. A tree says that a term gives a value in a chain of frames, one constructor for each way
-- there; a fall says that it meets a division by 0. Their cost is how many rewrites that takes. Assumes nothing.
use mathlib.Core.Path.{◌≡◌, refl, ap}
use mathlib.Core.Option.{some}
use mathlib.Core.List.{List, [], ◌∷◌}
use Prim.Native.Nat.{ℕ, suc, ◌+◌}
use lib.ListN.{length, get_elem?}
use Rattle.meaning.specs.Arithmetic.{Op, gives, by_zero, apply}
use Rattle.meaning.specs.Terms.{Term, arg, op, cond, call, Terms, nil, cons, Function, Program}
use Rattle.meaning.specs.Code.{count}

-- An argument in a frame: a value, or a term that waits.
pub data Argument : Type 0 where
  given : ℕ → Argument
  waits : Term → Argument

-- The chain of frames that a term stands in; the entry's arguments are all values.
pub data Chain : Type 0 where
  bottom : List ℕ → Chain
  push : List Argument → Chain → Chain

-- The frame of a call: the values of its strict arguments, then the terms that wait.
unfoldable pub all_wait : Terms → List Argument
all_wait nil = []
all_wait (cons t ts) = waits t ∷ all_wait ts

unfoldable pub call_frame : List ℕ → Terms → List Argument
call_frame [] ws = all_wait ws
call_frame (v ∷ vs) ws = given v ∷ call_frame vs ws

module _ (P : Program) where
  mutual
    -- Term t gives the value v in the chain e.
    pub data Tree : Chain → Term → ℕ → Type 0 where
      entry_argument : {vs : List ℕ} {i v : ℕ} → get_elem? vs i ≡ some v → Tree (bottom vs) (arg i) v
      value_argument : {f : List Argument} {e : Chain} {i v : ℕ} → get_elem? f i ≡ some (given v) → Tree (push f e) (arg i) v
      waiting_argument : {f : List Argument} {e : Chain} {i v : ℕ} {t : Term} → get_elem? f i ≡ some (waits t) → Tree e t v → Tree (push f e) (arg i) v
      operation : {e : Chain} {o : Op} {ts : Terms} {vs : List ℕ} {v : ℕ} → Row e ts vs → apply o vs ≡ gives v → Tree e (op o ts) v
      yes_branch : {e : Chain} {t x y : Term} {v : ℕ} → Tree e t 1 → Tree e x v → Tree e (cond t x y) v
      no_branch : {e : Chain} {t x y : Term} {v : ℕ} → Tree e t 0 → Tree e y v → Tree e (cond t x y) v
      body : {e : Chain} {f : ℕ} {F : Function} {ss ws : Terms} {vs : List ℕ} {v : ℕ} → Row e ss vs → get_elem? P f ≡ some F → Tree (push (call_frame vs ws) e) F.body v → Tree e (call f ss ws) v

    -- A row of terms gives a row of values, from the left.
    pub data Row : Chain → Terms → List ℕ → Type 0 where
      done : {e : Chain} → Row e nil []
      then : {e : Chain} {t : Term} {ts : Terms} {v : ℕ} {vs : List ℕ} → Tree e t v → Row e ts vs → Row e (cons t ts) (v ∷ vs)

  mutual
    -- Term t meets a division by 0 in the chain e.
    pub data Fall : Chain → Term → Type 0 where
      in_waiting : {f : List Argument} {e : Chain} {i : ℕ} {t : Term} → get_elem? f i ≡ some (waits t) → Fall e t → Fall (push f e) (arg i)
      in_operand : {e : Chain} {o : Op} {ts : Terms} → RowFall e ts → Fall e (op o ts)
      divides : {e : Chain} {o : Op} {ts : Terms} {vs : List ℕ} → Row e ts vs → apply o vs ≡ by_zero → Fall e (op o ts)
      in_condition : {e : Chain} {t x y : Term} → Fall e t → Fall e (cond t x y)
      in_yes_branch : {e : Chain} {t x y : Term} → Tree e t 1 → Fall e x → Fall e (cond t x y)
      in_no_branch : {e : Chain} {t x y : Term} → Tree e t 0 → Fall e y → Fall e (cond t x y)
      in_strict : {e : Chain} {f : ℕ} {ss ws : Terms} → RowFall e ss → Fall e (call f ss ws)
      in_body : {e : Chain} {f : ℕ} {F : Function} {ss ws : Terms} {vs : List ℕ} → Row e ss vs → get_elem? P f ≡ some F
          → Fall (push (call_frame vs ws) e) F.body → Fall e (call f ss ws)

    -- A row of terms meets one, in its first term or after it.
    pub data RowFall : Chain → Terms → Type 0 where
      at_first : {e : Chain} {t : Term} {ts : Terms} → Fall e t → RowFall e (cons t ts)
      at_later : {e : Chain} {t : Term} {ts : Terms} {v : ℕ} → Tree e t v → RowFall e ts → RowFall e (cons t ts)

pub row_length : {P : Program} {e : Chain} {ts : Terms} {vs : List ℕ} → Row P e ts vs → length vs ≡ count ts
unfolding count
row_length done = refl
row_length (then d ds) = ap suc (row_length ds)

module _ {P : Program} where
  -- The rewrites of a tree, and of a row.
  unfoldable mutual
    pub cost : {e : Chain} {t : Term} {v : ℕ} → Tree P e t v → ℕ
    cost (entry_argument h) = 0
    cost (value_argument h) = 0
    cost (waiting_argument h d) = cost d
    cost (operation ds h) = suc (row_cost ds)
    cost (yes_branch d d') = suc (cost d + cost d')
    cost (no_branch d d') = suc (cost d + cost d')
    cost (body ds h d) = suc (row_cost ds + cost d)

    pub row_cost : {e : Chain} {ts : Terms} {vs : List ℕ} → Row P e ts vs → ℕ
    row_cost done = 0
    row_cost (then d ds) = cost d + row_cost ds

  -- The rewrites before a division by 0.
  unfoldable mutual
    pub fall_cost : {e : Chain} {t : Term} → Fall P e t → ℕ
    fall_cost (in_waiting h d) = fall_cost d
    fall_cost (in_operand ds) = row_fall_cost ds
    fall_cost (divides ds h) = row_cost ds
    fall_cost (in_condition d) = fall_cost d
    fall_cost (in_yes_branch d d') = suc (cost d + fall_cost d')
    fall_cost (in_no_branch d d') = suc (cost d + fall_cost d')
    fall_cost (in_strict ds) = row_fall_cost ds
    fall_cost (in_body ds h d) = suc (row_cost ds + fall_cost d)

    pub row_fall_cost : {e : Chain} {ts : Terms} → RowFall P e ts → ℕ
    row_fall_cost (at_first d) = fall_cost d
    row_fall_cost (at_later d ds) = cost d + row_fall_cost ds
