-- What a program is like that Check accepts: how many functions, arguments and symbols it has, how deep its bodies are, and that every symbol has
-- the arguments that it takes. Sorts are left out. Assumes nothing.
use Rattle.std.specs.Prelude.{◌≡◌, List, [], ◌∷◌, ℕ, suc, ◌+◌, ◌≤◌, ◌<◌, max, length}
use Rattle.std.proofs.Math.Option.{some}
use Rattle.std.proofs.Math.ListN.{get_elem?}
use Rattle.meaning.specs.Arithmetic.{domain}
use Rattle.meaning.specs.Numbers.{most_functions, most_symbols, most_depth, most_arguments}
use Rattle.meaning.specs.Terms.{Term, arg, op, cond, call, Terms, nil, cons, Function, Program}
use Rattle.meaning.specs.Code.{count, bodies_size}

-- "to a depth of 32, the body's first symbol being at depth 1": the depth of a term's deepest symbol, and of a row of terms.
unfoldable mutual
  pub depth : Term → ℕ
  depth (arg i) = 1
  depth (op o ts) = suc (depths ts)
  depth (cond t x y) = suc (max (depth t) (max (depth x) (depth y)))
  depth (call f ss ws) = suc (max (depths ss) (depths ws))

  pub depths : Terms → ℕ
  depths nil = 0
  depths (cons t ts) = max (depth t) (depths ts)

-- In a body of n arguments each symbol has the arguments that it takes; `Calls f s w` is what is asked of a call of f with s strict and w waiting ones.
module _ (Calls : ℕ → ℕ → ℕ → Type 0) (n : ℕ) where
  unfoldable mutual
    pub Shaped : Term → Type 0
    Shaped (arg i) = i < n
    Shaped (op o ts) = (count ts ≡ length (domain o)) × AllShaped ts
    Shaped (cond t x y) = Shaped t × Shaped x × Shaped y
    Shaped (call f ss ws) = Calls f (count ss) (count ws) × AllShaped ss × AllShaped ws

    pub AllShaped : Terms → Type 0
    AllShaped nil = Unit {0}
    AllShaped (cons t ts) = Shaped t × AllShaped ts

-- There is a function f, and it takes s strict and w waiting arguments.
pub record Called (P : Program) (f s w : ℕ) : Type 0 where
  pub function : Function
  pub there : get_elem? P f ≡ some function
  pub strict : s ≡ function.strict
  pub all : s + w ≡ length function.sorts

-- One function of the program P.
pub record Sound (P : Program) (F : Function) : Type 0 where
  pub some_argument : 1 ≤ length F.sorts
  pub few_arguments : length F.sorts ≤ most_arguments
  pub few_strict : F.strict ≤ length F.sorts
  pub not_deep : depth F.body ≤ most_depth
  pub shaped : Shaped (Called P) (length F.sorts) F.body

unfoldable pub Every : {A : Type 0} → (A → Type 0) → List A → Type 0
Every Q [] = Unit {0}
Every Q (x ∷ xs) = Q x × Every Q xs

-- proofs/Accepted.antt: `accepted : (text : List ℕ) (P : Program) → check text ≡ fine P → Accepted P`.
pub record Accepted (P : Program) : Type 0 where
  pub some_function : 1 ≤ length P
  pub few_functions : length P ≤ most_functions
  pub few_symbols : bodies_size P ≤ most_symbols
  pub sound : Every (Sound P) P
