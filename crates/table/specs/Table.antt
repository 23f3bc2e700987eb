-- The table of an accepted text: its symbols in prefix order, those of the initial term first, then those of the bodies by line, as addresses count them.
-- For each symbol: what it is, and where the term that begins with it ends. For each function: its signature and the address of its body. Between
-- Check's core, which fills the table, and Translate's, which reads it. Assumes nothing.
use Rattle.std.specs.Prelude.{◌≡◌, List, [], ◌∷◌, ◌++◌, map, ℕ, suc, ◌+◌}
use Rattle.meaning.specs.Terms.{Term, arg, op, cond, call, Terms, nil, cons, Program}
use Rattle.meaning.specs.Code.{size, sizes, initial}
use Rattle.table.specs.Symbols.{op_symbol, signature}
use Rattle.table.specs.declared.Signature.{Signature}
use Rattle.table.specs.declared.Symbol.{Symbol}
use Rattle.table.specs.declared.Symbol.TheVariants.{Argument, Cond, Function}

-- The symbols of a term, and of a row of terms.
unfoldable mutual
  pub term_symbols : Term → List Symbol
  term_symbols (arg i) = Argument i ∷ []
  term_symbols (op o ts) = op_symbol o ∷ row_symbols ts
  term_symbols (cond t x y) = Cond ∷ term_symbols t ++ (term_symbols x ++ term_symbols y)
  term_symbols (call f ss ws) = Function f ∷ row_symbols ss ++ row_symbols ws

  pub row_symbols : Terms → List Symbol
  row_symbols nil = []
  row_symbols (cons t ts) = term_symbols t ++ row_symbols ts

-- Where each term of theirs ends, the first standing at address a.
unfoldable mutual
  pub term_ends : Term → ℕ → List ℕ
  term_ends (arg i) a = suc a ∷ []
  term_ends (op o ts) a = (suc a + sizes ts) ∷ row_ends ts (suc a)
  term_ends (cond t x y) a =
      (suc a + (size t + (size x + size y)))
      ∷ term_ends t (suc a) ++ (term_ends x (suc a + size t) ++ term_ends y (suc a + size t + size x))
  term_ends (call f ss ws) a = (suc a + (sizes ss + sizes ws)) ∷ row_ends ss (suc a) ++ row_ends ws (suc a + sizes ss)

  pub row_ends : Terms → ℕ → List ℕ
  row_ends nil a = []
  row_ends (cons t ts) a = term_ends t a ++ row_ends ts (a + size t)

-- The whole table of a program.
unfoldable pub bodies_symbols : Program → List Symbol
bodies_symbols [] = []
bodies_symbols (F ∷ P) = term_symbols F.body ++ bodies_symbols P

unfoldable pub table_symbols : Program → List Symbol
table_symbols P = term_symbols (initial P) ++ bodies_symbols P

unfoldable pub bodies_ends : Program → ℕ → List ℕ
bodies_ends [] a = []
bodies_ends (F ∷ P) a = term_ends F.body a ++ bodies_ends P (a + size F.body)

unfoldable pub table_ends : Program → List ℕ
table_ends P = term_ends (initial P) 0 ++ bodies_ends P (size (initial P))

unfoldable pub signatures : Program → List Signature
signatures P = map (λ F. signature F.sorts F.strict F.result) P

unfoldable pub addresses_from : ℕ → Program → List ℕ
addresses_from a [] = []
addresses_from a (F ∷ P) = a ∷ addresses_from (a + size F.body) P

unfoldable pub addresses : Program → List ℕ
addresses P = addresses_from (size (initial P)) P

-- A slice that begins with a list.
pub record Begins {A : Type 0} (xs ys : List A) : Type 0 where
  pub rest : List A
  pub whole : xs ≡ ys ++ rest

-- The four slices hold the table of a program.
pub record Holds (P : Program) (symbols : List Symbol) (ends : List ℕ) (heads : List Signature) (bodies : List ℕ) : Type 0 where
  pub symbols_held : Begins symbols (table_symbols P)
  pub ends_held : Begins ends (table_ends P)
  pub heads_held : Begins heads (signatures P)
  pub bodies_held : Begins bodies (addresses P)
