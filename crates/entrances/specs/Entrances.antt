-- What the functions of src/ promise of whatever term the table of symbols holds. Assumes nothing.
use Rattle.std.specs.Prelude.{◌≡◌, List, ◌++◌, ℕ, suc, ◌+◌, ◌≤◌, length, take, drop}
use Rattle.meaning.specs.Numbers.{most_arguments, most_symbols}
use Rattle.meaning.specs.Terms.{Term, Terms}
use Rattle.meaning.specs.Code.{sizes, count, entrance, entrances}
use Rattle.table.specs.Table.{term_symbols, row_symbols, term_ends, row_ends, Begins}
use Rattle.table.specs.declared.Signature.{Signature}
use Rattle.table.specs.declared.Symbol.{Symbol}
use Rattle.accepted.specs.Accepted.{depth, depths, Shaped, AllShaped}
use Rattle.entrances.specs.View.{joined, strict_at, follower_of}

-- The most symbols of a table: those of the initial term and of the bodies.
abbrev pub most_words : ℕ
most_words = 1 + most_arguments + most_symbols

-- xs with ys in place of what stands from k on.
abbrev pub written_at : ℕ → List ℕ → List ℕ → List ℕ
written_at k ys xs = take k xs ++ (ys ++ drop (length ys) (drop k xs))

-- The signatures H tell of a call of f that s of its arguments are strict; w wait, which fit into an instruction.
pub record Told (H : List Signature) (f s w : ℕ) : Type 0 where
  pub strict : strict_at H f ≡ s
  pub few : w ≤ most_arguments

-- The symbols W and ends E hold the term t at address a; its symbols are as the signatures H tell, and stand at most d deep. And a row of terms.
pub record TermAt (H : List Signature) (W : List Symbol) (E : List ℕ) (a d : ℕ) (t : Term) : Type 0 where
  pub symbols : Begins (drop a W) (term_symbols t)
  pub ends : Begins (drop a E) (term_ends t a)
  pub shaped : Shaped (Told H) most_arguments t
  pub deep : depth t ≤ d

pub record RowAt (H : List Signature) (W : List Symbol) (E : List ℕ) (a d : ℕ) (ts : Terms) : Type 0 where
  pub symbols : Begins (drop a W) (row_symbols ts)
  pub ends : Begins (drop a E) (row_ends ts a)
  pub shaped : AllShaped (Told H) most_arguments ts
  pub deep : depths ts ≤ d

unfoldable pub Entrance : List Signature → List Symbol → ℕ → ℕ → ℕ → Type 0
Entrance H W a d r = (E : List ℕ) (t : Term) → TermAt H W E a d t → r ≡ entrance t a

unfoldable pub Follower : List Signature → List Symbol → ℕ → ℕ → ℕ → ℕ → ℕ → ℕ → Type 0
Follower H W k a home others d r = (E : List ℕ) (ts : Terms) → RowAt H W E a d ts → k ≤ suc (count ts) → r ≡ follower_of k ts a home others

-- The place past the first k terms of a row.
unfoldable pub Passed : List ℕ → ℕ → ℕ → ℕ → Type 0
Passed E a k r = (H : List Signature) (W : List Symbol) (d : ℕ) (ss ws : Terms) → RowAt H W E a d (joined ss ws) → k ≡ count ss → r ≡ a + sizes ss

-- The entrances of a row that ends at `end`, written into c from i on.
unfoldable pub Entrances : List Signature → List Symbol → List ℕ → ℕ → ℕ → ℕ → ℕ → List ℕ → List ℕ → Type 0
Entrances H W E a end d i c c' = (ts : Terms) → RowAt H W E a d ts → end ≡ a + sizes ts → i + count ts ≤ length c → c' ≡ written_at i (entrances ts a) c
