-- What the functions of src/ promise of whatever term the table of symbols holds. Assumes nothing.
use Rattle.std.specs.Prelude.{◌≡◌, List, [], ◌∷◌, ℕ, ◌+◌, ◌*◌, ◌≤◌, length}
use Rattle.meaning.specs.Basics.{written_over}
use Rattle.meaning.specs.Numbers.{instruction_words, most_arguments}
use Rattle.meaning.specs.Terms.{Term, Terms, nil, cons, Program}
use Rattle.meaning.specs.Code.{size, sizes, count, entrance, entrances, Instruction, SELECT, CALL, code, translation, used_words, twelve, code_words}
use Rattle.table.specs.Table.{table_symbols, table_ends, signatures, Begins, Holds}
use Rattle.table.specs.declared.Signature.{Signature}
use Rattle.table.specs.declared.Symbol.{Symbol}
use Rattle.table.specs.declared.Symbol.TheVariants.{Unknown, Argument, Constant, Operation, Not, Cond, Function}
use Rattle.accepted.specs.Accepted.{Accepted}
use Rattle.entrances.specs.View.{joined, instruction_of, row_code}
use Rattle.entrances.specs.Entrances.{written_at, TermAt, RowAt}

abbrev pub words_of : Instruction → List ℕ
words_of i = twelve (used_words i)

-- The words of EXEC of the operation with the number k, or of the constant v where k is 0, b being what follows.
abbrev pub executed : ℕ → ℕ → ℕ → List ℕ
executed k v b = twelve (2 ∷ b ∷ k ∷ v ∷ [])

-- What follows the arguments that are not worked out before the symbol: RET what waits, what follows the term after a branch.
unfoldable pub others_of : Symbol → ℕ → ℕ → ℕ
others_of Unknown b ret = b
others_of (Argument i) b ret = b
others_of (Constant s v) b ret = b
others_of (Operation o) b ret = b
others_of Not b ret = b
others_of Cond b ret = b
others_of (Function f) b ret = ret

-- The words r of SELECT, whose condition stands at a.
unfoldable pub Selects : List Signature → List Symbol → List ℕ → ℕ → ℕ → List ℕ → Type 0
Selects H W E a d r =
    (t x y : Term) → RowAt H W E a d (cons t (cons x (cons y nil))) → r ≡ words_of (SELECT (entrance x (a + size t)) (entrance y (a + size t + size x)))

-- The words r of CALL of a body that is entered at e, with k strict arguments, what it is given standing from a to `end`, b being what follows.
unfoldable pub Calls : List Signature → List Symbol → List ℕ → ℕ → ℕ → ℕ → ℕ → ℕ → ℕ → List ℕ → Type 0
Calls H W E e k a end b d r =
    (ss ws : Terms) → RowAt H W E a d (joined ss ws) → k ≡ count ss → count ws ≤ most_arguments → end ≡ a + (sizes ss + sizes ws) →
    r ≡ words_of (CALL e (count ss) (entrances ws (a + sizes ss)) b)

-- The code c becomes c': the words of the one instruction of the symbol at a, b being what follows its term.
unfoldable pub Stored : List Signature → List ℕ → List Symbol → List ℕ → ℕ → ℕ → ℕ → List ℕ → List ℕ → Type 0
Stored H B W E a b d c c' = (t : Term) → TermAt H W E a d t → c' ≡ written_at (instruction_words * a) (words_of (instruction_of B t a b)) c

-- The code c becomes c': the words of the term at a, b being what follows it. RET stands past all symbols.
unfoldable pub Emitted : List Signature → List ℕ → List Symbol → List ℕ → ℕ → ℕ → ℕ → List ℕ → List ℕ → Type 0
Emitted H B W E a b d c c' = (t : Term) → TermAt H W E a d t → c' ≡ written_at (instruction_words * a) (code_words (code B (length W) t a b)) c

-- The same for a row from a to `end`, k of which are worked out before the symbol at `home`.
unfoldable pub EmittedRow : List Signature → List ℕ → List Symbol → List ℕ → ℕ → ℕ → ℕ → ℕ → ℕ → ℕ → List ℕ → List ℕ → Type 0
EmittedRow H B W E a end k home others d c c' =
    (ts : Terms) → RowAt H W E a d ts → end ≡ a + sizes ts → k ≤ count ts →
    c' ≡ written_at (instruction_words * a) (code_words (row_code B (length W) k ts a home others)) c

-- The same for all symbols of a program, the symbols W being no more than those.
unfoldable pub EmittedAll : List Signature → List Symbol → List ℕ → List ℕ → List ℕ → Type 0
EmittedAll H W E c c' =
    (P : Program) → Accepted P → W ≡ table_symbols P → Begins E (table_ends P) → Begins H (signatures P) →
    c' ≡ written_over (code_words (translation P)) c

-- The same for the slices of a table, which may be longer; the addresses of the bodies are not needed.
unfoldable pub Translated : List Symbol → List ℕ → List Signature → ℕ → List ℕ → List ℕ → Type 0
Translated symbols ends heads instructions c c' =
    (P : Program) (bodies : List ℕ) → Accepted P → Holds P symbols ends heads bodies → instructions ≡ length (translation P) →
    instruction_words * instructions ≤ length c → c' ≡ written_over (code_words (translation P)) c
