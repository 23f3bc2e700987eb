-- Terms over the table's symbols: what a symbol takes, and what reading a term answers and leaves in the table of ends. Assumes nothing.
use Rattle.std.specs.Prelude.{◌≡◌, List, map, ℕ, ◌+◌, ◌-◌, ◌*◌, ◌≤◌, leb, eqb, length, get_or, slice_get, drop, if◌then◌else◌, Option, Some, None, Result, Ok, Err}
use Rattle.meaning.specs.Numbers.{most_arguments, most_depth}
use Rattle.meaning.specs.Arithmetic as arithmetic
use Rattle.meaning.specs.Text.{Line}
use Rattle.meaning.specs.Terms as means
use Rattle.meaning.specs.Terms.{Term, Terms, Read, got, fault, read_term, read_row, nothing_after}
use Rattle.meaning.specs.Code.{size, sizes}
use Rattle.word.specs.declared.Operation as word
use Rattle.word.specs.declared.Operation.TheVariants.{Plus, Minus, Times, Divided, LeftOver, Same, Below, And, Or}
use Rattle.table.specs.Symbols.{sort_in, sort_word, mask, sorts_in, sort_at, symbol_in}
use Rattle.table.specs.Table.{term_ends, row_ends}
use Rattle.table.specs.declared.Sort.{Sort}
use Rattle.table.specs.declared.Sort.TheVariants.{Number, YesNo}
use Rattle.table.specs.declared.Sorts.{Sorts}
use Rattle.table.specs.declared.Signature.{Signature}
use Rattle.table.specs.declared.Symbol.{Symbol}
use Rattle.table.specs.declared.Symbol.TheVariants.{Unknown, Argument, Constant, Operation, Not, Cond, Function}
use Rattle.lines.specs.Lines.{line_signature}
use Rattle.lines.specs.Splice.{splice}
use Rattle.terms.specs.declared.Fault.{Fault}
use Rattle.meaning.specs.declared.Wrong.{Wrong}
use Rattle.meaning.specs.declared.Wrong.TheVariants.{UnknownSymbol, LackingArgument, OtherSort, EarlyEnd, TooDeep}

-- So many arguments, of these sorts.
abbrev pub row : ℕ → ℕ → Sorts
row n m = record { count = n; mask = m }

abbrev pub fault_at : Wrong → ℕ → Fault
fault_at w p = record { wrong = w; at = p }

-- What the definition says that a symbol takes, in the code's types.
unfoldable pub shown_takes : means.Takes → Result Sorts Wrong
shown_takes (means.takes S r) = Ok (sorts_in S)
shown_takes (means.cannot w) = Err w

-- What an operation of two values takes and gives.
unfoldable pub operands : word.Operation → Sorts
operands Plus = row 2 0
operands Minus = row 2 0
operands Times = row 2 0
operands Divided = row 2 0
operands LeftOver = row 2 0
operands Same = row 2 0
operands Below = row 2 0
operands And = row 2 3
operands Or = row 2 3

unfoldable pub gives : word.Operation → Sort
gives Plus = Number
gives Minus = Number
gives Times = Number
gives Divided = Number
gives LeftOver = Number
gives Same = YesNo
gives Below = YesNo
gives And = YesNo
gives Or = YesNo

-- What a symbol takes, if what it gives is what is expected: first the expected sort, then the given one.
unfoldable pub if_given : Sort → Sort → Sorts → Result Sorts Wrong
if_given Number Number S = Ok S
if_given Number YesNo S = Err OtherSort
if_given YesNo Number S = Err OtherSort
if_given YesNo YesNo S = Ok S

-- An argument takes nothing and has its own sort; a call takes what its function says.
unfoldable pub argument_by : Sort → Option Sort → Result Sorts Wrong
argument_by s None = Err LackingArgument
argument_by s (Some r) = if_given s r (row 0 0)

unfoldable pub function_by : Sort → Option Signature → Result Sorts Wrong
function_by s None = Err UnknownSymbol
function_by s (Some h) = if_given s h.result h.sorts

-- What a symbol takes where the sort s is expected, in a function that has the signature `own`; the functions have the signatures H.
unfoldable pub takes_by : List Signature → Signature → Sort → Symbol → Result Sorts Wrong
takes_by H own s Unknown = Err UnknownSymbol
takes_by H own s (Argument i) = argument_by s (sort_at own.sorts i)
takes_by H own s (Constant r v) = if_given s r (row 0 0)
takes_by H own s (Operation o) = if_given s (gives o) (operands o)
takes_by H own s Not = if_given s YesNo (row 1 1)
takes_by H own s Cond = Ok (row 3 (1 + 6 * sort_word s))
takes_by H own s (Function f) = function_by s (slice_get H f)

-- What the symbol at `at` of the symbols W takes, where symbols may stand d deep.
unfoldable pub placed : ℕ → Result Sorts Wrong → Result Sorts Fault
placed p (Ok S) = Ok S
placed p (Err w) = Err (fault_at w p)

unfoldable pub args_by : List Symbol → List Signature → Signature → ℕ → ℕ → Sort → Result Sorts Fault
args_by W H own at d s =
    if leb (length W) at
    then Err (fault_at EarlyEnd (length W))
    else if eqb d 0
    then Err (fault_at TooDeep at)
    else placed at (takes_by H own s (get_or W at Unknown))

-- The functions that the signatures H stand for, and the sorts of the arguments of one that has the signature `own`.
pub record World (H : List Signature) (own : Signature) : Type 0 where
  pub functions : List Line
  pub arguments : List arithmetic.Sort
  pub heads : H ≡ map line_signature functions
  pub few : length arguments ≤ most_arguments
  pub sorts : own.sorts ≡ sorts_in arguments

-- The symbols that stand from `at` on.
abbrev pub Symbols : List Symbol → ℕ → List means.Symbol → Type 0
Symbols W at ys = drop at W ≡ map symbol_in ys

-- What reading a term at `at` of the symbols W answers, and leaves in the table of ends.
unfoldable pub Said : List Symbol → ℕ → List ℕ → List ℕ → Read Term → Result ℕ Fault → Type 0
Said W at e e' (got t ys) r = (r ≡ Ok (at + size t)) × (e' ≡ splice e at (term_ends t at))
Said W at e e' (fault w ys) r = r ≡ Err (fault_at w (length W - length ys))

unfoldable pub Saids : List Symbol → ℕ → List ℕ → List ℕ → Read Terms → Result ℕ Fault → Type 0
Saids W at e e' (got ts ys) r = (r ≡ Ok (at + sizes ts)) × (e' ≡ splice e at (row_ends ts at))
Saids W at e e' (fault w ys) r = r ≡ Err (fault_at w (length W - length ys))

pub record Told (W : List Symbol) (H : List Signature) (own : Signature) (at d : ℕ) (s : Sort) (e e' : List ℕ) (r : Result ℕ Fault) : Type 0 where
  pub told : (w : World H own) (σ : arithmetic.Sort) (ys : List means.Symbol) → s ≡ sort_in σ → Symbols W at ys → Said W at e e' (read_term w.functions w.arguments d σ ys) r

pub record Tolds (W : List Symbol) (H : List Signature) (own : Signature) (at d n m : ℕ) (e e' : List ℕ) (r : Result ℕ Fault) : Type 0 where
  pub tolds : (w : World H own) (S : List arithmetic.Sort) (ys : List means.Symbol) → n ≡ length S → m ≡ mask S → Symbols W at ys → Saids W at e e' (read_row (read_term w.functions w.arguments d) S ys) r

pub record Whole (W : List Symbol) (H : List Signature) (own : Signature) (at : ℕ) (e e' : List ℕ) (r : Result ℕ Fault) : Type 0 where
  pub whole : (w : World H own) (σ : arithmetic.Sort) (ys : List means.Symbol) → own.result ≡ sort_in σ → Symbols W at ys → Said W at e e' (nothing_after (read_term w.functions w.arguments most_depth σ ys)) r

-- A place that was reached lies within n; one after what was read from `at` on.
abbrev pub Within : ℕ → ℕ → Result ℕ Fault → Type 0
Within n at (Ok p) = (p ≤ n) × (at ≤ p)
Within n at (Err f) = f.at ≤ n
