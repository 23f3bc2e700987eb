-- Document 01, 'Rule text': symbols, terms, and how a body is read into one term of its sort. Assumes nothing.
use Rattle.std.specs.Prelude.{Bool, true, false, ◌&&◌, List, [], ◌∷◌, map, ℕ, zero, suc, ◌+◌, ◌-◌, ltb, length, if◌then◌else◌}
use Rattle.std.proofs.Math.Option.{Option, none, some}
use Prim.Native.String.{String}
use Rattle.std.proofs.Math.ListN.{get_elem?}
use Rattle.meaning.specs.Basics.{between, all, byte, bytes}
use Rattle.meaning.specs.Arithmetic.{modulus, Sort, number, yes_no, Op, constant, add, sub, mul, div, rem, eq, lt, and, or, neg, domain, range}
use Rattle.meaning.specs.Numbers.{Number, TERM, NEST, UNKNOWN, SORT, SHORT, most_depth}
use Rattle.meaning.specs.Text.{Verdict, fine, refused, ◌>>=◌, Field, Line, is_digit, value, same}
use Rattle.meaning.specs.declared.Wrong.{Wrong}
use Rattle.meaning.specs.declared.Wrong.TheVariants.{UnknownSymbol, LackingArgument, OtherSort, EarlyEnd, LeftOver, TooDeep}

-- What a body is made of. A constant is an operation without arguments; a call has its strict arguments apart from those that wait.
mutual
  pub data Term : Type 0 where
    arg : ℕ → Term
    op : Op → Terms → Term
    cond : Term → Term → Term → Term
    call : ℕ → Terms → Terms → Term

  pub data Terms : Type 0 where
    nil : Terms
    cons : Term → Terms → Terms

-- A function, and the functions of a text by line; the first is the entry. Functions and arguments are counted from 0.
pub record Function : Type 0 where
  pub sorts : List Sort
  pub strict : ℕ
  pub result : Sort
  pub body : Term

abbrev pub Program : Type 0
Program = List Function

-- Symbols.

-- `unknown` is a field that is no symbol.
pub data Symbol : Type 0 where
  argument : ℕ → Symbol
  operation : Op → Symbol
  condition : Symbol
  function : ℕ → Symbol
  unknown : Symbol

-- "arguments `a` to `h` by position; .. `true` `false`; `+ - * / %` ..; `= <` ..; `& |` ..; `!` ..; `cond`"
pub record Word : Type 0 where
  pub spelt : Field
  pub means : Symbol

abbrev word : String → Symbol → Word
word s y = record { spelt = bytes s; means = y }

-- All words that are not decimals or names.
abbrev pub vocabulary : List Word
vocabulary =
    word "a" (argument 0) ∷ word "b" (argument 1) ∷ word "c" (argument 2) ∷ word "d" (argument 3)
    ∷ word "e" (argument 4) ∷ word "f" (argument 5) ∷ word "g" (argument 6) ∷ word "h" (argument 7)
    ∷ word "true" (operation (constant yes_no 1)) ∷ word "false" (operation (constant yes_no 0))
    ∷ word "+" (operation add) ∷ word "-" (operation sub) ∷ word "*" (operation mul) ∷ word "/" (operation div) ∷ word "%" (operation rem)
    ∷ word "=" (operation eq) ∷ word "<" (operation lt) ∷ word "&" (operation and) ∷ word "|" (operation or) ∷ word "!" (operation neg)
    ∷ word "cond" condition ∷ []

-- "decimals 0 to 4294967295 without leading zeros"
unfoldable pub is_decimal : Field → Bool
is_decimal [] = false
is_decimal (x ∷ []) = is_digit x
is_decimal (x ∷ y ∷ ys) = between (byte "1") (byte "9") x && (all is_digit (y ∷ ys) && ltb (value (x ∷ y ∷ ys)) modulus)

-- "function names, earlier, later or own": the number of the line that has the name, the lines counted from i.
unfoldable pub named : ℕ → List Field → Field → Symbol
named i [] f = unknown
named i (n ∷ ns) f = if same f n then function i else named (i + 1) ns f

-- What a field means among some words, or else.
unfoldable pub spelt_in : List Word → Field → Symbol → Symbol
spelt_in [] f else-it-is = else-it-is
spelt_in (w ∷ ws) f else-it-is = if same f w.spelt then w.means else spelt_in ws f else-it-is

-- The symbol that a field is, where the functions have the names N.
unfoldable pub symbol : List Field → Field → Symbol
symbol N f = spelt_in vocabulary f (if is_decimal f then operation (constant number (value f)) else named 0 N f)

-- Sorts.

-- What is wrong at a field, and the number that the engine answers for it.
-- Document 02, c): "13 UNKNOWN, 14 SORT, 15 SHORT take their cases from 5 TERM, which keeps a field left over, known or not"
unfoldable pub wrong_number : Wrong → Number
wrong_number UnknownSymbol = UNKNOWN  -- no known symbol
wrong_number LackingArgument = UNKNOWN  -- an argument the function lacks
wrong_number OtherSort = SORT  -- a known symbol of another sort than its place takes
wrong_number EarlyEnd = SHORT  -- a body that ends early
wrong_number LeftOver = TERM  -- a field left over
wrong_number TooDeep = NEST  -- a symbol at depth 33

-- What a symbol takes and gives, or what is wrong with it.
pub data Takes : Type 0 where
  takes : List Sort → Sort → Takes
  cannot : Wrong → Takes

-- An argument takes nothing and has its own sort; a call takes what its function says.
unfoldable pub argument_takes : Option Sort → Takes
argument_takes none = cannot LackingArgument
argument_takes (some s) = takes [] s

unfoldable pub call_takes : Option Line → Takes
call_takes none = cannot UnknownSymbol
call_takes (some h) = takes h.sorts h.result

-- Among the functions H, in a body whose arguments have the sorts G, at a place where the sort s is expected.
-- "`cond` (a b, then two terms of the sort expected)"
unfoldable pub takes_of : List Line → List Sort → Sort → Symbol → Takes
takes_of H G s (argument i) = argument_takes (get_elem? G i)
takes_of H G s (operation o) = takes (domain o) (range o)
takes_of H G s condition = takes (yes_no ∷ s ∷ s ∷ []) s
takes_of H G s (function f) = call_takes (get_elem? H f)
takes_of H G s unknown = cannot UnknownSymbol

-- "of the wrong sort": what a symbol gives has to be what is expected.
unfoldable pub same_sort : Sort → Sort → Bool
same_sort number number = true
same_sort number yes_no = false
same_sort yes_no number = false
same_sort yes_no yes_no = true

-- What a symbol takes, if it gives the sort s.
unfoldable pub if_sort : Sort → Takes → Takes
if_sort s (cannot w) = cannot w
if_sort s (takes S r) = if same_sort r s then takes S r else cannot OtherSort

-- Reading.

-- What was read and the symbols after it, or what is wrong and the symbols from that place on.
pub data Read (A : Type 0) : Type 0 where
  got : A → List Symbol → Read A
  fault : Wrong → List Symbol → Read A

-- The first k of a row of terms, and the others.
unfoldable pub first_terms : ℕ → Terms → Terms
first_terms zero ts = nil
first_terms (suc k) nil = nil
first_terms (suc k) (cons t ts) = cons t (first_terms k ts)

unfoldable pub other_terms : ℕ → Terms → Terms
other_terms zero ts = ts
other_terms (suc k) nil = nil
other_terms (suc k) (cons t ts) = other_terms k ts

-- The strict count of the function called.
unfoldable pub strict_of : Option Line → ℕ
strict_of none = 0
strict_of (some h) = h.strict

-- A symbol applied to what it takes. (`condition` takes three terms; where it is given another number there is no term, and `arg 0` stands for none.)
unfoldable pub condition_of : Terms → Term
condition_of nil = arg 0
condition_of (cons t nil) = arg 0
condition_of (cons t (cons x nil)) = arg 0
condition_of (cons t (cons x (cons y ts))) = cond t x y

-- The term that a symbol makes with what it takes.
unfoldable pub applied : List Line → Symbol → Terms → Term
applied H (argument i) ts = arg i
applied H (operation o) ts = op o ts
applied H condition ts = condition_of ts
applied H (function f) ts = call f (first_terms (strict_of (get_elem? H f)) ts) (other_terms (strict_of (get_elem? H f)) ts)
applied H unknown ts = arg 0

-- Reading goes on with what was read, and stops at the first fault.
unfoldable pub with_arguments : List Line → Symbol → Read Terms → Read Term
with_arguments H y (got ts ys) = got (applied H y ts) ys
with_arguments H y (fault w ys) = fault w ys

unfoldable pub and_more : Term → Read Terms → Read Terms
and_more t (got ts ys) = got (cons t ts) ys
and_more t (fault w ys) = fault w ys

unfoldable pub then_more : Read Term → (List Symbol → Read Terms) → Read Terms
then_more (got t ys) more = and_more t (more ys)
then_more (fault w ys) more = fault w ys

-- One term of each sort of a row, read by `one`.
unfoldable pub read_row : (Sort → List Symbol → Read Term) → List Sort → List Symbol → Read Terms
read_row one [] ys = got nil ys
read_row one (s ∷ S) ys = then_more (one s ys) (read_row one S)

-- A symbol's arguments by `row`, or the fault at the symbol itself.
unfoldable pub read_taken : List Line → Symbol → Takes → List Symbol → (List Sort → Read Terms) → Read Term
read_taken H y (takes S r) here row = with_arguments H y (row S)
read_taken H y (cannot w) here row = fault w here

-- "Reading a term means reading its symbol, then as many argument terms as it takes." A term of sort s; symbols may stand d deep.
-- "NEST goes before TERM at one field": at depth 33 the symbol is not looked at.
unfoldable pub read_term : List Line → List Sort → ℕ → Sort → List Symbol → Read Term
read_term H G zero s [] = fault EarlyEnd []
read_term H G zero s (y ∷ ys) = fault TooDeep (y ∷ ys)
read_term H G (suc d) s [] = fault EarlyEnd []
read_term H G (suc d) s (y ∷ ys) = read_taken H y (if_sort s (takes_of H G s y)) (y ∷ ys) λ S. read_row (read_term H G d) S ys

-- "or left over after the term": a body is one term and nothing after it.
unfoldable pub nothing_after : Read Term → Read Term
nothing_after (got t []) = got t []
nothing_after (got t (y ∷ ys)) = fault LeftOver (y ∷ ys)
nothing_after (fault w ys) = fault w ys

-- "A symbol may stand as an argument of another to a depth of 32, the body's first symbol being at depth 1."
unfoldable pub read_body : List Line → Line → Read Term
read_body H h = nothing_after (read_term H h.sorts most_depth h.result (map (symbol (map (λ k. k.name) H)) h.body))

-- "the first field that is ..; for a body that ends early, one past its last field". A body begins at field 5.
unfoldable pub function_of : ℕ → Line → Read Term → Verdict Function
function_of l h (got t ys) = fine (record { sorts = h.sorts; strict = h.strict; result = h.result; body = t })
function_of l h (fault w ys) = refused (wrong_number w) l (5 + length h.body - length ys)

-- The bodies of the lines from line l on, in order: "5 and 6 by the first place", and so the numbers that were 5.
unfoldable pub read_bodies : List Line → ℕ → List Line → Verdict Program
read_bodies H l [] = fine []
read_bodies H l (h ∷ hs) = function_of l h (read_body H h) >>= λ F. read_bodies H (l + 1) hs >>= λ P. fine (F ∷ P)
