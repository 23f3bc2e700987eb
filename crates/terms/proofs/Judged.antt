-- What a symbol takes by the code is what it takes by the definition. Assumes nothing.
use Rattle.std.specs.Prelude.{Err}
use Rattle.std.specs.List.{slice_get}
use mathlib.Core.Path.{◌≡◌, refl, ◌∙◌}
use mathlib.Core.List.{List, [], ◌∷◌, map}
use Prim.Native.Nat.{ℕ, zero, suc}
use native.Mathlib.Omega.{arith}
use lib.ListN.{get_elem?}
use Rattle.meaning.specs.Arithmetic.{Sort, number, yes_no, Op, constant, add, sub, mul, div, rem, eq, lt, and, or, neg, domain, range}
use Rattle.meaning.specs.Text.{Line}
use Rattle.meaning.specs.Terms as means
use Rattle.meaning.specs.Terms.{Symbol, argument, operation, condition, function, unknown, argument_takes, call_takes, takes_of, same_sort, if_sort}
use Rattle.meaning.specs.Answers.{sort_number}
use Rattle.table.proofs.Masks.{sort_at_is}
use Rattle.table.specs.Symbols.{sort_in, mask, sorts_in, op_symbol, symbol_in}
use Rattle.table.specs.declared.Signature.{Signature}
use Rattle.lines.specs.Lines.{line_signature}
use Rattle.terms.specs.Terms.{row, shown_takes, operands, gives, if_given, argument_by, function_by, takes_by, World}

-- A symbol that gives the sort r and takes the sorts S.
given_is : (S : List Sort) (r s : Sort) → if_given (sort_in s) (sort_in r) (sorts_in S) ≡ shown_takes (if_sort s (means.takes S r))
unfolding if_given shown_takes if_sort same_sort
given_is S number number = refl
given_is S number yes_no = refl
given_is S yes_no number = refl
given_is S yes_no yes_no = refl

cannot_shown : (w : _) (s : Sort) → Err w ≡ shown_takes (if_sort s (means.cannot w))
unfolding shown_takes if_sort
cannot_shown w s = refl

-- Operations.
op_is : (H : List Signature) (own : Signature) (o : Op) (s : Sort) → takes_by H own (sort_in s) (op_symbol o) ≡ if_given (sort_in s) (sort_in (range o)) (sorts_in (domain o))
unfolding takes_by op_symbol operands gives domain range mask sort_number
op_is H own (constant r v) s = refl
op_is H own add s = refl
op_is H own sub s = refl
op_is H own mul s = refl
op_is H own div s = refl
op_is H own rem s = refl
op_is H own eq s = refl
op_is H own lt s = refl
op_is H own and s = refl
op_is H own or s = refl
op_is H own neg s = refl

cond_is : (H : List Signature) (own : Signature) (s : Sort) → takes_by H own (sort_in s) (symbol_in condition) ≡ shown_takes (if_sort s (means.takes (yes_no ∷ s ∷ s ∷ []) s))
unfolding takes_by symbol_in sort_number shown_takes if_sort same_sort mask
cond_is H own number = refl
cond_is H own yes_no = refl

-- Arguments.
takes_none : (r s : Sort) → if_given (sort_in s) (sort_in r) (row 0 0) ≡ shown_takes (if_sort s (means.takes [] r))
unfolding mask
takes_none r s = given_is [] r s

argument_is : (G : List Sort) (i : ℕ) (s : Sort) → argument_by (sort_in s) (slice_get (map sort_in G) i) ≡ shown_takes (if_sort s (argument_takes (get_elem? G i)))
unfolding argument_by argument_takes
argument_is [] i s = cannot_shown _ s
argument_is (r ∷ G) zero s = takes_none r s
argument_is (r ∷ G) (suc i) s = argument_is G i s

-- Functions.
call_is : (H : List Line) (f : ℕ) (s : Sort) → function_by (sort_in s) (slice_get (map line_signature H) f) ≡ shown_takes (if_sort s (call_takes (get_elem? H f)))
unfolding function_by call_takes line_signature
call_is [] f s = cannot_shown _ s
call_is (h ∷ H) zero s = given_is h.sorts h.result s
call_is (h ∷ H) (suc f) s = call_is H f s

-- All together.
pub judged : (H : List Signature) (own : Signature) (w : World H own) (s : Sort) (y : Symbol) → takes_by H own (sort_in s) (symbol_in y) ≡ shown_takes (if_sort s (takes_of w.functions w.arguments s y))
unfolding takes_by symbol_in takes_of
judged H own w s (argument i) = rw (w.sorts, sort_at_is w.arguments i (omega (arith, w.few))) (argument_is w.arguments i s)
judged H own w s (operation o) = op_is H own o s ∙ given_is (domain o) (range o) s
judged H own w s condition = cond_is H own s
judged H own w s (function f) = rw w.heads (call_is w.functions f s)
judged H own w s unknown = cannot_shown _ s
