-- Document 01, 'Numbers the engine answers with': the order in which a text is judged, and what it holds where it is accepted. Assumes nothing.
use Rattle.std.specs.Prelude.{◌≡◌, refl, List, [], ◌∷◌, map, ℕ}
use Prim.Native.String.{String}
use Rattle.meaning.specs.Basics.{bytes, all}
use Rattle.meaning.specs.Arithmetic.{number, sub, domain, range}
use Rattle.meaning.specs.Numbers.{LINE, TERM, UNKNOWN, SORT, SHORT}
use Rattle.meaning.specs.Text.{Verdict, fine, refused, ◌>>=◌, ◌>>◌, judge_length, judge_shape, judge_lines, judge_line, judge_counts, judge_symbols, judge_names, lines, line_of, all_but_last, wrong_field, first_wrong, forms, pieces, onto_first, is_visible, is_name, is_count, are_sorts, is_result, value_from, sort_of, same, is_among}
use Rattle.meaning.specs.Terms.{arg, op, nil, cons, Program, read_bodies, function_of, read_body, nothing_after, read_term, read_taken, read_row, then_more, and_more, with_arguments, applied, condition_of, strict_of, other_terms, first_terms, if_sort, same_sort, takes_of, call_takes, argument_takes, wrong_number, symbol, spelt_in, named, is_decimal}

-- "Order: 1, then 2 over all lines, 3, 4, then 5 and 6 by the first place"; 13, 14 and 15 stand where 5 stood.
unfoldable pub check : List ℕ → Verdict Program
check text = do
  judge_length text
  judge_shape text
  judge_counts (lines text)
  judge_names 1 [] (map (λ h. h.name) (lines text))
  read_bodies (lines text) 1 (lines text)

-- The same for a text as these pages write it, with all that it computes by.
unfoldable pub check_text : String → Verdict Program
unfolding check ◌>>=◌ ◌>>◌ judge_length judge_shape judge_lines judge_line judge_counts judge_symbols judge_names lines line_of all_but_last wrong_field first_wrong forms pieces onto_first is_visible is_name is_count are_sorts is_result value_from sort_of same is_among all read_bodies function_of read_body nothing_after read_term read_taken read_row then_more and_more with_arguments applied condition_of strict_of other_terms first_terms if_sort same_sort takes_of call_takes argument_takes wrong_number symbol spelt_in named is_decimal domain range
check_text s = check (bytes s)

-- What an accepted text holds; nothing where it is refused.
unfoldable pub found : Verdict Program → Program
found (fine P) = P
found (refused n line field) = []

pub a_difference : check_text "DIF\t2\tnn\tn\t-\ta\tb\n" ≡ fine (record { sorts = number ∷ number ∷ []; strict = 2; result = number; body = op sub (cons (arg 0) (cons (arg 1) nil)) } ∷ [])
unfolding check_text
a_difference = refl

pub places : check_text "" ∷ check_text "X\t2\tn\tn\ta\n" ∷ [] ≡ refused LINE 1 1 ∷ refused LINE 1 3 ∷ []
unfolding check_text
places = refl

-- An argument the function lacks, a decimal above 4294967295, a number for a yes/no, a body that ends early, and a field left over that is no symbol.
pub wrong_fields : check_text "X\t0\tn\tn\tb\n" ∷ check_text "X\t0\tn\tn\t4294967296\n" ∷ check_text "X\t0\tn\tb\ta\n" ∷ check_text "X\t0\tn\tn\t+\ta\n" ∷ check_text "X\t0\tn\tn\ta\t?\n" ∷ []
    ≡ refused UNKNOWN 1 5 ∷ refused UNKNOWN 1 5 ∷ refused SORT 1 5 ∷ refused SHORT 1 7 ∷ refused TERM 1 6 ∷ []
unfolding check_text
wrong_fields = refl
