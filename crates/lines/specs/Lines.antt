-- Lines by place, what a look at them answers, their signatures and packed names. Assumes nothing.
use Rattle.std.specs.Prelude.{◌≡◌, Bool, false, ◌||◌, List, [], ◌∷◌, ◌++◌, map, ℕ, zero, suc, ◌+◌, ◌-◌, ◌<◌, ◌≤◌, eqb, length, take, drop, if◌then◌else◌, Result, Ok, Err}
use Rattle.meaning.specs.Numbers.{LINE, NAME}
use Rattle.meaning.specs.Text.{Field, fine, refused, Passed, Line, pieces, all_but_last, tab, line_end, lines, wrong_field, judge_shape}
use Rattle.meaning.specs.Said.{found, refusal}
use Rattle.meaning.specs.declared.Refusal.{Refusal}
use Rattle.table.specs.Symbols.{signature}
use Rattle.table.specs.declared.Signature.{Signature}
use Rattle.fields.specs.Fields.{rest, packed}
use Rattle.lines.specs.declared.Counted.{Counted}
use Rattle.lines.specs.Splice.{splice}

-- What a test of a text comes to, in the words of src/.
abbrev pub shown : Passed → Result (Unit {0}) Refusal
shown = found (λ _. tt)

-- A test of a line or of a part of it: how many symbols its body has or, where its first wrong field is not 0, that field.
unfoldable pub outcome : ℕ → ℕ → Result ℕ ℕ
outcome zero symbols = Ok symbols
outcome (suc k) symbols = Err (suc k)

-- The same of a whole line, whose body stands after four fields.
unfoldable pub judged_line : List Field → Result ℕ ℕ
judged_line fs = outcome (wrong_field fs) (length (drop 4 fs))

unfoldable pub body_fields : List ℕ → ℕ
body_fields line = length (drop 4 (pieces tab line))

-- The lines of a text as bytes, without their byte 10; and that each is of the right shape.
unfoldable pub raw_lines : List ℕ → List Field
raw_lines text = all_but_last (pieces line_end text)

unfoldable pub Right : List Field → Type 0
Right [] = Unit {0}
Right (p ∷ ps) = (wrong_field (pieces tab p) ≡ 0) × Right ps

-- The bytes from a up to e.
abbrev pub part : List ℕ → ℕ → ℕ → Field
part l a e = take (e - a) (drop a l)

-- A line whose first four tabs stand at a, b, c, d.
pub record Parted (l : List ℕ) (a b c d : ℕ) : Type 0 where
  pub name_strict : a < b
  pub strict_sorts : b < c
  pub sorts_result : c < d
  pub result_body : d < length l
  pub fields : pieces tab l ≡ part l 0 a ∷ part l (a + 1) b ∷ part l (b + 1) c ∷ part l (c + 1) d ∷ rest tab (drop d l)

-- How many symbols the bodies of some lines have.
unfoldable pub total : List Line → ℕ
total [] = 0
total (h ∷ hs) = length h.body + total hs

-- A function's signature and its packed name.
unfoldable pub line_signature : Line → Signature
line_signature h = signature h.sorts h.strict h.result

unfoldable pub name_number : Line → ℕ
name_number h = packed h.name

-- Why a text is refused where field k of line l is wrong.
abbrev pub misfit : ℕ → ℕ → Refusal
misfit = refusal LINE

-- What the scan of a text counts.
abbrev pub counts_of : List ℕ → Counted
counts_of text = record { functions = length (lines text); symbols = total (lines text) }

-- What the scan of a text answers and leaves in the arrays: the verdict on its shape and, where that passes, the counts, names and signatures of its lines.
pub record Scan (text names names' : List ℕ) (heads heads' : List Signature) (r : Result Counted Refusal) : Type 0 where
  pub shape_judged : r ≡ found (λ _. counts_of text) (judge_shape text)
  pub names_filled : judge_shape text ≡ fine tt → length (lines text) ≤ length names → names' ≡ splice names 0 (map name_number (lines text))
  pub heads_filled : judge_shape text ≡ fine tt → length (lines text) ≤ length heads → heads' ≡ splice heads 0 (map line_signature (lines text))

-- NAME by packed names.
unfoldable pub is_held : ℕ → List ℕ → Bool
is_held n [] = false
is_held n (m ∷ ms) = eqb n m || is_held n ms

unfoldable pub judge_packed : ℕ → List ℕ → List ℕ → Passed
judge_packed l earlier [] = fine tt
judge_packed l earlier (n ∷ ns) = if is_held n earlier then refused NAME l 1 else judge_packed (l + 1) (earlier ++ (n ∷ [])) ns
