-- Bodies by line: what reading them answers, and leaves in the table of symbols. Assumes nothing.
use Rattle.std.specs.Prelude.{◌≡◌, List, [], ◌∷◌, ℕ, ◌+◌, ◌-◌, Result, Ok, Err}
use Rattle.meaning.specs.Text.{Field, Verdict, fine, refused}
use Rattle.meaning.specs.Terms.{Program, wrong_number}
use Rattle.meaning.specs.Code.{bodies_size}
use Rattle.meaning.specs.Said.{refusal}
use Rattle.meaning.specs.declared.Refusal.{Refusal}
use Rattle.table.specs.Symbols.{symbol_in}
use Rattle.table.specs.Table.{bodies_symbols, bodies_ends, addresses_from}
use Rattle.table.specs.declared.Symbol.{Symbol}
use Rattle.symbols.specs.Symbols.{symbol_by}
use Rattle.lines.specs.Splice.{splice}
use Rattle.terms.specs.declared.Fault.{Fault}

-- Fields as symbols of the table, by packed names.
unfoldable pub symbols_by : List ℕ → List Field → List Symbol
symbols_by M [] = []
symbols_by M (f ∷ fs) = symbol_in (symbol_by M f) ∷ symbols_by M fs

-- Why a text is refused where a body of line n, counted from 0, is wrong that begins at `from`: a body's first symbol is field 5.
abbrev pub refused_at : Fault → ℕ → ℕ → Refusal
refused_at f n from = refusal (wrong_number f.wrong) (n + 1) (5 + (f.at - from))

-- What reading the bodies from line l on answers, and leaves in the table and in the addresses.
unfoldable pub Finishes : ℕ → ℕ → List ℕ → List ℕ → List Symbol → List Symbol → List ℕ → List ℕ → Verdict Program → Result ℕ Refusal → Type 0
Finishes l from b b' w w' e e' (fine P) r =
    (r ≡ Ok (from + bodies_size P))
    × (b' ≡ splice b l (addresses_from from P))
    × (w' ≡ splice w from (bodies_symbols P))
    × (e' ≡ splice e from (bodies_ends P from))
Finishes l from b b' w w' e e' (refused n line field) r = r ≡ Err (refusal n line field)
