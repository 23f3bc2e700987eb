-- Laws of sorts and symbols as src/ has them. Assumes nothing.
use mathlib.Core.Path.{◌≡◌, refl}
use Prim.Native.Nat.{◌≤◌}
use native.Mathlib.Omega.{arith}
use Rattle.meaning.specs.Arithmetic.{Sort, number, yes_no}
use Rattle.meaning.specs.Answers.{sort_number}
use Rattle.table.specs.Symbols.{sort_in, sort_word}

-- A sort's number is meaning's.
pub sort_numbered : (s : Sort) → sort_word (sort_in s) ≡ sort_number s
unfolding sort_number
sort_numbered number = refl
sort_numbered yes_no = refl

pub sort_small : (s : Sort) → sort_number s ≤ 1
unfolding sort_number
sort_small number = omega arith
sort_small yes_no = omega arith
