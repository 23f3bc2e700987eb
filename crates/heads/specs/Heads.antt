-- Heads from signatures and addresses. Assumes nothing.
use Rattle.std.specs.Prelude.{List, [], ◌∷◌, ◌++◌, ℕ, ◌-◌, take, replicate}
use Rattle.meaning.specs.Numbers.{most_functions}
use Rattle.meaning.specs.declared.Head.{Head}
use Rattle.table.specs.Symbols.{sort_word}
use Rattle.table.specs.declared.Signature.{Signature}

-- The head of a function that has the signature h and its body at b.
unfoldable pub head : Signature → ℕ → Head
head h b = record { args = h.sorts.count; strict = h.strict; result = sort_word h.result; body = b }

unfoldable pub heads_list : List Signature → List ℕ → List Head
heads_list [] B = []
heads_list (h ∷ S) [] = []
heads_list (h ∷ S) (b ∷ B) = head h b ∷ heads_list S B

abbrev pub no_head : Head
no_head = record { args = 0; strict = 0; result = 0; body = 0 }

-- The first n, and entries of zeros up to the most that a text has.
unfoldable pub heads_by : List Signature → List ℕ → ℕ → List Head
heads_by S B n = heads_list (take n S) (take n B) ++ replicate (most_functions - n) no_head
