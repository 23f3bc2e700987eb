-- Document 000, Example 73: its machine program, with prefix numbers for tree addresses, and the run it shows. Assumes nothing.
use Rattle.std.specs.Prelude.{◌≡◌, refl, [], ◌∷◌}
use Prim.Native.String.{String}
use Rattle.meaning.specs.Arithmetic.{constant, number, add, sub, eq}
use Rattle.meaning.specs.Code.{EVAL, EXEC, SELECT, CALL, RET, translate_text}
use Rattle.starred.specs.Table.{six_fields}

-- "F = λ⁰x.G(x-1)(Hx), G = λ¹xy.cond(x=0)x((G(x-1)y)+y), H = λ⁰x.H(x+1)"
abbrev pub multiplication : String
multiplication = "F\t0\tn\tn\tG\t-\ta\t1\tH\ta\nG\t1\tnn\tn\tcond\t=\ta\t0\ta\t+\tG\t-\ta\t1\tb\tb\nH\t0\tn\tn\tH\t+\ta\t1\n"

-- One line an address, in the paper's order, which is the prefix order: the numbers count from 0. CALL is written body, strict, waiting, next.
pub multiplication_code : translate_text multiplication
    ≡ CALL 4 0 (1 ∷ []) 24  -- 0
    ∷ EVAL 0 24  -- 0.1
    ∷ CALL 10 1 (6 ∷ []) 24  -- 1
    ∷ EXEC sub 2  -- 1.1
    ∷ EVAL 0 5  -- 1.1.1
    ∷ EXEC (constant number 1) 3  -- 1.1.2
    ∷ CALL 20 0 (7 ∷ []) 24  -- 1.2
    ∷ EVAL 0 24  -- 1.2.1
    ∷ SELECT 12 16  -- 2
    ∷ EXEC eq 8  -- 2.1
    ∷ EVAL 0 11  -- 2.1.1
    ∷ EXEC (constant number 0) 9  -- 2.1.2
    ∷ EVAL 0 24  -- 2.2
    ∷ EXEC add 24  -- 2.3
    ∷ CALL 10 1 (18 ∷ []) 19  -- 2.3.1
    ∷ EXEC sub 14  -- 2.3.1.1
    ∷ EVAL 0 17  -- 2.3.1.1.1
    ∷ EXEC (constant number 1) 15  -- 2.3.1.1.2
    ∷ EVAL 1 24  -- 2.3.1.2
    ∷ EVAL 1 13  -- 2.3.2
    ∷ CALL 20 0 (22 ∷ []) 24  -- 3
    ∷ EXEC add 24  -- 3.1
    ∷ EVAL 0 23  -- 3.1.1
    ∷ EXEC (constant number 1) 21  -- 3.1.2
    ∷ RET  -- 4
    ∷ []
unfolding translate_text
multiplication_code = refl

-- "This machine program generates for input x = 1 the following stack machine computation": fifteen steps to the value 0, seven of them rewrites.
pub multiplication_run : six_fields multiplication (1 ∷ []) 15 ≡ 0 ∷ 0 ∷ 0 ∷ 0 ∷ 15 ∷ 7 ∷ []
unfolding six_fields
multiplication_run = refl
