-- How long the sources of numbers are.
use Rattle.std.proofs.Common.{◌≡◌, ◌≤◌, ℕ, zero, suc, ◌+◌, ◌*◌, ◌<◌, List, [], ◌++◌, length, ap, ◌∙◌, arith, length-append}
use Rattle.std.proofs.lemmas.Fmt.{length-decimal-le}
use Rattle.std.specs.Fmt.{decimal}
use Rattle.std.specs.Prelude.{codes}
use Rattle.command_numbered.specs.Text.{between, loop_head, loop_end, function_text, call_text, main_head, main_end, texts, numbered_text}

-- a number of at most three digits
digits : (i : ℕ) → i < 1000 → length (decimal i) ≤ 3
digits i lt = length-decimal-le 3 i (omega arith) (omega (arith, lt)) (omega (arith, lt))

between_length : (front behind : List ℕ) (i : ℕ) → length (between front i behind) ≡ length front + (length (decimal i) + length behind)
unfolding between
between_length front behind i = length-append front (decimal i ++ behind) ∙ ap (λ (n : ℕ). length front + n) (length-append (decimal i) behind)

heads : length loop_head ≤ 120
unfolding loop_head
heads = omega arith

ends : length loop_end ≤ 30
unfolding loop_end
ends = omega arith

function_short : (i : ℕ) → i < 1000 → length (function_text i) ≤ 161
unfolding function_text
function_short i lt =
    omega (arith, digits i lt, heads, ends, length-append (between (codes "int f") i loop_head) (between [] i loop_end), between_length (codes "int f") loop_head i, between_length [] loop_end i)

call_short : (i : ℕ) → i < 1000 → length (call_text i) ≤ 13
unfolding call_text
call_short i lt = omega (arith, digits i lt, between_length (codes "s = f") (codes "(s);\n") i)

functions_short : (n : ℕ) → n < 1000 → length (texts function_text n) ≤ 161 * n
functions_short zero lt = omega arith
functions_short (suc n) lt = omega (arith, lt, function_short (suc n) lt, functions_short n (omega (arith, lt)), length-append (texts function_text n) (function_text (suc n)))

calls_short : (n : ℕ) → n < 1000 → length (texts call_text n) ≤ 13 * n
calls_short zero lt = omega arith
calls_short (suc n) lt = omega (arith, lt, call_short (suc n) lt, calls_short n (omega (arith, lt)), length-append (texts call_text n) (call_text (suc n)))

main_heads : length main_head ≤ 40
unfolding main_head
main_heads = omega arith

main_ends : length main_end ≤ 60
unfolding main_end
main_ends = omega arith

pub short : (n : ℕ) → n ≤ 100 → length (numbered_text n) ≤ 20000
short n most =
    omega (arith, most, main_heads, main_ends, functions_short n (omega (arith, most)), calls_short n (omega (arith, most)), length-append (texts function_text n) (main_head ++ (texts call_text n ++ main_end)), length-append main_head (texts call_text n ++ main_end), length-append (texts call_text n) main_end)
