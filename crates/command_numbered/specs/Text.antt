-- The source of a number: so many functions with a loop each, and a function main that calls each of them once.
use Rattle.std.specs.Prelude.{ℕ, zero, suc, List, [], ◌++◌, codes}
use Rattle.std.specs.Fmt.{decimal}

-- a number in decimal, between two texts
unfoldable pub between : List ℕ → ℕ → List ℕ → List ℕ
between front i behind = front ++ (decimal i ++ behind)

-- what stands between the numbers of a function, and behind them
unfoldable pub loop_head : List ℕ
loop_head = codes "(int x) {\nint k;\nint s = x;\n_Pragma(\"loopbound min 10 max 10\")\nfor (k = 0; k < 10; k++) s = (s * 5 + "

unfoldable pub loop_end : List ℕ
loop_end = codes ") % 1000;\nreturn s;\n}\n"

-- the function of a number
unfoldable pub function_text : ℕ → List ℕ
function_text i = between (codes "int f") i loop_head ++ between [] i loop_end

-- its call
unfoldable pub call_text : ℕ → List ℕ
call_text i = between (codes "s = f") i (codes "(s);\n")

unfoldable pub main_head : List ℕ
main_head = codes "int main(void) {\nint s = 1;\n"

unfoldable pub main_end : List ℕ
main_end = codes "putchar(65 + s % 26);\nreturn s % 256;\n}\n"

-- the texts of the numbers from 1 to n, in order
abbrev pub texts : (ℕ → List ℕ) → (n : ℕ) → List ℕ
texts text zero = []
texts text (suc n) = texts text n ++ text (suc n)

abbrev pub numbered_text : ℕ → List ℕ
numbered_text n = texts function_text n ++ (main_head ++ (texts call_text n ++ main_end))
