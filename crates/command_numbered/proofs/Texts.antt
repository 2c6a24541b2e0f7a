-- The pieces of a numbered source, and that they write it.
use Rattle.std.proofs.Common.{◌≡◌, ℕ, zero, suc, ◌≤◌, true, List, [], ◌∷◌, ◌++◌, codes, append_assoc, refl, sym, ap, subst, ◌∙◌, arith}
use Rattle.std.specs.Fmt.{decimal}
use Rattle.c_tree.specs.declared.token.TokenKind.TheVariants as tokens
use Rattle.command_numbered.specs.Text.{between, call_text, function_text, loop_end, loop_head, main_end, main_head, numbered_text, texts}
use Rattle.command_numbered.proofs.Bits.{Bit, Gap, Key, Sign, Word, Numeral, Nought, Own, Index, Bound, AreLow, all_fine, class_behind, written}
use Rattle.command_numbered.proofs.Cuts.{class_append, fine_append, low_append, written_append}

abbrev space : Bit
space = Gap (codes " ")

abbrev line : Bit
line = Gap (codes "\n")

abbrev x : Bit
x = Word (codes "x")

abbrev k : Bit
k = Word (codes "k")

abbrev s : Bit
s = Word (codes "s")

abbrev function_head : ℕ → List Bit
function_head i =
    Key tokens.Int ∷ space ∷ Own i ∷ Sign tokens.LeftParen ∷ Key tokens.Int ∷ space ∷ x ∷ Sign tokens.RightParen ∷ space ∷ Sign tokens.LeftBrace ∷ line
    ∷ Key tokens.Int ∷ space ∷ k ∷ Sign tokens.Semicolon ∷ line
    ∷ Key tokens.Int ∷ space ∷ s ∷ space ∷ Sign tokens.Equal ∷ space ∷ x ∷ Sign tokens.Semicolon ∷ line
    ∷ Bound ∷ line ∷ []

abbrev loop : ℕ → List Bit
loop i =
    Key tokens.For ∷ space ∷ Sign tokens.LeftParen ∷ k ∷ space ∷ Sign tokens.Equal ∷ space ∷ Nought ∷ Sign tokens.Semicolon
    ∷ space ∷ k ∷ space ∷ Sign tokens.LessThan ∷ space ∷ Numeral (codes "10") 10 ∷ Sign tokens.Semicolon ∷ space ∷ k ∷ Sign tokens.PlusPlus ∷ Sign tokens.RightParen
    ∷ space ∷ s ∷ space ∷ Sign tokens.Equal ∷ space ∷ Sign tokens.LeftParen ∷ s ∷ space ∷ Sign tokens.Star ∷ space ∷ Numeral (codes "5") 5 ∷ space ∷ Sign tokens.Plus ∷ space ∷ Index i ∷ Sign tokens.RightParen
    ∷ space ∷ Sign tokens.Percent ∷ space ∷ Numeral (codes "1000") 1000 ∷ Sign tokens.Semicolon ∷ line
    ∷ Key tokens.Return ∷ space ∷ s ∷ Sign tokens.Semicolon ∷ line ∷ Sign tokens.RightBrace ∷ line ∷ []

abbrev pub function_bits : ℕ → List Bit
function_bits i = function_head i ++ loop i

abbrev pub call_bits : ℕ → List Bit
call_bits i = s ∷ space ∷ Sign tokens.Equal ∷ space ∷ Own i ∷ Sign tokens.LeftParen ∷ s ∷ Sign tokens.RightParen ∷ Sign tokens.Semicolon ∷ line ∷ []

abbrev pub head_bits : List Bit
head_bits =
    Key tokens.Int ∷ space ∷ Word (codes "main") ∷ Sign tokens.LeftParen ∷ Key tokens.Void ∷ Sign tokens.RightParen ∷ space ∷ Sign tokens.LeftBrace ∷ line
    ∷ Key tokens.Int ∷ space ∷ s ∷ space ∷ Sign tokens.Equal ∷ space ∷ Numeral (codes "1") 1 ∷ Sign tokens.Semicolon ∷ line ∷ []

abbrev pub tail_bits : List Bit
tail_bits =
    Word (codes "putchar") ∷ Sign tokens.LeftParen ∷ Numeral (codes "65") 65 ∷ space ∷ Sign tokens.Plus ∷ space ∷ s ∷ space ∷ Sign tokens.Percent ∷ space ∷ Numeral (codes "26") 26 ∷ Sign tokens.RightParen ∷ Sign tokens.Semicolon ∷ line
    ∷ Key tokens.Return ∷ space ∷ s ∷ space ∷ Sign tokens.Percent ∷ space ∷ Numeral (codes "256") 256 ∷ Sign tokens.Semicolon ∷ line ∷ Sign tokens.RightBrace ∷ line ∷ []

-- those of the numbers from 1 to n, in order
abbrev pub each_bits : (ℕ → List Bit) → (n : ℕ) → List Bit
each_bits bits zero = []
each_bits bits (suc n) = each_bits bits n ++ bits (suc n)

abbrev pub main_bits : ℕ → List Bit
main_bits n = head_bits ++ (each_bits call_bits n ++ tail_bits)

abbrev pub numbered_bits : ℕ → List Bit
numbered_bits n = each_bits function_bits n ++ main_bits n

-- what they write

function_written : (i : ℕ) → written (function_bits i) ≡ function_text i
unfolding function_text between loop_head loop_end
function_written i = sym (ap (λ bytes. codes "int f" ++ bytes) (append_assoc (decimal i) loop_head (decimal i ++ loop_end)))

call_written : (i : ℕ) → written (call_bits i) ≡ call_text i
unfolding call_text between
call_written i = refl

head_written : written head_bits ≡ main_head
unfolding main_head
head_written = refl

tail_written : written tail_bits ≡ main_end
unfolding main_end
tail_written = refl

each_written : (bits : ℕ → List Bit) (text : ℕ → List ℕ) → ((i : ℕ) → written (bits i) ≡ text i) → (n : ℕ) → written (each_bits bits n) ≡ texts text n
each_written bits text one zero = refl
each_written bits text one (suc n) = written_append (each_bits bits n) (bits (suc n)) ∙ (λ i. each_written bits text one n i ++ one (suc n) i)

pub numbered_written : (n : ℕ) → written (numbered_bits n) ≡ numbered_text n
numbered_written n =
    written_append (each_bits function_bits n) (main_bits n)
    ∙ ap (λ bytes. written (each_bits function_bits n) ++ bytes) (written_append head_bits (each_bits call_bits n ++ tail_bits))
    ∙ ap (λ bytes. written (each_bits function_bits n) ++ (written head_bits ++ bytes)) (written_append (each_bits call_bits n) tail_bits)
    ∙ (λ i. each_written function_bits function_text function_written n i ++ (head_written i ++ (each_written call_bits call_text call_written n i ++ tail_written i)))

-- each is fine before what follows it

head_fine : (i : ℕ) (rest : List ℕ) → all_fine (function_head i) 1 rest ≡ true
head_fine i rest = refl

loop_fine : (i : ℕ) (rest : List ℕ) → all_fine (loop i) 1 rest ≡ true
loop_fine i rest = refl

function_fine : (i : ℕ) (rest : List ℕ) → all_fine (function_bits i) 1 rest ≡ true
function_fine i rest = fine_append (function_head i) (loop i) 1 rest (head_fine i (written (loop i) ++ rest)) (loop_fine i rest)

call_fine : (i : ℕ) (rest : List ℕ) → all_fine (call_bits i) 1 rest ≡ true
call_fine i rest = refl

main_head_fine : (rest : List ℕ) → all_fine head_bits 1 rest ≡ true
main_head_fine rest = refl

tail_fine : all_fine tail_bits 5 [] ≡ true
tail_fine = refl

-- a letter stands first in each
each_class : (bits : ℕ → List Bit) → ((i : ℕ) (rest : List ℕ) → class_behind (bits i) 1 rest ≡ 1) → (n : ℕ) (rest : List ℕ) → class_behind (each_bits bits n) 1 rest ≡ 1
each_class bits one zero rest = refl
each_class bits one (suc n) rest =
    class_append (each_bits bits n) (bits (suc n)) 1 rest
    ∙ ap (λ c. class_behind (each_bits bits n) c (written (bits (suc n)) ++ rest)) (one (suc n) rest)
    ∙ each_class bits one n (written (bits (suc n)) ++ rest)

each_fine : (bits : ℕ → List Bit) → ((i : ℕ) (rest : List ℕ) → all_fine (bits i) 1 rest ≡ true) → ((i : ℕ) (rest : List ℕ) → class_behind (bits i) 1 rest ≡ 1) → (n : ℕ) (rest : List ℕ) → all_fine (each_bits bits n) 1 rest ≡ true
each_fine bits one first zero rest = refl
each_fine bits one first (suc n) rest =
    fine_append (each_bits bits n) (bits (suc n)) 1 rest (subst (λ c. all_fine (each_bits bits n) c (written (bits (suc n)) ++ rest) ≡ true) (sym (first (suc n) rest)) (each_fine bits one first n (written (bits (suc n)) ++ rest))) (one (suc n) rest)

pub numbered_fine : (n : ℕ) → all_fine (numbered_bits n) 5 [] ≡ true
numbered_fine n =
    let calls : all_fine (each_bits call_bits n ++ tail_bits) 5 [] ≡ true = fine_append (each_bits call_bits n) tail_bits 5 [] (each_fine call_bits call_fine (λ i rest. refl) n (written tail_bits ++ [])) tail_fine in
    let begins : class_behind (each_bits call_bits n ++ tail_bits) 5 [] ≡ 1 = class_append (each_bits call_bits n) tail_bits 5 [] ∙ each_class call_bits (λ i rest. refl) n (written tail_bits ++ []) in
    let main : all_fine (main_bits n) 5 [] ≡ true = fine_append head_bits (each_bits call_bits n ++ tail_bits) 5 [] (subst (λ c. all_fine head_bits c (written (each_bits call_bits n ++ tail_bits) ++ []) ≡ true) (sym begins) (main_head_fine (written (each_bits call_bits n ++ tail_bits) ++ []))) calls in
    fine_append (each_bits function_bits n) (main_bits n) 5 [] (each_fine function_bits function_fine (λ i rest. refl) n (written (main_bits n) ++ [])) main

each_low : (bits : ℕ → List Bit) → ((m : ℕ) → suc m ≤ 100 → AreLow (bits (suc m))) → (n : ℕ) → n ≤ 100 → AreLow (each_bits bits n)
each_low bits one zero le = tt
each_low bits one (suc n) le = low_append (each_bits bits n) (bits (suc n)) (each_low bits one n (omega (arith, le))) (one n le)

pub numbered_low : (n : ℕ) → n ≤ 100 → AreLow (numbered_bits n)
numbered_low n le =
    low_append (each_bits function_bits n) (main_bits n) (each_low function_bits (λ m h. ((omega arith, h), ((omega arith, h), tt))) n le)
    (low_append head_bits (each_bits call_bits n ++ tail_bits) tt (low_append (each_bits call_bits n) tail_bits (each_low call_bits (λ m h. ((omega arith, h), tt)) n le) tt))
