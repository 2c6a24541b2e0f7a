-- Reading digits one after another, and cutting a text at a byte.
use Rattle.std.proofs.Common.{◌≡◌, ℕ, ◌+◌, ◌-◌, ◌*◌, ◌^◌, ◌<◌, ◌≤◌, ◌==◌, ◌&&◌, not, List, [], ◌∷◌, ◌++◌, length, take, drop, get_or, Bool, true, false, refl, sym, ap, subst, ◌∙◌, arith, min, ⊎_elim, if◌then◌else◌}
use Rattle.std.specs.Str.{all_ascii_digits}
use Rattle.std.specs.Char.{is_ascii_digit}
use Rattle.std.proofs.lemmas.Bool.{false≢true, cases_lt}
use Rattle.std.proofs.lemmas.Grind.{common_steps}
use Rattle.std.proofs.lemmas.List.{take_more, drop_all, take-append-drop, append_assoc, length-append}
use Rattle.report_words.specs.Words.{Word}
use Rattle.report_words.specs.Numbers.{read_on, number_of}
use Rattle.report_words.specs.Splitting.{lacks, SplitsAt, lengthened, words_of}
use Rattle.report_words.specs.Scanning.{IsReading}

cut : (xs : List ℕ) (i : ℕ) → i < length xs → drop i xs ≡ get_or xs i 0 ∷ drop (i + 1) xs
cut xs i lt = grind (arith, common_steps)

and_first : (a b : Bool) → (a && b) ≡ true → a ≡ true
and_first true b e = refl
and_first false b e = e

and_second : (a b : Bool) → (a && b) ≡ true → b ≡ true
and_second true b e = e
and_second false b e = absurd (false≢true e)

read_on-least : (n : ℕ) (ds : List ℕ) → n ≤ read_on n ds
read_on-least n [] = omega arith
read_on-least n (c ∷ cs) = omega (arith, read_on-least (10 * n + (c - 48)) cs)

-- a number that is cut at 2^120 stays above it
read_on-capped : (m : ℕ) (ds : List ℕ) → min (read_on (min m (2 ^ 120)) ds) (2 ^ 120) ≡ min (read_on m ds) (2 ^ 120)
read_on-capped m ds = ⊎_elim
    (λ lt. ap (λ k. min (read_on k ds) (2 ^ 120)) (omega arith))
    (λ le. let e : min m (2 ^ 120) ≡ 2 ^ 120 = omega arith in
    ap (λ k. min (read_on k ds) (2 ^ 120)) e ∙ omega (arith, read_on-least (2 ^ 120) ds, read_on-least m ds))
    (cases_lt m (2 ^ 120))

pub read_more : (n m i : ℕ) (all : List ℕ) → i < length all → IsReading n (drop i all) all → m ≡ min (10 * n + (get_or all i 0 - 48)) (2 ^ 120) → IsReading m (drop (i + 1) all) all
read_more n m i all lt r is =
    let left = cut all i lt in
    let digits : (is_ascii_digit (get_or all i 0) && all_ascii_digits (drop (i + 1) all)) ≡ true = subst (λ xs. all_ascii_digits xs ≡ true) left r.digits in
    record {
      digits = and_second (is_ascii_digit (get_or all i 0)) (all_ascii_digits (drop (i + 1) all)) digits;
      capped = omega (arith, is);
      same = ap (λ k. min (read_on k (drop (i + 1) all)) (2 ^ 120)) is
          ∙ read_on-capped (10 * n + (get_or all i 0 - 48)) (drop (i + 1) all)
          ∙ ap (λ xs. min (read_on n xs) (2 ^ 120)) (sym left)
          ∙ r.same;
    }

pub digit_here : (n i : ℕ) (all : List ℕ) → i < length all → IsReading n (drop i all) all → is_ascii_digit (get_or all i 0) ≡ true
digit_here n i all lt r =
    and_first (is_ascii_digit (get_or all i 0)) (all_ascii_digits (drop (i + 1) all)) (subst (λ xs. all_ascii_digits xs ≡ true) (cut all i lt) r.digits)

pub read_end : (n i : ℕ) (all : List ℕ) → length all ≤ i → IsReading n (drop i all) all → n ≡ min (number_of all) (2 ^ 120)
unfolding number_of
read_end n i all le r =
    let left : min n (2 ^ 120) ≡ min (read_on 0 all) (2 ^ 120) = ap (λ xs. min (read_on n xs) (2 ^ 120)) (sym (drop_all i all le)) ∙ r.same in
    omega (arith, left, r.capped)

-- the byte at that place isn't the one
pub lacks_more : (s : ℕ) (text : List ℕ) (i : ℕ) → i < length text → (get_or text i 0 == s) ≡ false → lacks s (take i text) ≡ true → lacks s (take (i + 1) text) ≡ true
lacks_more s text i lt other e = ap (lacks s) (take_more text i 0 lt) ∙ at_end (take i text) (get_or text i 0) e other
  where
    at_end : (xs : List ℕ) (x : ℕ) → lacks s xs ≡ true → (x == s) ≡ false → lacks s (xs ++ x ∷ []) ≡ true
    at_end [] x e other = rw other refl
    at_end (y ∷ ys) x e other = rw (and_first (not (y == s)) (lacks s ys) e) (at_end ys x (and_second (not (y == s)) (lacks s ys) e) other)

pub take_whole : (xs : List ℕ) (i : ℕ) → length xs ≤ i → take i xs ≡ xs
take_whole xs i le = grind (arith, common_steps)

pub rest_whole : (xs : List ℕ) (n : ℕ) → take (length xs - n) (drop n xs) ≡ drop n xs
rest_whole xs n = grind (arith, common_steps)

pub around : (xs : List ℕ) (i s : ℕ) → i < length xs → get_or xs i 0 ≡ s → xs ≡ take i xs ++ s ∷ drop (i + 1) xs
around xs i s lt is = sym (take-append-drop i xs) ∙ ap (λ ys. take i xs ++ ys) (cut xs i lt ∙ ap (λ b. b ∷ drop (i + 1) xs) is)

pub split_here : (text : List ℕ) (i s : ℕ) → i < length text → get_or text i 0 ≡ s → lacks s (take i text) ≡ true → SplitsAt s text (take i text) (drop (i + 1) text)
split_here text i s lt is e = record { split = around text i s lt is; lacking = e }

pub lacks_whole : (text : List ℕ) (i s : ℕ) → length text ≤ i → lacks s (take i text) ≡ true → lacks s text ≡ true
lacks_whole text i s le e = ap (lacks s) (sym (take_whole text i le)) ∙ e

-- a line without blanks is one word
pub words_of-one : (xs : List ℕ) → lacks 32 xs ≡ true → words_of xs ≡ xs ∷ []
words_of-one [] e = refl
words_of-one (b ∷ bs) e = by (b == 32) (and_first (not (b == 32)) (lacks 32 bs) e) (words_of-one bs (and_second (not (b == 32)) (lacks 32 bs) e))
  where
    by : (t : Bool) → not t ≡ true → words_of bs ≡ bs ∷ [] → (if t then [] ∷ words_of bs else lengthened b (words_of bs)) ≡ (b ∷ bs) ∷ []
    by true n is = absurd (false≢true n)
    by false n is = ap (lengthened b) is

-- the first word stands before the first blank
pub words_of-more : (xs rest : List ℕ) → lacks 32 xs ≡ true → words_of (xs ++ 32 ∷ rest) ≡ xs ∷ words_of rest
words_of-more [] rest e = refl
words_of-more (b ∷ bs) rest e = by (b == 32) (and_first (not (b == 32)) (lacks 32 bs) e) (words_of-more bs rest (and_second (not (b == 32)) (lacks 32 bs) e))
  where
    by : (t : Bool) → not t ≡ true → words_of (bs ++ 32 ∷ rest) ≡ bs ∷ words_of rest → (if t then [] ∷ words_of (bs ++ 32 ∷ rest) else lengthened b (words_of (bs ++ 32 ∷ rest))) ≡ (b ∷ bs) ∷ words_of rest
    by true n is = absurd (false≢true n)
    by false n is = ap (lengthened b) is

-- a line whose first blank ends the word
pub words_split : (line word rest : List ℕ) → SplitsAt 32 line word rest → words_of line ≡ word ∷ words_of rest
words_split line word rest s = ap words_of s.split ∙ words_of-more word rest s.lacking

pub rest_shorter : (s : ℕ) (text front rest : List ℕ) → SplitsAt s text front rest → length rest < length text
rest_shorter s text front rest e = omega (arith, ap length e.split, length-append front (s ∷ rest))

-- one more word was added
pub word_added : (before words more : List Word) (line word rest : List ℕ) → SplitsAt 32 line word rest → more ≡ words ++ word ∷ [] → words ++ words_of line ≡ before → more ++ words_of rest ≡ before
word_added before words more line word rest s is so_far = ap (λ w. w ++ words_of rest) is ∙ append_assoc words (word ∷ []) (words_of rest) ∙ ap (λ w. words ++ w) (sym (words_split line word rest s)) ∙ so_far

-- and the last one
pub last_word : (before words more : List Word) (line : List ℕ) → lacks 32 line ≡ true → more ≡ words ++ line ∷ [] → words ++ words_of line ≡ before → more ≡ before
last_word before words more line e is so_far = is ∙ ap (λ w. words ++ w) (sym (words_of-one line e)) ∙ so_far
