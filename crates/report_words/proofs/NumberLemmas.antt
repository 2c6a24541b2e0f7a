-- Numbers in decimal: what is written of a number is one, and a number is what is written of it.
use Rattle.std.proofs.Common.{◌≡◌, ℕ, zero, suc, ◌+◌, ◌-◌, ◌*◌, ◌/◌, ◌%◌, ◌^◌, ◌<◌, ◌≤◌, List, [], ◌∷◌, ◌++◌, length, get_or, Bool, true, false, refl, sym, ap, ◌∙◌, arith, rules, ◌==◌, ◌&&◌, not, if◌then◌else◌}
use Rattle.std.specs.Str.{all_ascii_digits}
use Rattle.std.specs.Fmt.{decimal}
use Rattle.std.proofs.lemmas.Bool.{false≢true}
use Rattle.std.proofs.lemmas.List.{append_assoc, append-nil}
use Rattle.std.specs.Str.Parse.{AllDigits, digits_value_after, digits_value}
use Rattle.std.specs.Char.{digit_value}
use Rattle.std.proofs.lemmas.Str.{digit_value_digit}
use Rattle.std.proofs.lemmas.Str.Parse.{IsNumeralModel, numerals_by_fold, tells_all_ascii_digits, digit_from_value}
use Rattle.std.proofs.lemmas.Fmt.{decimal_step_wide, decimal_by_steps_wide, decimal_is_IsNumeral_wide, decimal_digit}
use borrow.Author.Tests.{eq-eqb, ne_eqb, eqb-true}
use Rattle.report_words.specs.Words.{Word}
use Rattle.report_words.specs.Numbers.{is_empty, is_number, is_positive, read_on, number_of}

own : IsNumeralModel (λ ds. all_ascii_digits ds ≡ true) (read_on 0)
own = numerals_by_fold _ tells_all_ascii_digits read_on (search rules)

le_value_after : (n : ℕ) (ds : List ℕ) → n ≤ digits_value_after 10 n ds
le_value_after n [] = omega arith
le_value_after n (c ∷ cs) = omega (arith, le_value_after (n * 10 + digit_value c) cs)

decimal_value_after : (n : ℕ) (ds : List ℕ) → 0 < n → AllDigits 10 ds → digits_value_after 10 n ds < 10 ^ 64 → decimal (digits_value_after 10 n ds) ≡ decimal n ++ ds
decimal_value_after n [] some d small = sym (append-nil (decimal n))
decimal_value_after n (c ∷ cs) some d small =
    let m : ℕ = n * 10 + digit_value c in
    let k = digit_value_digit c (digit_from_value c d.0) in
    let front : m / 10 ≡ n = omega (arith, d.0) in
    let end : 48 + m % 10 ≡ c = omega (arith, d.0) in
    decimal_value_after m cs (omega arith) d.1 small
    ∙ ap (λ x. x ++ cs) (decimal_step_wide m (omega arith) (omega (arith, le_value_after m cs)) ∙ (λ i. decimal (front i) ++ (end i ∷ [])))
    ∙ append_assoc (decimal n) (c ∷ []) cs

-- a number that doesn't begin with 0
decimal_value_digits : (c : ℕ) (cs : List ℕ) → (c ≡ 48 → ⊥) → AllDigits 10 (c ∷ cs) → digits_value 10 (c ∷ cs) < 10 ^ 64 → decimal (digits_value 10 (c ∷ cs)) ≡ c ∷ cs
decimal_value_digits c cs other d small =
    let k = digit_value_digit c (digit_from_value c d.0) in
    let is : 48 + (0 * 10 + digit_value c) ≡ c = omega arith in
    decimal_value_after (0 * 10 + digit_value c) cs (omega (arith, other, k, digit_from_value c d.0)) d.1 small
    ∙ ap (λ x. x ++ cs) (decimal_digit (0 * 10 + digit_value c) (omega (arith, d.0)) ∙ ap (λ x. x ∷ []) is)

-- the first digit of a number above 0, and that there is one
begins : (n : ℕ) → n < 10 ^ 64 → (0 < length (decimal n)) × (0 < n → 48 < get_or (decimal n) 0 0)
begins n small = decimal_by_steps_wide (λ m ds. (0 < length ds) × (0 < m → 48 < get_or ds 0 0)) (λ m l. (omega arith, λ a. omega arith)) more n small
  where
    first : (x : ℕ) (ds : List ℕ) → 0 < length ds → get_or (ds ++ x ∷ []) 0 0 ≡ get_or ds 0 0
    first x [] some = absurd (omega arith)
    first x (d ∷ ds) some = refl

    longer : (x : ℕ) (ds : List ℕ) → 0 < length (ds ++ x ∷ [])
    longer x [] = omega arith
    longer x (d ∷ ds) = omega arith

    more : (m : ℕ) (ds : List ℕ) → 10 ≤ m → (0 < length ds) × (0 < m / 10 → 48 < get_or ds 0 0) → (0 < length (ds ++ (48 + m % 10) ∷ [])) × (0 < m → 48 < get_or (ds ++ (48 + m % 10) ∷ []) 0 0)
    more m ds l h = (longer (48 + m % 10) ds, λ a. omega (arith, first (48 + m % 10) ds h.0, h.1 (omega arith)))

pub digits-decimal : (n : ℕ) → n < 10 ^ 64 → all_ascii_digits (decimal n) ≡ true
digits-decimal n small = own.from (decimal n) (decimal_is_IsNumeral_wide n small).0.1

pub number_of-decimal : (n : ℕ) → n < 10 ^ 64 → number_of (decimal n) ≡ n
unfolding number_of
number_of-decimal n small = own.same (decimal n) (decimal_is_IsNumeral_wide n small).0.1 ∙ (decimal_is_IsNumeral_wide n small).1

positive_by : (ds : List ℕ) → 0 < length ds → 48 < get_or ds 0 0 → all_ascii_digits ds ≡ true → is_positive ds ≡ true
positive_by [] some first d = absurd (omega arith)
positive_by (b ∷ bs) some first d = rw (ne_eqb b 48 (λ e. omega arith), d) refl

number_by : (ds : List ℕ) → 0 < length ds → 48 < get_or ds 0 0 → all_ascii_digits ds ≡ true → is_number ds ≡ true
number_by [] some first d = absurd (omega arith)
number_by (b ∷ bs) some first d = rw (ne_eqb b 48 (λ e. omega arith), d) refl

pub is_positive-decimal : (n : ℕ) → 0 < n → n < 10 ^ 64 → is_positive (decimal n) ≡ true
is_positive-decimal n some small = positive_by (decimal n) (begins n small).0 ((begins n small).1 some) (digits-decimal n small)

pub is_number-decimal : (n : ℕ) → n < 10 ^ 64 → is_number (decimal n) ≡ true
is_number-decimal zero small = ap is_number (decimal_digit 0 (omega arith))
is_number-decimal (suc n) small = number_by (decimal (suc n)) (begins (suc n) small).0 ((begins (suc n) small).1 (omega arith)) (digits-decimal (suc n) small)

number_back : (w : Word) → all_ascii_digits w ≡ true → read_on 0 w < 10 ^ 64 → (read_on 0 w ≡ digits_value 10 w) × AllDigits 10 w
number_back w d small = (own.same w (own.to w d), own.to w d)

back : (b : ℕ) (bs : List ℕ) → (b ≡ 48 → ⊥) → all_ascii_digits (b ∷ bs) ≡ true → read_on 0 (b ∷ bs) < 10 ^ 64 → decimal (read_on 0 (b ∷ bs)) ≡ b ∷ bs
back b bs other d small =
    let k = number_back (b ∷ bs) d small in
    ap decimal k.0 ∙ decimal_value_digits b bs other k.1 (omega (arith, k.0, small))

zero_back : (b : ℕ) (bs : List ℕ) → b ≡ 48 → is_empty bs ≡ true → decimal (read_on 0 (b ∷ bs)) ≡ b ∷ bs
zero_back b [] e n = ap (λ x. decimal (10 * 0 + (x - 48))) e ∙ decimal_digit 0 (omega arith) ∙ ap (λ x. x ∷ []) (sym e)
zero_back b (c ∷ cs) e n = absurd (false≢true n)

back_by : (t : Bool) (b : ℕ) (bs : List ℕ) → (b == 48) ≡ t → (if t then is_empty bs else all_ascii_digits (b ∷ bs)) ≡ true → read_on 0 (b ∷ bs) < 10 ^ 64 → decimal (read_on 0 (b ∷ bs)) ≡ b ∷ bs
back_by true b bs e n small = zero_back b bs (eqb-true b 48 e) n
back_by false b bs e n small = back b bs (λ z. absurd (false≢true (sym e ∙ eq-eqb b 48 z))) n small

-- a number is what is written of it
pub decimal-number_of : (w : Word) → is_number w ≡ true → number_of w < 10 ^ 64 → decimal (number_of w) ≡ w
unfolding number_of
decimal-number_of [] n small = absurd (false≢true n)
decimal-number_of (b ∷ bs) n small = back_by (b == 48) b bs refl n small

positive_back_by : (t : Bool) (b : ℕ) (bs : List ℕ) → (b == 48) ≡ t → (not t && all_ascii_digits (b ∷ bs)) ≡ true → read_on 0 (b ∷ bs) < 10 ^ 64 → decimal (read_on 0 (b ∷ bs)) ≡ b ∷ bs
positive_back_by true b bs e n small = absurd (false≢true n)
positive_back_by false b bs e n small = back b bs (λ z. absurd (false≢true (sym e ∙ eq-eqb b 48 z))) n small

pub decimal-positive : (w : Word) → is_positive w ≡ true → number_of w < 10 ^ 64 → decimal (number_of w) ≡ w
unfolding number_of
decimal-positive [] n small = absurd (false≢true n)
decimal-positive (b ∷ bs) n small = positive_back_by (b == 48) b bs refl n small

digits_by : (t : Bool) (b : ℕ) (bs : List ℕ) → (b == 48) ≡ t → (if t then is_empty bs else all_ascii_digits (b ∷ bs)) ≡ true → all_ascii_digits (b ∷ bs) ≡ true
digits_by true b [] e n = ap (λ x. all_ascii_digits (x ∷ [])) (eqb-true b 48 e)
digits_by true b (c ∷ cs) e n = absurd (false≢true n)
digits_by false b bs e n = n

pub digits_of_number : (w : Word) → is_number w ≡ true → all_ascii_digits w ≡ true
digits_of_number [] n = absurd (false≢true n)
digits_of_number (b ∷ bs) n = digits_by (b == 48) b bs refl n

and_second : (a b : Bool) → (a && b) ≡ true → b ≡ true
and_second true b e = e
and_second false b e = absurd (false≢true e)

pub digits_of_positive : (w : Word) → is_positive w ≡ true → all_ascii_digits w ≡ true
digits_of_positive [] n = absurd (false≢true n)
digits_of_positive (b ∷ bs) n = and_second (not (b == 48)) (all_ascii_digits (b ∷ bs)) n
