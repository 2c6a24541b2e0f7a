-- Words that are written are read again: addresses and signed numbers.
use Rattle.std.proofs.Common.{◌≡◌, ℕ, suc, ◌+◌, ◌*◌, ◌/◌, ◌%◌, ◌^◌, ◌<◌, ◌==◌, ℤ, pos, negsuc, neg_ℤ, unsigned_abs, List, [], ◌∷◌, Bool, true, false, refl, ap, subst, ◌∙◌, arith, if◌then◌else◌}
use Rattle.std.specs.Fmt.{decimal, signed_decimal}
use Rattle.std.specs.Char.{digit_char}
use Rattle.std.proofs.lemmas.Bool.{false≢true}
use borrow.Author.Tests.{eqb-true}
use Rattle.report_words.specs.Words.{Word, address_word}
use Rattle.report_words.specs.Numbers.{is_number, number_of, is_positive, is_signed, signed_of, is_hex_digit, are_hex_digits, is_address, hex_value, address_of}
use Rattle.report_words.proofs.AddressLemmas.{digit_is, value_is}
use Rattle.report_words.proofs.NumberLemmas.{is_number-decimal, number_of-decimal, is_positive-decimal}

-- addresses

all8 : (a b c d e f g h : ℕ) → is_hex_digit a ≡ true → is_hex_digit b ≡ true → is_hex_digit c ≡ true → is_hex_digit d ≡ true → is_hex_digit e ≡ true → is_hex_digit f ≡ true → is_hex_digit g ≡ true → is_hex_digit h ≡ true
    → are_hex_digits (a ∷ b ∷ c ∷ d ∷ e ∷ f ∷ g ∷ h ∷ []) ≡ true
all8 a b c d e f g h pa pb pc pd pe pf pg ph = rw (pa, pb, pc, pd, pe, pf, pg, ph) refl

pub is_address-address_word : (a : ℕ) → is_address (address_word a) ≡ true
unfolding address_word
is_address-address_word a =
    all8 (digit_char (a / 0x1000_0000 % 16)) (digit_char (a / 0x100_0000 % 16)) (digit_char (a / 0x10_0000 % 16)) (digit_char (a / 0x1_0000 % 16)) (digit_char (a / 0x1000 % 16)) (digit_char (a / 0x100 % 16)) (digit_char (a / 0x10 % 16)) (digit_char (a % 16))
    (digit_is (a / 0x1000_0000 % 16) (omega arith)) (digit_is (a / 0x100_0000 % 16) (omega arith)) (digit_is (a / 0x10_0000 % 16) (omega arith)) (digit_is (a / 0x1_0000 % 16) (omega arith)) (digit_is (a / 0x1000 % 16) (omega arith)) (digit_is (a / 0x100 % 16) (omega arith)) (digit_is (a / 0x10 % 16) (omega arith)) (digit_is (a % 16) (omega arith))

-- the number of eight digits
number8 : ℕ → ℕ → ℕ → ℕ → ℕ → ℕ → ℕ → ℕ → ℕ
number8 a b c d e f g h = 16 * (16 * (16 * (16 * (16 * (16 * (16 * (16 * 0 + a) + b) + c) + d) + e) + f) + g) + h

digits8 : (n : ℕ) → n < 2 ^ 32 → number8 (n / 0x1000_0000 % 16) (n / 0x100_0000 % 16) (n / 0x10_0000 % 16) (n / 0x1_0000 % 16) (n / 0x1000 % 16) (n / 0x100 % 16) (n / 0x10 % 16) (n % 16) ≡ n
unfolding number8
digits8 n small = omega arith

read8 : (a b c d e f g h : ℕ) → address_of (a ∷ b ∷ c ∷ d ∷ e ∷ f ∷ g ∷ h ∷ []) ≡ number8 (hex_value a) (hex_value b) (hex_value c) (hex_value d) (hex_value e) (hex_value f) (hex_value g) (hex_value h)
unfolding address_of number8
read8 a b c d e f g h = refl

pub address_of-address_word : (n : ℕ) → n < 2 ^ 32 → address_of (address_word n) ≡ n
unfolding address_word
address_of-address_word n small =
    read8 (digit_char (n / 0x1000_0000 % 16)) (digit_char (n / 0x100_0000 % 16)) (digit_char (n / 0x10_0000 % 16)) (digit_char (n / 0x1_0000 % 16)) (digit_char (n / 0x1000 % 16)) (digit_char (n / 0x100 % 16)) (digit_char (n / 0x10 % 16)) (digit_char (n % 16))
    ∙ (λ i. number8 (value_is (n / 0x1000_0000 % 16) (omega arith) i) (value_is (n / 0x100_0000 % 16) (omega arith) i) (value_is (n / 0x10_0000 % 16) (omega arith) i) (value_is (n / 0x1_0000 % 16) (omega arith) i)
    (value_is (n / 0x1000 % 16) (omega arith) i) (value_is (n / 0x100 % 16) (omega arith) i) (value_is (n / 0x10 % 16) (omega arith) i) (value_is (n % 16) (omega arith) i))
    ∙ digits8 n small

-- signed numbers

signed_by : (t : Bool) (b : ℕ) (bs : List ℕ) → (b == 45) ≡ t → is_number (b ∷ bs) ≡ true → (if t then is_positive bs else is_number (b ∷ bs)) ≡ true
signed_by true b bs e n = absurd (false≢true (subst (λ x. is_number (x ∷ bs) ≡ true) (eqb-true b 45 e) n))
signed_by false b bs e n = n

number_is_signed : (w : Word) → is_number w ≡ true → is_signed w ≡ true
number_is_signed [] n = absurd (false≢true n)
number_is_signed (b ∷ bs) n = signed_by (b == 45) b bs refl n

signed_of_by : (t : Bool) (b : ℕ) (bs : List ℕ) → (b == 45) ≡ t → is_number (b ∷ bs) ≡ true → (if t then neg_ℤ (pos (number_of bs)) else pos (number_of (b ∷ bs))) ≡ pos (number_of (b ∷ bs))
signed_of_by true b bs e n = absurd (false≢true (subst (λ x. is_number (x ∷ bs) ≡ true) (eqb-true b 45 e) n))
signed_of_by false b bs e n = refl

pub signed_of_number : (w : Word) → is_number w ≡ true → signed_of w ≡ pos (number_of w)
signed_of_number [] n = absurd (false≢true n)
signed_of_number (b ∷ bs) n = signed_of_by (b == 45) b bs refl n

pub is_signed-signed_decimal : (z : ℤ) → unsigned_abs z < 10 ^ 64 → is_signed (signed_decimal z) ≡ true
is_signed-signed_decimal (pos n) small = number_is_signed (decimal n) (is_number-decimal n small)
is_signed-signed_decimal (negsuc n) small = is_positive-decimal (suc n) (omega arith) small

pub signed_of-signed_decimal : (z : ℤ) → unsigned_abs z < 10 ^ 64 → signed_of (signed_decimal z) ≡ z
signed_of-signed_decimal (pos n) small = signed_of_number (decimal n) (is_number-decimal n small) ∙ ap pos (number_of-decimal n small)
signed_of-signed_decimal (negsuc n) small = ap (λ m. neg_ℤ (pos m)) (number_of-decimal (suc n) small)
