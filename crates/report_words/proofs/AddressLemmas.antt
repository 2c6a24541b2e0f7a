-- Addresses in hexadecimal, both ways.
use Rattle.std.proofs.Common.{◌≡◌, ℕ, ◌<◌, true, arith}
use Rattle.std.specs.Char.{digit_char}
use Rattle.std.proofs.lemmas.Bool.Decides.{nat_tests}
use Rattle.report_words.specs.Numbers.{is_hex_digit, hex_value}

pub digit_is : (d : ℕ) → d < 16 → is_hex_digit (digit_char d) ≡ true
digit_is d small = grind (arith, nat_tests)

pub value_is : (d : ℕ) → d < 16 → hex_value (digit_char d) ≡ d
value_is d small = grind (arith, nat_tests)

pub char_is : (b : ℕ) → is_hex_digit b ≡ true → digit_char (hex_value b) ≡ b
char_is b h = grind (arith, nat_tests)

pub value_small : (b : ℕ) → is_hex_digit b ≡ true → hex_value b < 16
value_small b h = grind (arith, nat_tests)
