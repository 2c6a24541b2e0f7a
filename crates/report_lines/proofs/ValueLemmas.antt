-- What is read of a word is written as that word.
use Rattle.std.proofs.Common.{◌≡◌, ℕ, ◌<◌, ◌^◌, ℤ, pos, unsigned_abs, true, ap, ◌∙◌, arith, min}
use Rattle.std.specs.Fmt.{decimal, signed_decimal}
use Rattle.std.specs.Str.{all_ascii_digits}
use Rattle.report_words.specs.Words.{Word, address_word}
use Rattle.report_words.specs.Numbers.{is_number, number_of, is_signed, signed_of, is_address, address_of}
use Rattle.report_words.proofs.NumberLemmas.{digits_of_number, decimal-number_of}
use Rattle.report_words.proofs.BackLemmas.{address_word-address_of, signed_decimal-signed_of}

pub digits : (w : Word) → is_number w ≡ true → all_ascii_digits w ≡ true
digits w form = digits_of_number w form

pub written : (n : ℕ) (w : Word) → is_number w ≡ true → number_of w < 2 ^ 64 → n ≡ min (number_of w) (2 ^ 120) → decimal n ≡ w
written n w form small is = ap decimal (omega (arith, is)) ∙ decimal-number_of w form (omega (arith, small))

pub written_signed : (n : ℕ) (w : Word) → is_number w ≡ true → number_of w < 2 ^ 120 → n ≡ min (number_of w) (2 ^ 120) → signed_decimal (pos n) ≡ w
written_signed n w form small is = ap decimal (omega (arith, is)) ∙ decimal-number_of w form (omega (arith, small))

pub signed_written : (z : ℤ) (w : Word) → is_signed w ≡ true → unsigned_abs (signed_of w) < 2 ^ 120 → z ≡ signed_of w → signed_decimal z ≡ w
signed_written z w form small is = ap signed_decimal is ∙ signed_decimal-signed_of w form (omega (arith, small))

pub address_written : (a : ℕ) (w : Word) → is_address w ≡ true → a ≡ address_of w → address_word a ≡ w
address_written a w form is = ap address_word is ∙ address_word-address_of w form
