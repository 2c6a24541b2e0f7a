-- What is written of a number or an address has its form, is in range, and says that number.
use Rattle.std.proofs.Common.{◌≡◌, ℕ, ◌^◌, ◌<◌, ◌≤◌, ◌&&◌, ℤ, pos, negsuc, ◌≤ℤ◌, unsigned_abs, Bool, true, ap, arith, nat_lt, nat_le}
use Rattle.std.proofs.lemmas.Int.{ints}
use Rattle.std.specs.Fmt.{decimal, signed_decimal}
use borrow.Author.Tests.{le-leb, lt-ltb}
use Rattle.code_flow_system.specs.Certificates.{IsSmall}
use Rattle.report_words.specs.declared.shapes.Shape.TheVariants.{Number, Amount}
use Rattle.report_words.specs.Shapes.{is_in_range}
use Rattle.report_words.specs.Numbers.{is_number, number_of, is_signed, signed_of}
use Rattle.report_words.proofs.NumberLemmas.{is_number-decimal, number_of-decimal}
use Rattle.report_words.proofs.WordLemmas.{is_signed-signed_decimal, signed_of-signed_decimal}

pub and_both : (a b : Bool) → a ≡ true → b ≡ true → (a && b) ≡ true
and_both a b e f = (λ i. e i && f i)

pub number_form : (n : ℕ) → n < 2 ^ 64 → is_number (decimal n) ≡ true
number_form n small = is_number-decimal n (omega arith)

pub number_back : (n : ℕ) → n < 2 ^ 64 → number_of (decimal n) ≡ n
number_back n small = number_of-decimal n (omega arith)

pub number_range : (least most n : ℕ) → n < 2 ^ 64 → least ≤ n → n ≤ most → is_in_range (Number least most) (decimal n) ≡ true
number_range least most n small le ge =
    let same = number_back n small in
    and_both (nat_le least (number_of (decimal n))) (nat_le (number_of (decimal n)) most) (le-leb least (number_of (decimal n)) (omega (arith, same, le))) (le-leb (number_of (decimal n)) most (omega (arith, same, ge)))

pub signed_form : (z : ℤ) → IsSmall z → is_signed (signed_decimal z) ≡ true
signed_form z small = is_signed-signed_decimal z (omega (arith, small))

pub signed_back : (z : ℤ) → IsSmall z → signed_of (signed_decimal z) ≡ z
signed_back z small = signed_of-signed_decimal z (omega (arith, small))

pub signed_range : (z : ℤ) → IsSmall z → nat_lt (unsigned_abs (signed_of (signed_decimal z))) (2 ^ 120) ≡ true
signed_range z small = let same = ap unsigned_abs (signed_back z small) in lt-ltb (unsigned_abs (signed_of (signed_decimal z))) (2 ^ 120) (omega (arith, same, small))

pub amount_form : (z : ℤ) → pos 0 ≤ℤ z → IsSmall z → is_number (signed_decimal z) ≡ true
amount_form (pos n) least small = is_number-decimal n (omega (arith, small))
amount_form (negsuc n) least small = absurd (omega (arith, ints, least))

pub amount_range : (least : ℕ) (z : ℤ) → pos least ≤ℤ z → IsSmall z → is_in_range (Amount least) (signed_decimal z) ≡ true
amount_range least (pos n) le small =
    let same = number_of-decimal n (omega (arith, small)) in
    and_both (nat_le least (number_of (decimal n))) (nat_lt (number_of (decimal n)) (2 ^ 120)) (le-leb least (number_of (decimal n)) (omega (arith, ints, same, le))) (lt-ltb (number_of (decimal n)) (2 ^ 120) (omega (arith, same, small)))
amount_range least (negsuc n) le small = absurd (omega (arith, ints, le))
