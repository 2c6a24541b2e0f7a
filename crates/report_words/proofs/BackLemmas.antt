-- Words that are read are those that are written of what they say.
use Rattle.std.proofs.Common.{◌≡◌, ℕ, zero, suc, ◌+◌, ◌*◌, ◌/◌, ◌%◌, ◌^◌, ◌<◌, ◌==◌, ◌&&◌, pos, neg_ℤ, unsigned_abs, List, [], ◌∷◌, length, Bool, true, false, refl, sym, ap, subst, ◌∙◌, arith, if◌then◌else◌}
use Rattle.std.specs.Fmt.{decimal, signed_decimal}
use Rattle.std.specs.Char.{digit_char}
use Rattle.std.proofs.lemmas.Bool.{false≢true}
use Rattle.std.proofs.lemmas.Fmt.{decimal_digit}
use borrow.Author.Tests.{eqb-true}
use Rattle.report_words.specs.Words.{Word, address_word}
use Rattle.report_words.specs.Numbers.{is_number, number_of, is_positive, is_signed, signed_of, is_hex_digit, are_hex_digits, is_address, hex_value, read_hex_on, address_of}
use Rattle.report_words.proofs.AddressLemmas.{char_is, value_small}
use Rattle.report_words.proofs.NumberLemmas.{decimal-number_of, decimal-positive}

and_first : (a b : Bool) → (a && b) ≡ true → a ≡ true
and_first true b e = refl
and_first false b e = e

and_second : (a b : Bool) → (a && b) ≡ true → b ≡ true
and_second true b e = e
and_second false b e = absurd (false≢true e)

-- the digits of a number of eight hexadecimal digits
written8 : (a b c d e f g h n : ℕ) → a < 16 → b < 16 → c < 16 → d < 16 → e < 16 → f < 16 → g < 16 → h < 16
    → n ≡ 16 * (16 * (16 * (16 * (16 * (16 * (16 * a + b) + c) + d) + e) + f) + g) + h
    → address_word n ≡ digit_char a ∷ digit_char b ∷ digit_char c ∷ digit_char d ∷ digit_char e ∷ digit_char f ∷ digit_char g ∷ digit_char h ∷ []
unfolding address_word
written8 a b c d e f g h n pa pb pc pd pe pf pg ph is =
    let n1 : n / 0x10 ≡ 16 * (16 * (16 * (16 * (16 * (16 * a + b) + c) + d) + e) + f) + g = omega arith in
    let n2 : n / 0x100 ≡ 16 * (16 * (16 * (16 * (16 * a + b) + c) + d) + e) + f = omega arith in
    let n3 : n / 0x1000 ≡ 16 * (16 * (16 * (16 * a + b) + c) + d) + e = omega arith in
    let n4 : n / 0x1_0000 ≡ 16 * (16 * (16 * a + b) + c) + d = omega arith in
    let n5 : n / 0x10_0000 ≡ 16 * (16 * a + b) + c = omega arith in
    let n6 : n / 0x100_0000 ≡ 16 * a + b = omega arith in
    let n7 : n / 0x1000_0000 ≡ a = omega arith in
    let d0 : n % 16 ≡ h = omega arith in
    let d1 : n / 0x10 % 16 ≡ g = omega (arith, n1) in
    let d2 : n / 0x100 % 16 ≡ f = omega (arith, n2) in
    let d3 : n / 0x1000 % 16 ≡ e = omega (arith, n3) in
    let d4 : n / 0x1_0000 % 16 ≡ d = omega (arith, n4) in
    let d5 : n / 0x10_0000 % 16 ≡ c = omega (arith, n5) in
    let d6 : n / 0x100_0000 % 16 ≡ b = omega (arith, n6) in
    let d7 : n / 0x1000_0000 % 16 ≡ a = omega (arith, n7) in
    λ i. digit_char (d7 i) ∷ digit_char (d6 i) ∷ digit_char (d5 i) ∷ digit_char (d4 i) ∷ digit_char (d3 i) ∷ digit_char (d2 i) ∷ digit_char (d1 i) ∷ digit_char (d0 i) ∷ []

back8 : (a b c d e f g h : ℕ) → are_hex_digits (a ∷ b ∷ c ∷ d ∷ e ∷ f ∷ g ∷ h ∷ []) ≡ true → address_word (address_of (a ∷ b ∷ c ∷ d ∷ e ∷ f ∷ g ∷ h ∷ [])) ≡ a ∷ b ∷ c ∷ d ∷ e ∷ f ∷ g ∷ h ∷ []
unfolding address_of
back8 a b c d e f g h p =
    let pa = and_first (is_hex_digit a) (are_hex_digits (b ∷ c ∷ d ∷ e ∷ f ∷ g ∷ h ∷ [])) p in
    let qa = and_second (is_hex_digit a) (are_hex_digits (b ∷ c ∷ d ∷ e ∷ f ∷ g ∷ h ∷ [])) p in
    let pb = and_first (is_hex_digit b) (are_hex_digits (c ∷ d ∷ e ∷ f ∷ g ∷ h ∷ [])) qa in
    let qb = and_second (is_hex_digit b) (are_hex_digits (c ∷ d ∷ e ∷ f ∷ g ∷ h ∷ [])) qa in
    let pc = and_first (is_hex_digit c) (are_hex_digits (d ∷ e ∷ f ∷ g ∷ h ∷ [])) qb in
    let qc = and_second (is_hex_digit c) (are_hex_digits (d ∷ e ∷ f ∷ g ∷ h ∷ [])) qb in
    let pd = and_first (is_hex_digit d) (are_hex_digits (e ∷ f ∷ g ∷ h ∷ [])) qc in
    let qd = and_second (is_hex_digit d) (are_hex_digits (e ∷ f ∷ g ∷ h ∷ [])) qc in
    let pe = and_first (is_hex_digit e) (are_hex_digits (f ∷ g ∷ h ∷ [])) qd in
    let qe = and_second (is_hex_digit e) (are_hex_digits (f ∷ g ∷ h ∷ [])) qd in
    let pf = and_first (is_hex_digit f) (are_hex_digits (g ∷ h ∷ [])) qe in
    let qf = and_second (is_hex_digit f) (are_hex_digits (g ∷ h ∷ [])) qe in
    let pg = and_first (is_hex_digit g) (are_hex_digits (h ∷ [])) qf in
    let qg = and_second (is_hex_digit g) (are_hex_digits (h ∷ [])) qf in
    let ph = and_first (is_hex_digit h) (are_hex_digits []) qg in
    written8 (hex_value a) (hex_value b) (hex_value c) (hex_value d) (hex_value e) (hex_value f) (hex_value g) (hex_value h) (read_hex_on 0 (a ∷ b ∷ c ∷ d ∷ e ∷ f ∷ g ∷ h ∷ []))
    (value_small a pa) (value_small b pb) (value_small c pc) (value_small d pd) (value_small e pe) (value_small f pf) (value_small g pg) (value_small h ph) (omega arith)
    ∙ (λ i. char_is a pa i ∷ char_is b pb i ∷ char_is c pc i ∷ char_is d pd i ∷ char_is e pe i ∷ char_is f pf i ∷ char_is g pg i ∷ char_is h ph i ∷ [])

-- an address is what is written of it
pub address_word-address_of : (w : Word) → is_address w ≡ true → address_word (address_of w) ≡ w
address_word-address_of w p = by w (eqb-true (length w) 8 (and_first (length w == 8) (are_hex_digits w) p)) (and_second (length w == 8) (are_hex_digits w) p)
  where
    by : (w : Word) → length w ≡ 8 → are_hex_digits w ≡ true → address_word (address_of w) ≡ w
    by [] e p = absurd (omega (arith, e))
    by (a ∷ []) e p = absurd (omega (arith, e))
    by (a ∷ b ∷ []) e p = absurd (omega (arith, e))
    by (a ∷ b ∷ c ∷ []) e p = absurd (omega (arith, e))
    by (a ∷ b ∷ c ∷ d ∷ []) e p = absurd (omega (arith, e))
    by (a ∷ b ∷ c ∷ d ∷ x ∷ []) e p = absurd (omega (arith, e))
    by (a ∷ b ∷ c ∷ d ∷ x ∷ f ∷ []) e p = absurd (omega (arith, e))
    by (a ∷ b ∷ c ∷ d ∷ x ∷ f ∷ g ∷ []) e p = absurd (omega (arith, e))
    by (a ∷ b ∷ c ∷ d ∷ x ∷ f ∷ g ∷ h ∷ []) e p = back8 a b c d x f g h p
    by (a ∷ b ∷ c ∷ d ∷ x ∷ f ∷ g ∷ h ∷ y ∷ rest) e p = absurd (omega (arith, e))

-- behind a minus stands a number above 0
minus_back : (n : ℕ) (bs : Word) → n ≡ number_of bs → is_positive bs ≡ true → n < 10 ^ 64 → signed_decimal (neg_ℤ (pos n)) ≡ 45 ∷ bs
minus_back zero bs is p small =
    let e : bs ≡ 48 ∷ [] = sym (decimal-positive bs p (omega (arith, is))) ∙ ap decimal (sym is) ∙ decimal_digit 0 (omega arith) in
    absurd (false≢true (subst (λ w. is_positive w ≡ true) e p))
minus_back (suc n) bs is p small = ap (λ w. 45 ∷ w) (ap decimal is ∙ decimal-positive bs p (omega (arith, is, small)))

unsigned_neg : (n : ℕ) → unsigned_abs (neg_ℤ (pos n)) ≡ n
unsigned_neg zero = refl
unsigned_neg (suc n) = refl

signed_back_by : (t : Bool) (b : ℕ) (bs : List ℕ) → (b == 45) ≡ t → (if t then is_positive bs else is_number (b ∷ bs)) ≡ true → unsigned_abs (if t then neg_ℤ (pos (number_of bs)) else pos (number_of (b ∷ bs))) < 10 ^ 64
    → signed_decimal (if t then neg_ℤ (pos (number_of bs)) else pos (number_of (b ∷ bs))) ≡ b ∷ bs
signed_back_by true b bs e p small = minus_back (number_of bs) bs refl p (omega (arith, small, unsigned_neg (number_of bs))) ∙ ap (λ x. x ∷ bs) (sym (eqb-true b 45 e))
signed_back_by false b bs e p small = decimal-number_of (b ∷ bs) p small

-- a signed number is what is written of it
pub signed_decimal-signed_of : (w : Word) → is_signed w ≡ true → unsigned_abs (signed_of w) < 10 ^ 64 → signed_decimal (signed_of w) ≡ w
signed_decimal-signed_of [] p small = absurd (false≢true p)
signed_decimal-signed_of (b ∷ bs) p small = signed_back_by (b == 45) b bs refl p small
