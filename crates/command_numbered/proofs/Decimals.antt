-- A number in decimal: digits, none of them a 0 in front, that spell it.
use Rattle.std.proofs.Common.{◌≡◌, ℕ, ◌+◌, ◌*◌, ◌-◌, ◌<◌, ◌≤◌, false, nat_eq, List, [], ◌∷◌, length, refl, sym, ap, subst, ◌∙◌, arith}
use Rattle.std.specs.Prelude.{slice_index}
use Rattle.std.specs.Fmt.{decimal}
use Rattle.std.specs.Str.Parse.{AllDigits, IsNumeral, digits_value, digits_value_after}
use Rattle.std.specs.Char.{digit_value}
use Rattle.std.proofs.lemmas.Bool.{ne_eqb}
use Rattle.std.proofs.lemmas.Bool.Decides.{nat_tests}
use Rattle.std.proofs.lemmas.Fmt.{decimal_is_IsNumeral, first_decimal}
use Rattle.std.proofs.lemmas.Str.{digit_value_digit}
use Rattle.std.proofs.lemmas.Str.Parse.{digit_from_value}
use Rattle.c_tree.specs.Bytes.{IsDigit}
use Rattle.c_tree.specs.Constants.{digit}
use Rattle.command_numbered.proofs.Numerals.{spelled}
use Rattle.command_numbered.proofs.Standing.{Have}

pub record IsDecimal (i : ℕ) : Type 0 where
  pub first : ℕ
  pub rest : List ℕ
  pub is : decimal i ≡ first ∷ rest
  pub digits : Have IsDigit (first ∷ rest)
  pub no_zero : nat_eq first 48 ≡ false
  pub spells : spelled 10 0 (first ∷ rest) ≡ i

digit_is : (b : ℕ) → IsDigit b → digit b ≡ b - 48
digit_is b h = grind (arith, nat_tests)

have_digits : (bytes : List ℕ) → AllDigits 10 bytes → Have IsDigit bytes
have_digits [] h = tt
have_digits (b ∷ bytes) h = (digit_from_value b h.0, have_digits bytes h.1)

spelled_is : (n : ℕ) (bytes : List ℕ) → AllDigits 10 bytes → spelled 10 n bytes ≡ digits_value_after 10 n bytes
spelled_is n [] h = refl
spelled_is n (b ∷ bytes) h =
    let range = digit_from_value b h.0 in
    let same : digit b ≡ digit_value b = let v = digit_value_digit b range in let d = digit_is b range in omega (arith, v, d, range) in
    ap (λ d. spelled 10 (n * 10 + d) bytes) same ∙ spelled_is (n * 10 + digit_value b) bytes h.1

pub decimal_is : (i : ℕ) → 0 < i → i ≤ 100 → IsDecimal i
decimal_is i some low = of (decimal i) refl
  where
    numeral : IsNumeral 10 (decimal i) × (digits_value 10 (decimal i) ≡ i)
    numeral = decimal_is_IsNumeral i (omega (arith, low))

    of : (bytes : List ℕ) → decimal i ≡ bytes → IsDecimal i
    of [] e = absurd (let n = subst (λ xs. 0 < length xs) e numeral.0.0 in omega (arith, n))
    of (b ∷ bytes) e =
        let all = subst (AllDigits 10) e numeral.0.1 in
        let lead = subst (λ xs. 48 < slice_index xs 0) e (first_decimal i some (omega (arith, low))) in
        record {
          first = b;
          rest = bytes;
          is = e;
          digits = have_digits (b ∷ bytes) all;
          no_zero = ne_eqb b 48 (λ z. omega (arith, z, lead));
          spells = spelled_is 0 (b ∷ bytes) all ∙ ap (digits_value 10) (sym e) ∙ numeral.1;
        }
