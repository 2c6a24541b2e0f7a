-- Reading hexadecimal digits one after another.
use Rattle.std.proofs.Common.{◌≡◌, ℕ, ◌+◌, ◌*◌, ◌^◌, ◌<◌, ◌≤◌, ◌==◌, ◌&&◌, List, [], ◌∷◌, length, drop, get_or, Bool, true, false, refl, sym, ap, subst, ◌∙◌, arith}
use Rattle.std.proofs.lemmas.Bool.{false≢true}
use Rattle.std.proofs.lemmas.Grind.{common_steps}
use Rattle.std.proofs.lemmas.List.{drop_all}
use native.Mathlib.Nat.{pow-succ'}
use borrow.Author.Tests.{eqb-true}
use Rattle.report_words.specs.Numbers.{is_hex_digit, are_hex_digits, is_address, hex_value, read_hex_on, address_of}
use Rattle.report_words.specs.Scanning.{IsReadingAddress}
use Rattle.report_words.proofs.AddressLemmas.{value_small}

cut : (xs : List ℕ) (i : ℕ) → i < length xs → drop i xs ≡ get_or xs i 0 ∷ drop (i + 1) xs
cut xs i lt = grind (arith, common_steps)

and_first : (a b : Bool) → (a && b) ≡ true → a ≡ true
and_first true b e = refl
and_first false b e = e

and_second : (a b : Bool) → (a && b) ≡ true → b ≡ true
and_second true b e = e
and_second false b e = absurd (false≢true e)

read_hex_on-least : (n : ℕ) (ds : List ℕ) → n ≤ read_hex_on n ds
read_hex_on-least n [] = omega arith
read_hex_on-least n (c ∷ cs) = omega (arith, read_hex_on-least (16 * n + hex_value c) cs)

-- k digits multiply by at most 16^k
read_hex_on-bound : (n : ℕ) (ds : List ℕ) → are_hex_digits ds ≡ true → read_hex_on n ds + 1 ≤ (n + 1) * 16 ^ length ds
read_hex_on-bound n [] d = omega arith
read_hex_on-bound n (c ∷ cs) d =
    let small = value_small c (and_first (is_hex_digit c) (are_hex_digits cs) d) in
    let rest = read_hex_on-bound (16 * n + hex_value c) cs (and_second (is_hex_digit c) (are_hex_digits cs) d) in
    let wider : (16 * n + hex_value c + 1) * 16 ^ length cs ≤ (16 * (n + 1)) * 16 ^ length cs = mul_mono (16 * n + hex_value c + 1) (16 * (n + 1)) (16 ^ length cs) (omega (arith, small)) in
    omega (arith, rest, wider, ap (λ p. (n + 1) * p) (pow-succ' 16 (length cs)), regroup (n + 1) (16 ^ length cs))
  where
    mul_mono : (a b p : ℕ) → a ≤ b → a * p ≤ b * p
    mul_mono a b p le = grind arith

    regroup : (m p : ℕ) → m * (16 * p) ≡ (16 * m) * p
    regroup m p = grind arith

pub begins : (w : List ℕ) → is_address w ≡ true → IsReadingAddress 0 w w
begins w a =
    let d = and_second (length w == 8) (are_hex_digits w) a in
    let n : length w ≡ 8 = eqb-true (length w) 8 (and_first (length w == 8) (are_hex_digits w) a) in
    record { digits = d; same = refl; small = omega (arith, read_hex_on-bound 0 w d, ap (λ k. (0 + 1) * 16 ^ k) n) }

left_is : (n i : ℕ) (all : List ℕ) → i < length all → IsReadingAddress n (drop i all) all → are_hex_digits (get_or all i 0 ∷ drop (i + 1) all) ≡ true
left_is n i all lt r = subst (λ xs. are_hex_digits xs ≡ true) (cut all i lt) r.digits

pub hex_here : (n i : ℕ) (all : List ℕ) → i < length all → IsReadingAddress n (drop i all) all → is_hex_digit (get_or all i 0) ≡ true
hex_here n i all lt r = and_first (is_hex_digit (get_or all i 0)) (are_hex_digits (drop (i + 1) all)) (left_is n i all lt r)

pub hex_more : (n i : ℕ) (all : List ℕ) → i < length all → IsReadingAddress n (drop i all) all → IsReadingAddress (16 * n + hex_value (get_or all i 0)) (drop (i + 1) all) all
hex_more n i all lt r = record {
  digits = and_second (is_hex_digit (get_or all i 0)) (are_hex_digits (drop (i + 1) all)) (left_is n i all lt r);
  same = ap (read_hex_on n) (sym (cut all i lt)) ∙ r.same;
  small = r.small;
}

pub hex_fits : (n i : ℕ) (all : List ℕ) → i < length all → IsReadingAddress n (drop i all) all → 16 * n + hex_value (get_or all i 0) < 2 ^ 32
hex_fits n i all lt r =
    let m = hex_more n i all lt r in
    omega (arith, read_hex_on-least (16 * n + hex_value (get_or all i 0)) (drop (i + 1) all), m.same, m.small)

pub hex_end : (n i : ℕ) (all : List ℕ) → length all ≤ i → IsReadingAddress n (drop i all) all → n ≡ address_of all
unfolding address_of
hex_end n i all le r = ap (read_hex_on n) (sym (drop_all i all le)) ∙ r.same
