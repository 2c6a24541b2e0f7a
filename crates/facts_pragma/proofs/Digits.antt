-- Numbers that are too great.
use Rattle.std.proofs.Common.{◌≡◌, refl, ap, ◌∙◌, ℕ, suc, ◌+◌, ◌*◌, ◌-◌, ◌<◌, List, [], ◌∷◌, length, drop, get_or, arith, Bool, true, false}
use Rattle.std.proofs.Math.Seq.{drop-cons}
use Rattle.std.specs.Prelude.{if◌then◌else◌, Some, None, nat_le}
use Rattle.std.proofs.lemmas.Grind.{common_steps}
use Rattle.facts_definitions.specs.PragmaTexts.{at_most, digits, is_digit}

too_great : (limit n : ℕ) → limit < n → at_most limit (Some n) ≡ None
too_great limit n h = by (nat_le n limit) refl
  where
    by : (b : Bool) → nat_le n limit ≡ b → (if b then Some n else None) ≡ None
    by false e = refl
    by true e = absurd (grind (arith, common_steps))

pub stays_great : (limit n : ℕ) (bytes : List ℕ) → limit < n → at_most limit (digits n bytes) ≡ None
stays_great limit n [] h = too_great limit n h
stays_great limit n (b ∷ bytes) h = by (is_digit b) (stays_great limit (n * 10 + (b - 48)) bytes (omega (arith, h)))
  where
    by : (digit : Bool) → at_most limit (digits (n * 10 + (b - 48)) bytes) ≡ None → at_most limit (if digit then digits (n * 10 + (b - 48)) bytes else None) ≡ None
    by true e = e
    by false e = refl

-- a digit more, and the number is too great
pub over : (limit value : ℕ) (bytes : List ℕ) (i : ℕ) → i < length bytes → is_digit (get_or bytes i 0) ≡ true → limit < value * 10 + (get_or bytes i 0 - 48) → at_most limit (digits value (drop i bytes)) ≡ None
over limit value bytes i h e great =
    let step : digits value (drop i bytes) ≡ digits (value * 10 + (get_or bytes i 0 - 48)) (drop (suc i) bytes) = rw (drop-cons bytes i 0 h, e) refl in
    ap (at_most limit) step ∙ stays_great limit (value * 10 + (get_or bytes i 0 - 48)) (drop (suc i) bytes) great
