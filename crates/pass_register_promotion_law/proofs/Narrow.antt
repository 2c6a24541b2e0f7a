-- What elements of few bits keep of words, and what shifts and masks make of them.
use Rattle.std.proofs.Common.{◌≡◌, ℕ, zero, suc, ◌-◌, ◌%◌, ◌^◌, ◌<◌, Bool, true, false, nat_lt, pos, negsuc, refl, sym, ap, ◌∙◌, arith}
use Rattle.std.specs.Prelude.{if◌then◌else◌}
use Rattle.wcc_base.specs.Signs.{signed_of}
use Rattle.wcc_base.specs.Words.{wrapped}
use Rattle.rv_core.specs.declared.row.Alu.TheVariants.{BitAnd, ShiftLeft, ShiftRight, ShiftRightSigned}
use Rattle.rv_core.specs.Arithmetic.{alu_value, extended, word}
use Rattle.low_ir.specs.declared.object.Kind.{Kind}
use Rattle.low_ir.specs.declared.object.Kind.TheVariants.{Unsigned8, Signed8, Unsigned16, Signed16, Word}
use Rattle.low_ir.specs.Kinds.{converted, kind_number}
use Rattle.pass_common_subexpressions_law.proofs.Words.{converted-small}
use Rattle.low_parts.proofs.Narrow.{fill16-shifts, fill8-shifts, low16-shifts, low8-mask}

byte_word : (n : ℕ) → n < 2 ^ 8 → wrapped (signed_of 8 n) ≡ word (signed_of 8 n)
byte_word n h = by_sign (nat_lt n (2 ^ 7))
  where
    by_sign : (b : Bool) → wrapped (if b then pos n else negsuc (2 ^ 8 - 1 - n)) ≡ word (if b then pos n else negsuc (2 ^ 8 - 1 - n))
    by_sign true = omega (arith, h)
    by_sign false = omega (arith, h)

half_word : (n : ℕ) → n < 2 ^ 16 → wrapped (signed_of 16 n) ≡ word (signed_of 16 n)
half_word n h = by_sign (nat_lt n (2 ^ 15))
  where
    by_sign : (b : Bool) → wrapped (if b then pos n else negsuc (2 ^ 16 - 1 - n)) ≡ word (if b then pos n else negsuc (2 ^ 16 - 1 - n))
    by_sign true = omega (arith, h)
    by_sign false = omega (arith, h)

-- what the code of a narrow store computes
pub mask8_keeps : (w : ℕ) → alu_value BitAnd w 255 ≡ converted Unsigned8 w
unfolding alu_value converted extended
mask8_keeps w = low8-mask w

pub shift8_keeps : (w : ℕ) → alu_value ShiftRightSigned (alu_value ShiftLeft w 24) 24 ≡ converted Signed8 w
unfolding alu_value converted extended
shift8_keeps w = fill8-shifts w ∙ byte_word (w % 2 ^ 8) (omega arith)

pub shift16_keeps : (w : ℕ) → alu_value ShiftRight (alu_value ShiftLeft w 16) 16 ≡ converted Unsigned16 w
unfolding alu_value converted extended
shift16_keeps w = low16-shifts w

pub signed16_keeps : (w : ℕ) → alu_value ShiftRightSigned (alu_value ShiftLeft w 16) 16 ≡ converted Signed16 w
unfolding alu_value converted extended
signed16_keeps w = fill16-shifts w ∙ half_word (w % 2 ^ 16) (omega arith)

-- what was kept is kept again
byte_again : (n : ℕ) → n < 2 ^ 8 → word (signed_of 8 n) % 2 ^ 8 ≡ n
byte_again n h = by_sign (nat_lt n (2 ^ 7)) refl
  where
    by_sign : (b : Bool) → nat_lt n (2 ^ 7) ≡ b → word (if b then pos n else negsuc (2 ^ 8 - 1 - n)) % 2 ^ 8 ≡ n
    by_sign true e = omega arith
    by_sign false e = omega (arith, h)

half_again : (n : ℕ) → n < 2 ^ 16 → word (signed_of 16 n) % 2 ^ 16 ≡ n
half_again n h = by_sign (nat_lt n (2 ^ 15)) refl
  where
    by_sign : (b : Bool) → nat_lt n (2 ^ 15) ≡ b → word (if b then pos n else negsuc (2 ^ 16 - 1 - n)) % 2 ^ 16 ≡ n
    by_sign true e = omega arith
    by_sign false e = omega (arith, h)

pub converted_again : (k : Kind) (w : ℕ) → converted k (converted k w) ≡ converted k w
unfolding converted extended
converted_again Unsigned8 w = omega arith
converted_again Signed8 w = ap (λ n. word (signed_of 8 n)) (byte_again (w % 2 ^ 8) (omega arith))
converted_again Unsigned16 w = omega arith
converted_again Signed16 w = ap (λ n. word (signed_of 16 n)) (half_again (w % 2 ^ 16) (omega arith))
converted_again Word w = omega arith

pub converted_zero : (k : Kind) → converted k 0 ≡ 0
unfolding converted extended
converted_zero Unsigned8 = refl
converted_zero Signed8 = refl
converted_zero Unsigned16 = refl
converted_zero Signed16 = refl
converted_zero Word = refl

low_bits : (k : Kind) (w : ℕ) → converted k w ≡ converted k (w % 2 ^ 32)
unfolding converted extended
low_bits Unsigned8 w = omega arith
low_bits Signed8 w = let e : w % 2 ^ 8 ≡ w % 2 ^ 32 % 2 ^ 8 = omega arith in ap (λ n. word (signed_of 8 n)) e
low_bits Unsigned16 w = omega arith
low_bits Signed16 w = let e : w % 2 ^ 16 ≡ w % 2 ^ 32 % 2 ^ 16 = omega arith in ap (λ n. word (signed_of 16 n)) e
low_bits Word w = omega arith

-- and of the lowest 32 bits the same
pub converted_low : (k : Kind) (w : ℕ) → converted k w % 2 ^ 32 ≡ converted k (w % 2 ^ 32)
converted_low k w = let small = converted-small k w in let e : converted k w % 2 ^ 32 ≡ converted k w = omega (arith, small) in e ∙ low_bits k w

-- kinds of one number are one
abbrev kind_of_number : ℕ → Kind
kind_of_number zero = Unsigned8
kind_of_number (suc zero) = Signed8
kind_of_number (suc (suc zero)) = Unsigned16
kind_of_number (suc (suc (suc zero))) = Signed16
kind_of_number (suc (suc (suc (suc n)))) = Word

numbered : (k : Kind) → kind_of_number (kind_number k) ≡ k
numbered Unsigned8 = refl
numbered Signed8 = refl
numbered Unsigned16 = refl
numbered Signed16 = refl
numbered Word = refl

pub same_kinds : (a b : Kind) → kind_number a ≡ kind_number b → a ≡ b
same_kinds a b e = sym (numbered a) ∙ ap kind_of_number e ∙ numbered b
