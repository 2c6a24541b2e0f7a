-- What operators make of words are words.
use Rattle.std.proofs.Common.{◌≡◌, ℕ, zero, suc, ◌-◌, ◌*◌, ◌/◌, ◌%◌, ◌^◌, ◌<◌, ◌≤◌, Bool, true, false, ℤ, pos, negsuc, ◌*ℤ◌, refl, arith}
use Rattle.std.specs.Prelude.{FitsSigned, unsigned_abs, nat_lt, int_lt, int_div, int_rem, if◌then◌else◌}
use Rattle.std.proofs.lemmas.Int.{ints, fits_signed_mul}
use Rattle.std.proofs.lemmas.Bool.Decides.{nat_tests}
use Rattle.std.specs.Int.{w64, cast_unsigned}
use Rattle.std.specs.Int.Bits.{and_lt}
use Rattle.std.proofs.Math.Nat.{div-le_self, mod-lt}
use Rattle.std.proofs.lemmas.Nat.{or_lt, xor_lt, mul-lt}
use Rattle.wcc_base.specs.Signs.{unsigned_of}
use Rattle.wcc_base.specs.Words.{truth_word, signed_word, floor_shift}
use Rattle.rv_core.specs.declared.row.Alu.{Alu}
use Rattle.rv_core.specs.declared.row.Alu.TheVariants.{Sum, Difference, ShiftLeft, IsLess, IsLessUnsigned, BitXor, ShiftRight, ShiftRightSigned, BitOr, BitAnd, Product, HighProduct, HighProductMixed, HighProductUnsigned, Quotient, QuotientUnsigned, Remainder, RemainderUnsigned}
use Rattle.rv_core.specs.Arithmetic.{alu_value}

truth-small : (b : Bool) → truth_word b < 2 ^ 32
truth-small true = omega arith
truth-small false = omega arith

unsigned-small : (z : ℤ) → unsigned_of 32 z < 2 ^ 32
unsigned-small (pos n) = omega arith
unsigned-small (negsuc n) = omega arith

cast-small : (z : ℤ) → FitsSigned w64 z → cast_unsigned w64 z < 2 ^ 64
cast-small (pos n) fits = omega (arith, ints)
cast-small (negsuc n) fits = omega (arith, ints)

-- a word with a sign is at most 2^31 away from 0
signed-abs : (x : ℕ) → x < 2 ^ 32 → unsigned_abs (signed_word x) ≤ 2 ^ 31
signed-abs x h = by_sign (nat_lt x (2 ^ 31)) refl
  where
    by_sign : (b : Bool) → nat_lt x (2 ^ 31) ≡ b → unsigned_abs (if b then pos x else negsuc (2 ^ 32 - 1 - x)) ≤ 2 ^ 31
    by_sign true e = let less : x < 2 ^ 31 = grind (arith, nat_tests) in omega (arith, ints)
    by_sign false e = let more : 2 ^ 31 ≤ x = grind (arith, nat_tests) in omega (arith, ints)

signed-product : (x y : ℕ) → x < 2 ^ 32 → y < 2 ^ 32 → cast_unsigned w64 (signed_word x *ℤ signed_word y) < 2 ^ 64
signed-product x y h k = cast-small (signed_word x *ℤ signed_word y) (fits_signed_mul w64 (signed_word x) (signed_word y) (2 ^ 31) (2 ^ 31) (signed-abs x h) (signed-abs y k) (omega arith))

mixed-product : (x y : ℕ) → x < 2 ^ 32 → y < 2 ^ 32 → cast_unsigned w64 (signed_word x *ℤ pos y) < 2 ^ 64
mixed-product x y h k = cast-small (signed_word x *ℤ pos y) (fits_signed_mul w64 (signed_word x) (pos y) (2 ^ 31) (2 ^ 32 - 1) (signed-abs x h) (omega (arith, ints)) (omega arith))

upper-of_product : (n : ℕ) → n < 2 ^ 64 → n / 2 ^ 32 < 2 ^ 32
upper-of_product n h = omega arith

quotient-small : (a b : ℕ) → a < 2 ^ 32 → a / b < 2 ^ 32
quotient-small a b h = let most = div-le_self a b in omega arith

rest-small : (a b : ℕ) → suc b < 2 ^ 32 → a % suc b < 2 ^ 32
rest-small a b h = let less = mod-lt a {m = suc b} (omega arith) in omega arith

pub alu-small : (operator : Alu) (x y : ℕ) → x < 2 ^ 32 → y < 2 ^ 32 → alu_value operator x y < 2 ^ 32
unfolding alu_value
alu-small Sum x y h k = omega arith
alu-small Difference x y h k = omega arith
alu-small ShiftLeft x y h k = omega arith
alu-small IsLess x y h k = truth-small (int_lt (signed_word x) (signed_word y))
alu-small IsLessUnsigned x y h k = truth-small (nat_lt x y)
alu-small BitXor x y h k = xor_lt 32 x y h k
alu-small ShiftRight x y h k = quotient-small x (2 ^ (y % 32)) h
alu-small ShiftRightSigned x y h k = unsigned-small (floor_shift (signed_word x) (y % 32))
alu-small BitOr x y h k = or_lt 32 x y h k
alu-small BitAnd x y h k = and_lt 32 x y h k
alu-small Product x y h k = omega arith
alu-small HighProduct x y h k = upper-of_product (cast_unsigned w64 (signed_word x *ℤ signed_word y)) (signed-product x y h k)
alu-small HighProductMixed x y h k = upper-of_product (cast_unsigned w64 (signed_word x *ℤ pos y)) (mixed-product x y h k)
alu-small HighProductUnsigned x y h k = upper-of_product (x * y) (mul-lt x y (2 ^ 32) (2 ^ 32) h k)
alu-small Quotient x zero h k = omega arith
alu-small Quotient x (suc y) h k = unsigned-small (int_div (signed_word x) (signed_word (suc y)))
alu-small QuotientUnsigned x zero h k = omega arith
alu-small QuotientUnsigned x (suc y) h k = quotient-small x (suc y) h
alu-small Remainder x zero h k = h
alu-small Remainder x (suc y) h k = unsigned-small (int_rem (signed_word x) (signed_word (suc y)))
alu-small RemainderUnsigned x zero h k = h
alu-small RemainderUnsigned x (suc y) h k = rest-small x y k
