-- Products of two signed words fit 64 bits.
use Rattle.std.proofs.Common.{◌^◌, ◌<◌, ◌≤◌, ◌-◌, arith, ℤ, pos, negsuc, ◌*ℤ◌}
use Rattle.std.specs.Prelude.{FitsSigned, unsigned_abs}
use Rattle.std.specs.Int.{w32, w64}
use Rattle.std.proofs.lemmas.Int.{ints, fits_signed_mul}

word-abs : (x : ℤ) → FitsSigned w32 x → unsigned_abs x ≤ 2 ^ 31
word-abs (pos n) fits = omega (arith, ints)
word-abs (negsuc n) fits = omega (arith, ints)

pub product-fits : (x y : ℤ) → FitsSigned w32 x → unsigned_abs y < 2 ^ 32 → FitsSigned w64 (x *ℤ y)
product-fits x y fits small = fits_signed_mul w64 x y (2 ^ 31) (2 ^ 32 - 1) (word-abs x fits) (omega arith) (omega arith)
