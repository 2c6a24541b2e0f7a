-- What elements keep of words are words.
use Rattle.std.proofs.Common.{◌≡◌, ℕ, ◌-◌, ◌%◌, ◌^◌, ◌<◌, Bool, true, false, pos, negsuc, refl, arith}
use Rattle.std.specs.Prelude.{nat_lt, if◌then◌else◌}
use Rattle.wcc_base.specs.Signs.{signed_of}
use Rattle.rv_core.specs.Arithmetic.{extended, word}
use Rattle.low_ir.specs.declared.object.Kind.{Kind}
use Rattle.low_ir.specs.declared.object.Kind.TheVariants.{Unsigned8, Signed8, Unsigned16, Signed16, Word}
use Rattle.low_ir.specs.Kinds.{converted}

byte-small : (n : ℕ) → n < 2 ^ 8 → word (signed_of 8 n) < 2 ^ 32
byte-small n h = by_sign (nat_lt n (2 ^ 7)) refl
  where
    by_sign : (b : Bool) → nat_lt n (2 ^ 7) ≡ b → word (if b then pos n else negsuc (2 ^ 8 - 1 - n)) < 2 ^ 32
    by_sign true e = omega arith
    by_sign false e = omega arith

half-small : (n : ℕ) → n < 2 ^ 16 → word (signed_of 16 n) < 2 ^ 32
half-small n h = by_sign (nat_lt n (2 ^ 15)) refl
  where
    by_sign : (b : Bool) → nat_lt n (2 ^ 15) ≡ b → word (if b then pos n else negsuc (2 ^ 16 - 1 - n)) < 2 ^ 32
    by_sign true e = omega arith
    by_sign false e = omega arith

pub converted-small : (kind : Kind) (w : ℕ) → converted kind w < 2 ^ 32
unfolding converted extended
converted-small Unsigned8 w = omega arith
converted-small Signed8 w = byte-small (w % 2 ^ 8) (omega arith)
converted-small Unsigned16 w = omega arith
converted-small Signed16 w = half-small (w % 2 ^ 16) (omega arith)
converted-small Word w = omega arith

-- a word element keeps a word as it is
pub converted_word : (w : ℕ) → w < 2 ^ 32 → converted Word w ≡ w
unfolding converted extended
converted_word w h = omega arith
