-- Distances and quotients.
use Rattle.std.proofs.Common.{◌≡◌, refl, ℕ, ◌+◌, ◌/◌, ◌^◌, ◌<◌, ◌≤◌, ℤ, pos, negsuc, ◌<ℤ◌, Bool, true, false, arith, div-le_self, FitsSigned, w64}
use Rattle.std.proofs.lemmas.Int.{ints}
use Rattle.facts_loops.specs.Counting.{turns_over}

pub room : (a s : ℕ) → a < 2 ^ 63 → a / s + 1 < 2 ^ 64
room a s small = let le : a / s ≤ a = div-le_self a s in omega (arith, le, small)

pub none_behind : (strict : Bool) (z : ℤ) (s : ℕ) → z <ℤ pos 0 → turns_over strict z s ≡ 0
none_behind strict (pos d) s h = absurd (omega (arith, ints, h))
none_behind true (negsuc d) s h = refl
none_behind false (negsuc d) s h = refl

pub small_ahead : (z : ℤ) (n : ℕ) → FitsSigned w64 z → z ≡ pos n → n < 2 ^ 63
small_ahead (pos d) n fits e = let f = fits.sfits in omega (arith, ints, f, e)
small_ahead (negsuc d) n fits e = absurd (omega (arith, ints, e))
