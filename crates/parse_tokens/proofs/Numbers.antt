-- The number that digits spell grows with their count.
use Rattle.std.proofs.Common.{◌≡◌, ℕ, zero, suc, ◌+◌, ◌-◌, ◌*◌, ◌<◌, ◌≤◌, List, refl, subst, arith, add-suc, add-zero, add-one}
use Rattle.std.proofs.Math.Nat.{mul-le-mul_left}
use Rattle.std.specs.Prelude.{slice_index}
use Rattle.c_tree.specs.Constants.{number, digit}

number_suc : (base : ℕ) (source : List ℕ) (at count : ℕ) → 0 < base → number base source at count ≤ number base source at (suc count)
number_suc base source at count some = grind (arith, mul-le-mul_left (number base source at count) some)

number_more : (base : ℕ) (source : List ℕ) (at count more : ℕ) → 0 < base → number base source at count ≤ number base source at (count + more)
number_more base source at count zero some = rw add-zero (omega arith)
number_more base source at count (suc more) some = rw add-suc (omega (arith, number_more base source at count more some, number_suc base source at (count + more) some))

pub number_grows : (base : ℕ) (source : List ℕ) (at count end : ℕ) → 0 < base → count ≤ end → number base source at count ≤ number base source at end
number_grows base source at count end some le = let e : count + (end - count) ≡ end = omega arith in subst (λ n. number base source at count ≤ number base source at n) e (number_more base source at count (end - count) some)

pub number-next : (base : ℕ) (source : List ℕ) (at count : ℕ) → number base source at (count + 1) ≡ number base source at count * base + digit (slice_index source (at + count))
number-next base source at count = rw add-one refl

-- once it passes a limit it stays above it
pub number_passes : (base : ℕ) (source : List ℕ) (at count end limit : ℕ) → 0 < base → count < end → limit < number base source at count * base + digit (slice_index source (at + count)) → limit < number base source at end
number_passes base source at count end limit some lt above = omega (arith, number-next base source at count, number_grows base source at (count + 1) end some (omega arith))
