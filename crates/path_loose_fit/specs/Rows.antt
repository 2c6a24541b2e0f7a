-- Prices over the loops of a system, tested move by move.
use Rattle.std.specs.Prelude.{◌≡◌, ℕ, ◌^◌, ◌<◌, ℤ, pos, ◌+ℤ◌, ◌≤ℤ◌, List, length, Option, Some, None, slice_index_or}
use Rattle.frac128.specs.Terms.{Terms, coefficient}
use Rattle.code_flow_system.specs.declared.claims.LoopClaim.{LoopClaim}
use Rattle.loop_prices.specs.LoopPrices.{Worths, starts_from}

abbrev pub worths_of : Terms → List ℕ → Worths
worths_of places turns = record { places = places; turns = turns }

abbrev pub no_claim : LoopClaim
no_claim = record { source = 0; factor = 0; min = 0; max = 0; header = 0; back = 0 }

-- the claim of that number is the one of the header
abbrev pub IsClaimOf : List LoopClaim → ℕ → ℕ → Type 0
IsClaimOf cs a k = (k < length cs) × ((slice_index_or cs k no_claim).header ≡ a)

-- what a move brings where it arrives
abbrev pub brought : List LoopClaim → Worths → ℕ → Option ℕ → ℤ
brought cs w from None = pos 0
brought cs w from (Some a) = coefficient w.places a +ℤ starts_from cs w.turns from a

-- no worth is negative, or larger than 2^60
abbrev pub IsWorth : ℤ → Type 0
IsWorth z = (pos 0 ≤ℤ z) × (z ≤ℤ pos (2 ^ 60))
