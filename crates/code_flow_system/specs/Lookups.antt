-- What the index of a system adds up to at an address.
use Rattle.std.specs.Prelude.{◌≡◌, length, ℕ, zero, suc, ℤ, pos, ◌*ℤ◌, List, [], ◌∷◌}
use Rattle.frac128.specs.Terms.{int_sum_by, coefficient, when_same}
use Rattle.code_flow_system.specs.declared.index.Arrival.{Arrival}
use Rattle.code_flow_system.specs.declared.index.Mention.{Mention}
use Rattle.code_flow_system.specs.declared.moves.Move.{Move}
use Rattle.code_flow_system.specs.Counts.{Amounts, amount, arrivals as all_arrivals}
use Rattle.code_flow_system.specs.Certificates.{Limit, limits, held, size_by}
use Rattle.code_flow_system.specs.declared.cert.Cert.{Cert}
use Rattle.code_flow_system.specs.Claims.{Claims}

-- how often the move at a place of the list is made
abbrev pub amount_at : Amounts → List Move → ℕ → ℤ
amount_at x [] k = pos 0
amount_at x (m ∷ ms) zero = amount x m
amount_at x (m ∷ ms) (suc k) = amount_at x ms k

-- what arrives at an address, by the index
abbrev pub arriving : Amounts → List Move → List Arrival → ℕ → ℤ
arriving x ms arrivals a = int_sum_by (λ r. when_same r.to a (amount_at x ms r.place)) arrivals

-- the multiplier of the limit of that number
abbrev pub by_at : List Limit → ℕ → ℤ
by_at [] k = pos 0
by_at (l ∷ ls) zero = l.by
by_at (l ∷ ls) (suc k) = by_at ls k

-- what the limits hold at an address, by the index
abbrev pub holding : List Limit → List Mention → ℕ → ℤ
holding ls mentions a = int_sum_by (λ m. by_at ls m.limit *ℤ when_same m.at a m.coefficient) mentions

-- and the absolute values of that, added
abbrev pub sizes : List Limit → List Mention → ℕ → ℕ
sizes ls mentions a = size_by (λ m. by_at ls m.limit *ℤ when_same m.at a m.coefficient) mentions

-- as many multipliers as claims
pub record HasMultipliers (claims : Claims) (c : Cert) : Type 0 where
  pub nevers : length c.nevers ≡ length claims.nevers
  pub loops : length c.loops ≡ length claims.loops
  pub facts : length c.facts ≡ length claims.facts

-- the arrivals add up to what arrives, for any amounts
abbrev pub AddUpToArrivals : List Move → List Arrival → Type 0
AddUpToArrivals ms arrivals = (x : Amounts) (a : ℕ) → arriving x ms arrivals a ≡ coefficient (all_arrivals x ms) a

-- the mentions add up to what the limits hold, for any multipliers
pub record AddUpToLimits (claims : Claims) (mentions : List Mention) : Type 0 where
  pub holds : (c : Cert) (a : ℕ) → HasMultipliers claims c → holding (limits claims c) mentions a ≡ held (limits claims c) a
  pub sized : (c : Cert) (a : ℕ) → HasMultipliers claims c → sizes (limits claims c) mentions a ≡ size_by (λ l. l.by *ℤ coefficient l.terms a) (limits claims c)
