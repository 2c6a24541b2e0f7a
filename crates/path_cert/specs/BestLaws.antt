-- When the walks find a best flow, and an accepted certificate.
use Rattle.std.specs.Prelude.{ℕ, ◌*◌, ◌^◌, ◌<◌, ℤ, pos, ◌+ℤ◌, ◌≤ℤ◌, ◌<ℤ◌, List, All}
use Rattle.rv_core.specs.Table.{Table}
use Rattle.code_flow_system.specs.declared.moves.Move.{Move}
use Rattle.code_flow_system.specs.declared.shapes.LoopShape.{LoopShape}
use Rattle.code_flow_system.specs.declared.shapes.Span.{Span}
use Rattle.code_flow_system.specs.Systems.{System}
use Rattle.code_flow_system.specs.Certificates.{whole_part, Accepts, IsInForm}
use Rattle.loop_ranges.specs.Near.{IsUpTo}
use Rattle.path_places.specs.Driver.{Prices}
use Rattle.path_ranges.specs.Bounded.{IsBounded}
use Rattle.path_ranges.specs.Ranges.{IsEnough}
use Rattle.path_flows.specs.CountLaws.{BacksAreFree}
use Rattle.path_cert.specs.Ranges.{HasRanges}
use Rattle.path_cert.specs.Best.{best_worth, HasBestFlow}
use Rattle.path_cert.specs.Priced.{fact_price, fact_size, fact_prices, fact_certificate, AreMultipliers}

-- at prices of both signs, where most is a bound of loose totals at their sizes and a block is worth less than three times its negative
abbrev pub BestFlowsAreFound : System → List LoopShape → List Span → Type 0
BestFlowsAreFound s ls ps = (q : Prices) (price : Move → ℤ) (most : ℤ) (starts : ℕ) → IsBounded s ls ps q price most starts → ((most +ℤ (most +ℤ most)) +ℤ q.low) <ℤ pos 0 → BacksAreFree s ls →
    HasBestFlow s ls ps q most

-- at prices that pay for facts, the certificate of the walks is in form and accepted, where its numbers keep their ranges
abbrev pub FactsAreAccepted : Table → System → List LoopShape → List Span → Type 0
FactsAreAccepted t s ls ps = (scale : ℕ) (ys : List ℤ) (low : ℤ) → low ≤ℤ pos 0 → AreMultipliers s scale ys → HasRanges t s (fact_certificate t s ls ps scale ys low) →
    IsInForm s.claims (fact_certificate t s ls ps scale ys low) × Accepts t s (fact_certificate t s ls ps scale ys low)

-- no price is larger in size than that
abbrev pub SizesCoverPrices : Table → System → Type 0
SizesCoverPrices t s = (scale : ℕ) (ys : List ℤ) → All (λ m. IsUpTo (fact_price t s scale ys m) (fact_size t s scale ys m)) s.moves

-- where the walks' numbers have a size that three times is below 2^120, and the bound is in its range, so are all numbers of the certificate
abbrev pub FactsHaveRanges : Table → System → List LoopShape → List Span → Type 0
FactsHaveRanges t s ls ps = (scale : ℕ) (ys : List ℤ) (low most : ℤ) (starts size : ℕ) → IsBounded s ls ps (fact_prices t s scale ys low) (fact_size t s scale ys) most starts → IsEnough s (fact_prices t s scale ys low) most starts (pos size) → 3 * size < 2 ^ 120 →
    whole_part (best_worth s ls ps (fact_prices t s scale ys low)) scale < 2 ^ 63 → HasRanges t s (fact_certificate t s ls ps scale ys low)
