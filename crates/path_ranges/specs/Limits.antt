-- A search by costs, and when its numbers have bounds: by the values of loose flows.
use Rattle.std.specs.Prelude.{◌≡◌, ◌⊎◌, ℕ, ◌^◌, ◌<◌, ◌≤◌, ℤ, pos, neg_ℤ, ◌*ℤ◌, ◌<ℤ◌, List, length, All}
use Rattle.rv_core.specs.Table.{Table}
use Rattle.code_flow_system.specs.declared.claims.LoopClaim.{LoopClaim}
use Rattle.code_flow_system.specs.declared.shapes.LoopShape.{LoopShape}
use Rattle.code_flow_system.specs.declared.shapes.Span.{Span}
use Rattle.code_flow_system.specs.Systems.{System}
use Rattle.code_flow_system.specs.Counts.{Amounts, count}
use Rattle.code_flow_system.specs.Flows.{price, value}
use Rattle.code_flow_system.specs.Loose.{IsLoose}
use Rattle.path_places.specs.PlaceLaws.{IsReachedWhole}
use Rattle.path_places.specs.Driver.{Prices}
use Rattle.path_ranges.specs.Bounded.{IsBounded}
use Rattle.path_ranges.specs.Ranges.{IsEnough}

-- what moves cost, and a block that costs four times what a loose flow can
abbrev pub cost_prices : Table → System → Prices
cost_prices t s = record { of = price t s; low = neg_ℤ (pos (2 ^ 62)) }

-- every loose flow has a value below so much for each unit
abbrev pub LooseValuesUnder : ℕ → Table → System → Type 0
LooseValuesUnder most t s = (unit : ℕ) (x : Amounts) → IsLoose s unit x → value t s x <ℤ (pos unit *ℤ pos most)

-- every loose flow has a value below 2^60
abbrev pub LooseValuesBelow : Table → System → Type 0
LooseValuesBelow t s = LooseValuesUnder (2 ^ 60) t s

-- no loose flow has a count of 2^49 or more at an address for each unit
abbrev pub LooseCountsAreFew : System → Type 0
LooseCountsAreFew s = (unit : ℕ) (x : Amounts) → IsLoose s unit x → (a : ℕ) → count x s.moves a <ℤ (pos unit *ℤ pos (2 ^ 49))

-- a loop has to turn no more often than it may, or may not be visited
abbrev pub IsLoopWithin : LoopClaim → Type 0
IsLoopWithin c = ((c.min ≤ c.max) ⊎ (c.max ≡ 0)) × (c.min < 2 ^ 32)

pub record IsLimited (t : Table) (s : System) (ls : List LoopShape) (ps : List Span) : Type 0 where
  pub whole : IsReachedWhole s ls ps
  pub values : LooseValuesBelow t s
  pub loops : All IsLoopWithin s.claims.loops
  pub few : length s.claims.loops < 2 ^ 32

-- then the greatest loose worth is below 2^60, and 2^97 is enough for all numbers
pub record IsCostBounded (t : Table) (s : System) (ls : List LoopShape) (ps : List Span) : Type 0 where
  pub bounded : IsBounded s ls ps (cost_prices t s) (price t s) (pos (2 ^ 60)) (2 ^ 32)
  pub enough : IsEnough s (cost_prices t s) (pos (2 ^ 60)) (2 ^ 32) (pos (2 ^ 97))

abbrev pub CostsAreBounded : Table → System → List LoopShape → List Span → Type 0
CostsAreBounded t s ls ps = IsLimited t s ls ps → IsCostBounded t s ls ps
