-- What a search under restrictions rests on: bounds of loose flows, by their values, their counts and what they come to in facts.
use Rattle.std.specs.Prelude.{◌^◌, ◌≤◌, pos, ◌≤ℤ◌, List, length, All}
use Rattle.rv_core.specs.Table.{Table}
use Rattle.code_flow_system.specs.declared.shapes.LoopShape.{LoopShape}
use Rattle.code_flow_system.specs.declared.shapes.Span.{Span}
use Rattle.code_flow_system.specs.Systems.{System}
use Rattle.code_flow_system.specs.Counts.{Amounts, count}
use Rattle.code_flow_system.specs.Loose.{IsLoose}
use Rattle.path_flows.specs.CountLaws.{BacksAreFree}
use Rattle.path_ranges.specs.Limits.{IsLimited, LooseCountsAreFew}
use Rattle.path_ranges.specs.Narrow.{FetchesCost, HasShortBounds}
use Rattle.path_conditions.specs.Natural.{IsNaturalFact, both_totals}

pub record IsFactLimited (t : Table) (s : System) (ls : List LoopShape) (ps : List Span) : Type 0 where
  pub limited : IsLimited t s ls ps
  pub counts : LooseCountsAreFew s
  pub natural : All IsNaturalFact s.claims.facts
  pub totals : (x : Amounts) → IsLoose s 1 x → All (λ c. both_totals c (count x s.moves) ≤ℤ pos (2 ^ 66)) s.claims.facts

-- where it can be made, the walks at narrow multipliers keep to 128 bits, and find a best flow
pub record IsSearchable (t : Table) (s : System) (ls : List LoopShape) (ps : List Span) : Type 0 where
  pub limited : IsFactLimited t s ls ps
  pub fetches : FetchesCost t
  pub short : All HasShortBounds s.claims.loops
  pub backs : BacksAreFree s ls
  pub few : length s.claims.facts ≤ 32
