-- When a search for the greatest flow can be made under restrictions.
use Rattle.std.specs.Prelude.{◌^◌, ◌≤◌, pos, ◌≤ℤ◌, List, length, All}
use Rattle.rv_core.specs.Table.{Table}
use Rattle.code_flow_system.specs.declared.shapes.LoopShape.{LoopShape}
use Rattle.code_flow_system.specs.declared.shapes.Span.{Span}
use Rattle.code_flow_system.specs.Systems.{System}
use Rattle.code_flow_system.specs.Counts.{Amounts, count}
use Rattle.code_flow_system.specs.Loose.{IsLoose}
use Rattle.path_fit.specs.Fitting.{LoopsFit}
use Rattle.path_flows.specs.CountLaws.{HasBounds}
use Rattle.path_ranges.specs.Limits.{LooseCountsAreFew, LooseValuesBelow}
use Rattle.path_conditions.specs.Natural.{IsNaturalFact, both_totals}

-- loops and functions fit the system; bounds of loops can be kept; every loose flow has a value below 2^60 and counts below 2^49; and there are at most 32 facts, whose numbers aren't negative and whose sides come to at most 2^66
pub record CanSearch (t : Table) (s : System) (ls : List LoopShape) (ps : List Span) : Type 0 where
  pub fit : LoopsFit s ls ps
  pub bounds : All HasBounds s.claims.loops
  pub loose : LooseValuesBelow t s
  pub counts : LooseCountsAreFew s
  pub few : length s.claims.facts ≤ 32
  pub natural : All IsNaturalFact s.claims.facts
  pub totals : (x : Amounts) → IsLoose s 1 x → All (λ f. both_totals f (count x s.moves) ≤ℤ pos (2 ^ 66)) s.claims.facts
