-- When a search for the greatest flow can be made without restrictions.
use Rattle.std.specs.Prelude.{◌≡◌, List, [], All}
use Rattle.rv_core.specs.Table.{Table}
use Rattle.code_flow_system.specs.declared.shapes.LoopShape.{LoopShape}
use Rattle.code_flow_system.specs.declared.shapes.Span.{Span}
use Rattle.code_flow_system.specs.Systems.{System}
use Rattle.path_fit.specs.Fitting.{LoopsFit}
use Rattle.path_flows.specs.CountLaws.{HasBounds}
use Rattle.path_ranges.specs.Limits.{LooseCountsAreFew, LooseValuesBelow}

-- loops and functions fit the system; there are no restrictions; bounds of loops can be kept; and every loose flow has a value below 2^60 and counts below 2^49
pub record CanBound (t : Table) (s : System) (ls : List LoopShape) (ps : List Span) : Type 0 where
  pub fit : LoopsFit s ls ps
  pub facts : s.claims.facts ≡ []
  pub bounds : All HasBounds s.claims.loops
  pub loose : LooseValuesBelow t s
  pub counts : LooseCountsAreFew s
