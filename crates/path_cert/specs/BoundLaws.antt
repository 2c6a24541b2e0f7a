-- The bound of a system without facts: its certificate is in form and accepted, greatest with a flow of its value, or with no flow.
use Rattle.std.specs.Prelude.{◌≡◌, List, [], All}
use Rattle.rv_core.specs.Table.{Table}
use Rattle.code_flow_system.specs.declared.shapes.LoopShape.{LoopShape}
use Rattle.code_flow_system.specs.declared.shapes.Span.{Span}
use Rattle.code_flow_system.specs.Systems.{System}
use Rattle.code_flow_system.specs.Certificates.{Accepts, IsInForm}
use Rattle.path_flows.specs.CountLaws.{BacksAreFree}
use Rattle.path_cert.specs.Certificates.{certificate_of}
use Rattle.path_ranges.specs.Limits.{IsLimited}
use Rattle.path_ranges.specs.Narrow.{FetchesCost, HasShortBounds}

-- what a system has to keep: no facts, loose flows with values below 2^60, and bounds that can be kept
pub record IsBoundable (t : Table) (s : System) (ls : List LoopShape) (ps : List Span) : Type 0 where
  pub limited : IsLimited t s ls ps
  pub fetches : FetchesCost t
  pub short : All HasShortBounds s.claims.loops
  pub backs : BacksAreFree s ls
  pub facts : s.claims.facts ≡ []

abbrev pub BoundsAreGreatest : Table → System → List LoopShape → List Span → Type 0
BoundsAreGreatest t s ls ps = IsBoundable t s ls ps → IsInForm s.claims (certificate_of t s ls ps) × Accepts t s (certificate_of t s ls ps)
