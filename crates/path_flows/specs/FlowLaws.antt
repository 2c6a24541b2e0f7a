-- What holds of the flow of a system.
use Rattle.std.specs.Prelude.{ℤ, ◌≤ℤ◌, List, length}
use Rattle.code_flow_system.specs.declared.shapes.LoopShape.{LoopShape}
use Rattle.code_flow_system.specs.declared.shapes.Span.{Span}
use Rattle.code_flow_system.specs.Systems.{System}
use Rattle.code_flow_system.specs.Counts.{IsConserved}
use Rattle.code_flow_system.specs.Certificates.{listed}
use Rattle.loop_walks.specs.Walks.{worth_at}
use Rattle.path_places.specs.Places.{place_of}
use Rattle.path_places.specs.Driver.{Prices, blank, functions_level}
use Rattle.path_flows.specs.Flows.{amounts_of, parts_of}
use Rattle.path_flows.specs.Opens.{AreOpenFunctions}

-- where the worth of the entry is open, and open sums have open parts, each address's count is what arrives there, and one at the entry
abbrev pub FlowsAreConserved : System → List LoopShape → List Span → Type 0
FlowsAreConserved s ls ps = (q : Prices) (least : ℤ) → AreOpenFunctions least s ls q (blank (length s.moves) q.low) ps → least ≤ℤ worth_at (functions_level s ls q (blank (length s.moves) q.low) ps).worths (place_of s.moves s.entry) →
    IsConserved s.entry 1 (listed (parts_of s.moves (amounts_of s ls ps q))) s.moves
