-- The flow of a system by its worths is without slack, so that its total is the entry's potential.
use Rattle.std.specs.Prelude.{◌≡◌, ℤ, List}
use Rattle.code_flow_system.specs.declared.shapes.LoopShape.{LoopShape}
use Rattle.code_flow_system.specs.declared.shapes.Span.{Span}
use Rattle.code_flow_system.specs.Systems.{System}
use Rattle.code_flow_system.specs.Counts.{total}
use Rattle.code_flow_system.specs.Certificates.{listed}
use Rattle.code_flow_system.specs.Bounds.{IsSlackless}
use Rattle.loop_walks.specs.Walks.{worth_at}
use Rattle.path_places.specs.Places.{place_of}
use Rattle.path_places.specs.Driver.{Prices}
use Rattle.path_places.specs.Duals.{values_of, dual_of, final_level}
use Rattle.path_flows.specs.Flows.{amounts_of, parts_of}
use Rattle.path_flows.specs.CountLaws.{IsOpenSystem}

-- at any prices
abbrev pub FlowsAreSlackless : System → List LoopShape → List Span → Type 0
FlowsAreSlackless s ls ps = (q : Prices) (least : ℤ) → IsOpenSystem s ls ps q least → IsSlackless s (dual_of s q.of (values_of s ls ps q)) 1 (listed (parts_of s.moves (amounts_of s ls ps q)))

-- the total is the worth of the entry
abbrev pub ValuesAreReached : System → List LoopShape → List Span → Type 0
ValuesAreReached s ls ps = (q : Prices) (least : ℤ) → IsOpenSystem s ls ps q least → total q.of (listed (parts_of s.moves (amounts_of s ls ps q))) s.moves ≡ worth_at (final_level s ls ps q).worths (place_of s.moves s.entry)
