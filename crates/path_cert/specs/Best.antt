-- A best flow of a system without its facts, at some prices.
use Rattle.std.specs.Prelude.{◌≡◌, ℕ, ℤ, pos, neg_ℤ, ◌*ℤ◌, ◌≤ℤ◌, List}
use Rattle.code_flow_system.specs.declared.shapes.LoopShape.{LoopShape}
use Rattle.code_flow_system.specs.declared.shapes.Span.{Span}
use Rattle.code_flow_system.specs.Systems.{System}
use Rattle.code_flow_system.specs.Counts.{Amounts, total}
use Rattle.code_flow_system.specs.Flows.{IsFlow}
use Rattle.code_flow_system.specs.Certificates.{listed}
use Rattle.loop_walks.specs.Walks.{worth_at}
use Rattle.path_places.specs.Places.{place_of}
use Rattle.path_places.specs.Driver.{Prices}
use Rattle.path_places.specs.Duals.{final_level}
use Rattle.path_flows.specs.Flows.{amounts_of, parts_of}
use Rattle.path_flows.specs.Free.{free}

-- the worth of the entry, and the flow that the walks list
abbrev pub best_worth : System → List LoopShape → List Span → Prices → ℤ
best_worth s ls ps q = worth_at (final_level s ls ps q).worths (place_of s.moves s.entry)

abbrev pub best_flow : System → List LoopShape → List Span → Prices → Amounts
best_flow s ls ps q = listed (parts_of s.moves (amounts_of s ls ps q))

-- no flow has a total above the worth of the entry
abbrev pub BoundsBest : System → List LoopShape → List Span → Prices → Type 0
BoundsBest s ls ps q = (unit : ℕ) (x : Amounts) → IsFlow (free s) unit x → total q.of x s.moves ≤ℤ (pos unit *ℤ best_worth s ls ps q)

-- the listed flow has unit 1 and just that total
pub record IsBestFlow (s : System) (ls : List LoopShape) (ps : List Span) (q : Prices) : Type 0 where
  pub flow : IsFlow (free s) 1 (best_flow s ls ps q)
  pub total : total q.of (best_flow s ls ps q) s.moves ≡ best_worth s ls ps q
  pub best : BoundsBest s ls ps q

-- the entry is open just where there is a flow, and then the listed flow is a best one
pub record HasBestFlow (s : System) (ls : List LoopShape) (ps : List Span) (q : Prices) (most : ℤ) : Type 0 where
  pub open_entry : (x : Amounts) → IsFlow (free s) 1 x → neg_ℤ most ≤ℤ best_worth s ls ps q
  pub flow : neg_ℤ most ≤ℤ best_worth s ls ps q → IsBestFlow s ls ps q
