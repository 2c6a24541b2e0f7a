-- The walks of a system without facts at prices of moves that are no more than their costs, and their flow.
use Rattle.std.specs.Prelude.{◌≡◌, ◌^◌, ◌<◌, ℤ, pos, neg_ℤ, ◌≤ℤ◌, List, length, All}
use Rattle.rv_core.specs.Table.{Table}
use Rattle.code_flow_system.specs.declared.moves.Move.{Move}
use Rattle.code_flow_system.specs.declared.shapes.LoopShape.{LoopShape}
use Rattle.code_flow_system.specs.declared.shapes.Span.{Span}
use Rattle.code_flow_system.specs.Systems.{System}
use Rattle.code_flow_system.specs.Counts.{total}
use Rattle.code_flow_system.specs.Flows.{IsFlow, price}
use Rattle.code_flow_system.specs.Certificates.{listed}
use Rattle.loop_walks.specs.Walks.{worth_at}
use Rattle.path_places.specs.Places.{place_of}
use Rattle.path_places.specs.Driver.{Prices, blank}
use Rattle.path_places.specs.Duals.{final_level}
use Rattle.path_flows.specs.Flows.{amounts_of, parts_of}
use Rattle.path_sizes.specs.Sizes.{AllStaySmall}
use Rattle.path_cert.specs.BoundLaws.{IsBoundable}

-- no price is negative, or more than the move's cost
abbrev pub AreUpToCosts : Table → System → (Move → ℤ) → Type 0
AreUpToCosts t s of = All (λ m. (pos 0 ≤ℤ of m) × (of m ≤ℤ price t s m)) s.moves

-- these prices, and the worth of a block
abbrev pub priced : (Move → ℤ) → Prices
priced of = record { of = of; low = neg_ℤ (pos (2 ^ 62)) }

abbrev pub entry_worth : System → List LoopShape → List Span → Prices → ℤ
entry_worth s ls ps q = worth_at (final_level s ls ps q).worths (place_of s.moves s.entry)

-- what the walks list is a flow of unit 1 and of the entry's worth, and its numbers are small
pub record IsPricedFlow (s : System) (ls : List LoopShape) (ps : List Span) (q : Prices) : Type 0 where
  pub flow : IsFlow s 1 (listed (parts_of s.moves (amounts_of s ls ps q)))
  pub total : total q.of (listed (parts_of s.moves (amounts_of s ls ps q))) s.moves ≡ entry_worth s ls ps q
  pub amounts : All (λ u. u < 2 ^ 60) (amounts_of s ls ps q)

-- the walks fit into 128 bits, and where the entry's worth isn't negative they give a flow
pub record HasPricedFlow (s : System) (ls : List LoopShape) (ps : List Span) (q : Prices) : Type 0 where
  pub walks : AllStaySmall s ls q (blank (length s.moves) q.low) ps
  pub flow : pos 0 ≤ℤ entry_worth s ls ps q → IsPricedFlow s ls ps q

abbrev pub PricedFlowsAreFlows : Table → System → List LoopShape → List Span → Type 0
PricedFlowsAreFlows t s ls ps = IsBoundable t s ls ps → (of : Move → ℤ) → AreUpToCosts t s of → HasPricedFlow s ls ps (priced of)
