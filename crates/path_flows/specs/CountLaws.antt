-- The flow of a system without facts keeps its claims, and those with a multiplier just so.
use Rattle.std.specs.Prelude.{◌≡◌, ◌≢◌, ◌⊎◌, ◌≤◌, ℤ, pos, ◌≤ℤ◌, List, [], length, true, Contains, All}
use Rattle.code_flow_system.specs.declared.claims.LoopClaim.{LoopClaim}
use Rattle.code_flow_system.specs.declared.shapes.LoopShape.{LoopShape}
use Rattle.code_flow_system.specs.declared.shapes.Span.{Span}
use Rattle.code_flow_system.specs.Systems.{System}
use Rattle.code_flow_system.specs.Shapes.{is_back}
use Rattle.code_flow_system.specs.Counts.{count}
use Rattle.code_flow_system.specs.Flows.{IsFlow}
use Rattle.code_flow_system.specs.Certificates.{listed}
use Rattle.code_flow_system.specs.Bounds.{IsExact}
use Rattle.loop_walks.specs.Walks.{worth_at}
use Rattle.path_places.specs.Places.{place_of}
use Rattle.path_places.specs.Driver.{Prices, blank, functions_level}
use Rattle.path_places.specs.Duals.{values_of, dual_of}
use Rattle.path_flows.specs.Flows.{amounts_of, parts_of}
use Rattle.path_flows.specs.Opens.{AreOpenFunctions}

-- a loop that has to start often may, or it may not start at all
abbrev pub HasBounds : LoopClaim → Type 0
HasBounds c = (c.min ≤ c.max) ⊎ (c.max ≡ 0)

-- a header that is the jump back of another loop needn't be visited again
abbrev pub BacksAreFree : System → List LoopShape → Type 0
BacksAreFree s ls = (c : LoopClaim) → Contains s.claims.loops c → is_back ls c.header ≡ true → c.back ≢ c.header → c.min ≤ 1

-- what a flow rests on, at these prices: open sums have open parts, the entry is open, and bounds can be kept
pub record IsOpenSystem (s : System) (ls : List LoopShape) (ps : List Span) (q : Prices) (least : ℤ) : Type 0 where
  pub negative : q.low ≤ℤ pos 0
  pub code : AreOpenFunctions least s ls q (blank (length s.moves) q.low) ps
  pub entry : least ≤ℤ worth_at (functions_level s ls q (blank (length s.moves) q.low) ps).worths (place_of s.moves s.entry)
  pub bounds : All HasBounds s.claims.loops
  pub backs : BacksAreFree s ls
  pub facts : s.claims.facts ≡ []

-- the listed flow is a flow of unit 1
abbrev pub FlowsKeepClaims : System → List LoopShape → List Span → Type 0
FlowsKeepClaims s ls ps = (q : Prices) (least : ℤ) → IsOpenSystem s ls ps q least → IsFlow s 1 (listed (parts_of s.moves (amounts_of s ls ps q)))

-- and limits with multipliers hold with equality
abbrev pub FlowsAreExact : System → List LoopShape → List Span → Type 0
FlowsAreExact s ls ps = (q : Prices) (least : ℤ) → IsOpenSystem s ls ps q least → All (IsExact (count (listed (parts_of s.moves (amounts_of s ls ps q))) s.moves)) (dual_of s q.of (values_of s ls ps q)).limits
