-- Open sums have open parts in each function of a system whose numbers have bounds.
use Rattle.std.specs.Prelude.{ℕ, ℤ, pos, neg_ℤ, ◌+ℤ◌, ◌<ℤ◌, List, length}
use Rattle.code_flow_system.specs.declared.moves.Move.{Move}
use Rattle.code_flow_system.specs.declared.shapes.LoopShape.{LoopShape}
use Rattle.code_flow_system.specs.declared.shapes.Span.{Span}
use Rattle.code_flow_system.specs.Systems.{System}
use Rattle.path_places.specs.Driver.{Prices, blank}
use Rattle.path_flows.specs.Opens.{AreOpenFunctions}
use Rattle.path_ranges.specs.Bounded.{IsBounded}

-- at any prices, where a block is more than three times the bound of loose totals: what isn't lost on a block is open
abbrev pub FunctionsAreOpen : System → List LoopShape → List Span → Type 0
FunctionsAreOpen s ls ps = (q : Prices) (price : Move → ℤ) (most : ℤ) (starts : ℕ) → IsBounded s ls ps q price most starts → ((most +ℤ (most +ℤ most)) +ℤ q.low) <ℤ pos 0 →
    AreOpenFunctions (neg_ℤ most) s ls q (blank (length s.moves) q.low) ps
