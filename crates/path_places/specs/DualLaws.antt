-- The values of the walks are dual values.
use Rattle.std.specs.Prelude.{pos, ◌≤ℤ◌, List}
use Rattle.code_flow_system.specs.declared.shapes.LoopShape.{LoopShape}
use Rattle.code_flow_system.specs.declared.shapes.Span.{Span}
use Rattle.code_flow_system.specs.Systems.{System}
use Rattle.code_flow_system.specs.Bounds.{IsDual}
use Rattle.path_places.specs.Driver.{Prices}
use Rattle.path_places.specs.Duals.{values_of, dual_of}

-- at any prices, if a block is worth no more than nothing
abbrev pub WalksAreDual : System → List LoopShape → List Span → Type 0
WalksAreDual s ls ps = (q : Prices) → q.low ≤ℤ pos 0 → IsDual s (dual_of s q.of (values_of s ls ps q))
