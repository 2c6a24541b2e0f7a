-- Loops and functions that a search can go by.
use Rattle.std.specs.Prelude.{List, All}
use Rattle.code_flow_system.specs.declared.shapes.LoopShape.{LoopShape}
use Rattle.code_flow_system.specs.declared.shapes.Span.{Span}
use Rattle.code_flow_system.specs.Systems.{System}
use Rattle.code_flow_system.specs.Shapes.{Fits}
use Rattle.path_fit.specs.Loops.{HeadsOwnLoop}
use Rattle.path_fit.specs.Spans.{HoldsFirst}

-- they fit the system, no jump back is the header of another loop, and no function is empty
pub record LoopsFit (s : System) (ls : List LoopShape) (ps : List Span) : Type 0 where
  pub fits : Fits s ls ps
  pub apart : All (λ l. HeadsOwnLoop ls l.back) ls
  pub filled : All HoldsFirst ps
