-- Each function of a system whose loops fit is steps and loops over places.
use Rattle.std.specs.Prelude.{ℤ, List, length, Contains}
use Rattle.code_flow_system.specs.declared.moves.Move.{Move}
use Rattle.code_flow_system.specs.declared.shapes.LoopShape.{LoopShape}
use Rattle.code_flow_system.specs.declared.shapes.Span.{Span}
use Rattle.code_flow_system.specs.Systems.{System, IsSystem}
use Rattle.code_flow_system.specs.Shapes.{Fits}
use Rattle.loop_walks.specs.declared.step.Step.{Step}
use Rattle.loop_walks.specs.Rows.{AreSteps, AreLoops}
use Rattle.path_places.specs.Reached.{AreReached, AreFilled}
use Rattle.path_places.specs.Places.{is_walked, steps_of, loops_of}

-- the steps of a function, at the worths of those before it
abbrev pub function_steps : System → List LoopShape → (Move → ℤ) → List ℤ → Span → List Step
function_steps s ls price ws p = steps_of price s.moves ws (is_walked s.claims ls p) s.moves

-- all addresses are reached, and no span is empty
pub record IsReachedWhole (s : System) (ls : List LoopShape) (ps : List Span) : Type 0 where
  pub system : IsSystem s
  pub fits : Fits s ls ps
  pub filled : AreFilled ps
  pub reached : AreReached s

-- at any prices
abbrev pub FunctionsFit : System → List LoopShape → List Span → Type 0
FunctionsFit s ls ps = (price : Move → ℤ) (low : ℤ) (ws : List ℤ) (p : Span) → Contains ps p →
    AreSteps (length s.moves) (function_steps s ls price ws p)
    × AreLoops (length s.moves) (function_steps s ls price ws p) (loops_of price low s.moves s.claims p (function_steps s ls price ws p) s.claims.loops ls)
