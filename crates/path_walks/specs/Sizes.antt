-- Numbers that fit: all through the settling of a system.
use Rattle.std.specs.Prelude.{List, [], ◌∷◌}
use Rattle.code_flow_system.specs.declared.shapes.LoopShape.{LoopShape}
use Rattle.code_flow_system.specs.declared.shapes.Span.{Span}
use Rattle.code_flow_system.specs.Systems.{System}
use Rattle.loop_walks.specs.Levels.{Level}
use Rattle.loop_worths.specs.Sizes.{StaysSmall}
use Rattle.path_places.specs.PlaceLaws.{function_steps}
use Rattle.path_places.specs.Driver.{Prices, function_loops, function_level}

abbrev pub AllStaySmall : System → List LoopShape → Prices → Level → List Span → Type 0
AllStaySmall s ls q v [] = Unit {0}
AllStaySmall s ls q v (p ∷ ps) = StaysSmall q.low (function_steps s ls q.of v.worths p) v (function_loops s ls q v.worths p) × AllStaySmall s ls q (function_level s ls q v p) ps
