-- A function that is next to be settled, and what is left when it has been.
use Rattle.std.specs.Prelude.{◌≡◌, suc, List, length}
use Rattle.code_flow_system.specs.declared.shapes.LoopShape.{LoopShape}
use Rattle.code_flow_system.specs.declared.shapes.Span.{Span}
use Rattle.code_flow_system.specs.Systems.{System}
use Rattle.loop_walks.specs.declared.step.Pair.{Pair}
use Rattle.loop_walks.specs.Levels.{Level}
use Rattle.loop_walks.specs.Rows.{AreSteps, AreLoops, HaveNone}
use Rattle.loop_worths.specs.Sizes.{StaysSmall}
use Rattle.path_places.specs.PlaceLaws.{function_steps}
use Rattle.path_places.specs.Driver.{Prices, function_loops, function_level, function_pairs}
use Rattle.path_places.specs.Duals.{dealt}
use Rattle.path_walks.specs.Opens.{HasLoops}

-- its steps and loops fit, its headers have no weights, and its numbers stay small
pub record IsFunction (s : System) (ls : List LoopShape) (q : Prices) (v : Level) (p : Span) : Type 0 where
  pub system : HasLoops s ls
  pub long_worths : length v.worths ≡ suc (length s.moves)
  pub long_weights : length v.weights ≡ suc (length s.moves)
  pub steps : AreSteps (length s.moves) (function_steps s ls q.of v.worths p)
  pub loops : AreLoops (length s.moves) (function_steps s ls q.of v.worths p) (function_loops s ls q v.worths p)
  pub none : HaveNone v.weights (function_loops s ls q v.worths p)
  pub small : StaysSmall q.low (function_steps s ls q.of v.worths p) v (function_loops s ls q v.worths p)

-- the level behind it, and the multipliers of all loops
pub record HasSettled (s : System) (ls : List LoopShape) (q : Prices) (v : Level) (p : Span) (known : List Pair) (w : Level) (pairs : List Pair) : Type 0 where
  pub level : w ≡ function_level s ls q v p
  pub multipliers : pairs ≡ dealt s.moves p ls known (function_pairs s ls q v p)
