-- The worths and weights of a whole system: its functions in the order of their spans, so that a called function stands before its callers.
use Rattle.std.specs.Prelude.{ℕ, ◌+◌, ℤ, pos, List, [], ◌∷◌, ◌++◌}
use Rattle.std.proofs.Math.ListN.{replicate}
use Rattle.code_flow_system.specs.declared.moves.Move.{Move}
use Rattle.code_flow_system.specs.declared.shapes.LoopShape.{LoopShape}
use Rattle.code_flow_system.specs.declared.shapes.Span.{Span}
use Rattle.code_flow_system.specs.Systems.{System}
use Rattle.loop_walks.specs.declared.step.Loop.{Loop}
use Rattle.loop_walks.specs.declared.step.Pair.{Pair}
use Rattle.loop_walks.specs.Levels.{Level, settled, settled_pairs}
use Rattle.path_places.specs.Places.{loops_of}
use Rattle.path_places.specs.PlaceLaws.{function_steps}

-- the prices of moves, and the worth of a block
pub record Prices : Type 0 where
  pub of : Move → ℤ
  pub low : ℤ

-- at first each of n places is worth a block, and the place behind all nothing
abbrev pub blank : ℕ → ℤ → Level
blank n low = record { worths = replicate n low ++ pos 0 ∷ []; weights = replicate (n + 1) (pos 0) }

abbrev pub function_loops : System → List LoopShape → Prices → List ℤ → Span → List Loop
function_loops s ls q ws p = loops_of q.of q.low s.moves s.claims p (function_steps s ls q.of ws p) s.claims.loops ls

-- after a function is settled
abbrev pub function_level : System → List LoopShape → Prices → Level → Span → Level
function_level s ls q v p = settled q.low (function_steps s ls q.of v.worths p) v (function_loops s ls q v.worths p)

abbrev pub function_pairs : System → List LoopShape → Prices → Level → Span → List Pair
function_pairs s ls q v p = settled_pairs q.low (function_steps s ls q.of v.worths p) v (function_loops s ls q v.worths p)

-- after all functions are settled
abbrev pub functions_level : System → List LoopShape → Prices → Level → List Span → Level
functions_level s ls q v [] = v
functions_level s ls q v (p ∷ ps) = functions_level s ls q (function_level s ls q v p) ps
