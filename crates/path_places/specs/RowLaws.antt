-- What the worths of a whole system pay for.
use Rattle.std.specs.Prelude.{◌≡◌, ◌||◌, List, [], ◌∷◌, length, false, Contains}
use Rattle.code_flow_system.specs.declared.moves.Move.{Move}
use Rattle.code_flow_system.specs.declared.shapes.LoopShape.{LoopShape}
use Rattle.code_flow_system.specs.declared.shapes.Span.{Span}
use Rattle.code_flow_system.specs.Systems.{System}
use Rattle.code_flow_system.specs.Shapes.{is_back}
use Rattle.loop_walks.specs.Levels.{Level}
use Rattle.loop_walks.specs.Rows.{IsPaid, AreSettled}
use Rattle.path_places.specs.Places.{is_stop, step_of}
use Rattle.path_places.specs.Driver.{Prices, blank, function_loops, function_pairs, function_level, functions_level}

-- each move costs no more than the worth falls along it, the worth of a called function and the weight of a header counted, but for those of places that may not be visited and jumps back
abbrev pub MovesArePaid : System → List LoopShape → Prices → Level → Type 0
MovesArePaid s ls q v = (m : Move) → Contains s.moves m → (is_stop s.claims m.at || is_back ls m.at) ≡ false → IsPaid v (step_of q.of s.moves v.worths m)

-- at any prices
abbrev pub SettlingPaysMoves : System → List LoopShape → List Span → Type 0
SettlingPaysMoves s ls ps = (q : Prices) → MovesArePaid s ls q (functions_level s ls q (blank (length s.moves) q.low) ps)

-- the loops of the functions, each at the worths before it, are settled at these worths
abbrev pub LoopsAreSettled : System → List LoopShape → Prices → Level → Level → List Span → Type 0
LoopsAreSettled s ls q w v [] = Unit {0}
LoopsAreSettled s ls q w v (p ∷ ps) = AreSettled w (function_loops s ls q v.worths p) (function_pairs s ls q v p) × LoopsAreSettled s ls q w (function_level s ls q v p) ps

abbrev pub SettlingSettlesLoops : System → List LoopShape → List Span → Type 0
SettlingSettlesLoops s ls ps = (q : Prices) → LoopsAreSettled s ls q (functions_level s ls q (blank (length s.moves) q.low) ps) (blank (length s.moves) q.low) ps
