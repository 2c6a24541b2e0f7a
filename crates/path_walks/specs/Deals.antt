-- How the multipliers of a function's loops are put each at its own loop.
use Rattle.std.specs.Prelude.{ℕ, ◌&&◌, nat_lt, pos, List, length, Bool}
use Rattle.code_flow_system.specs.declared.moves.Move.{Move}
use Rattle.code_flow_system.specs.declared.shapes.LoopShape.{LoopShape}
use Rattle.code_flow_system.specs.Systems.{has_moves}
use Rattle.loop_walks.specs.declared.step.Pair.{Pair}

abbrev pub no_pair : Pair
no_pair = record { least = pos 0; most = pos 0 }

-- a loop of the function takes the next multipliers, of which so many are used
abbrev pub takes : List Move → ℕ → List Pair → LoopShape → Bool
takes all used found l = nat_lt used (length found) && has_moves all l.header
