-- What holds of the passes of a function.
use Rattle.std.specs.Prelude.{ℕ, ℤ, List}
use Rattle.loop_walks.specs.declared.step.Step.{Step}
use Rattle.loop_walks.specs.declared.step.Loop.{Loop}
use Rattle.loop_walks.specs.Rows.{AreSteps, AreLoops}
use Rattle.loop_flows.specs.Flows.{CanAllTurn}
use Rattle.loop_flows.specs.Turns.{turnings}

-- along chosen steps each way of a turn goes on to the jump back, at any prices
abbrev pub TurningsTurn : Type 0
TurningsTurn = (low : ℤ) (n : ℕ) (ms : List Step) (weights : List ℤ) (ls : List Loop) → AreSteps n ms → AreLoops n ms ls → CanAllTurn n ms (turnings low ms weights ls)
