-- What holds of the counts of a function.
use Rattle.std.specs.Prelude.{ℕ, ◌<◌, ℤ, pos, ◌≤ℤ◌, ◌<ℤ◌, List, length}
use Rattle.loop_walks.specs.declared.step.Step.{Step}
use Rattle.loop_walks.specs.declared.step.Loop.{Loop}
use Rattle.loop_walks.specs.Walks.{worth_at}
use Rattle.loop_walks.specs.Levels.{Level, weighed, gains, level_pairs}
use Rattle.loop_walks.specs.Rows.{AreSteps, AreLoops}
use Rattle.loop_flows.specs.Flows.{AreTurned}
use Rattle.loop_flows.specs.Turns.{turnings}
use Rattle.loop_flows.specs.Opens.{TurnAllOpenly, EachMade}
use Rattle.loop_flows.specs.Counts.{AreCounted, AreBounded}

-- where each step that is made has an open weight, and each loop turns as often as it has to, all loops keep their bounds; with the multipliers of any level
abbrev pub LoopsKeepBounds : Type 0
LoopsKeepBounds = (least low : ℤ) (n : ℕ) (ms : List Step) (weights : List ℤ) (v : Level) (ls : List Loop) (counts backs : List ℕ) → AreSteps n ms → AreLoops n ms ls → n < length weights → low <ℤ least → least ≤ℤ pos 0 →
    TurnAllOpenly least (λ m. Unit {0}) low weights ms ls → AreBounded ms ls → EachMade (λ m. least ≤ℤ worth_at (weighed low ms weights ls) m.at) ms counts → AreTurned ms counts (turnings low ms weights ls) backs →
    AreCounted ms counts (turnings low ms weights ls) backs ls (level_pairs low ms v ls (gains low ms weights ls))
