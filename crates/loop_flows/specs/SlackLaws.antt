-- What holds of a function's flow at the worths after its loops are settled.
use Rattle.std.specs.Prelude.{ℕ, ◌<◌, ℤ, pos, ◌≤ℤ◌, ◌<ℤ◌, List, length}
use Rattle.loop_walks.specs.declared.step.Step.{Step}
use Rattle.loop_walks.specs.declared.step.Loop.{Loop}
use Rattle.loop_walks.specs.declared.step.Pair.{Pair}
use Rattle.loop_walks.specs.Walks.{worth_at}
use Rattle.loop_walks.specs.Levels.{weighed, Level}
use Rattle.loop_walks.specs.Rows.{AreSteps, AreLoops, ArePaid, HaveNone, AreSettled}
use Rattle.loop_flows.specs.Flows.{counts_of, backs_of}
use Rattle.loop_flows.specs.Turns.{turnings}
use Rattle.loop_flows.specs.Opens.{TurnAllOpenly, EachMade}
use Rattle.loop_flows.specs.Slack.{IsEven, ArePairs, AreBacksTight}

-- at any prices, where worths pay for all steps, open weights have become no less, and what is made in the pass to the ends is tight and has open weights that have stayed as they were, so is what is made in all turns, and a jump back that is made is worth what its loop's multipliers make it
abbrev pub TurnsAreTight : Type 0
TurnsAreTight = (least low : ℤ) (n : ℕ) (ms : List Step) (weights : List ℤ) (w : Level) (ls : List Loop) (ks : List Pair) (counts : List ℕ) → AreSteps n ms → AreLoops n ms ls → n < length weights → low <ℤ least → least ≤ℤ pos 0 →
    ArePaid w ms → ((a : ℕ) → least ≤ℤ worth_at (weighed low ms weights ls) a → worth_at (weighed low ms weights ls) a ≤ℤ worth_at w.weights a) → TurnAllOpenly least (λ m. Unit {0}) low weights ms ls → HaveNone weights ls → AreSettled w ls ks → ArePairs low ms weights ls ks →
    EachMade (λ m. (least ≤ℤ worth_at (weighed low ms weights ls) m.at) × Unit {0}) ms counts → EachMade (IsEven (weighed low ms weights ls) w) ms counts →
    EachMade (IsEven (weighed low ms weights ls) w) ms (counts_of n ms counts (turnings low ms weights ls)) × AreBacksTight least w (turnings low ms weights ls) (backs_of n ms counts (turnings low ms weights ls)) ls ks
