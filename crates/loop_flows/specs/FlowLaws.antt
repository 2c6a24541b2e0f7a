-- What holds of the flow of a function.
use Rattle.std.specs.Prelude.{◌≡◌, ◌≢◌, ℕ, ◌<◌, ℤ, List, length, Bool, true}
use Rattle.loop_walks.specs.declared.step.Step.{Step}
use Rattle.loop_walks.specs.Rows.{IsStep, AreSteps, Each}
use Rattle.loop_flows.specs.Passes.{spread}
use Rattle.loop_flows.specs.Hands.{AreOpen, StandsOpen, AreTight, Squeezed, IsSqueezing}
use Rattle.loop_flows.specs.Flows.{Turning, counts_of, backs_of, CanAllTurn, IsConservedAt, AreTurned}

-- the pass to the ends, and then the turns of the loops
pub record FlowsOn (n : ℕ) (ms : List Step) (starts : List ℕ) (ts : List Turning) (counts : List ℕ) : Type 0 where
  pub conserved : (a : ℕ) → a ≢ n → IsConservedAt ms ts starts (counts_of n ms counts ts) (backs_of n ms counts ts) a
  pub turned : AreTurned ms (counts_of n ms counts ts) ts (backs_of n ms counts ts)

-- where chosen steps lead from each place that is reached to the place behind all, and where loops turn only if they can, what comes to a place leaves it, and each loop turns as often as it has to
abbrev pub FlowsConserve : Type 0
FlowsConserve = (n : ℕ) (ms : List Step) (chosen : Step → Bool) (opened : ℕ → Bool) (starts : List ℕ) (ts : List Turning) →
    AreSteps n ms → n < length starts → AreOpen chosen ms (λ a. opened a ≡ true) n → StandsOpen starts (λ a. opened a ≡ true) → CanAllTurn n ms ts → FlowsOn n ms starts ts (spread chosen starts ms)

-- where what starts is squeezed between two worths, each step that is made costs all that the first one falls
abbrev pub SqueezedIsTight : Type 0
SqueezedIsTight = (chosen : Step → Bool) (n : ℕ) (price : Step → ℤ) (p : ℕ → ℤ) (cost : Step → ℤ) (q : ℕ → ℤ) (starts : List ℕ) (ms : List Step) →
    n < length starts → Each (IsStep n) ms → Each (IsSqueezing chosen price p cost q) ms → Squeezed p q starts → AreTight price p ms (spread chosen starts ms)
