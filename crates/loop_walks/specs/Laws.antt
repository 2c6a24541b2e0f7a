-- What settling a function gives: no step costs more than the worth falls along it, and each jump back is paid with the multipliers of its loop.
use Rattle.std.specs.Prelude.{ℕ, ◌<◌, ℤ, List, length}
use Rattle.loop_walks.specs.declared.step.Step.{Step}
use Rattle.loop_walks.specs.declared.step.Loop.{Loop}
use Rattle.loop_walks.specs.Levels.{Level, settled, settled_pairs}
use Rattle.loop_walks.specs.Rows.{AreSteps, AreLoops, ArePaid, AreSettled, HaveNone}

-- there is a worth and a weight for each of n places and the one behind all, and no header has a weight
pub record IsBlank (n : ℕ) (v : Level) (ls : List Loop) : Type 0 where
  pub worths_long : n < length v.worths
  pub weights_long : n < length v.weights
  pub none : HaveNone v.weights ls

-- at any prices, whatever the worths before and that of a block are
abbrev pub SettlingPays : Type 0
SettlingPays = (low : ℤ) (n : ℕ) (ms : List Step) (v : Level) (ls : List Loop) → AreSteps n ms → AreLoops n ms ls → IsBlank n v ls → ArePaid (settled low ms v ls) ms × AreSettled (settled low ms v ls) ls (settled_pairs low ms v ls)
