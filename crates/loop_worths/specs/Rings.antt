-- What the code asks of steps and loops, where the lists of worths and weights are so long.
use Rattle.std.specs.Prelude.{ℕ, ◌-◌, ◌<◌, ◌≤◌, List, length, IfSome, All}
use Rattle.loop_walks.specs.declared.step.Step.{Step}
use Rattle.loop_walks.specs.declared.step.Loop.{Loop}
use Rattle.loop_walks.specs.Walks.{head_steps, body_steps, range_steps}

abbrev pub IsWalkStep : ℕ → Step → Type 0
IsWalkStep long m = (m.at < m.on) × (m.on < long)

-- the step is one of a range of so many places from a first one
pub record IsTurnStep (first places long : ℕ) (m : Step) : Type 0 where
  pub from : first ≤ m.at
  pub within : (m.at - first) < places
  pub on : m.at < m.on
  pub weight : m.at < long

abbrev pub IsBackIn : Loop → ℕ → ℕ → Type 0
IsBackIn l long b = (l.header ≤ b) × (b < l.end) × (b < long)

pub record IsRing (long : ℕ) (ms : List Step) (l : Loop) : Type 0 where
  pub header : (l.header < long) × (l.header < l.end)
  pub order : (l.head ≤ l.body) × (l.body ≤ l.rest) × (l.rest ≤ length ms)
  pub back : IfSome l.back (IsBackIn l long)
  pub turn : All (IsTurnStep l.header (l.end - l.header) long) (range_steps l ms)
  pub heads : All (IsWalkStep long) (head_steps l ms)
  pub body : All (IsWalkStep long) (body_steps l ms)
