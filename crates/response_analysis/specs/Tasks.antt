-- Tasks, in falling priority: what each asks for, and how often.
use Rattle.std.specs.Prelude.{ℕ, ◌<◌, ◌≤◌, ◌^◌, List, length, slice_index_or, All}
use Rattle.response_analysis.specs.declared.task.Task.{Task}

-- the cycles of a task's jobs at most
abbrev pub cycles_of : List Task → ℕ → ℕ
cycles_of tasks i = (slice_index_or tasks i (record { cycles = 0; period = 0 })).cycles

-- the cycles from a release of a task to its next at least
abbrev pub period_of : List Task → ℕ → ℕ
period_of tasks i = (slice_index_or tasks i (record { cycles = 0; period = 0 })).period

pub record IsTask (t : Task) : Type 0 where
  pub positive : 0 < t.period
  pub short : t.period ≤ 10 ^ 12
  pub small : t.cycles < 2 ^ 63

pub record AreTasks (tasks : List Task) : Type 0 where
  pub few : length tasks ≤ 64
  pub each : All IsTask tasks
