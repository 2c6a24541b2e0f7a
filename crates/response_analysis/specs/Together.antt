-- The jobs of tasks that are all released together at 0, and then as often as they may.
use Rattle.std.specs.Prelude.{ℕ, zero, suc, ◌*◌, ◌/◌, List, [], ◌∷◌, ◌++◌, length}
use Rattle.response_analysis.specs.declared.task.Task.{Task}
use Rattle.response_analysis.specs.Tasks.{cycles_of, period_of}
use Rattle.response_analysis.specs.Schedule.{Job}

-- the first jobs of a task, with its period and all its cycles
abbrev pub repeated : ℕ → ℕ → ℕ → ℕ → List Job
repeated task period cycles zero = []
repeated task period cycles (suc k) = record { task = task; release = k * period; need = cycles } ∷ repeated task period cycles k

-- those of the first i tasks that are released up to the horizon
abbrev pub together : List Task → ℕ → ℕ → List Job
together tasks horizon zero = []
together tasks horizon (suc i) = repeated i (period_of tasks i) (cycles_of tasks i) (suc (horizon / period_of tasks i)) ++ together tasks horizon i

abbrev pub synchronous : List Task → ℕ → List Job
synchronous tasks horizon = together tasks horizon (length tasks)
