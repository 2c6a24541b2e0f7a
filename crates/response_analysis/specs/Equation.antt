-- The equation of response times under preemptive fixed priorities (Joseph and Pandya, Finding Response Times in a Real-Time System, 1986).
use Rattle.std.specs.Prelude.{◌≡◌, ℕ, zero, suc, ◌+◌, ◌*◌, ◌<◌, ◌≤◌, List, length, slice_index}
use Rattle.std.specs.Int.{div_ceil}
use Rattle.response_analysis.specs.declared.task.Task.{Task}
use Rattle.response_analysis.specs.Tasks.{cycles_of, period_of}

-- the cycles that the first i tasks ask for within so many cycles: a task is released again with each period that has begun
abbrev pub interference : List Task → ℕ → ℕ → ℕ
interference tasks within zero = 0
interference tasks within (suc i) = interference tasks within i + div_ceil within (period_of tasks i) * cycles_of tasks i

-- the cycles of task i, and those that the tasks before it ask for
abbrev pub workload : List Task → ℕ → ℕ → ℕ
workload tasks i within = cycles_of tasks i + interference tasks within i

-- a response of task i: it meets the equation, and is at most the period
pub record IsResponse (tasks : List Task) (i response : ℕ) : Type 0 where
  pub solves : response ≡ workload tasks i response
  pub within : response ≤ period_of tasks i

pub record IsLeastResponse (tasks : List Task) (i response : ℕ) : Type 0 where
  pub fixed : IsResponse tasks i response
  pub least : (other : ℕ) → other ≡ workload tasks i other → response ≤ other

-- each task has one of these responses
pub record AreResponses (tasks : List Task) (responses : List ℕ) : Type 0 where
  pub long : length responses ≡ length tasks
  pub each : (i : ℕ) → i < length tasks → IsResponse tasks i (slice_index responses i)

pub record AreLeastResponses (tasks : List Task) (responses : List ℕ) : Type 0 where
  pub long : length responses ≡ length tasks
  pub each : (i : ℕ) → i < length tasks → IsLeastResponse tasks i (slice_index responses i)

-- task i has no response
abbrev pub IsLate : List Task → ℕ → Type 0
IsLate tasks i = (response : ℕ) → IsResponse tasks i response → ⊥

-- it is the first that has none
pub record IsFirstLate (tasks : List Task) (i : ℕ) : Type 0 where
  pub there : i < length tasks
  pub late : IsLate tasks i
  pub before : (k : ℕ) → k < i → (response : ℕ) × IsResponse tasks k response
