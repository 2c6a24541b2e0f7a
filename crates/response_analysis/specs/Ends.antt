-- When jobs end: never later than their responses, and once exactly then.
use Rattle.std.specs.Prelude.{ℕ, ◌+◌, ◌<◌, ◌≤◌, List, length, slice_index}
use Rattle.response_analysis.specs.declared.task.Task.{Task}
use Rattle.response_analysis.specs.Schedule.{Job, AreJobs, IsFinishedAt}
use Rattle.response_analysis.specs.Together.{synchronous}

-- in every schedule each job of each task is finished at most the task's response after its release
pub record EndInTime (tasks : List Task) (responses : List ℕ) : Type 0 where
  pub ends : (jobs : List Job) → AreJobs tasks jobs → (i from : ℕ) → i < length tasks → (n : ℕ) × (n ≤ from + slice_index responses i) × IsFinishedAt jobs i from n

-- where all tasks are released together, which they may be, the first job of each is finished exactly at its response
pub record AreReached (tasks : List Task) (responses : List ℕ) : Type 0 where
  pub may_be : (horizon : ℕ) → AreJobs tasks (synchronous tasks horizon)
  pub reached : (i : ℕ) → i < length tasks → IsFinishedAt (synchronous tasks (slice_index responses i)) i 0 (slice_index responses i)
