-- Schedules of one processor under preemptive fixed priorities, cycle by cycle.
use Rattle.std.specs.Prelude.{◌≡◌, ℕ, zero, suc, ◌+◌, ◌-◌, ◌<◌, ◌≤◌, ◌⊎◌, List, [], ◌∷◌, Option, Some, None, Bool, nat_lt, nat_le, ◌==◌, ◌&&◌, ◌||◌, if◌then◌else◌}
use Rattle.response_analysis.specs.declared.task.Task.{Task}
use Rattle.response_analysis.specs.Tasks.{cycles_of, period_of}

-- a job of a task, which is released at a cycle and needs some; two jobs of one task are known by their releases
pub record Job : Type 0 where
  pub task : ℕ
  pub release : ℕ
  pub need : ℕ

-- a job is released by cycle n and has need left
abbrev pub is_ready : ℕ → Job → Bool
is_ready n j = nat_le j.release n && nat_lt 0 j.need

-- the job of the lesser task goes first, and of one task the job that was released first
abbrev pub goes_before : Job → Job → Bool
goes_before j k = nat_lt j.task k.task || ((j.task == k.task) && nat_lt j.release k.release)

abbrev pub first_of : Job → Option Job → Job
first_of j None = j
first_of j (Some k) = if goes_before k j then k else j

-- of the jobs that are ready in cycle n, the one that goes first
abbrev pub chosen : ℕ → List Job → Option Job
chosen n [] = None
chosen n (j ∷ js) = if is_ready n j then Some (first_of j (chosen n js)) else chosen n js

abbrev pub is_same : Job → Job → Bool
is_same j k = (j.task == k.task) && ((j.release == k.release) && (j.need == k.need))

-- the job with one less of its need
abbrev pub lessened : Job → Job
lessened j = record { task = j.task; release = j.release; need = j.need - 1 }

-- the jobs, of which that one loses one of its need
abbrev pub served : Job → List Job → List Job
served k [] = []
served k (j ∷ js) = if is_same k j then lessened j ∷ js else j ∷ served k js

abbrev pub serve : Option Job → List Job → List Job
serve None js = js
serve (Some k) js = served k js

-- the jobs with what they have left after n cycles
abbrev pub schedule : List Job → ℕ → List Job
schedule jobs zero = jobs
schedule jobs (suc n) = serve (chosen n (schedule jobs n)) (schedule jobs n)

-- what the jobs whose task and release pass a test have left
abbrev pub need_of : (ℕ → ℕ → Bool) → List Job → ℕ
need_of test [] = 0
need_of test (j ∷ js) = (if test j.task j.release then j.need else 0) + need_of test js

abbrev pub is_job : ℕ → ℕ → ℕ → ℕ → Bool
is_job i from task release = (task == i) && (release == from)

-- what the job of task i that is released at that cycle has left after n cycles
abbrev pub left : List Job → ℕ → ℕ → ℕ → ℕ
left jobs i from n = need_of (is_job i from) (schedule jobs n)

-- the job of task i that is released at that cycle is finished at n: the least n not before its release at which it has no need left
pub record IsFinishedAt (jobs : List Job) (i from n : ℕ) : Type 0 where
  pub released : from ≤ n
  pub done : left jobs i from n ≡ 0
  pub before : (m : ℕ) → from ≤ m → m < n → 0 < left jobs i from m

-- a job of that task is released at least the period before that release or behind it
abbrev pub IsApart : ℕ → ℕ → ℕ → Job → Type 0
IsApart period task release k = k.task ≡ task → (release + period ≤ k.release) ⊎ (k.release + period ≤ release)

abbrev pub ApartFrom : ℕ → ℕ → ℕ → List Job → Type 0
ApartFrom period task release [] = Unit {0}
ApartFrom period task release (k ∷ ks) = IsApart period task release k × ApartFrom period task release ks

-- each job needs at most the cycles of its task, and two jobs of one task are released at least its period apart
abbrev pub AreJobs : List Task → List Job → Type 0
AreJobs tasks [] = Unit {0}
AreJobs tasks (j ∷ js) = (j.need ≤ cycles_of tasks j.task) × ApartFrom (period_of tasks j.task) j.task j.release js × AreJobs tasks js
