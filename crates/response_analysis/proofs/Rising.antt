-- Rising to the least response: no solution is below.
use Rattle.std.proofs.Common.{◌≡◌, ℕ, ◌<◌, ◌≤◌, ◌^◌, arith, sym, ◌∙◌, inl, inr, List, length}
use Rattle.std.proofs.lemmas.Bool.{cases_lt}
use Rattle.response_analysis.specs.declared.task.Task.{Task}
use Rattle.response_analysis.specs.Tasks.{period_of, cycles_of, AreTasks}
use Rattle.response_analysis.specs.Equation.{workload, IsLeastResponse, IsLate}
use Rattle.response_analysis.proofs.Equations.{positive_periods, workload_rises, least_below}

-- a task that stands among them
pub task_at : (tasks : List Task) → AreTasks tasks → (i : ℕ) → i < length tasks → (period_of tasks i ≤ 10 ^ 12) × (cycles_of tasks i < 2 ^ 63)
task_at tasks are i there = let t = are.each i (record { cycles = 0; period = 0 }) there in (t.short, t.small)

-- no more than the period, and than each solution
pub record IsRising (tasks : List Task) (i within : ℕ) : Type 0 where
  pub short : within ≤ period_of tasks i
  pub least : (other : ℕ) → other ≡ workload tasks i other → within ≤ other

pub rising_begins : (tasks : List Task) (i : ℕ) → IsRising tasks i 0
rising_begins tasks i = record { short = omega arith; least = λ other e. omega arith }

pub rising_few : (tasks : List Task) → AreTasks tasks → (i within : ℕ) → i < length tasks → IsRising tasks i within → within ≤ 10 ^ 12
rising_few tasks are i within there r = let t = task_at tasks are i there in let a = t.0 in let b = r.short in omega (arith, a, b)

-- what is below all solutions is no more than its workload
pub rising_rises : (tasks : List Task) → AreTasks tasks → (i within : ℕ) → i < length tasks → IsRising tasks i within → within ≤ workload tasks i within
rising_rises tasks are i within there r = elim (cases_lt (workload tasks i within) within) [
  | inl below ↦
      let load = workload tasks i within in
      let holds : workload tasks i load ≤ load = workload_rises tasks (positive_periods tasks are) i load within there (omega (arith, below)) in
      let least = least_below tasks (positive_periods tasks are) i within load there r.least holds in
      absurd (omega (arith, least, below))
  | inr above ↦ above
]

-- the next number
pub rising_more : (tasks : List Task) (i next : ℕ) → next ≤ period_of tasks i → ((other : ℕ) → other ≡ workload tasks i other → next ≤ other) → IsRising tasks i next
rising_more tasks i next short least = record { short = short; least = least }

pub rising_on : (tasks : List Task) (i within next : ℕ) → IsRising tasks i within → ((other : ℕ) → other ≡ workload tasks i other → within ≤ other → next ≤ other) → (other : ℕ) → other ≡ workload tasks i other → next ≤ other
rising_on tasks i within next r low other e = low other e (r.least other e)

-- if that passes the period, there is no response
pub rising_over : (tasks : List Task) (i next : ℕ) → ((other : ℕ) → other ≡ workload tasks i other → next ≤ other) → period_of tasks i < next → IsLate tasks i
rising_over tasks i next least over = λ response fixed. (
    let low = least response fixed.solves in
    let short = fixed.within in
    omega (arith, low, short, over))

-- past the period there is no response
pub rising_late : (tasks : List Task) → AreTasks tasks → (i within load : ℕ) → i < length tasks → IsRising tasks i within → load ≡ workload tasks i within → period_of tasks i < load → IsLate tasks i
rising_late tasks are i within load there r is over = λ response fixed. (
    let solves = fixed.solves in
    let short = fixed.within in
    let low = r.least response solves in
    let more = workload_rises tasks (positive_periods tasks are) i within response there low in
    omega (arith, more, is, over, solves, short))

-- what is its own workload is the least response
pub rising_ends : (tasks : List Task) (i within load : ℕ) → IsRising tasks i within → load ≡ workload tasks i within → load ≡ within → IsLeastResponse tasks i within
rising_ends tasks i within load r is same = record { fixed = record { solves = sym same ∙ is; within = r.short }; least = r.least }
