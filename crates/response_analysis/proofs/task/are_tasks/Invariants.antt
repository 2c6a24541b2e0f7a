use Rattle.std.proofs.Common.{ℕ, ◌<◌, get_or}
use Rattle.response_analysis.specs.Tasks.{IsTask}
use Rattle.response_analysis.proofs.task.are_tasks.Given as goal

abbrev pub invariant-loop-i : goal.invariant-loop-i
invariant-loop-i l = (k : ℕ) → k < l.i → IsTask (get_or l.tasks k (record { cycles = 0; period = 0 }))
