use Rattle.std.proofs.Common.{◌≡◌, ◌-◌}
use Rattle.low_ir.specs.Programs.{low_of}
use Rattle.low_ir.specs.Runs.{Going, run, virtual}
use Rattle.low_eval.proofs.evaluation.finish.Given as goal

abbrev pub invariant-loop : goal.invariant-loop
invariant-loop l = run virtual (low_of l.low) (l.steps - l.counter) (Going l.running) ≡ run virtual (low_of l.low) l.steps (Going l.fn.running)
