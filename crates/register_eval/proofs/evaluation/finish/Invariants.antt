use Rattle.std.proofs.Common.{◌≡◌, ◌-◌}
use Rattle.low_ir.specs.Placings.{placed_of}
use Rattle.low_ir.specs.Places.{places}
use Rattle.low_ir.specs.Runs.{Going, run}
use Rattle.register_eval.specs.Stands.{running_of}
use Rattle.register_eval.proofs.evaluation.finish.Given as goal

abbrev pub invariant-loop : goal.invariant-loop
invariant-loop l = run places (placed_of l.code) (l.steps - l.counter) (Going (running_of l.running)) ≡ run places (placed_of l.code) l.steps (Going (running_of l.fn.running))
