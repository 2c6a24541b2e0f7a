use Rattle.std.proofs.Common.{◌+◌, ◌-◌}
use Rattle.rv_sim.specs.declared.ending.Ending.{Ending}
use Rattle.rv_sim.specs.Simulation.{Simulation, RunsWithin}
use Rattle.rv_sim.proofs.machine.Machine.run.Given as goal

-- each run from here is one from the start
abbrev pub invariant-loop-ending : goal.invariant-loop-ending
invariant-loop-ending l = (new : Simulation) (result : Ending) → RunsWithin l.limit l.self new result → RunsWithin l.limit l.initial.self new result

abbrev pub decreases-loop-ending : goal.decreases-loop-ending
decreases-loop-ending l = l.limit + 1 - l.self.state.cycles
