use Rattle.std.proofs.Common.{◌≡◌, drop}
use Rattle.register_live_ranges.specs.Intervals.{parameters_widened}
use Rattle.register_live_ranges.proofs.finding.widen_parameters.Given as goal

abbrev pub invariant-loop-parameter : goal.invariant-loop-parameter
invariant-loop-parameter l = parameters_widened l.intervals.items (drop l.parameter-index l.parameters) ≡ parameters_widened l.initial.intervals.items l.parameters
