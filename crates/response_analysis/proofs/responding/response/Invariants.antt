use Rattle.std.proofs.Common.{◌+◌, ◌-◌}
use Rattle.response_analysis.specs.Tasks.{period_of}
use Rattle.response_analysis.proofs.Rising.{IsRising}
use Rattle.response_analysis.proofs.responding.response.Given as goal

abbrev pub invariant-rising : goal.invariant-rising
invariant-rising l = IsRising l.tasks l.i l.within

abbrev pub decreases-rising : goal.decreases-rising
decreases-rising l = period_of l.tasks l.i + 1 - l.within
