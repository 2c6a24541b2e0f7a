use Rattle.std.proofs.Common.{◌≡◌, ◌≤◌, take}
use Rattle.high_ir.specs.Runs.{count_of}
use Rattle.try_sources.proofs.comparing.count_of.Given as goal

abbrev pub invariant-loop-passed : goal.invariant-loop-passed
invariant-loop-passed l = (l.count ≡ count_of l.mark (take l.passed-index l.trace)) × (l.count ≤ l.passed-index)
