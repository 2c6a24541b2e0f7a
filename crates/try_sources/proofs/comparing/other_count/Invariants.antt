use Rattle.std.proofs.Common.{ℕ, ◌<◌}
use Rattle.try_sources.specs.Verdicts.{CountsAlike}
use Rattle.try_sources.proofs.comparing.other_count.Given as goal

abbrev pub invariant-loop-number : goal.invariant-loop-number
invariant-loop-number l = (k : ℕ) → k < l.number → CountsAlike l.trace l.marks l.counts k
