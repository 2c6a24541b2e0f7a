use Rattle.std.proofs.Common.{ℕ, ◌<◌, ◌≤◌, get_or}
use Rattle.facts_most.proofs.functions.greatest.Given as goal

abbrev pub invariant-loop-rank : goal.invariant-loop-rank
invariant-loop-rank l = (f : ℕ) → f < l.rank-index → get_or l.ranks f 0 ≤ l.found
