use Rattle.std.proofs.Common.{ℕ, ◌<◌, get_or}
use Rattle.response_analysis.specs.Equation.{IsResponse}
use Rattle.response_analysis.proofs.checking.are_responses.Given as goal

abbrev pub invariant-loop-i : goal.invariant-loop-i
invariant-loop-i l = (k : ℕ) → k < l.i → IsResponse l.tasks k (get_or l.responses k 0)
