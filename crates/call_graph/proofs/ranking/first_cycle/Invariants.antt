use Rattle.std.proofs.Common.{◌<◌, ℕ}
use Rattle.types_calls.specs.Chains.{Reaches}
use Rattle.call_graph.proofs.ranking.first_cycle.Given as goal

abbrev pub invariant-loop-f : goal.invariant-loop-f
invariant-loop-f l = (g : ℕ) → g < l.f → Reaches l.graph g g → ⊥
