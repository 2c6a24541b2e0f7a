use Rattle.std.proofs.Common.{◌≡◌, ◌⊎◌, ◌≤◌}
use Rattle.path_flow_counts.specs.Puts.{IsPut}
use Rattle.path_flow_counts.proofs.put.put.Given as goal

abbrev pub invariant-loop-place : goal.invariant-loop-place
invariant-loop-place l = IsPut l.fn.from l.place l.number l.fn.numbers l.numbers × ((l.place ≤ l.to) ⊎ (l.place ≡ l.fn.from))
