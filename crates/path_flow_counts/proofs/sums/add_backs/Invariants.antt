use Rattle.std.proofs.Common.{◌≡◌, drop}
use Rattle.path_flow_counts.specs.Sums.{backed}
use Rattle.path_flow_counts.proofs.sums.add_backs.Given as goal

abbrev pub invariant-loop-k : goal.invariant-loop-k
invariant-loop-k l = backed (drop l.k l.backs) l.amounts ≡ backed l.backs l.fn.amounts
