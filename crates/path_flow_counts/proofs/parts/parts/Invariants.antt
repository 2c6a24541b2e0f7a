use Rattle.std.proofs.Common.{◌≡◌, ◌++◌, drop}
use Rattle.loop_flow_counts.specs.Wraps.{all_wrapped}
use Rattle.path_flows.specs.Flows.{parts_of}
use Rattle.path_flow_counts.proofs.parts.parts.Given as goal

abbrev pub invariant-loop-i : goal.invariant-loop-i
invariant-loop-i l = l.parts.items ++ parts_of (drop l.i l.moves) (drop l.i (all_wrapped l.amounts)) ≡ parts_of l.moves (all_wrapped l.amounts)
