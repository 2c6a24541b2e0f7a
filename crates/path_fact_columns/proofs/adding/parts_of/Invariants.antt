use Rattle.std.proofs.Common.{◌≡◌, ◌++◌, drop}
use Rattle.path_flows.specs.Flows.{parts_of}
use Rattle.path_fact_columns.proofs.adding.parts_of.Given as goal

abbrev pub invariant-loop-i : goal.invariant-loop-i
invariant-loop-i l = l.parts.items ++ parts_of (drop l.i l.moves) (drop l.i l.amounts) ≡ parts_of l.moves l.amounts
