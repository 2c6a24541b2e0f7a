use Rattle.std.proofs.Common.{◌≡◌, ◌++◌, drop}
use Rattle.path_fact_kinds.specs.Columns.{ops_of}
use Rattle.path_enum.proofs.searching.ops_of.Given as goal

abbrev pub invariant-loop-i : goal.invariant-loop-i
invariant-loop-i l = l.ops.items ++ ops_of (drop l.i l.system.claims.facts) ≡ ops_of l.system.claims.facts
