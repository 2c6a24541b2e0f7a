use Rattle.std.proofs.Common.{◌≡◌, ◌+◌, ◌-◌}
use Rattle.simplex_tables.specs.Runs.{pivots}
use Rattle.simplex_tables.specs.Shapes.{IsShaped}
use Rattle.simplex_tables.proofs.running.pivots.Given as goal

abbrev pub invariant-loop-k : goal.invariant-loop-k
invariant-loop-k l = (pivots (l.left - l.k) l.variables (l.made + l.k) l.table ≡ pivots l.left l.variables l.made l.fn.table) × IsShaped l.width l.table
