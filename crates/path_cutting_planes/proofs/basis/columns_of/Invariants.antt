use Rattle.std.proofs.Common.{◌<◌, All}
use Rattle.path_cutting_planes.proofs.basis.columns_of.Given as goal

abbrev pub invariant-loop-row : goal.invariant-loop-row
invariant-loop-row l = All (λ k. k < l.columns) l.own.items
