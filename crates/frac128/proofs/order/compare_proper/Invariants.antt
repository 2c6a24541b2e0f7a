use Rattle.std.proofs.Common.{◌≡◌, ◌+◌, ◌*◌, ◌<◌}
use Rattle.std.specs.Ordering.{nat_cmp}
use Rattle.frac128.proofs.order.compare_proper.Given as goal

-- what is left compares as the two fractions do
abbrev pub invariant-loop-a : goal.invariant-loop-a
invariant-loop-a l = (nat_cmp (l.a * l.d) (l.c * l.b) ≡ nat_cmp (l.fn.left.0 * l.fn.right.1) (l.fn.right.0 * l.fn.left.1)) × (l.a < l.b) × (l.c < l.d)

abbrev pub decreases-loop-a : goal.decreases-loop-a
decreases-loop-a l = l.b + l.d
