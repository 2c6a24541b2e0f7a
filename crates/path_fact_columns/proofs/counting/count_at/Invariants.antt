use Rattle.std.proofs.Common.{◌≡◌, ◌^◌, pos, ◌+ℤ◌, ◌*ℤ◌, ◌≤ℤ◌, drop}
use Rattle.frac128.specs.Terms.{int_sum_by}
use Rattle.code_flow_system.specs.Counts.{amount}
use Rattle.code_flow_system.specs.Certificates.{listed}
use Rattle.path_fact_columns.proofs.counting.count_at.Given as goal

abbrev pub invariant-loop-i : goal.invariant-loop-i
invariant-loop-i l = ((l.count +ℤ int_sum_by (amount (listed l.parts)) (drop l.i l.steps)) ≡ int_sum_by (amount (listed l.parts)) l.steps) × (pos 0 ≤ℤ l.count) × (l.count ≤ℤ (pos l.i *ℤ pos (2 ^ 60)))
