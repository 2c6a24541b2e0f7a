use Rattle.std.proofs.Common.{◌+◌, ◌*◌, ◌≤◌, ◌^◌, unsigned_abs, drop, All}
use Rattle.path_fact_cases.proofs.asking.are_narrow.Given as goal

abbrev pub invariant-loop-i : goal.invariant-loop-i
invariant-loop-i l = All (λ z. unsigned_abs z * (l.loops + 1) ≤ 2 ^ 44) (drop l.i l.numbers) → All (λ z. unsigned_abs z * (l.loops + 1) ≤ 2 ^ 44) l.numbers
