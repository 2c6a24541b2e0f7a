use Rattle.std.proofs.Common.{ℕ, ◌<◌, ◌^◌, ℤ, unsigned_abs, get_or}
use Rattle.simplex_cases.proofs.columns.are_small.Given as goal

abbrev pub invariant-loop-i : goal.invariant-loop-i
invariant-loop-i l = (k : ℕ) (d : ℤ) → k < l.i → unsigned_abs (get_or l.numbers k d) < 2 ^ 120
