use Rattle.std.proofs.Common.{◌≡◌, drop}
use Rattle.simplex_rounds.specs.Limits.{all_narrow}
use Rattle.simplex_rounds.proofs.limits.all_narrow.Given as goal

abbrev pub invariant-loop-i : goal.invariant-loop-i
invariant-loop-i l = all_narrow l.times (drop l.i l.numbers) ≡ all_narrow l.times l.numbers
