use Rattle.std.proofs.Common.{◌≡◌, ◌++◌, drop, true}
use Rattle.simplex_rounds.specs.Limits.{all_narrow}
use Rattle.simplex_rounds.specs.Multiplied.{times_all}
use Rattle.simplex_rounds.proofs.pricing.products.Given as goal

abbrev pub invariant-loop-i : goal.invariant-loop-i
invariant-loop-i l = (l.all.items ++ times_all l.factor (drop l.i l.numbers) ≡ times_all l.factor l.numbers) × (all_narrow l.times l.all.items ≡ true)
