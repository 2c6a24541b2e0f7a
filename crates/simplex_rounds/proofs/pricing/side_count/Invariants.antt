use Rattle.std.proofs.Common.{◌≡◌, ◌+◌, ◌*◌, ◌≤◌, drop}
use Rattle.simplex_rounds.specs.Multiplied.{side_count}
use Rattle.simplex_rounds.proofs.pricing.side_count.Given as goal

abbrev pub invariant-loop-i : goal.invariant-loop-i
invariant-loop-i l = (l.count + side_count (drop l.i l.ops) ≡ side_count l.ops) × (l.count ≤ 2 * l.i)
