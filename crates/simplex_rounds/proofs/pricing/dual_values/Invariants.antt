use Rattle.std.proofs.Common.{◌≡◌, ◌+◌, ◌≤◌, ◌∷◌, ◌++◌, drop}
use Rattle.simplex_rounds.specs.Multiplied.{duals, side_count}
use Rattle.simplex_rounds.proofs.pricing.dual_values.Given as goal

abbrev pub invariant-loop-i : goal.invariant-loop-i
invariant-loop-i l = (l.values.items ++ duals l.place (drop l.i l.ops) l.row ≡ l.first ∷ duals l.from l.ops l.row) × (l.place + side_count (drop l.i l.ops) ≡ l.from + side_count l.ops) × (l.from ≤ l.place)
