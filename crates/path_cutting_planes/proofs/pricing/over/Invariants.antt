use Rattle.std.proofs.Common.{◌≡◌, ◌*◌, ◌≤◌, ◌^◌, unsigned_abs, length, take, All}
use Rattle.simplex_laws.specs.RoundLaws.{HaveSigns}
use Rattle.path_cutting_planes.proofs.pricing.over.Given as goal

abbrev pub invariant-loop-fact : goal.invariant-loop-fact
invariant-loop-fact l = (length l.facts.items ≡ l.fact) × All (λ z. unsigned_abs z * l.times ≤ 2 ^ 44) l.facts.items × HaveSigns (take l.fact l.ops) l.facts.items
