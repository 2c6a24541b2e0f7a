use Rattle.std.proofs.Common.{◌≡◌, ◌+◌, ◌*◌, ◌≤◌, ◌^◌, drop}
use Rattle.path_cert.specs.Priced.{sizes_of}
use Rattle.path_fact_walks.proofs.pricing.sizes.Given as goal

abbrev pub invariant-loop-i : goal.invariant-loop-i
invariant-loop-i l = (l.size + sizes_of (drop l.i l.numbers) ≡ sizes_of l.numbers) × (l.size ≤ l.i * 2 ^ 44)
