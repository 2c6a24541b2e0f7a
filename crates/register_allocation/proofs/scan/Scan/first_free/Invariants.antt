use Rattle.std.proofs.Common.{◌≡◌, ℕ, ◌<◌, false}
use Rattle.register_allocation.specs.Scans.{is_free}
use Rattle.register_allocation.proofs.scan.Scan.first_free.Given as goal

abbrev pub invariant-loop-machine : goal.invariant-loop-machine
invariant-loop-machine l = (q : ℕ) → q < l.machine → is_free l.self l.fn.at q ≡ false
