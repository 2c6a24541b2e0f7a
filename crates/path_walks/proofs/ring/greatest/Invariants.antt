use Rattle.std.proofs.Common.{◌≡◌, drop, length, ◌-◌}
use Rattle.path_walks.specs.Prices.{greatest}
use Rattle.path_walks.proofs.ring.greatest.Given as goal

abbrev pub invariant-loop-k : goal.invariant-loop-k
invariant-loop-k l = l.best ≡ greatest l.low (drop (length l.prices - l.k) l.prices)
