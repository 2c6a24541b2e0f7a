-- The ranges of the costs: a fetch costs at least 1, and nothing more than 1000.
use Rattle.std.specs.Prelude.{ℕ, ◌≤◌}

pub record IsFetchCost (n : ℕ) : Type 0 where
  pub least : 1 ≤ n
  pub most : n ≤ 1000
