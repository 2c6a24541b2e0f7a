-- What is left of so much that may be taken.
use Rattle.std.specs.Prelude.{◌≡◌, ℕ, ◌+◌, ◌<◌, Option, Some, None}

-- an amount is taken, or there isn't so much
abbrev pub Spends : ℕ → ℕ → Option ℕ → Type 0
Spends from amount None = from < amount
Spends from amount (Some left) = from ≡ left + amount
