-- A list of numbers by place, of which those from one place up to another are put to one number.
use Rattle.std.specs.Prelude.{◌≡◌, ◌⊎◌, ℕ, ◌≤◌, ◌<◌, ℤ, List}
use Rattle.loop_walks.specs.Walks.{worth_at}

pub record IsPut (from to : ℕ) (z : ℤ) (old new : List ℤ) : Type 0 where
  pub inside : (a : ℕ) → from ≤ a → a < to → worth_at new a ≡ z
  pub outside : (a : ℕ) → (a < from) ⊎ (to ≤ a) → worth_at new a ≡ worth_at old a
