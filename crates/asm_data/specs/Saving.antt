-- What a frame in the code keeps.
use Rattle.std.specs.Prelude.{ℕ, ◌<◌, ◌≤◌, List, length, All}

pub record AreFew (saved homes : List ℕ) : Type 0 where
  -- what a function saves are machine registers
  pub registers : All (λ q. q < 24) saved
  pub saved_few : length saved ≤ 24
  pub homes_few : length homes ≤ 24
