-- Multipliers with which walks keep to 128 bits.
use Rattle.std.specs.Prelude.{◌≡◌, ◌+◌, ◌*◌, ◌^◌, ◌≤◌, ℕ, ℤ, unsigned_abs, List, length, All}
use Rattle.code_flow_system.specs.Systems.{System}

-- each number, times one more than the number of loop claims, is at most 2^44
pub record AreNarrow (s : System) (scale : ℕ) (ys : List ℤ) : Type 0 where
  pub count : length ys ≡ length s.claims.facts
  pub scaled : scale * (length s.claims.loops + 1) ≤ 2 ^ 44
  pub facts : All (λ y. unsigned_abs y * (length s.claims.loops + 1) ≤ 2 ^ 44) ys
