-- Multipliers that can be multiplied out.
use Rattle.std.specs.Prelude.{◌≡◌, ℕ, ◌≤◌, ◌^◌, ℤ, unsigned_abs, List, length, All}
use Rattle.code_flow_system.specs.Systems.{System}

abbrev pub IsLimited : ℤ → Type 0
IsLimited y = unsigned_abs y ≤ 2 ^ 44

-- a multiplier for each fact, of which there are 32 at the most
pub record AreMultiplied (s : System) (scale : ℕ) (ys : List ℤ) : Type 0 where
  pub scaled : scale ≤ 2 ^ 44
  pub count : length ys ≡ length s.claims.facts
  pub few : length s.claims.facts ≤ 32
  pub small : All IsLimited ys
