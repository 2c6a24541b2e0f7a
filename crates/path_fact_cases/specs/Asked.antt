-- Multipliers that walks can be asked for.
use Rattle.std.specs.Prelude.{ℕ, ◌<◌, ℤ, List, All}
use Rattle.code_flow_system.specs.Systems.{System}
use Rattle.code_flow_system.specs.Certificates.{fact_limits, IsSigned}
use Rattle.path_fact_columns.specs.Conditions.{AreNarrow}

pub record AreAsked (s : System) (scale : ℕ) (ys : List ℤ) : Type 0 where
  pub some : 0 < scale
  pub narrow : AreNarrow s scale ys
  pub signs : All IsSigned (fact_limits s.claims.facts ys)
