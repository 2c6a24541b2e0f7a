-- What a guessed flow keeps.
use Rattle.std.specs.Prelude.{◌<◌, ◌≤◌, ◌^◌, All}
use Rattle.code_flow_system.specs.Certificates.{PartsAscend, IsPart}
use Rattle.path_guessed_flows.specs.declared.guessing.Guessed.{Guessed}

-- its unit and parts are of the form that a certificate asks of a listed flow
pub record IsGuessed (g : Guessed) : Type 0 where
  pub some : 0 < g.unit
  pub small : g.unit ≤ 2 ^ 48
  pub ascending : PartsAscend g.parts.items
  pub parts : All IsPart g.parts.items
