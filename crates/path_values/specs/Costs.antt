-- The costs of moves as prices.
use Rattle.std.specs.Prelude.{ℤ}
use Rattle.rv_core.specs.Table.{Table}
use Rattle.code_flow_system.specs.Flows.{price}
use Rattle.code_flow_system.specs.Systems.{System}
use Rattle.path_places.specs.Driver.{Prices}

abbrev pub costs_at : Table → System → ℤ → Prices
costs_at t s low = record { of = price t s; low = low }
