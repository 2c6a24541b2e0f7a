-- Prices that are no costs.
use Rattle.std.specs.Prelude.{◌%◌, ℤ, pos}
use Rattle.rv_core.specs.Table.{Table}
use Rattle.code_flow_system.specs.declared.moves.Move.{Move}
use Rattle.code_flow_system.specs.Systems.{System}
use Rattle.code_flow_system.specs.MoveCosts.{move_cost}

abbrev pub rest_of : Table → System → Move → ℤ
rest_of t s m = pos (move_cost t s m % 7)
