-- Flows of a system and their values (Li and Malik 1995, implicit path enumeration).
use Rattle.std.specs.Prelude.{ℕ, ℤ, pos, ◌<◌}
use Rattle.rv_core.specs.Table.{Table}
use Rattle.code_flow_system.specs.declared.moves.Move.{Move}
use Rattle.code_flow_system.specs.Systems.{System}
use Rattle.code_flow_system.specs.Counts.{Amounts, count, IsConserved, total, KeepsCounts}
use Rattle.code_flow_system.specs.MoveCosts.{move_cost}

-- a flow over a unit: it is conserved, and its counts keep the claims
pub record IsFlow (s : System) (unit : ℕ) (x : Amounts) : Type 0 where
  pub positive : 0 < unit
  pub conserved : IsConserved s.entry unit x s.moves
  pub claims : KeepsCounts s.claims (count x s.moves)

abbrev pub price : Table → System → Move → ℤ
price t s m = pos (move_cost t s m)

-- the value of a flow, over its unit
abbrev pub value : Table → System → Amounts → ℤ
value t s x = total (price t s) x s.moves
