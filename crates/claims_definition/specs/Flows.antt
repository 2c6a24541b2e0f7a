-- What loose flows of a laid program keep.
use Rattle.std.specs.Prelude.{ℕ, ◌*◌, ◌^◌, ◌<◌, pos, ◌*ℤ◌, ◌≤ℤ◌, ◌<ℤ◌}
use Rattle.frac128.specs.Terms.{int_sum_by}
use Rattle.rv_core.specs.Table.{Table}
use Rattle.code_flow_system.specs.Systems.{System}
use Rattle.code_flow_system.specs.Counts.{Amounts, count, total}
use Rattle.code_flow_system.specs.Flows.{value}
use Rattle.low_ir.specs.Room.{weight, reach}
use Rattle.claims_definition.specs.Listed.{Laid, places_of}

-- per unit
pub record KeepsBounds (t : Table) (l : Laid) (s : System) (unit : ℕ) (x : Amounts) : Type 0 where
  -- the counts of all addresses, which are the amounts of all moves
  pub counts : total (λ k. pos 1) x s.moves ≤ℤ (pos unit *ℤ pos (weight l.program))
  -- so that those of one address stay below what a search asks
  pub few : weight l.program < 2 ^ 49 → (a : ℕ) → count x s.moves a <ℤ (pos unit *ℤ pos (2 ^ 49))
  pub marks : (mark : ℕ) → int_sum_by (λ a. count x s.moves a) (places_of l mark) ≤ℤ (pos unit *ℤ pos (reach l.program mark))
  pub cycles : value t s x ≤ℤ (pos unit *ℤ pos (4000 * weight l.program))
  pub below : 4000 * weight l.program < 2 ^ 60 → value t s x <ℤ (pos unit *ℤ pos (2 ^ 60))
