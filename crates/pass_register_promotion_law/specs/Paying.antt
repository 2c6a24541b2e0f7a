-- What scalars in registers cost.
use Rattle.std.specs.Prelude.{◌≡◌, ◌⊎◌, ℕ, ◌≤◌, List, length, Some, slice_get}
use Rattle.wcc_base.specs.Budgets.{spare_room}
use Rattle.low_ir.specs.Code.{Function, Low, Note}
use Rattle.low_ir.specs.Room.{block_room, repeated, room}
use Rattle.pass_register_promotion_law.specs.Promoting.{Resident, promoted_function, promoted_program, residents_at}
use Rattle.pass_register_promotion_law.specs.Suiting.{AllMayReside, Table}

-- the machine instructions that a call of a function may execute, but for those of what it calls
abbrev pub own_weight : Function ℕ Note → ℕ
own_weight fn = repeated block_room fn.loops 0 fn.blocks

-- loads and stores that registers stand for pay for the loads where a function begins and the stores where it returns
abbrev pub ArePaid : Low → List (List Resident) → Type 0
ArePaid q hss = (f : ℕ) (fn : Function ℕ Note) → slice_get q.functions f ≡ Some fn → own_weight (promoted_function (residents_at hss f) fn) ≤ own_weight fn

-- a function may have so many registers more
abbrev pub spare_registers : ℕ
spare_registers = 8

-- a program, and one with scalars in registers
pub record IsPromoted (q r : Low) : Type 0 where
  pub residents : List (List Resident)
  pub table : Table
  pub is : r ≡ promoted_program residents q
  pub may : AllMayReside q table residents
  pub few : (f : ℕ) → length (residents_at residents f) ≤ spare_registers
  pub paid : ArePaid q residents
  pub room : room r ≤ spare_room

-- a program may also stay as it is
abbrev pub MayBePromoted : Low → Low → Type 0
MayBePromoted q r = (r ≡ q) ⊎ IsPromoted q r
