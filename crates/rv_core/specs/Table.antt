-- What an instruction costs, in cycles: its fetch, its class and its access; and how long it waits for the load before it.
use Rattle.std.specs.Prelude.{ℕ, ◌+◌, ◌==◌, ◌&&◌, ◌||◌, not, Bool, true, false, Option, Some, None, if◌then◌else◌}
use Rattle.rv_core.specs.declared.costs.Costs.{Costs}
use Rattle.rv_core.specs.declared.regions.Region.{Region}
use Rattle.rv_core.specs.declared.regions.Region.TheVariants.{Flash, Spm, Ram}
use Rattle.rv_core.specs.declared.row.Format.{Format}
use Rattle.rv_core.specs.declared.row.Format.TheVariants.{R, I, Shift, S, B, U, J, Fixed}
use Rattle.rv_core.specs.declared.row.Class.{Class}
use Rattle.rv_core.specs.declared.row.Class.TheVariants.{Plain, Multiply, Divide, Load, Store, Branch, Jump, System}
use Rattle.rv_core.specs.Rows.{row_of}
use Rattle.rv_core.specs.Instructions.{Instruction}

-- the costs of a machine
pub record Table : Type 0 where
  pub fetch_flash : ℕ
  pub fetch_spm : ℕ
  pub alu : ℕ
  pub mul : ℕ
  pub div : ℕ
  pub load : ℕ
  pub store : ℕ
  pub branch : ℕ
  pub branch_taken : ℕ
  pub jump : ℕ
  pub ecall : ℕ
  pub data_flash : ℕ
  pub data_ram : ℕ
  pub data_spm : ℕ
  pub stall : ℕ

abbrev pub table_of : Costs → Table
table_of c = record { fetch_flash = c.fetch_flash; fetch_spm = c.fetch_spm; alu = c.alu; mul = c.mul; div = c.div; load = c.load; store = c.store; branch = c.branch; branch_taken = c.branch_taken; jump = c.jump; ecall = c.ecall; data_flash = c.data_flash; data_ram = c.data_ram; data_spm = c.data_spm; stall = c.stall }

abbrev pub default_table : Table
default_table = record { fetch_flash = 3; fetch_spm = 1; alu = 1; mul = 3; div = 34; load = 1; store = 1; branch = 1; branch_taken = 2; jump = 2; ecall = 10; data_flash = 3; data_ram = 2; data_spm = 1; stall = 0 }

-- code is never in RAM
abbrev pub fetch_cost : Table → Region → ℕ
fetch_cost t Flash = t.fetch_flash
fetch_cost t Spm = t.fetch_spm
fetch_cost t Ram = 0

abbrev pub branch_cost : Table → Bool → ℕ
branch_cost t true = t.branch_taken
branch_cost t false = t.branch

-- a step has one class; a taken branch has a class of its own
abbrev pub class_cost : Table → Class → Bool → ℕ
class_cost t Plain taken = t.alu
class_cost t Multiply taken = t.mul
class_cost t Divide taken = t.div
class_cost t Load taken = t.load
class_cost t Store taken = t.store
class_cost t Branch taken = branch_cost t taken
class_cost t Jump taken = t.jump
class_cost t System taken = t.ecall

-- loads and stores access a region
abbrev pub access_cost : Table → Option Region → ℕ
access_cost t None = 0
access_cost t (Some Flash) = t.data_flash
access_cost t (Some Spm) = t.data_spm
access_cost t (Some Ram) = t.data_ram

-- whether instructions of the class access memory
abbrev pub accesses : Class → Bool
accesses Load = true
accesses Store = true
accesses c = false

abbrev pub cost_of : Table → Instruction → Region → Option Region → Bool → ℕ
cost_of t i fetch access taken = fetch_cost t fetch + class_cost t (row_of i.op).class taken + access_cost t access

-- whether an instruction of the format reads a register: its rs1 and its rs2, where the format has them; ECALL reads x10 and x17
abbrev pub uses_by : Format → Instruction → ℕ → Bool
uses_by R i r = (i.rs1 == r) || (i.rs2 == r)
uses_by I i r = i.rs1 == r
uses_by Shift i r = i.rs1 == r
uses_by S i r = (i.rs1 == r) || (i.rs2 == r)
uses_by B i r = (i.rs1 == r) || (i.rs2 == r)
uses_by U i r = false
uses_by J i r = false
uses_by Fixed i r = (r == 10) || (r == 17)

abbrev pub uses : Instruction → ℕ → Bool
uses i r = uses_by (row_of i.op).format i r

-- whether instructions of the class load a register
abbrev pub loads : Class → Bool
loads Load = true
loads c = false

-- the load-use stall: an instruction waits where it reads the register, other than x0, that a load right before it has loaded
abbrev pub wait_of : Table → Instruction → Instruction → ℕ
wait_of t before i = if loads (row_of before.op).class && (not (before.rd == 0) && uses i before.rd) then t.stall else 0
