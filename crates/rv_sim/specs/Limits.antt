-- A step within a limit of cycles, if there is one.
use Rattle.std.specs.Prelude.{◌≡◌, ◌≢◌, ℕ, ◌+◌, ◌≤◌, ◌^◌, nat_lt, Bool, true, false, Option, Some, None}
use Rattle.rv_core.specs.declared.regions.Region.{Region}
use Rattle.rv_core.specs.declared.regions.Region.TheVariants.{Ram}
use Rattle.rv_core.specs.Instructions.{Instruction}
use Rattle.rv_sim.specs.declared.issue.Issue.{Issue}
use Rattle.rv_core.specs.Machine.{State, Running, access_of, is_taken, step_cycles, paid}
use Rattle.rv_core.specs.Regions.{region_of}
use Rattle.rv_sim.specs.declared.ending.Ending.{Ending}
use Rattle.rv_sim.specs.declared.ending.Ending.TheVariants.{Exit, CycleLimit}
use Rattle.rv_sim.specs.Simulation.{Simulation, Answer, Goes, Exits, Stays, with_state}

-- whether a number of cycles passes the limit
abbrev pub passes : Option ℕ → ℕ → Bool
passes None cycles = false
passes (Some limit) cycles = nat_lt limit cycles

-- a step that gives this result and goes to the next state, if it doesn't pass the limit
abbrev pub Moved : Bool → Simulation → Simulation → State → Option Ending → Option Ending → Type 0
Moved true old new next given result = (result ≡ Some CycleLimit) × (new ≡ old)
Moved false old new next given result = (result ≡ given) × (new ≡ with_state old next)

-- a step with this answer that isn't taken where it would pass the limit
abbrev pub Limited : Option ℕ → Answer → Simulation → Simulation → Option Ending → Type 0
Limited limit (Goes next) old new result = Moved (passes limit next.cycles) old new next None result
Limited limit (Exits next v) old new result = Moved (passes limit next.cycles) old new next (Some (Exit v)) result
Limited limit (Stays ending) old new result = (result ≡ Some ending) × (new ≡ old)

-- the cycles stay below 2^63
abbrev pub HasRoom : Option ℕ → ℕ → Type 0
HasRoom None cycles = cycles ≤ 2 ^ 62
HasRoom (Some limit) cycles = limit ≤ 2 ^ 62

-- the machine is about to execute an instruction that it fetched at its pc
pub record Issues (m : Simulation) (issue : Issue) : Type 0 where
  pub running : m.state.ending ≡ Running
  pub region : region_of m.state.pc ≡ Some issue.fetch
  pub never_ram : issue.fetch ≢ Ram
  pub has_room : HasRoom issue.limit m.state.cycles

-- the region of what is accessed, if anything is
abbrev pub Located : Option ℕ → Option Region → Type 0
Located None r = r ≡ None
Located (Some at) None = ⊥
Located (Some at) (Some r) = region_of at ≡ Some r

-- what an instruction is paid by: the region that it accesses, and whether it is a branch that is taken
pub record IsPrice (i : Instruction) (s : State) (access : Option Region) (taken : Bool) : Type 0 where
  pub located : Located (access_of i s) access
  pub taken_is : taken ≡ is_taken i s

-- the cycles behind an instruction
abbrev pub cycles_after : Simulation → Instruction → ℕ
cycles_after m i = m.state.cycles + step_cycles m.costs i m.state

-- an instruction is paid unless that would pass the limit
abbrev pub Pays : Option ℕ → Instruction → Simulation → Simulation → Bool → Type 0
Pays limit i old new true = (passes limit (cycles_after old i) ≡ false) × (new ≡ with_state old (paid old.costs i old.state))
Pays limit i old new false = (passes limit (cycles_after old i) ≡ true) × (new ≡ old)
