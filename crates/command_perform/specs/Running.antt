-- What `run` makes of an image and an input: what the machine puts until its run ends, and how it ends.
use Rattle.std.specs.Prelude.{◌≡◌, ◌⊎◌, ℕ, List, [], ◌∷◌}
use Rattle.wcc_base.specs.declared.status.Status.{Status}
use Rattle.wcc_base.specs.declared.status.Status.TheVariants as status
use Rattle.rv_core.specs.Table.{Table}
use Rattle.rv_core.specs.Runs.{Setup, setup}
use Rattle.rv_core.specs.Exits.{Finish, Limits, limits, ExitsWithin}
use Rattle.rv_sim.specs.Simulation.{Simulation, RunsWithin, HasExited, started}
use Rattle.rv_sim.specs.declared.ending.Ending.{Ending}
use Rattle.rv_sim.specs.declared.ending.Ending.TheVariants.{Exit, Trap, CycleLimit, OutputFull}
use Rattle.elf_image.specs.Loading.{IsLoadable, image_of}
use Rattle.elf_image.specs.Faults.{IsNoImage}
use Rattle.elf_image.specs.declared.fault.ElfFault.{ElfFault}
use Rattle.elf_image.specs.declared.fault.ElfFault.TheVariants.{NotElf, WrongMachine, BadSegment}
use Rattle.elf_image.specs.declared.fault.ElfFault.TheVariants.{Memory as NoMemory}
use Rattle.command_perform.specs.Lines.{exit_line, run_line}
use Rattle.command_perform.specs.Outputs.{Outputs}

-- what is run: an image on an input, with these costs, for at most so many cycles
pub record Job : Type 0 where
  pub image : List ℕ
  pub input : List ℕ
  pub costs : Table
  pub cycles : ℕ

-- the run of the image that the bytes load as
abbrev pub run_of : Job → Setup
run_of job = setup (image_of job.image) job.costs job.input

-- the cycles that it may take, and the bytes that it may put
abbrev pub run_limits : Job → Limits
run_limits job = limits job.cycles 16_777_216

-- the machine before its first step
abbrev pub start_of : Job → Simulation
start_of job = started (image_of job.image) job.input job.costs 16_777_216

-- the number of a fault of an image, and the index of a segment
abbrev pub fault_number : ElfFault → ℕ
fault_number NotElf = 1
fault_number WrongMachine = 2
fault_number (BadSegment index) = 3
fault_number NoMemory = 4

abbrev pub fault_index : ElfFault → ℕ
fault_index (BadSegment index) = index
fault_index fault = 0

-- the file that was to be run is no image
pub record RefusesImage (image : List ℕ) (s : Status) : Type 0 where
  pub fault : ElfFault
  pub cause : IsNoImage image fault
  pub status_is : s ≡ status.Refused 10 (fault_number fault) (fault_index fault)

-- an exit is Done, and else the run has stopped by a trap, at the limit of cycles, or with a full output
abbrev pub run_status : Ending → ℕ → ℕ → Status
run_status (Exit value) pc cycles = status.Done
run_status (Trap at kind) pc cycles = status.Stopped 1 kind at cycles
run_status CycleLimit pc cycles = status.Stopped 2 0 pc cycles
run_status OutputFull pc cycles = status.Stopped 3 0 pc cycles

-- what the machine has put, whatever the ending, whose line is printed
abbrev pub ran_outputs : List ℕ → Simulation → Ending → Outputs
ran_outputs output last ending = record {
  status = run_status ending last.state.pc last.state.cycles;
  files = (output, last.state.world.output) ∷ [];
  lines = run_line ending last.state.pc last.state.cycles;
}

-- what the run has put, and the line of its value and its cycles
abbrev pub exit_outputs : List ℕ → Finish → Outputs
exit_outputs output f = record {
  status = status.Done;
  files = (output, f.output) ∷ [];
  lines = exit_line f.value f.cycles;
}

-- the run exits within the limits, and this is made of what it shows
pub record MakesExit (output : List ℕ) (job : Job) (made : Outputs) : Type 0 where
  pub finish : Finish
  pub exits : ExitsWithin (run_of job) (run_limits job) finish
  pub made_is : made ≡ exit_outputs output finish

-- no exit
abbrev pub IsStop : Ending → Type 0
IsStop (Exit value) = ⊥
IsStop ending = Unit {0}

-- the run doesn't exit within the limits, and the machine stops so, in this last state
pub record MakesStop (output : List ℕ) (job : Job) (made : Outputs) : Type 0 where
  pub no_exit : (f : Finish) → ExitsWithin (run_of job) (run_limits job) f → ⊥
  pub last : Simulation
  pub ending : Ending
  pub stops : IsStop ending
  pub runs : RunsWithin job.cycles (start_of job) last ending
  pub made_is : made ≡ ran_outputs output last ending

-- the bytes load as an image, whose run exits or stops
pub record MakesOutput (output : List ℕ) (job : Job) (made : Outputs) : Type 0 where
  pub loadable : IsLoadable job.image
  pub made_by : MakesExit output job made ⊎ MakesStop output job made

-- the bytes load as an image, and the machine has run it to this ending, in this last state
pub record Simulates (job : Job) (last : Simulation) (ending : Ending) : Type 0 where
  pub loadable : IsLoadable job.image
  pub runs : RunsWithin job.cycles (start_of job) last ending
  pub exits : (f : Finish) → HasExited last ending f → ExitsWithin (run_of job) (run_limits job) f
  pub finishes : (f : Finish) → ExitsWithin (run_of job) (run_limits job) f → HasExited last ending f

-- the image exits within the limits of its run
pub record CanExit (job : Job) : Type 0 where
  pub loadable : IsLoadable job.image
  pub finish : Finish
  pub exits : ExitsWithin (run_of job) (run_limits job) finish
