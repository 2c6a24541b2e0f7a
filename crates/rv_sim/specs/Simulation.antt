-- What a simulated machine is, and what a step of it answers.
use Rattle.std.specs.Prelude.{◌≡◌, ℕ, zero, suc, ◌≤◌, ◌<◌, ℤ, List, length, nat_le, Bool, true, false, Option, Some, None}
use Rattle.rv_core.specs.Table.{Table}
use Rattle.rv_core.specs.Images.{Image}
use Rattle.rv_core.specs.Machine.{State, Running, Exited, Trapped, step, start_of}
use Rattle.rv_core.specs.Machine.{Ending as HowEnded}
use Rattle.rv_core.specs.Runs.{Setup, mrun}
use Rattle.rv_core.specs.Exits.{Finish}
use Rattle.rv_sim.specs.declared.ending.Ending.{Ending}
use Rattle.rv_sim.specs.declared.ending.Ending.TheVariants.{Exit, Trap, CycleLimit, OutputFull}

-- the state of the machine's run, its costs, and how many bytes it may write
pub record Simulation : Type 0 where
  pub state : State
  pub costs : Table
  pub room : ℕ

-- an ordinary step and the first exit go to the next state; a trap, a full output and an exit that was answered before stay
pub data Answer : Type 0 where
  Goes : (next : State) → Answer
  Exits : (next : State) (value : ℤ) → Answer
  Stays : (ending : Ending) → Answer

abbrev pub fits : Bool → State → Answer
fits true next = Goes next
fits false next = Stays OutputFull

-- what is answered where the machine would come to this state, by how that state has ended
abbrev pub answer_by : HowEnded → State → ℕ → State → Answer
answer_by Running next room s = fits (nat_le (length next.world.output) room) next
answer_by (Exited v) next room s = Exits next v
answer_by (Trapped kind) next room s = Stays (Trap s.pc kind)

abbrev pub answer_to : State → Simulation → Answer
answer_to next m = answer_by next.ending next m.room m.state

-- a machine that has exited answers its exit again
abbrev pub answer_from : HowEnded → Simulation → Answer
answer_from Running m = answer_to (step m.costs m.state) m
answer_from (Exited v) m = Stays (Exit v)
answer_from (Trapped kind) m = Stays (Trap m.state.pc kind)

-- the answer of the next step
abbrev pub answer_of : Simulation → Answer
answer_of m = answer_from m.state.ending m

abbrev pub with_state : Simulation → State → Simulation
with_state m next = record m { state = next }

-- a step with this answer leads from one machine to the other and gives this result
abbrev pub Stepped : Answer → Simulation → Simulation → Option Ending → Type 0
Stepped (Goes next) old new result = (result ≡ None) × (new ≡ with_state old next)
Stepped (Exits next v) old new result = (result ≡ Some (Exit v)) × (new ≡ with_state old next)
Stepped (Stays ending) old new result = (result ≡ Some ending) × (new ≡ old)

-- n ordinary steps, none of which passes the limit of cycles, lead from one machine to the other
abbrev pub Reaches : ℕ → ℕ → Simulation → Simulation → Type 0
Reaches limit zero old new = new ≡ old
Reaches limit (suc n) old new = (next : State) × (answer_of old ≡ Goes next) × (next.cycles ≤ limit) × Reaches limit n (with_state old next) new

-- the ordinary steps end here: a step would pass the limit and isn't taken, or the machine has ended
abbrev pub Ends : ℕ → Answer → Simulation → Simulation → Ending → Type 0
Ends limit (Goes next) last new result = (limit < next.cycles) × (result ≡ CycleLimit) × (new ≡ last)
Ends limit (Exits next v) last new result =
    (next.cycles ≤ limit → (result ≡ Exit v) × (new ≡ with_state last next)) × (limit < next.cycles → (result ≡ CycleLimit) × (new ≡ last))
Ends limit (Stays ending) last new result = (result ≡ ending) × (new ≡ last)

-- a run within a limit of cycles
pub record RunsWithin (limit : ℕ) (old new : Simulation) (result : Ending) : Type 0 where
  pub steps : ℕ
  pub last : Simulation
  pub reaches : Reaches limit steps old last
  pub ends : Ends limit (answer_of last) last new result

-- the machine is in the state of a run after n steps
pub record IsAt (m : Simulation) (s : Setup) (n : ℕ) : Type 0 where
  pub state_is : m.state ≡ (mrun s n).state
  pub costs_are : m.costs ≡ s.costs

-- an image before its first step
abbrev pub started : Image → List ℕ → Table → ℕ → Simulation
started image input t room = record { state = start_of image input; costs = t; room = room }

-- behind a step with this answer the machine is in the run's next state, or where it was
abbrev pub Follows : Answer → Simulation → Setup → ℕ → Type 0
Follows (Goes next) new s n = IsAt new s (suc n)
Follows (Exits next v) new s n = IsAt new s (suc n)
Follows (Stays ending) new s n = IsAt new s n

-- the machine has answered this exit
pub record HasExited (m : Simulation) (result : Ending) (f : Finish) : Type 0 where
  pub exits : result ≡ Exit f.value
  pub output : m.state.world.output ≡ f.output
  pub cycles : m.state.cycles ≡ f.cycles
