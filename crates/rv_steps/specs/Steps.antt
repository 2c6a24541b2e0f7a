-- What one step does to a run, by what its instruction does.
use Rattle.std.specs.Prelude.{◌≡◌, ◌≢◌, ℕ, suc, ◌+◌, ◌<◌, ℤ, List, ◌∷◌, length, Some, ◌||◌}
use Rattle.rv_core.specs.Images.{Image}
use Rattle.rv_core.specs.Table.{Table}
use Rattle.rv_core.specs.Instructions.{Instruction}
use Rattle.rv_core.specs.Machine.{Running, Exited, World, GoesTo, Leaves, performed, register_of, with_register}
use Rattle.rv_core.specs.Code.{instruction_in}
use Rattle.rv_core.specs.Runs.{Run, setup, mrun, visit_of, linkage, places_after, astray_after}

-- after n steps, or after more of them
abbrev pub Later : (ℕ → Type 0) → ℕ → Type 0
Later P n = (k : ℕ) × P (n + k)

-- a step that went to an address, with these registers and this world
pub record Went (r after : Run) (i : Instruction) (to : ℕ) (registers : List ℕ) (world : World) : Type 0 where
  pub runs : after.state.ending ≡ Running
  pub goes : after.state.pc ≡ to
  pub holds : after.state.registers ≡ registers
  pub has : after.state.world ≡ world
  pub visits : after.visits ≡ visit_of r.state i ∷ r.visits
  pub places : after.places ≡ places_after (linkage r.state i) r.state.pc r.places
  pub astray : after.astray ≡ (r.astray || astray_after (linkage r.state i) to r.places)

-- a step that exited
pub record Left (r after : Run) (i : Instruction) (value : ℤ) : Type 0 where
  pub ends : after.state.ending ≡ Exited value
  pub has : after.state.world ≡ r.state.world
  pub visits : after.visits ≡ visit_of r.state i ∷ r.visits
  pub places : after.places ≡ places_after (linkage r.state i) r.state.pc r.places
  pub astray : after.astray ≡ (r.astray || astray_after (linkage r.state i) r.state.pc r.places)

-- a running machine performs the instruction that the image has at its pc
abbrev pub StepsGo : Image → Type 0
StepsGo image =
    (t : Table) (input : List ℕ) (n : ℕ) (i : Instruction) (to : ℕ) (registers : List ℕ) (world : World)
    → (mrun (setup image t input) n).state.ending ≡ Running → instruction_in image (mrun (setup image t input) n).state.pc ≡ Some i
    → performed i (mrun (setup image t input) n).state ≡ GoesTo to registers world → Went (mrun (setup image t input) n) (mrun (setup image t input) (suc n)) i to registers world

abbrev pub StepsLeave : Image → Type 0
StepsLeave image =
    (t : Table) (input : List ℕ) (n : ℕ) (i : Instruction) (value : ℤ)
    → (mrun (setup image t input) n).state.ending ≡ Running → instruction_in image (mrun (setup image t input) n).state.pc ≡ Some i
    → performed i (mrun (setup image t input) n).state ≡ Leaves value → Left (mrun (setup image t input) n) (mrun (setup image t input) (suc n)) i value

-- a register that was written, and the others
abbrev pub WritesOne : Type 0
WritesOne = (registers : List ℕ) (rd v : ℕ) → 0 < rd → rd < length registers → register_of (with_register registers rd v) rd ≡ v

abbrev pub KeepsOthers : Type 0
KeepsOthers = (registers : List ℕ) (rd v q : ℕ) → q ≢ rd → register_of (with_register registers rd v) q ≡ register_of registers q

abbrev pub KeepsCount : Type 0
KeepsCount = (registers : List ℕ) (rd v : ℕ) → length (with_register registers rd v) ≡ length registers
