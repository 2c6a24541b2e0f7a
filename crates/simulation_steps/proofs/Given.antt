-- What the lemmas on steps are given: a program that is laid in an image, and a run of it.
use Rattle.std.proofs.Common.{ℕ, List, Option}
use Rattle.rv_core.specs.declared.row.Width.{Width}
use Rattle.rv_core.specs.Images.{Image, AreLoadable}
use Rattle.rv_core.specs.Table.{Table}
use Rattle.rv_core.specs.Memory.{Block, read_from}
use Rattle.rv_core.specs.Machine.{State, register_of}
use Rattle.rv_core.specs.Runs.{Setup, setup}
use Rattle.simulation_relation.specs.Noted.{Noted}
use Rattle.simulation_relation.specs.Layouts.{Layout, IsLaid}
use Rattle.simulation_relation.specs.Positions as positions
use Rattle.simulation_relation.specs.Positions.{Course}

pub record Given : Type 0 where
  pub layout : Layout
  pub image : Image
  pub table : Table
  pub input : List ℕ
  pub loadable : AreLoadable image.segments
  pub laid : IsLaid layout image

abbrev pub run_of : Given → Setup
run_of g = setup g.image g.table g.input

abbrev pub state : Given → ℕ → State
state g n = positions.state g.layout (run_of g) n

-- a register after n steps, what is read in memory, and the memory
abbrev pub reg : Given → ℕ → ℕ → ℕ
reg g n q = register_of (state g n).registers q

abbrev pub read : Given → ℕ → Width → ℕ → Option ℕ
read g n w a = read_from (λ b. b.read) w (state g n).world.memory a

abbrev pub memory : Given → ℕ → List Block
memory g n = (state g n).world.memory

abbrev pub At : Given → Course → ℕ → List Noted → Type 0
At g k n xs = positions.At g.layout (run_of g) k n xs
