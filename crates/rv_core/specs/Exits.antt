-- What a run comes to where it exits: its output, its value and its cycles.
use Rattle.std.specs.Prelude.{◌≡◌, ℕ, ◌≤◌, ℤ, List, length}
use Rattle.rv_core.specs.Machine.{Exited}
use Rattle.rv_core.specs.Runs.{Run, Setup, mrun}

-- what a run shows at its exit
pub record Finish : Type 0 where
  pub output : List ℕ
  pub value : ℤ
  pub cycles : ℕ

abbrev pub finish : List ℕ → ℤ → ℕ → Finish
finish output value cycles = record { output = output; value = value; cycles = cycles }

-- the run has exited so
pub record Finishes (r : Run) (f : Finish) : Type 0 where
  pub ends : r.state.ending ≡ Exited f.value
  pub prints : r.state.world.output ≡ f.output
  pub takes : r.state.cycles ≡ f.cycles

-- after some number of steps the run has exited so
pub record Exits (s : Setup) (f : Finish) : Type 0 where
  pub count : ℕ
  pub finishes : Finishes (mrun s count) f

-- the most cycles that a run may take, and the most bytes that it may put
pub record Limits : Type 0 where
  pub cycles : ℕ
  pub output : ℕ

abbrev pub limits : ℕ → ℕ → Limits
limits cycles output = record { cycles = cycles; output = output }

-- the run exits so, within the limits
pub record ExitsWithin (s : Setup) (l : Limits) (f : Finish) : Type 0 where
  pub exits : Exits s f
  pub in_cycles : f.cycles ≤ l.cycles
  pub in_output : length f.output ≤ l.output
