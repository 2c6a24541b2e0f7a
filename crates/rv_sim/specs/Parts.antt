-- The parts of a simulated machine, put together.
use Rattle.std.specs.Prelude.{ℤ, Option, Some, None}
use Rattle.rv_core.specs.Machine.{Ending, Running, Exited}

abbrev pub ending_by : Option ℤ → Ending
ending_by None = Running
ending_by (Some v) = Exited v
