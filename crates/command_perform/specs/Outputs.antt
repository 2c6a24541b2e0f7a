-- What a command makes of the contents of its files.
use Rattle.std.specs.Prelude.{ℕ, List, map}
use Rattle.wcc_base.specs.declared.status.Status.{Status}
use Rattle.command_perform.specs.declared.make.Output.{Output}
use Rattle.command_perform.specs.declared.make.Made.{Made}

-- the status, the files that are to be written, in order, and the lines that are printed once they are
pub record Outputs : Type 0 where
  pub status : Status
  pub files : List (List ℕ × List ℕ)
  pub lines : List ℕ

-- a file as the program holds it
abbrev pub file_of_output : Output → List ℕ × List ℕ
file_of_output o = (o.name.now, o.bytes)

-- what was made, as the program holds it
abbrev pub outputs_of : Made → Outputs
outputs_of m = record { status = m.status; files = map file_of_output m.files.items; lines = m.lines }
