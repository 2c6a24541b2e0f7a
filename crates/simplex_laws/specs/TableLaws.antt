-- A pivot keeps what each table keeps.
use Rattle.std.specs.Prelude.{◌≡◌, ℕ, ◌<◌, ◌≤ℤ◌, pos, length, Some, None}
use Rattle.simplex_tables.specs.Rows.{entry}
use Rattle.simplex_tables.specs.declared.table.Table.{Table}
use Rattle.simplex_tables.specs.declared.choosing.Choice.{Choice}
use Rattle.simplex_tables.specs.Choices.{leaving}
use Rattle.simplex_tables.specs.Pivots.{pivoted}
use Rattle.simplex_laws.specs.Tables.{row_at, IsTable}

-- a pivot that takes a variable in other than the artificial one, and leaves the row that is to be left
abbrev pub PivotsKeepTables : Type 0
PivotsKeepTables = (w : ℕ) (start b c : Table) (t : ℕ) (d : Choice) → IsTable w start b → t < w → 0 < t → leaving t b ≡ Some d → pivoted t d.row b ≡ Some c → IsTable w start c

-- where no row is to be left, the variable has no positive number
abbrev pub NoRowIsLeft : Type 0
NoRowIsLeft = (w : ℕ) (start b : Table) (t : ℕ) → IsTable w start b → leaving t b ≡ None → (i : ℕ) → i < length b.rows → entry (row_at b i) t ≤ℤ pos 0
