-- The costs of a command: those of the table that it names, or the default ones.
use Rattle.std.specs.Prelude.{◌≡◌, ◌⊎◌, ℕ, List, [], ◌∷◌, ◌++◌, drop, Option, Some, None}
use Rattle.wcc_base.specs.declared.limits.Bound.TheVariants as bound
use Rattle.wcc_base.specs.declared.status.Status.{Status}
use Rattle.wcc_base.specs.declared.status.Status.TheVariants as status
use Rattle.rv_core.specs.Table.{Table, default_table}
use Rattle.cost_table.specs.declared.faults.TableFault.{TableFault}
use Rattle.cost_table.specs.declared.faults.TableFault.TheVariants as fault
use Rattle.cost_table.specs.Tables.{IsTable, IsRefused}
use Rattle.command_perform.specs.Gathering.{Wants}

-- the file of a table is read last, where there is one
abbrev pub wanted_table : Option (List ℕ) → Wants
wanted_table None = []
wanted_table (Some name) = (name, bound.Table) ∷ []

-- the costs that hold, by the contents of the table's file, where there is one
abbrev pub AreCosts : List (List ℕ) → Table → Type 0
AreCosts [] costs = costs ≡ default_table
AreCosts (table ∷ rest) costs = IsTable table costs

-- the status of a table that is refused
abbrev pub table_status : TableFault → Status
table_status fault.NotToml = status.Refused 9 1 0
table_status (fault.Key key) = status.Refused 9 2 key
table_status (fault.Number key) = status.Refused 9 3 key
table_status fault.Memory = status.Memory

-- the contents are no table, for this first fault
pub record RefusesTable (table : List ℕ) (s : Status) : Type 0 where
  pub fault : TableFault
  pub cause : IsRefused table fault
  pub status_is : s ≡ table_status fault

abbrev pub RefusesTables : List (List ℕ) → Status → Type 0
RefusesTables [] s = ⊥
RefusesTables (table ∷ rest) s = RefusesTable table s

-- a table is refused before all else; with the costs of one that isn't, there is this refusal
abbrev pub RefusesWith : List (List ℕ) → (Table → Type 0) → Status → Type 0
RefusesWith tables Refusal s = RefusesTables tables s ⊎ ((costs : Table) × AreCosts tables costs × Refusal costs)

-- the contents are those of the files, behind which a table stands where one is named, and these are the costs
pub record Charged (contents files : List (List ℕ)) (costs : Table) : Type 0 where
  pub tables : List (List ℕ)
  pub contents_are : contents ≡ files ++ tables
  pub are_costs : AreCosts tables costs

-- behind so many files a table stands that is refused
abbrev pub IsUncharged : (count : ℕ) → List (List ℕ) → Status → Type 0
IsUncharged count contents s = RefusesTables (drop count contents) s
