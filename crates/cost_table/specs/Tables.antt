-- What bytes are as a table of costs.
use Rattle.std.specs.Prelude.{◌≡◌, ℕ, List, Some, None}
use Rattle.std.specs.Str.{IsUtf8}
use Rattle.toml.specs.Data.{Members}
use Rattle.toml.specs.Parse.{parse_document}
use Rattle.rv_core.specs.Table.{Table}
use Rattle.cost_table.specs.declared.faults.TableFault.{TableFault}
use Rattle.cost_table.specs.declared.faults.TableFault.TheVariants as fault
use Rattle.cost_table.specs.Numbers.{table_in}
use Rattle.cost_table.specs.Faults.{fault_of}

-- the bytes are a document with these members
pub record IsDocument (bytes : List ℕ) (ms : Members) : Type 0 where
  pub text : IsUtf8 bytes
  pub parsed : parse_document bytes ≡ Some ms

-- the bytes are a table of these costs
pub record IsTable (bytes : List ℕ) (costs : Table) : Type 0 where
  pub members : Members
  pub document : IsDocument bytes members
  pub faultless : fault_of members ≡ None
  pub costs_are : table_in members ≡ costs

-- the bytes are a document whose first fault is this
pub record HasFault (bytes : List ℕ) (f : TableFault) : Type 0 where
  pub members : Members
  pub document : IsDocument bytes members
  pub first : fault_of members ≡ Some f

-- the bytes are refused as a table for this
abbrev pub IsRefused : List ℕ → TableFault → Type 0
IsRefused bytes fault.NotToml = IsUtf8 bytes → parse_document bytes ≡ None
IsRefused bytes (fault.Key key) = HasFault bytes (fault.Key key)
IsRefused bytes (fault.Number key) = HasFault bytes (fault.Number key)
IsRefused bytes fault.Memory = ⊥
