-- Bytes are one table, or refused for one fault.
use Rattle.std.proofs.Common.{◌≡◌, ◌∙◌, sym, ap, rules, List, ℕ, Some, None}
use Rattle.toml.specs.Data.{Members}
use Rattle.rv_core.specs.Table.{Table}
use Rattle.cost_table.specs.declared.faults.TableFault.{TableFault}
use Rattle.cost_table.specs.declared.faults.TableFault.TheVariants as fault
use Rattle.cost_table.specs.Numbers.{table_in}
use Rattle.cost_table.specs.Faults.{fault_of}
use Rattle.cost_table.specs.Tables.{IsDocument, HasFault, IsTable, IsRefused}

same_members : (bytes : List ℕ) (m n : Members) → IsDocument bytes m → IsDocument bytes n → m ≡ n
same_members bytes m n a b =
    let same : Some m ≡ Some n = sym a.parsed ∙ b.parsed in
    grind rules

pub one_table : (bytes : List ℕ) (c d : Table) → IsTable bytes c → IsTable bytes d → c ≡ d
one_table bytes c d a b = sym a.costs_are ∙ (ap table_in (same_members bytes a.members b.members a.document b.document) ∙ b.costs_are)

no_fault : (bytes : List ℕ) (c : Table) (f : TableFault) → IsTable bytes c → HasFault bytes f → ⊥
no_fault bytes c f a r =
    let bad : None ≡ Some f = sym a.faultless ∙ (ap fault_of (same_members bytes a.members r.members a.document r.document) ∙ r.first) in
    cc

pub never_refused : (bytes : List ℕ) (c : Table) (f : TableFault) → IsTable bytes c → IsRefused bytes f → ⊥
never_refused bytes c fault.NotToml a r =
    let bad : None ≡ Some a.members = sym (r a.document.text) ∙ a.document.parsed in
    cc
never_refused bytes c (fault.Key key) a r = no_fault bytes c (fault.Key key) a r
never_refused bytes c (fault.Number key) a r = no_fault bytes c (fault.Number key) a r
never_refused bytes c fault.Memory a r = r
