use Rattle.std.proofs.Common.{◌≡◌, ◌+◌, drop, map}
use Rattle.toml.specs.View.{table_view}
use Rattle.cost_table.specs.Faults.{first_from, is_missing}
use Rattle.cost_table.specs.Held.{key_of}
use Rattle.cost_table.proofs.faults.first_missing.Given as goal

abbrev pub invariant-keys : goal.invariant-keys
invariant-keys l =
    (first_from (is_missing (table_view l.table)) l.number (map key_of (drop l.key-index l.keys)) ≡ first_from (is_missing (table_view l.table)) 1 (map key_of l.keys)) × (l.number ≡ l.key-index + 1)
