use Rattle.std.proofs.Common.{◌≡◌, map}
use Rattle.toml.specs.View.{members_view}
use Rattle.cost_table.specs.Faults.{has_other}
use Rattle.cost_table.specs.Held.{key_of}
use Rattle.cost_table.proofs.faults.has_other.Given as goal

abbrev pub invariant-loop-name : goal.invariant-loop-name
invariant-loop-name l =
    (goal.iterator-loop-name).can_next l.name-iterator
    × (goal.iterator-loop-name).is_finite l.name-iterator
    × (has_other (map key_of l.keys) (members_view l.name-iterator) ≡ has_other (map key_of l.keys) (members_view l.table.entries))
