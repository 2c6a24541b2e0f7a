use Rattle.std.proofs.Common.{◌≡◌, drop}
use Rattle.types_rules.specs.Limits.{nothing_counted}
use Rattle.c_types.specs.Tally.{tally_item, tally_said}
use Rattle.c_types.proofs.Tallies.{tally_each}
use Rattle.c_types.proofs.tally.+statements.Given as goal

abbrev pub invariant-tally_items-loop-item : goal.invariant-tally_items-loop-item
invariant-tally_items-loop-item l = tally_each tally_item l.items nothing_counted ≡ tally_each tally_item (drop l.item-index l.items) (tally_said l.tally)
