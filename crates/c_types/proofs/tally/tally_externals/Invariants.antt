use Rattle.std.proofs.Common.{◌≡◌, drop}
use Rattle.types_rules.specs.Limits.{nothing_counted}
use Rattle.c_types.specs.Tally.{tally_said}
use Rattle.c_types.proofs.Tallies.{external_tally, tally_each}
use Rattle.c_types.proofs.tally.tally_externals.Given as goal

abbrev pub invariant-loop-external : goal.invariant-loop-external
invariant-loop-external l = tally_each external_tally l.externals nothing_counted ≡ tally_each external_tally (drop l.external-index l.externals) (tally_said l.tally)
