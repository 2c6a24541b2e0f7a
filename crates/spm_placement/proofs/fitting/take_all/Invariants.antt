use Rattle.std.proofs.Common.{◌≡◌, ◌++◌, drop, map}
use Rattle.spm_placement.specs.Sets.{number}
use Rattle.spm_placement.proofs.fitting.take_all.Given as goal

abbrev pub invariant-loop-item : goal.invariant-loop-item
invariant-loop-item l = l.chosen.items ++ map number (drop l.item-index l.items) ≡ l.fn.chosen.items ++ map number l.items
