use Rattle.std.proofs.Common.{◌≡◌, map, take}
use Rattle.std.specs.List.{flat_map}
use Rattle.high_pass.specs.Composing.{nevers_through}
use Rattle.high_pass.specs.Listing.{mark_entry}
use Rattle.high_pass.proofs.compose.copies_of_nevers.Given as goal

abbrev pub invariant-loop-never : goal.invariant-loop-never
invariant-loop-never l = l.all.items ≡ flat_map (nevers_through (map mark_entry l.step)) (take l.never-index l.nevers)
