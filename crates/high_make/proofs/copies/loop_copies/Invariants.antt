use Rattle.std.proofs.Common.{◌≡◌, map, take}
use Rattle.high_make.specs.Entries.{once}
use Rattle.high_pass.specs.Listing.{loop_entry}
use Rattle.high_make.proofs.copies.loop_copies.Given as goal

abbrev pub invariant-loop-numbers : goal.invariant-loop-numbers
invariant-loop-numbers l = map loop_entry l.copies.items ≡ map once (take l.numbers-index l.loops)
