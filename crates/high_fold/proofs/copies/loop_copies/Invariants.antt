use Rattle.std.proofs.Common.{◌≡◌, ◌≤◌, ◌++◌, drop, map}
use Rattle.std.specs.List.{range_with_len}
use Rattle.high_pass.specs.Listing.{loop_entry}
use Rattle.high_folded.specs.Listed.{loop_entries}
use Rattle.high_fold.proofs.copies.loop_copies.Given as goal

abbrev pub invariant-loop-old : goal.invariant-loop-old
invariant-loop-old l = record {
  left : map loop_entry l.copies.items ++ loop_entries l.next (drop l.old (range_with_len 0 l.loops)) (drop l.next l.kept) ≡ loop_entries 0 (range_with_len 0 l.loops) l.kept;
  within : l.next ≤ l.old;
}
