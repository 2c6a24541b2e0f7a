use Rattle.std.proofs.Common.{◌≡◌, ◌++◌, drop, map}
use Rattle.claims_lists.specs.Marks.{marked_from}
use Rattle.claims_lists.specs.Outlines.{block_mark}
use Rattle.claims_lists.proofs.marks.put_blocks.Given as goal

abbrev pub invariant-loop-number : goal.invariant-loop-number
invariant-loop-number l = l.marks.items ++ marked_from l.starts l.number (map block_mark (drop l.number l.blocks)) ≡ l.initial.marks.items ++ marked_from l.starts 0 (map block_mark l.blocks)
