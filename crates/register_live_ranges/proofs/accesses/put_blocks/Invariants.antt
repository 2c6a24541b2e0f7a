use Rattle.std.proofs.Common.{◌≡◌, ◌+◌, ◌^◌, ◌<◌, drop, map}
use Rattle.low_ir.specs.View.{block_of}
use Rattle.register_live_ranges.specs.Accesses.{blocks_noted, places_in}
use Rattle.register_live_ranges.specs.Rows.{rows_of}
use Rattle.register_live_ranges.proofs.accesses.put_blocks.Given as goal

abbrev pub invariant-loop-number : goal.invariant-loop-number
invariant-loop-number l = record {
  rows : blocks_noted (rows_of l.rows.items) l.number l.first (map block_of (drop l.number l.blocks)) ≡ blocks_noted (rows_of l.initial.rows.items) 0 0 (map block_of l.blocks);
  few : l.first + places_in (map block_of (drop l.number l.blocks)) < 2 ^ 64;
}
