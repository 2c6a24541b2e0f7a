use Rattle.std.proofs.Common.{◌≡◌, ◌+◌, ◌<◌, ◌^◌, drop, map}
use Rattle.low_ir.specs.View.{block_of}
use Rattle.register_live_ranges.specs.Accesses.{places_in}
use Rattle.register_live_ranges.proofs.accesses.are_countable.Given as goal

abbrev pub invariant-loop-block : goal.invariant-loop-block
invariant-loop-block l = record {
  sum : l.places + places_in (map block_of (drop l.block-index l.blocks)) ≡ places_in (map block_of l.blocks);
  fits : l.places < 2 ^ 64;
}
