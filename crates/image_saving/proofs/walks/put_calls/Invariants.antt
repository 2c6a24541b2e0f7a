use Rattle.std.proofs.Common.{◌≡◌, ◌+◌, ◌^◌, ◌<◌, ◌++◌, drop, map}
use Rattle.low_ir.specs.View.{block_of}
use Rattle.low_ir.specs.Placings.{placings_of}
use Rattle.image_saving.specs.Walks.{blocks_call, spots_in}
use Rattle.image_saving.proofs.walks.put_calls.Given as goal

abbrev pub invariant-loop-block : goal.invariant-loop-block
invariant-loop-block l = record {
  sites : l.sites.items ++ blocks_call (placings_of l.code) l.fn.number l.at (map block_of (drop l.block-index l.blocks)) ≡ l.fn.sites.items ++ blocks_call (placings_of l.code) l.fn.number 0 (map block_of l.blocks);
  room : l.at + spots_in (map block_of (drop l.block-index l.blocks)) < 2 ^ 64;
}
