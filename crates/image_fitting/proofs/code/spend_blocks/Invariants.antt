use Rattle.std.proofs.Common.{◌≡◌, ◌+◌, drop, map}
use Rattle.std.specs.Prelude.{sum_by}
use Rattle.low_ir.specs.Room.{block_room}
use Rattle.low_ir.specs.View.{block_of}
use Rattle.image_fitting.proofs.code.spend_blocks.Given as goal

abbrev pub invariant-loop-each : goal.invariant-loop-each
invariant-loop-each l = l.from + sum_by block_room (map block_of (drop l.each-index l.blocks)) ≡ l.left + sum_by block_room (map block_of l.blocks)
