use Rattle.std.proofs.Common.{◌≡◌, ◌++◌, length, map}
use Rattle.std.specs.Prelude.{reverse}
use Rattle.low_ir.specs.View.{block_of}
use Rattle.lower_definition.specs.Programs.{turned}
use Rattle.low_make.proofs.functions.turned_blocks.Given as goal

abbrev pub invariant-loop-block : goal.invariant-loop-block
invariant-loop-block l = map block_of l.turned.items ++ map (turned l.last) (reverse (map block_of l.blocks.items)) ≡ map (turned l.last) (reverse (map block_of l.initial.blocks.items))

abbrev pub decreases-loop-block : goal.decreases-loop-block
decreases-loop-block l = length l.blocks.items
