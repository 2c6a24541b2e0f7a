use Rattle.std.proofs.Common.{map, take}
use Rattle.low_ir.specs.View.{block_of}
use Rattle.pass_copy_propagation.specs.Knowing.{list_of}
use Rattle.pass_copy_propagation.specs.Making.{AreBlocksSoFar}
use Rattle.pass_copy_propagation.proofs.making.blocks_of.Given as goal

abbrev pub invariant-loop-number : goal.invariant-loop-number
invariant-loop-number l = AreBlocksSoFar l.registers (map list_of l.lists) l.initial.known l.known (map block_of (take l.number l.blocks)) (map block_of l.made.items)
