use Rattle.std.proofs.Common.{drop, map}
use Rattle.low_ir.specs.View.{operand_of}
use Rattle.pass_copy_propagation.specs.Making.{AreSoFar}
use Rattle.pass_copy_propagation.proofs.renaming.renamed_arguments.Given as goal

abbrev pub invariant-loop-argument : goal.invariant-loop-argument
invariant-loop-argument l = AreSoFar l.known (map operand_of (drop l.argument-index l.arguments)) (map operand_of l.arguments) (map operand_of l.renamed.items)
