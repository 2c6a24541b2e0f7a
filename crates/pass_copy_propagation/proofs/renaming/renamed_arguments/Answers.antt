use Rattle.std.proofs.Common.{ap, arith, map, ◌∙◌}
use Rattle.std.proofs.lemmas.List.{map_push}
use Rattle.low_ir.specs.View.{operand_of}
use Rattle.pass_copy_propagation.proofs.Finding.{arguments_end, arguments_step}
use Rattle.pass_copy_propagation.proofs.renaming.renamed_arguments.Goals as goal

pub loop-argument-preserved : goal.loop-argument-preserved
loop-argument-preserved c =
    let made = c.loop-argument.renamed.items in
    arguments_step c.args.known.now c.args.arguments.now c.loop-argument.argument-index _ (operand_of c.in-Some.operand) (map operand_of made) (map operand_of c.push.new.self.items)
    c.loop-argument-test.true c.loop-argument.invariant c.in-Some.ensures (ap (map operand_of) c.in_ok-push.ensures.items ∙ map_push operand_of made c.in-Some.operand)

pub returns : goal.returns
returns c =
    let h = c.loop-argument-test.false in
    arguments_end c.args.known.now c.args.arguments.now c.loop-argument.argument-index (map operand_of c.loop-argument.renamed.items) (omega arith) c.loop-argument.invariant
