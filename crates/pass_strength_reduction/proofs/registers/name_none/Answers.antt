use Rattle.low_ir.specs.View.{block_of}
use Rattle.pass_strength_reduction_law.specs.Steps.{BlockNamesNoSpare}
use Rattle.pass_strength_reduction.specs.Scenes.{is_spare}
use Rattle.low_parts.proofs.Filling.{all_done, all_step}
use Rattle.pass_strength_reduction.proofs.registers.name_none.Goals as goal

pub loop-block-preserved : goal.loop-block-preserved
loop-block-preserved c = all_step block_of (BlockNamesNoSpare (is_spare c.args.spare.now)) c.args.blocks.now c.loop-block.block-index c.block-item.result c.loop-block-test.true c.block-item.is c.loop-block.invariant (c.in_ok-block_names_none.ensures c.if-not-branch.false)

pub returns : goal.returns
returns c = λ done. all_done block_of (BlockNamesNoSpare (is_spare c.args.spare.now)) c.args.blocks.now c.loop-block.block-index c.loop-block-test.false c.loop-block.invariant
