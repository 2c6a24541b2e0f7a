use Rattle.std.proofs.Common.{Option, map, subst}
use Rattle.std.specs.Prelude.{IfSome}
use Rattle.low_ir.specs.declared.low.Block.{Block}
use Rattle.low_ir.specs.View.{block_of}
use Rattle.pass_copy_propagation.specs.Knowing.{list_of}
use Rattle.pass_copy_propagation.specs.Making.{IsBlock}
use Rattle.pass_copy_propagation.proofs.Blocks.{blocks_more}
use Rattle.pass_copy_propagation.proofs.making.blocks_of.Goals as goal

pub loop-number-preserved : goal.loop-number-preserved
loop-number-preserved c =
    let one =
    subst (λ (o : Option Block). IfSome o (λ (b : Block). IsBlock (map list_of c.args.lists.now) c.loop-number.number c.loop-number.known c.block_of.new.known (block_of c.index-blocks-number.result) (block_of b))) c.in-Some.is c.in_ok-new.ensures in
    blocks_more c.args.registers (map list_of c.args.lists.now) c.args.known.now c.loop-number.known c.block_of.new.known c.args.blocks.now c.loop-number.number c.index-blocks-number.result c.in-Some.new c.loop-number.made.items c.push.new.self.items
    c.loop-number-test.true c.index-blocks-number.is c.loop-number.invariant one c.in_ok-push.ensures.items
