use Rattle.std.proofs.Common.{◌≡◌, Option, map, subst, sym}
use Rattle.std.specs.Prelude.{IfSome}
use Rattle.low_ir.specs.declared.low.Block.{Block}
use Rattle.low_ir.specs.View.{block_of}
use Rattle.pass_strength_reduction.specs.Changing.{BlockChanged}
use Rattle.pass_strength_reduction.specs.Scenes.{Fits, Scene, facts_at}
use Rattle.pass_strength_reduction.proofs.Blocks.{blocks_begun, blocks_done, blocks_more}
use Rattle.pass_strength_reduction.proofs.functions.changed_blocks.Goals as goal

pub loop-number-init : goal.loop-number-init
loop-number-init c = λ sc fits same. blocks_begun sc (map block_of c.args.blocks.now) c.new-made.result.items c.new-made.ensures.items

pub loop-number-preserved : goal.loop-number-preserved
loop-number-preserved c = λ sc fits same.
    let scope = c.args.scope.now in
    let changes = c.args.changes.now in
    let n = c.loop-number.number in
    let b = c.index-blocks-number.result in
    let one =
    subst (λ (o : Option Block). IfSome o (λ (new : Block). (sc : Scene) → Fits scope.claims.now scope.alone.now scope.objects scope.registers scope.spare.now sc → sc.changes ≡ changes → BlockChanged sc (facts_at changes n) (block_of b) (block_of new))) c.in-Some.is c.in_ok-new.ensures in
    blocks_more sc c.args.blocks.now n b c.in-Some.new c.loop-number.made.items c.push.new.self.items c.loop-number-test.true c.index-blocks-number.is (c.loop-number.invariant sc fits same)
    (subst (λ cs. BlockChanged sc (facts_at cs n) (block_of b) (block_of c.in-Some.new)) (sym same) (one sc fits same)) c.in_ok-push.ensures.items

pub returns : goal.returns
returns c = λ sc fits same. blocks_done sc c.args.blocks.now c.loop-number.number c.loop-number.made.items c.loop-number-test.false (c.loop-number.invariant sc fits same)
