use Rattle.std.proofs.Common.{Option, map, subst}
use Rattle.std.specs.Prelude.{IfSome}
use Rattle.low_ir.specs.declared.low.Block.{Block}
use Rattle.low_ir.specs.View.{block_of, claim_of}
use Rattle.pass_common_subexpressions_law.specs.Reloads.{BlockReloaded}
use Rattle.pass_common_subexpressions.specs.Making.{facts_of, out_of}
use Rattle.pass_common_subexpressions.proofs.Listing.{blocks_more}
use Rattle.pass_common_subexpressions.proofs.making.blocks_of.Goals as goal

pub loop-number-preserved : goal.loop-number-preserved
loop-number-preserved c =
    let claims = map claim_of c.args.claims.now in
    let out = out_of (map facts_of c.args.lists.now) in
    let one =
    subst (λ (o : Option Block). IfSome o (λ (b : Block). BlockReloaded claims out c.loop-number.number (block_of c.index-blocks-number.result) (block_of b))) c.in-Some.is c.in_ok-new.ensures in
    blocks_more claims out c.args.blocks.now c.loop-number.number c.index-blocks-number.result c.in-Some.new c.loop-number.made.items c.push.new.self.items
    c.loop-number-test.true c.index-blocks-number.is c.loop-number.invariant one c.in_ok-push.ensures.items
