use Rattle.std.proofs.Common.{List, Option, ap, map, refl, subst, ◌∙◌}
use Rattle.std.specs.Prelude.{IfSome, Vec}
use Rattle.std.specs.Global.{Global}
use Rattle.low_ir.specs.declared.low.Block.{Block}
use Rattle.low_ir.specs.View.{block_of, claim_of, function_of, loop_of}
use Rattle.pass_common_subexpressions_law.specs.Reloads.{BlocksReloaded}
use Rattle.pass_common_subexpressions.specs.Making.{facts_of, out_of}
use Rattle.pass_common_subexpressions.proofs.Listing.{function_made}
use Rattle.pass_common_subexpressions.proofs.making.function_over.Goals as goal

pub returns : goal.returns
returns c =
    let claims = map claim_of c.args.claims.now in
    let out = out_of (map facts_of c.args.lists.now) in
    let fn = function_of c.args.function.now in
    let gn = function_of (record { parameters = c.in_ok-same_registers.field-0; registers = c.args.function.now.registers; loops = c.in_ok-same_loops.field-0; blocks = c.in-Some.blocks }) in
    let made =
    subst (λ (o : Option (Vec Block Global)). IfSome o (λ (v : Vec Block Global). BlocksReloaded claims out 0 (map block_of c.deref.result.now) (map block_of v.items))) c.in-Some.is c.in_ok-blocks.ensures in
    function_made claims fn gn c.args.lists.now (c.all_few.ensures c.if-not-all_few.false) (c.in_ok-same_registers.ensures ∙ c.deref-2.ensures.value) refl (ap (map loop_of) (c.in_ok-same_loops.ensures ∙ c.deref-3.ensures.value))
    (subst (λ (xs : List Block). BlocksReloaded claims out 0 (map block_of xs) gn.blocks) c.deref.ensures.value made)
