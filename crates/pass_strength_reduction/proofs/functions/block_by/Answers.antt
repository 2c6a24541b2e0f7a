use Rattle.std.proofs.Common.{◌≡◌, Option, Some, length, refl, subst, sym}
use Rattle.std.specs.Prelude.{IfOk, IfSome, slice_get}
use Rattle.std.proofs.lemmas.Option.{slice_get_read}
use Rattle.low_ir.specs.declared.low.Block.{Block}
use Rattle.low_ir.specs.View.{block_of}
use Rattle.pass_strength_reduction.specs.Changing.{BlockChanged}
use Rattle.pass_strength_reduction.specs.Scenes.{Fits, Scene}
use Rattle.pass_strength_reduction.proofs.Following.{facts_there}
use Rattle.pass_strength_reduction.proofs.functions.block_by.Goals as goal

pub returns-in-Some : goal.returns-in-Some
returns-in-Some c =
    let scope = c.args.scope.now in
    let n = c.args.number in
    let changes = c.args.changes.now in
    let it = c.in-Some.change.now in
    let got : slice_get changes n ≡ Some it = slice_get_read changes (length changes) n it refl c.in-Some.ensures.lookup.3.0 c.in-Some.ensures.lookup.1 in
    subst (λ fs. IfOk c.changed_block.result (λ (o : Option Block). IfSome o (λ (b : Block). (sc : Scene) → Fits scope.claims.now scope.alone.now scope.objects scope.registers scope.spare.now sc → sc.changes ≡ changes → BlockChanged sc fs (block_of c.args.block.now) (block_of b)))) (sym (facts_there changes n it got)) c.changed_block.ensures
