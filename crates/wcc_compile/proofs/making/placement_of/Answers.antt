use Rattle.std.proofs.Common.{length, subst, ◌∙◌}
use Rattle.std.specs.Prelude.{IfOk}
use Rattle.low_ir.specs.Placings.{placed_of}
use Rattle.image_frames.specs.Placings.{HasPlaced}
use Rattle.wcc_compile.proofs.Counting.{functions_many, objects_many}
use Rattle.wcc_compile.proofs.making.placement_of.Goals as goal

pub returns : goal.returns
returns c =
    let code = c.args.code.now in
    let ids = c.args.numbers.now in
    let fs = functions_many code c.len-functions.result (c.len-functions.ensures ∙ code.low.functions.ok.0) in
    let os = objects_many code c.len-objects.result (c.len-objects.ensures ∙ code.low.objects.ok.0) in
    subst (λ n. IfOk c.placement.result (HasPlaced ids n (length (placed_of code).objects))) fs
    (subst (λ n. IfOk c.placement.result (HasPlaced ids c.len-functions.result n)) os c.placement.ensures)
