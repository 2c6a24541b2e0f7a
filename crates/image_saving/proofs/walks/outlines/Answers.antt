use Rattle.std.proofs.Common.{◌≡◌, ap, subst, ◌∙◌}
use Rattle.std.specs.Prelude.{IfOk}
use Rattle.low_ir.specs.Programs.{low_of}
use Rattle.low_ir.specs.Placings.{placings_of}
use Rattle.image_saving.specs.Walks.{outlines_from}
use Rattle.image_saving.proofs.WalkLemmas.{outlines_found}
use Rattle.image_saving.proofs.walks.outlines.Goals as goal

pub returns : goal.returns
returns c =
    let pls = placings_of c.args.code.now in
    let low = low_of c.args.code.now.low in
    subst (λ l. IfOk c.described.result (λ os. os.items ≡ l))
    (ap (λ ps. outlines_from pls ps 0 low.functions) (c.deref.ensures.value ∙ c.in_ok-parameters.ensures) ∙ outlines_found pls low) c.described.ensures
