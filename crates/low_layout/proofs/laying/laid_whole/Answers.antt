use Rattle.std.proofs.Common.{◌∙◌, sym, subst}
use Rattle.low_ir.specs.Placings.{placed_of}
use Rattle.claims_image.specs.Images.{laid_of}
use Rattle.layout_program.specs.Laid.{AreClaimed, AreListed}
use Rattle.low_layout.proofs.laying.laid_whole.Goals as goal

pub returns-in-Ok : goal.returns-in-Ok
returns-in-Ok c =
    let pl = c.args.placement.now in
    let code = c.args.code.now in
    let l = laid_of pl (placed_of code) in
    record {
      image = c.joined.ensures.image ∙ c.in_ok-assembly.ensures.image;
      claimed = subst (AreClaimed l) (sym c.joined.ensures.claimed) c.in-Ok.ensures.claimed;
      lists = subst (AreListed code l) (sym c.joined.ensures.lists) c.in-Ok.ensures.lists;
    }
