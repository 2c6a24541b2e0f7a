use Rattle.std.proofs.Common.{sym, ap, ◌∙◌}
use Rattle.std.specs.Prelude.{slice_index_or}
use Rattle.rv_core.specs.declared.regions.Region.TheVariants.{Ram}
use Rattle.low_ir.specs.Placings.{placed_of}
use Rattle.image_making.proofs.RegionLemmas.{regions_are}
use Rattle.image_making.proofs.regions.array_regions.Goals as goal

pub returns : goal.returns
returns c = λ o. regions_are c.args.placement.now.objects (placed_of c.args.code.now).objects o ∙ ap (λ rs. slice_index_or rs o Ram) (sym c.in_ok-regions.ensures)
