use Rattle.std.proofs.Common.{ap, ◌∙◌}
use Rattle.std.specs.Prelude.{unwrap_or}
use Rattle.rv_core.specs.declared.regions.Region.TheVariants.{Flash}
use Rattle.rv_sim.proofs.Placing.{region-chosen}
use Rattle.rv_sim.proofs.block.region_of_segment.Goals as goal

pub returns : goal.returns
returns c = λ some. region-chosen c.args.segment.now c.unwrap_or.result c.requires some (c.unwrap_or.ensures ∙ ap (λ o. unwrap_or o Flash) c.region.ensures)
