use Rattle.std.proofs.Common.{◌∙◌}
use Rattle.low_ir.specs.Placings.{placed_of}
use Rattle.image_making.proofs.LayingLemmas.{entry_is, functions_same}
use Rattle.image_making.proofs.laying.entry_of.Goals as goal

pub returns : goal.returns
returns c = c.base_of.ensures ∙ entry_is c.args.placement.now (placed_of c.args.code.now) c.args.layout.now c.requires _ (c.len.ensures ∙ (c.args.code.now.low.functions.ok.0 ∙ functions_same c.args.code.now))
