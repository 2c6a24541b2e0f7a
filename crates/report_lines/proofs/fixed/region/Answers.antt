use Rattle.report_lines.specs.LineShapes.{region_shapes}
use Rattle.report_lines.proofs.FitLemmas.{fit_length}
use Rattle.report_lines.proofs.fixed.region.Goals as goal

pub three-requires : goal.three-requires
three-requires c = fit_length (λ w. w.now) region_shapes c.args.words.now c.requires
