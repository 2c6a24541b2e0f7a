use Rattle.report_lines.specs.LineShapes.{flow_shapes}
use Rattle.report_lines.proofs.FitLemmas.{fit_length}
use Rattle.report_lines.proofs.fixed.flow.Goals as goal

pub three-requires : goal.three-requires
three-requires c = fit_length (λ w. w.now) flow_shapes c.args.words.now c.requires.fits
