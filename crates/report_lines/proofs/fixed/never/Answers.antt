use Rattle.report_lines.specs.LineShapes.{never_shapes}
use Rattle.report_lines.proofs.FitLemmas.{fit_length}
use Rattle.report_lines.proofs.fixed.never.Goals as goal

pub four-requires : goal.four-requires
four-requires c = fit_length (λ w. w.now) never_shapes c.args.words.now c.requires.fits
