use Rattle.report_lines.specs.LineShapes.{share_shapes}
use Rattle.report_lines.proofs.FitLemmas.{fit_length}
use Rattle.report_lines.proofs.fixed.share.Goals as goal

pub four-requires : goal.four-requires
four-requires c = fit_length (λ w. w.now) share_shapes c.args.words.now c.requires.fits
