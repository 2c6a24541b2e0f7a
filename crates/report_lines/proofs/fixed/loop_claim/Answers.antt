use Rattle.report_lines.specs.LineShapes.{loop_shapes}
use Rattle.report_lines.proofs.FitLemmas.{fit_length}
use Rattle.report_lines.proofs.fixed.loop_claim.Goals as goal

pub eight-requires : goal.eight-requires
eight-requires c = fit_length (λ w. w.now) loop_shapes c.args.words.now c.requires.fits
