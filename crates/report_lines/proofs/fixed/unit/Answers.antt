use Rattle.report_lines.proofs.FitLemmas.{unit_length}
use Rattle.report_lines.proofs.fixed.unit.Goals as goal

pub one-number-requires : goal.one-number-requires
one-number-requires c = unit_length (λ w. w.now) c.args.greatest c.args.words.now c.requires.fits
