use Rattle.try_images.proofs.EndLemmas.{exits_as}
use Rattle.try_images.proofs.trying.verdict_of.Goals as goal

pub returns : goal.returns
returns c = λ e.
    exits_as c.args.laid.now.image c.args.input.now c.in_ok-run.run' c.args.marks.now c.args.meant.now c.compare.result c.in_ok-run.ensures c.compare.ensures e
