use Rattle.try_images.proofs.EndLemmas.{exit_seen}
use Rattle.try_images.proofs.runs.over_image.Goals as goal

pub returns : goal.returns
returns c = exit_seen c.args.laid.now.image c.args.input.now c.in_ok-found.found c.shown.result c.in_ok-found.ensures c.shown.ensures
