use Rattle.path_search.proofs.ConditionLemmas.{shared_headers}
use Rattle.path_search.proofs.conditions.shared_headers_never_turn.Goals as goal

pub returns : goal.returns
returns c = shared_headers c.args.system.now c.args.shapes.now c.args.spans.now c.requires.fits c.requires.reached
