use Rattle.path_cert.proofs.BestLemmas.{best_found}
use Rattle.path_cert.proofs.laws.best_flows_are_found.Goals as goal

pub returns : goal.returns
returns c = best_found c.args.system.now c.args.shapes.now c.args.spans.now
