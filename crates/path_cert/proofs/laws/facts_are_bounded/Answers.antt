use Rattle.rv_core.specs.Table.{table_of}
use Rattle.path_cert.proofs.FactLemmas.{facts_bounded}
use Rattle.path_cert.proofs.laws.facts_are_bounded.Goals as goal

pub returns : goal.returns
returns c = facts_bounded (table_of c.args.costs.now) c.args.system.now c.args.shapes.now c.args.spans.now
