use Rattle.rv_core.specs.Table.{table_of}
use Rattle.path_cert.proofs.RangeLemmas.{facts_ranged}
use Rattle.path_cert.proofs.laws.facts_have_ranges.Goals as goal

pub returns : goal.returns
returns c = facts_ranged (table_of c.args.costs.now) c.args.system.now c.args.shapes.now c.args.spans.now
