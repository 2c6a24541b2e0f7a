use Rattle.rv_core.specs.Table.{table_of}
use Rattle.path_cert.proofs.FlowLemmas.{flows_best}
use Rattle.path_cert.proofs.laws.fact_flows_are_best.Goals as goal

pub returns : goal.returns
returns c = flows_best (table_of c.args.costs.now) c.args.system.now c.args.shapes.now c.args.spans.now
