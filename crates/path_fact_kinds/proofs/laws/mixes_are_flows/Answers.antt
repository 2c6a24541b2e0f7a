use Rattle.rv_core.specs.Table.{table_of}
use Rattle.path_fact_kinds.proofs.MixLemmas.{all_flows}
use Rattle.path_fact_kinds.proofs.laws.mixes_are_flows.Goals as goal

pub returns : goal.returns
returns c = all_flows (table_of c.args.costs.now) c.args.system.now
