use Rattle.rv_core.specs.Table.{table_of}
use Rattle.code_flow_system.specs.Certificates.{listed}
use Rattle.dual_check.proofs.ValueLemmas.{value_size, wide_value}
use Rattle.dual_check.proofs.greatest.value.Goals as goal

pub returns-clause-none : goal.returns-clause-none
returns-clause-none c =
    wide_value c.add_costs.result _ _ _ c.nothing.ensures.size (value_size (table_of c.args.costs.now) c.args.system.now (listed c.args.cert.now.flow.parts)) c.add_costs.ensures.none
