use Rattle.rv_core.specs.Table.{table_of}
use Rattle.path_fact_columns.specs.Adding.{flow_of}
use Rattle.path_fact_columns.proofs.MixLemmas.{IsMixing}
use Rattle.path_fact_columns.proofs.mixing.mixed.Given as goal

abbrev pub invariant-loop-k : goal.invariant-loop-k
invariant-loop-k l = IsMixing (flow_of (table_of l.found.costs.now) l.found.system.now l.found.shapes.now l.found.spans.now l.found.asked.now) l.all l.weights l.found.system.now.moves l.k l.amounts.items
