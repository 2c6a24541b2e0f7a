use Rattle.rv_core.specs.Table.{table_of}
use Rattle.path_fact_columns.proofs.SolvedLemmas.{all_greatest}
use Rattle.path_fact_columns.proofs.laws.solved_are_greatest.Goals as goal

pub returns : goal.returns
returns c = all_greatest (table_of c.args.costs.now) c.args.system.now c.args.shapes.now c.args.spans.now
