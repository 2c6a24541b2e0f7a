use Rattle.rv_core.specs.Table.{table_of}
use Rattle.path_fact_columns.proofs.FirstLemmas.{all_best}
use Rattle.path_fact_columns.proofs.laws.first_answers_are_best.Goals as goal

pub returns : goal.returns
returns c = all_best (table_of c.args.costs.now) c.args.system.now c.args.shapes.now c.args.spans.now
