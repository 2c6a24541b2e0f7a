use Rattle.rv_core.specs.Table.{table_of}
use Rattle.path_fact_fit.proofs.ConditionLemmas.{searchable}
use Rattle.path_fact_fit.proofs.law.is_searchable.Goals as goal

pub returns : goal.returns
returns c = searchable (table_of c.args.costs.now) c.args.system.now c.args.shapes.now c.args.spans.now c.is_system.ensures c.requires.reached c.requires.can (record { flash = c.args.costs.now.flash.least; spm = c.args.costs.now.spm.least }) _ _ c.claims.ensures c.loops.ensures.value c.are_short.ensures c.loops.ensures.few
