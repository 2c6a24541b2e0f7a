use Rattle.std.proofs.Common.{refl}
use Rattle.rv_core.specs.Table.{table_of}
use Rattle.report_check.proofs.ExclusionLemmas.{only_memory}
use Rattle.report_check.proofs.checking.check_report.Goals as goal

pub returns-in-Err-check_loaded-clause-yes : goal.returns-in-Err-check_loaded-clause-yes
returns-in-Err-check_loaded-clause-yes c = λ a. only_memory _ _ _ _ _ refl (c.in-Err-check_loaded.ensures.err _ c.in-Ok.ensures.ok.0 c.in-Ok.ensures.ok.1) a

pub returns-in-Err-clause-answer : goal.returns-in-Err-clause-answer
returns-in-Err-clause-answer c = c.in-Err.ensures.err (table_of c.args.costs.now) c.args.report.now

pub returns-in-Err-clause-yes : goal.returns-in-Err-clause-yes
returns-in-Err-clause-yes c = λ a. only_memory _ _ _ _ _ refl (c.in-Err.ensures.err (table_of c.args.costs.now) c.args.report.now) a
