use Rattle.std.proofs.Common.{All, subst}
use Rattle.code_flow_system.specs.Claims.{AreSums}
use Rattle.report_text.specs.Reports.{Report}
use Rattle.report_check.proofs.reading.is_report.Goals as goal

pub returns-clause-sums : goal.returns-clause-sums
returns-clause-sums c = subst (λ (r : Report). All AreSums r.claims.facts) c.report.view_is c.facts-facts.ensures.valid.sums
