use Rattle.std.proofs.Common.{All, subst}
use Rattle.code_flow_system.specs.Claims.{AreSums}
use Rattle.report_text.specs.Forms.{IsReport}
use Rattle.report_laws.proofs.OneReport.{one_report}
use Rattle.report_laws.proofs.laws.one_report.Goals as goal

pub returns : goal.returns
returns c = λ e.
    one_report c.args.report.now c.args.other.now
    (subst IsReport c.report.view_is c.report.invariant)
    (subst IsReport c.other.view_is c.other.invariant)
    c.is_typed.ensures
    c.is_typed-2.ensures
    (subst (λ r. All AreSums r.claims.facts) c.report.view_is c.facts-facts.ensures.valid.sums)
    (subst (λ r. All AreSums r.claims.facts) c.other.view_is c.facts-others.ensures.valid.sums)
    e
