use Rattle.std.proofs.Common.{All, subst}
use Rattle.code_flow_system.specs.Claims.{AreSums}
use Rattle.report_text.specs.Forms.{IsReport}
use Rattle.report_laws.proofs.TextLaws.{no_fault}
use Rattle.report_laws.proofs.laws.no_fault.Goals as goal

pub returns : goal.returns
returns c = λ fault e.
    no_fault c.args.report.now fault
    (subst IsReport c.report.view_is c.report.invariant)
    c.is_typed.ensures
    (subst (λ r. All AreSums r.claims.facts) c.report.view_is c.facts-facts.ensures.valid.sums)
    e
