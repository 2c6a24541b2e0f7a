use Rattle.std.proofs.Common.{refl, ap}
use Rattle.report_text.specs.Reports.{Report}
use Rattle.report_check.proofs.CheckLemmas.{checked_by}
use Rattle.report_check.proofs.checking.check_system.Goals as goal

pub returns-in-None-clause-ok : goal.returns-in-None-clause-ok
returns-in-None-clause-ok c = λ image bytes text loadable e found.
    checked_by _ image bytes text _ _ c.report.inside.cert _ (ap (λ (r : Report). r.cert) c.report.view_is) c.in-Yes.ensures.verdict
    (c.in-None.ensures.none refl) (c.in-Yes.ensures.within refl) loadable e found
