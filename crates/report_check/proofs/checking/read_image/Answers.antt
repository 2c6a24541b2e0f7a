use Rattle.std.proofs.Common.{sym, subst}
use Rattle.elf_image.proofs.FaultLemmas.{stops_as, loads}
use Rattle.report_check.specs.declared.verdict.Cause.{Cause}
use Rattle.report_check.specs.Checks.{StopsAt}
use Rattle.report_check.proofs.CheckLemmas.{stops_at_image}
use Rattle.report_check.proofs.checking.read_image.Goals as goal

pub returns-in-Ok-clause-ok : goal.returns-in-Ok-clause-ok
returns-in-Ok-clause-ok c = (loads _ c.read.result _ c.in-Ok.is c.read.ensures.ok, c.in-Ok.ensures.image)

pub returns-in-Err-clause-err : goal.returns-in-Err-clause-err
returns-in-Err-clause-err c = λ t text.
    subst (λ (x : Cause). StopsAt t c.args.bytes.now text x) (sym c.image_cause.ensures)
    (stops_at_image t _ text _ (stops_as _ c.read.result _ c.in-Err.is c.read.ensures.not_elf c.read.ensures.wrong_machine c.read.ensures.bad_segment))
