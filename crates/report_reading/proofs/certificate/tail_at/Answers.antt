use Rattle.std.proofs.Common.{◌==◌, ◌&&◌, ◌≡◌, ◌∙◌, ap, sym}
use borrow.Author.Tests.{ne_eqb}
use Rattle.report_reading.specs.Reading.{at_of}
use Rattle.report_reading.proofs.CertParts.{tail_ends}
use Rattle.report_reading.proofs.certificate.tail_at.Goals as goal
use Rattle.report_reading.proofs.certificate.tail_at.Goals.{then-version-eq2, else-version-eq2}

pub returns-in-Ok-finish_at-clause-ok : goal.returns-in-Ok-finish_at-clause-ok
returns-in-Ok-finish_at-clause-ok c =
    let may : c.if-version-eq2.shares_where ≡ ((c.args.version == 2) && c.args.greatest) = elim c.if-version-eq2.branch [
      | then-version-eq2 w ↦ w.shares_where-is ∙ sym (ap (λ v. (v == 2) && c.args.greatest) w.if-version-eq2.true)
      | else-version-eq2 w ↦ (let other = ne_eqb c.args.version 2 w.if-version-eq2.false in w.shares_where-is ∙ other ∙ sym (ap (λ t. t && c.args.greatest) other))
    ] in
    tail_ends c.args.version c.args.greatest (at_of c.args.from.number c.args.from.rest.now) (at_of c.in-Ok.found.1.number c.in-Ok.found.1.rest.now) (at_of c.in-Ok-end_at.at.number c.in-Ok-end_at.at.rest.now) c.in-Ok.found.0.items (rw may at c.in-Ok.ensures.ok) c.in-Ok-end_at.ensures.ok c.in-Ok-finish_at.ensures.ok.0 c.in-Ok-finish_at.ensures.ok.1
