use Rattle.report_reading.specs.Reading.{at_of}
use Rattle.report_reading.proofs.CertParts.{certificate_passes}
use Rattle.report_reading.proofs.certificate.numbers_at.Goals as goal

pub returns-clause-ok : goal.returns-clause-ok
returns-clause-ok c =
    certificate_passes c.args.greatest (at_of c.args.from.number c.args.from.rest.now) (at_of c.in-Ok.found.1.number c.in-Ok.found.1.rest.now) (at_of c.in-Ok-potentials.found.1.number c.in-Ok-potentials.found.1.rest.now) (at_of c.in-Ok-unit_at.found.1.number c.in-Ok-unit_at.found.1.rest.now) (at_of c.in-Ok-parts_where.found.1.number c.in-Ok-parts_where.found.1.rest.now)
    c.in-Ok.found.0 c.in-Ok-unit_at.found.0 c.in-Ok-potentials.found.0.items c.in-Ok-parts_where.found.0.items c.in-Ok.ensures.ok c.in-Ok-potentials.ensures.ok c.in-Ok-unit_at.ensures.ok c.in-Ok-parts_where.ensures.ok
