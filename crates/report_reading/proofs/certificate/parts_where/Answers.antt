use Rattle.report_rules.specs.CertRules.{flow_rule}
use Rattle.report_reading.specs.Reading.{at_of}
use Rattle.report_reading.proofs.CertParts.{none_pass}
use Rattle.report_reading.proofs.certificate.parts_where.Goals as goal

pub returns-then-not-may-clause-ok : goal.returns-then-not-may-clause-ok
returns-then-not-may-clause-ok c = rw (c.if-not-may.true, c.new.ensures.items) (none_pass flow_rule (record { at = 0; number = 0 }) (at_of c.args.from.number c.args.from.rest.now) c.requires)
