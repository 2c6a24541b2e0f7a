use Rattle.std.proofs.Common.{◌<◌, map, length, All}
use Rattle.code_flow_system.specs.Certificates.{IsSmall}
use Rattle.report_text.specs.Lines.{potential_line}
use Rattle.report_reading.specs.Orders.{IsOrdered}
use Rattle.report_rules.specs.CertRules.{potential_rule}
use Rattle.report_reading.specs.Reading.{at_of, IsPassing}
use Rattle.report_reading.proofs.certs.potentials.Given as goal

abbrev pub invariant-lines : goal.invariant-lines
invariant-lines l =
    IsPassing potential_rule 0 (at_of l.from.number l.from.rest.now) l.least (at_of l.at.number l.at.rest.now) (map potential_line l.potentials.items)
    × IsOrdered (λ t u. t.0 < u.0) (λ t. t.0 < l.least) l.potentials.items
    × All (λ t. IsSmall t.1) l.potentials.items

abbrev pub decreases-lines : goal.decreases-lines
decreases-lines l = length l.at.rest.now
