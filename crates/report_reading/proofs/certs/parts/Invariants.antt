use Rattle.std.proofs.Common.{◌≡◌, ◌<◌, ◌⊎◌, map, length, All}
use Rattle.code_flow_system.specs.Certificates.{IsPart}
use Rattle.report_text.specs.Lines.{flow_line}
use Rattle.report_reading.specs.Orders.{IsOrdered}
use Rattle.report_rules.specs.CertRules.{flow_rule}
use Rattle.report_reading.specs.Reading.{at_of, IsPassing}
use Rattle.report_reading.proofs.certs.parts.Given as goal

abbrev pub invariant-lines : goal.invariant-lines
invariant-lines l =
    IsPassing flow_rule (record { at = 0; number = 0 }) (at_of l.from.number l.from.rest.now) (record { at = l.least.at; number = l.least.number }) (at_of l.at.number l.at.rest.now) (map flow_line l.parts.items)
    × IsOrdered (λ p q. (p.at < q.at) ⊎ ((p.at ≡ q.at) × (p.number < q.number))) (λ p. (p.at < l.least.at) ⊎ ((p.at ≡ l.least.at) × (p.number < l.least.number))) l.parts.items
    × All IsPart l.parts.items

abbrev pub decreases-lines : goal.decreases-lines
decreases-lines l = length l.at.rest.now
