use Rattle.std.proofs.Common.{◌≡◌, ◌<◌, length, All}
use Rattle.code_flow_system.specs.Certificates.{IsSmall}
use Rattle.report_text.specs.Lines.{never_line, paired}
use Rattle.report_reading.specs.Orders.{IsOrdered}
use Rattle.report_rules.specs.ClaimRules.{never_rule}
use Rattle.report_reading.specs.Reading.{at_of, IsPassing}
use Rattle.report_reading.proofs.claims.nevers.Given as goal

abbrev pub invariant-lines : goal.invariant-lines
invariant-lines l =
    IsPassing never_rule 0 (at_of l.from.number l.from.rest.now) l.least (at_of l.at.number l.at.rest.now) (paired never_line l.nevers.items l.by.items)
    × (length l.nevers.items ≡ length l.by.items)
    × IsOrdered (λ a b. a.at < b.at) (λ a. a.at < l.least) l.nevers.items
    × All IsSmall l.by.items

abbrev pub decreases-lines : goal.decreases-lines
decreases-lines l = length l.at.rest.now
