use Rattle.std.proofs.Common.{◌≤◌, map, length, All}
use Rattle.report_text.specs.Forms.{IsShare}
use Rattle.report_text.specs.Lines.{share_line}
use Rattle.report_reading.specs.Orders.{IsOrdered}
use Rattle.report_rules.specs.CertRules.{share_rule}
use Rattle.report_reading.specs.Reading.{at_of, IsPassing}
use Rattle.report_reading.proofs.certs.shares.Given as goal

abbrev pub invariant-lines : goal.invariant-lines
invariant-lines l =
    IsPassing share_rule 0 (at_of l.from.number l.from.rest.now) l.least (at_of l.at.number l.at.rest.now) (map share_line l.shares.items)
    × IsOrdered (λ s t. s.end ≤ t.first) (λ s. s.end ≤ l.least) l.shares.items
    × All IsShare l.shares.items

abbrev pub decreases-lines : goal.decreases-lines
decreases-lines l = length l.at.rest.now
