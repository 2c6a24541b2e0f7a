use Rattle.std.proofs.Common.{◌<◌, map, length}
use Rattle.report_text.specs.Lines.{exit_line}
use Rattle.report_reading.specs.Orders.{IsOrdered}
use Rattle.report_rules.specs.ClaimRules.{exit_rule}
use Rattle.report_reading.specs.Reading.{at_of, IsPassing}
use Rattle.report_reading.proofs.claims.exits.Given as goal

abbrev pub invariant-lines : goal.invariant-lines
invariant-lines l =
    IsPassing exit_rule 0 (at_of l.from.number l.from.rest.now) l.least (at_of l.at.number l.at.rest.now) (map exit_line l.exits.items)
    × IsOrdered (λ a b. a < b) (λ a. a < l.least) l.exits.items

abbrev pub decreases-lines : goal.decreases-lines
decreases-lines l = length l.at.rest.now
