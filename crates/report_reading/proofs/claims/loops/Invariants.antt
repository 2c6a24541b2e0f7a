use Rattle.std.proofs.Common.{◌≡◌, ◌<◌, length, All}
use Rattle.code_flow_system.specs.Certificates.{IsSmall}
use Rattle.report_text.specs.Lines.{loop_line, paired}
use Rattle.report_reading.specs.Orders.{IsOrdered}
use Rattle.report_rules.specs.ClaimRules.{loop_rule}
use Rattle.report_reading.specs.Reading.{at_of, IsPassing}
use Rattle.report_reading.proofs.claims.loops.Given as goal

abbrev pub invariant-lines : goal.invariant-lines
invariant-lines l =
    IsPassing loop_rule 0 (at_of l.from.number l.from.rest.now) l.least (at_of l.at.number l.at.rest.now) (paired loop_line l.loops.items l.by.items)
    × (length l.loops.items ≡ length l.by.items)
    × IsOrdered (λ a b. a.header < b.header) (λ a. a.header < l.least) l.loops.items
    × All (λ w. IsSmall w.0 × IsSmall w.1) l.by.items

abbrev pub decreases-lines : goal.decreases-lines
decreases-lines l = length l.at.rest.now
