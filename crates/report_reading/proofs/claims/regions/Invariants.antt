use Rattle.std.proofs.Common.{◌<◌, ◌≤◌, map, length, All}
use Rattle.report_text.specs.Forms.{NamesOne, AreApart}
use Rattle.report_text.specs.Lines.{region_line}
use Rattle.report_reading.specs.Orders.{IsOrdered}
use Rattle.report_rules.specs.ClaimRules.{region_rule}
use Rattle.report_reading.specs.Reading.{at_of, IsPassing}
use Rattle.report_reading.proofs.claims.regions.Given as goal

abbrev pub invariant-lines : goal.invariant-lines
invariant-lines l =
    IsPassing region_rule (record { least = 0; end = 0 }) (at_of l.from.number l.from.rest.now) (record { least = l.reached.least; end = l.reached.end }) (at_of l.at.number l.at.rest.now) (map region_line l.regions.items)
    × IsOrdered (λ v w. v.first < w.first) (λ v. v.first < l.reached.least) l.regions.items
    × IsOrdered AreApart (λ v. v.first < v.end → v.end ≤ l.reached.end) l.regions.items
    × All NamesOne l.regions.items

abbrev pub decreases-lines : goal.decreases-lines
decreases-lines l = length l.at.rest.now
