use Rattle.std.proofs.Common.{map, length, All}
use Rattle.report_text.specs.Forms.{IsColumn}
use Rattle.report_text.specs.Lines.{column_line}
use Rattle.report_rules.specs.Heads.{column_rule}
use Rattle.report_reading.specs.Reading.{at_of, IsPassing}
use Rattle.report_reading.proofs.lists.columns.Given as goal

abbrev pub invariant-lines : goal.invariant-lines
invariant-lines l =
    IsPassing column_rule l.facts (at_of l.from.number l.from.rest.now) l.facts (at_of l.at.number l.at.rest.now) (map column_line l.columns.items)
    × All (IsColumn l.facts) l.columns.items

abbrev pub decreases-lines : goal.decreases-lines
decreases-lines l = length l.at.rest.now
