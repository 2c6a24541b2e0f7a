use Rattle.std.proofs.Common.{map, length, All}
use Rattle.report_text.specs.Forms.{IsCopyLine}
use Rattle.report_text.specs.Lines.{copy_line}
use Rattle.report_rules.specs.Heads.{copy_rule}
use Rattle.report_reading.specs.Reading.{at_of, IsPassing}
use Rattle.report_reading.proofs.lists.names.Given as goal

abbrev pub invariant-lines : goal.invariant-lines
invariant-lines l =
    IsPassing copy_rule tt (at_of l.from.number l.from.rest.now) tt (at_of l.at.number l.at.rest.now) (map copy_line l.names.items)
    × All IsCopyLine l.names.items

abbrev pub decreases-lines : goal.decreases-lines
decreases-lines l = length l.at.rest.now
