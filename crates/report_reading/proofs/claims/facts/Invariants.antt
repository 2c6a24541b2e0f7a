use Rattle.std.proofs.Common.{◌≡◌, length, All}
use Rattle.code_flow_system.specs.Certificates.{IsSmall}
use Rattle.report_text.specs.Forms.{IsFact}
use Rattle.report_text.specs.Lines.{fact_line, paired}
use Rattle.report_rules.specs.FactRules.{fact_rule}
use Rattle.report_reading.specs.Reading.{at_of, IsPassing}
use Rattle.report_reading.proofs.claims.facts.Given as goal

abbrev pub invariant-lines : goal.invariant-lines
invariant-lines l =
    IsPassing fact_rule 0 (at_of l.from.number l.from.rest.now) (length l.facts.items) (at_of l.at.number l.at.rest.now) (paired fact_line l.facts.items l.by.items)
    × (length l.facts.items ≡ length l.by.items)
    × All IsFact l.facts.items
    × All IsSmall l.by.items

abbrev pub decreases-lines : goal.decreases-lines
decreases-lines l = length l.at.rest.now
