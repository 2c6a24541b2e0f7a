use Rattle.std.proofs.Common.{length, map}
use Rattle.report_text.specs.Lines.{copy_line, column_line}
use Rattle.report_reading.specs.Parts.{claims_with}
use Rattle.report_reading.specs.Reading.{at_of}
use Rattle.report_reading.proofs.ClaimParts.{middle_passes}
use Rattle.report_reading.proofs.middle.middle_at.Goals as goal

pub returns-in-Ok-columns-clause-ok : goal.returns-in-Ok-columns-clause-ok
returns-in-Ok-columns-clause-ok c =
    middle_passes (at_of c.args.from.number c.args.from.rest.now) (at_of c.in-Ok.found.1.number c.in-Ok.found.1.rest.now) (at_of c.in-Ok-claims_at.found.1.number c.in-Ok-claims_at.found.1.rest.now) (at_of c.in-Ok-columns.at.number c.in-Ok-columns.at.rest.now) (length c.in-Ok-claims_at.found.0.claims.facts)
    (map copy_line c.in-Ok.found.0.items) (claims_with c.in-Ok-claims_at.found.0.claims c.in-Ok-claims_at.found.0.nevers.items c.in-Ok-claims_at.found.0.loops.items c.in-Ok-claims_at.found.0.facts.items) (map column_line c.in-Ok-columns.columns.items)
    c.in-Ok.ensures.ok c.in-Ok-claims_at.ensures.ok (rw c.facts-facts.ensures.value at c.in-Ok-columns.ensures.ok)
