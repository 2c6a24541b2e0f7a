use Rattle.std.proofs.Common.{◌≡◌, ◌++◌, ◌∙◌, ap, map, sym}
use Rattle.report_words.specs.Words.{lines_text}
use Rattle.report_text.specs.Lines.{copy_line, column_line, report_text}
use Rattle.report_rules.specs.Heads.{is_greatest_kind}
use Rattle.report_reading.specs.Parts.{head_of, claims_with, numbers_with, assembled}
use Rattle.report_reading.specs.Reading.{at_of}
use Rattle.report_reading.proofs.ReportLemmas.{lines_assembled}
use Rattle.report_reading.proofs.WholeParts.{all_read}
use Rattle.report_reading.proofs.reading.read_lines.Goals as goal

pub returns-in-Ok-tail_at-clause-ok : goal.returns-in-Ok-tail_at-clause-ok
returns-in-Ok-tail_at-clause-ok c =
    let made : c.report_of.result ≡ assembled c.in-Ok.found.0.version c.in-Ok.found.0.cycles c.in-Ok.found.0.kind c.in-Ok-middle_at.found.0.names.items c.in-Ok-middle_at.found.0.multiplied.claims c.in-Ok-middle_at.found.0.multiplied.nevers.items c.in-Ok-middle_at.found.0.multiplied.loops.items c.in-Ok-middle_at.found.0.multiplied.facts.items c.in-Ok-middle_at.found.0.columns.items c.in-Ok-numbers_at.found.0.scale c.in-Ok-numbers_at.found.0.potentials.items c.in-Ok-numbers_at.found.0.unit c.in-Ok-numbers_at.found.0.parts.items c.in-Ok-tail_at.shares.items = c.report_of.ensures in
    let read =
    all_read c.args.bytes.now (record { version = c.in-Ok.found.0.version; greatest = is_greatest_kind c.in-Ok.found.0.kind }) (at_of c.in-Ok.found.1.number c.in-Ok.found.1.rest.now) (at_of c.in-Ok-middle_at.found.1.number c.in-Ok-middle_at.found.1.rest.now) (at_of c.in-Ok-numbers_at.found.1.number c.in-Ok-numbers_at.found.1.rest.now)
    (head_of c.in-Ok.found.0.version c.in-Ok.found.0.cycles c.in-Ok.found.0.kind)
    (map copy_line c.in-Ok-middle_at.found.0.names.items ++ (claims_with c.in-Ok-middle_at.found.0.multiplied.claims c.in-Ok-middle_at.found.0.multiplied.nevers.items c.in-Ok-middle_at.found.0.multiplied.loops.items c.in-Ok-middle_at.found.0.multiplied.facts.items ++ map column_line c.in-Ok-middle_at.found.0.columns.items))
    (numbers_with c.in-Ok-numbers_at.found.0.scale c.in-Ok-numbers_at.found.0.potentials.items c.in-Ok-numbers_at.found.0.unit c.in-Ok-numbers_at.found.0.parts.items) c.in-Ok-tail_at.shares.items
    c.in-Ok.ensures.ok c.in-Ok-middle_at.ensures.ok (rw c.is_greatest-greatest.ensures at c.in-Ok-numbers_at.ensures.ok) (rw c.is_greatest-greatest.ensures at c.in-Ok-tail_at.ensures.ok) in
    read.text_is
    ∙ ap lines_text (sym (lines_assembled c.in-Ok.found.0.version c.in-Ok.found.0.cycles c.in-Ok.found.0.kind c.in-Ok-middle_at.found.0.names.items c.in-Ok-middle_at.found.0.multiplied.claims c.in-Ok-middle_at.found.0.multiplied.nevers.items c.in-Ok-middle_at.found.0.multiplied.loops.items c.in-Ok-middle_at.found.0.multiplied.facts.items c.in-Ok-middle_at.found.0.columns.items c.in-Ok-numbers_at.found.0.scale c.in-Ok-numbers_at.found.0.potentials.items c.in-Ok-numbers_at.found.0.unit c.in-Ok-numbers_at.found.0.parts.items c.in-Ok-tail_at.shares.items))
    ∙ sym (ap report_text made)
