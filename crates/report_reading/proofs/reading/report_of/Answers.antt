use Rattle.report_reading.proofs.ReportLemmas.{is_report}
use Rattle.report_reading.proofs.reading.report_of.Goals as goal

pub invariant_of-result : goal.invariant_of-result
invariant_of-result c =
    rw (c.mark_of.ensures, c.new.ensures, c.new-2.ensures, c.new-3.ensures, c.new-4.ensures, c.new-5.ensures, c.new-6.ensures, c.new-7.ensures, c.new-8.ensures)
    (is_report c.args.head.version c.args.head.cycles c.args.head.kind c.args.middle.names.items c.args.middle.multiplied.claims c.args.middle.multiplied.nevers.items c.args.middle.multiplied.loops.items c.args.middle.multiplied.facts.items c.args.middle.columns.items c.args.numbers.scale c.args.numbers.potentials.items c.args.numbers.unit c.args.numbers.parts.items c.args.shares.items
    c.requires.known c.requires.cycles c.requires.names c.requires.claims c.requires.columns c.requires.scale c.requires.potentials c.requires.unit c.requires.parts c.requires.no_parts c.requires.shares c.requires.no_shares)
