use Rattle.std.proofs.Common.{arith, map, ◌+◌}
use Rattle.report_text.specs.Lines.{potential_line}
use Rattle.report_rules.specs.CertRules.{potential_rule}
use Rattle.report_reading.specs.Reading.{at_of}
use Rattle.report_reading.specs.Sections.{later_words}
use Rattle.report_reading.proofs.PassLemmas.{flaw_stops, passes_on}
use Rattle.report_reading.proofs.StepLemmas.{potentials_step}
use Rattle.report_reading.proofs.OrderLemmas.{addresses_ascend}
use Rattle.report_reading.proofs.certs.potentials.Goals as goal

pub lines-preserved : goal.lines-preserved
lines-preserved c = potentials_step (at_of c.args.from.number c.args.from.rest.now) (at_of c.lines.at.number c.lines.at.rest.now) (at_of c.in-Some.line.after.number c.in-Some.line.after.rest.now) c.lines.least (c.from-least.result + 1) c.lines.potentials.items c.add.new.list.items c.in-Ok.found (later_words (map (λ w. w.now) c.in-Some.line.words.items)) (map (λ w. w.now) c.words.result.now) c.lines.invariant (rw c.in-Some.is at c.in_ok-line.ensures) c.words.ensures c.in-Ok.ensures.ok c.in-Ok.ensures.at c.in-Ok.ensures.small (omega (arith, c.from-least.ensures)) c.in_ok-add-in-Ok.ensures

pub returns-clause-ok : goal.returns-clause-ok
returns-clause-ok c = passes_on potential_rule 0 (at_of c.args.from.number c.args.from.rest.now) c.lines.least (at_of c.lines.at.number c.lines.at.rest.now) (map potential_line c.lines.potentials.items) c.lines.invariant.0 (rw c.in_default.is at c.in_ok-line.ensures)

pub returns-clause-form : goal.returns-clause-form
returns-clause-form c = record { ascend = addresses_ascend c.lines.potentials.items c.lines.invariant.1.pairs; small = c.lines.invariant.2 }

pub returns-in-Err-clause-err : goal.returns-in-Err-clause-err
returns-in-Err-clause-err c = flaw_stops potential_rule 0 (at_of c.args.from.number c.args.from.rest.now) c.lines.least (at_of c.lines.at.number c.lines.at.rest.now) (at_of c.in-Some.line.after.number c.in-Some.line.after.rest.now) (map potential_line c.lines.potentials.items) (later_words (map (λ w. w.now) c.in-Some.line.words.items)) (map (λ w. w.now) c.words.result.now) c.in-Err.flaw c.fault_at.result c.lines.invariant.0 (rw c.in-Some.is at c.in_ok-line.ensures) c.words.ensures c.in-Err.ensures.err c.fault_at.ensures
