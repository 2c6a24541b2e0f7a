use Rattle.std.proofs.Common.{arith, map, refl}
use Rattle.report_text.specs.Lines.{flow_line}
use Rattle.report_rules.specs.CertRules.{flow_rule}
use Rattle.report_reading.specs.Reading.{at_of}
use Rattle.report_reading.specs.Sections.{later_words}
use Rattle.report_reading.proofs.PassLemmas.{flaw_stops, passes_on}
use Rattle.report_reading.proofs.StepLemmas.{parts_step}
use Rattle.report_reading.proofs.OrderLemmas.{parts_ascend}
use Rattle.report_reading.proofs.certs.parts.Goals as goal

pub lines-preserved : goal.lines-preserved
lines-preserved c = parts_step (at_of c.args.from.number c.args.from.rest.now) (at_of c.lines.at.number c.lines.at.rest.now) (at_of c.in-Some.line.after.number c.in-Some.line.after.rest.now) (record { at = c.lines.least.at; number = c.lines.least.number }) _ c.lines.parts.items c.add.new.list.items c.in-Ok.part (later_words (map (λ w. w.now) c.in-Some.line.words.items)) (map (λ w. w.now) c.words.result.now) c.lines.invariant (rw c.in-Some.is at c.in_ok-line.ensures) c.words.ensures c.in-Ok.ensures.ok c.in-Ok.ensures.at c.in-Ok.ensures.part refl (omega arith) c.in_ok-add-in-Ok.ensures

pub returns-clause-ok : goal.returns-clause-ok
returns-clause-ok c = passes_on flow_rule (record { at = 0; number = 0 }) (at_of c.args.from.number c.args.from.rest.now) (record { at = c.lines.least.at; number = c.lines.least.number }) (at_of c.lines.at.number c.lines.at.rest.now) (map flow_line c.lines.parts.items) c.lines.invariant.0 (rw c.in_default.is at c.in_ok-line.ensures)

pub returns-clause-form : goal.returns-clause-form
returns-clause-form c = record { ascend = parts_ascend c.lines.parts.items c.lines.invariant.1.pairs; form = c.lines.invariant.2 }

pub returns-in-Err-clause-err : goal.returns-in-Err-clause-err
returns-in-Err-clause-err c = flaw_stops flow_rule (record { at = 0; number = 0 }) (at_of c.args.from.number c.args.from.rest.now) (record { at = c.lines.least.at; number = c.lines.least.number }) (at_of c.lines.at.number c.lines.at.rest.now) (at_of c.in-Some.line.after.number c.in-Some.line.after.rest.now) (map flow_line c.lines.parts.items) (later_words (map (λ w. w.now) c.in-Some.line.words.items)) (map (λ w. w.now) c.words.result.now) c.in-Err.flaw c.fault_at.result c.lines.invariant.0 (rw c.in-Some.is at c.in_ok-line.ensures) c.words.ensures c.in-Err.ensures.err c.fault_at.ensures
