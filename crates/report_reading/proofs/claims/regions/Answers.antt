use Rattle.std.proofs.Common.{map}
use Rattle.report_text.specs.Lines.{region_line}
use Rattle.report_rules.specs.ClaimRules.{region_rule}
use Rattle.report_reading.specs.Reading.{at_of}
use Rattle.report_reading.specs.Sections.{later_words}
use Rattle.report_reading.proofs.PassLemmas.{flaw_stops, passes_on}
use Rattle.report_reading.proofs.StepLemmas.{regions_step}
use Rattle.report_reading.proofs.OrderLemmas.{ascend_by, all_apart}
use Rattle.report_reading.proofs.claims.regions.Goals as goal

pub lines-preserved : goal.lines-preserved
lines-preserved c = regions_step (at_of c.args.from.number c.args.from.rest.now) (at_of c.lines.at.number c.lines.at.rest.now) (at_of c.in-Some.line.after.number c.in-Some.line.after.rest.now) (record { least = c.lines.reached.least; end = c.lines.reached.end }) (record { least = c.reached_with-reached.result.least; end = c.reached_with-reached.result.end }) c.lines.regions.items c.add.new.list.items c.in-Ok.claim (later_words (map (λ w. w.now) c.in-Some.line.words.items)) (map (λ w. w.now) c.words.result.now) c.lines.invariant (rw c.in-Some.is at c.in_ok-line.ensures) c.words.ensures c.in-Ok.ensures.ok c.in-Ok.ensures.at c.in-Ok.ensures.named c.reached_with-reached.ensures.least c.reached_with-reached.ensures.end c.in_ok-add-in-Ok.ensures

pub returns-clause-ok : goal.returns-clause-ok
returns-clause-ok c = passes_on region_rule (record { least = 0; end = 0 }) (at_of c.args.from.number c.args.from.rest.now) (record { least = c.lines.reached.least; end = c.lines.reached.end }) (at_of c.lines.at.number c.lines.at.rest.now) (map region_line c.lines.regions.items) c.lines.invariant.0 (rw c.in_default.is at c.in_ok-line.ensures)

pub returns-clause-form : goal.returns-clause-form
returns-clause-form c = record { ascend = ascend_by (λ w. w.first) c.lines.regions.items c.lines.invariant.1.pairs; named = c.lines.invariant.3; apart = all_apart c.lines.regions.items c.lines.invariant.2.pairs }

pub returns-in-Err-clause-err : goal.returns-in-Err-clause-err
returns-in-Err-clause-err c = flaw_stops region_rule (record { least = 0; end = 0 }) (at_of c.args.from.number c.args.from.rest.now) (record { least = c.lines.reached.least; end = c.lines.reached.end }) (at_of c.lines.at.number c.lines.at.rest.now) (at_of c.in-Some.line.after.number c.in-Some.line.after.rest.now) (map region_line c.lines.regions.items) (later_words (map (λ w. w.now) c.in-Some.line.words.items)) (map (λ w. w.now) c.words.result.now) c.in-Err.flaw c.fault_at.result c.lines.invariant.0 (rw c.in-Some.is at c.in_ok-line.ensures) c.words.ensures c.in-Err.ensures.err c.fault_at.ensures
