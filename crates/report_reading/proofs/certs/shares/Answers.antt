use Rattle.std.proofs.Common.{map, refl}
use Rattle.report_text.specs.Lines.{share_line}
use Rattle.report_rules.specs.CertRules.{share_rule}
use Rattle.report_reading.specs.Reading.{at_of}
use Rattle.report_reading.specs.Sections.{later_words}
use Rattle.report_reading.proofs.PassLemmas.{flaw_stops, passes_on}
use Rattle.report_reading.proofs.StepLemmas.{shares_step}
use Rattle.report_reading.proofs.OrderLemmas.{shares_ascend}
use Rattle.report_reading.proofs.certs.shares.Goals as goal

pub lines-preserved : goal.lines-preserved
lines-preserved c = shares_step (at_of c.args.from.number c.args.from.rest.now) (at_of c.lines.at.number c.lines.at.rest.now) (at_of c.in-Some.line.after.number c.in-Some.line.after.rest.now) c.lines.least _ c.lines.shares.items c.add.new.list.items c.in-Ok.found (later_words (map (λ w. w.now) c.in-Some.line.words.items)) (map (λ w. w.now) c.words.result.now) c.lines.invariant (rw c.in-Some.is at c.in_ok-line.ensures) c.words.ensures c.in-Ok.ensures.ok c.in-Ok.ensures.at c.in-Ok.ensures.form refl c.in_ok-add-in-Ok.ensures

pub returns-clause-ok : goal.returns-clause-ok
returns-clause-ok c = passes_on share_rule 0 (at_of c.args.from.number c.args.from.rest.now) c.lines.least (at_of c.lines.at.number c.lines.at.rest.now) (map share_line c.lines.shares.items) c.lines.invariant.0 (rw c.in_default.is at c.in_ok-line.ensures)

pub returns-clause-form : goal.returns-clause-form
returns-clause-form c = record { ascend = shares_ascend c.lines.shares.items c.lines.invariant.1.pairs; form = c.lines.invariant.2 }

pub returns-in-Err-clause-err : goal.returns-in-Err-clause-err
returns-in-Err-clause-err c = flaw_stops share_rule 0 (at_of c.args.from.number c.args.from.rest.now) c.lines.least (at_of c.lines.at.number c.lines.at.rest.now) (at_of c.in-Some.line.after.number c.in-Some.line.after.rest.now) (map share_line c.lines.shares.items) (later_words (map (λ w. w.now) c.in-Some.line.words.items)) (map (λ w. w.now) c.words.result.now) c.in-Err.flaw c.fault_at.result c.lines.invariant.0 (rw c.in-Some.is at c.in_ok-line.ensures) c.words.ensures c.in-Err.ensures.err c.fault_at.ensures
