use Rattle.std.proofs.Common.{map, refl}
use Rattle.report_text.specs.Lines.{scale_line}
use Rattle.report_rules.specs.CertRules.{scale_rule}
use Rattle.report_reading.specs.Reading.{at_of}
use Rattle.report_reading.specs.Sections.{later_words}
use Rattle.report_reading.proofs.PassLemmas.{one_line, one_flaw}
use Rattle.report_reading.proofs.single.scale_at.Goals as goal

pub returns-in-Ok-clause-ok : goal.returns-in-Ok-clause-ok
returns-in-Ok-clause-ok c = one_line scale_rule tt tt (at_of c.args.from.number c.args.from.rest.now) (at_of c.in-Some.line.after.number c.in-Some.line.after.rest.now) (later_words (map (λ w. w.now) c.in-Some.line.words.items)) (map (λ w. w.now) c.words.result.now) (scale_line c.in-Ok.number) c.requires (rw c.in-Some.is at c.in_ok-next_line.ensures) c.words.ensures c.in-Ok.ensures.ok refl

pub returns-clause-err : goal.returns-clause-err
returns-clause-err c = one_flaw scale_rule tt (at_of c.args.from.number c.args.from.rest.now) (at_of c.in-Some.line.after.number c.in-Some.line.after.rest.now) (later_words (map (λ w. w.now) c.in-Some.line.words.items)) (map (λ w. w.now) c.words.result.now) c.in-Err.flaw c.fault_at.result (rw c.in-Some.is at c.in_ok-next_line.ensures) c.words.ensures c.in-Err.ensures.err c.fault_at.ensures
