use Rattle.std.proofs.Common.{map, refl}
use Rattle.report_text.specs.Lines.{cycles_line}
use Rattle.report_rules.specs.Heads.{cycles_rule}
use Rattle.report_reading.specs.Reading.{at_of}
use Rattle.report_reading.specs.Sections.{later_words}
use Rattle.report_reading.proofs.PassLemmas.{one_line, one_flaw}
use Rattle.report_reading.proofs.single.cycles_at.Goals as goal

pub returns-in-Ok-clause-ok : goal.returns-in-Ok-clause-ok
returns-in-Ok-clause-ok c = one_line cycles_rule tt tt (at_of c.args.from.number c.args.from.rest.now) (at_of c.in-Some.line.after.number c.in-Some.line.after.rest.now) (later_words (map (λ w. w.now) c.in-Some.line.words.items)) (map (λ w. w.now) c.words.result.now) (cycles_line c.in-Ok.number) c.requires (rw c.in-Some.is at c.in_ok-next_line.ensures) c.words.ensures c.in-Ok.ensures.ok refl

pub returns-clause-err : goal.returns-clause-err
returns-clause-err c = one_flaw cycles_rule tt (at_of c.args.from.number c.args.from.rest.now) (at_of c.in-Some.line.after.number c.in-Some.line.after.rest.now) (later_words (map (λ w. w.now) c.in-Some.line.words.items)) (map (λ w. w.now) c.words.result.now) c.in-Err.flaw c.fault_at.result (rw c.in-Some.is at c.in_ok-next_line.ensures) c.words.ensures c.in-Err.ensures.err c.fault_at.ensures
