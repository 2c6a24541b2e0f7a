use Rattle.std.proofs.Common.{[], ap, arith, map, sym, ℤ, ◌++◌, ◌+◌, ◌∙◌, ◌∷◌, ◌≡◌}
use Rattle.std.specs.Int.{w128}
use Rattle.std.proofs.lemmas.Int.{to_z-of_z}
use Rattle.report_text.specs.Lines.{never_line, paired}
use Rattle.report_rules.specs.ClaimRules.{never_rule}
use Rattle.report_reading.specs.Reading.{at_of}
use Rattle.report_reading.specs.Sections.{later_words}
use Rattle.report_reading.proofs.PassLemmas.{flaw_stops, passes_on}
use Rattle.report_reading.proofs.StepLemmas.{nevers_step}
use Rattle.report_reading.proofs.SmallLemmas.{small_fits}
use Rattle.report_reading.proofs.OrderLemmas.{ascend_by}
use Rattle.report_reading.proofs.claims.nevers.Goals as goal

pub lines-preserved : goal.lines-preserved
lines-preserved c =
    let held = to_z-of_z w128 c.in-Ok.multiplier (small_fits c.in-Ok.multiplier c.in-Ok.ensures.small) in
    let pushed : c.add-in-Ok.new.list.items ≡ c.lines.by.items ++ c.in-Ok.multiplier ∷ [] = c.in_ok-add-in-Ok-2.ensures ∙ ap (λ (m : ℤ). c.lines.by.items ++ m ∷ []) held in
    nevers_step (at_of c.args.from.number c.args.from.rest.now) (at_of c.lines.at.number c.lines.at.rest.now) (at_of c.in-Some.line.after.number c.in-Some.line.after.rest.now) c.lines.least (c.from-least.result + 1) c.lines.nevers.items c.add.new.list.items c.lines.by.items c.add-in-Ok.new.list.items c.in-Ok.claim c.in-Ok.multiplier (later_words (map (λ w. w.now) c.in-Some.line.words.items)) (map (λ w. w.now) c.words.result.now) c.lines.invariant (rw c.in-Some.is at c.in_ok-line.ensures) c.words.ensures c.in-Ok.ensures.ok c.in-Ok.ensures.at c.in-Ok.ensures.small (omega (arith, c.from-least.ensures)) c.in_ok-add-in-Ok.ensures pushed

pub returns-clause-ok : goal.returns-clause-ok
returns-clause-ok c = passes_on never_rule 0 (at_of c.args.from.number c.args.from.rest.now) c.lines.least (at_of c.lines.at.number c.lines.at.rest.now) (paired never_line c.lines.nevers.items c.lines.by.items) c.lines.invariant.0 (rw c.in_default.is at c.in_ok-line.ensures)

pub returns-clause-form : goal.returns-clause-form
returns-clause-form c = record { as_many = sym c.lines.invariant.1; ascend = ascend_by (λ n. n.at) c.lines.nevers.items c.lines.invariant.2.pairs; small = c.lines.invariant.3 }

pub returns-in-Err-clause-err : goal.returns-in-Err-clause-err
returns-in-Err-clause-err c = flaw_stops never_rule 0 (at_of c.args.from.number c.args.from.rest.now) c.lines.least (at_of c.lines.at.number c.lines.at.rest.now) (at_of c.in-Some.line.after.number c.in-Some.line.after.rest.now) (paired never_line c.lines.nevers.items c.lines.by.items) (later_words (map (λ w. w.now) c.in-Some.line.words.items)) (map (λ w. w.now) c.words.result.now) c.in-Err.flaw c.fault_at.result c.lines.invariant.0 (rw c.in-Some.is at c.in_ok-line.ensures) c.words.ensures c.in-Err.ensures.err c.fault_at.ensures
