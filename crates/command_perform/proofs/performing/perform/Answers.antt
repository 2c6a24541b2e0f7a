use Rattle.std.proofs.Common.{map, string_bytes, sym}
use Rattle.command_perform.specs.Asked.{asked_of}
use Rattle.command_perform.specs.Words.{asked_by}
use Rattle.command_perform.proofs.Building.{asked_built, nothing_built, unread_built}
use Rattle.command_perform.proofs.Endings.{asked_ends, no_command, unread_words}
use Rattle.command_perform.proofs.Ranges.{in_range, none_in_range, unread_in_range}
use Rattle.command_perform.proofs.performing.perform.Goals as goal

pub returns-in-Ok-Some-clause-ends : goal.returns-in-Ok-Some-clause-ends
returns-in-Ok-Some-clause-ends g c =
    let asked = rw c.in-Ok-Some.field-0-is at c.in-Ok-Some.ensures in
    asked_ends (asked_by (map string_bytes c.args.words.now)) (asked_of c.in-Ok-Some.asked) _ _ _ _ c.perform_asked.result asked c.perform_asked.ensures.ends

pub returns-in-Ok-Some-clause-built : goal.returns-in-Ok-Some-clause-built
returns-in-Ok-Some-clause-built g c =
    let asked = rw c.in-Ok-Some.field-0-is at c.in-Ok-Some.ensures in
    λ done. asked_built g.C.Compiler.builds (asked_by (map string_bytes c.args.words.now)) (asked_of c.in-Ok-Some.asked) _ _ asked (c.perform_asked.ensures.built done)

pub returns-in-Ok-Some-clause-range : goal.returns-in-Ok-Some-clause-range
returns-in-Ok-Some-clause-range g c =
    let asked = rw c.in-Ok-Some.field-0-is at c.in-Ok-Some.ensures in
    in_range (asked_by (map string_bytes c.args.words.now)) c.in-Ok-Some.asked c.perform_asked.result asked

pub returns-in-Ok-None-clause-ends : goal.returns-in-Ok-None-clause-ends
returns-in-Ok-None-clause-ends g c =
    let asked = rw c.in-Ok-None.field-0-is at c.in-Ok-None.ensures in
    no_command (asked_by (map string_bytes c.args.words.now)) _ _ _ c.report_status.result (sym asked) c.report_status.ensures

pub returns-in-Ok-None-clause-built : goal.returns-in-Ok-None-clause-built
returns-in-Ok-None-clause-built g c =
    let asked = rw c.in-Ok-None.field-0-is at c.in-Ok-None.ensures in
    λ done. nothing_built g.C.Compiler.builds (asked_by (map string_bytes c.args.words.now)) _ _ (sym asked)

pub returns-in-Ok-None-clause-range : goal.returns-in-Ok-None-clause-range
returns-in-Ok-None-clause-range g c =
    let asked = rw c.in-Ok-None.field-0-is at c.in-Ok-None.ensures in
    none_in_range (asked_by (map string_bytes c.args.words.now)) c.report_status.result asked

pub returns-in-Err-clause-ends : goal.returns-in-Err-clause-ends
returns-in-Err-clause-ends g c = unread_words (asked_by (map string_bytes c.args.words.now)) _ _ _ c.report_status-in-Err.result c.report_status-in-Err.ensures

pub returns-in-Err-clause-built : goal.returns-in-Err-clause-built
returns-in-Err-clause-built g c = unread_built g.C.Compiler.builds (asked_by (map string_bytes c.args.words.now)) _ _ _ _ _ c.report_status-in-Err.result c.report_status-in-Err.ensures

pub returns-in-Err-clause-range : goal.returns-in-Err-clause-range
returns-in-Err-clause-range g c = unread_in_range (asked_by (map string_bytes c.args.words.now)) _ _ _ c.report_status-in-Err.result c.report_status-in-Err.ensures
