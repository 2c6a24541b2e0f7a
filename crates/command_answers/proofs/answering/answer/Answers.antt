use Rattle.std.proofs.Common.{map, refl}
use Rattle.std.specs.Prelude.{string_bytes}
use Rattle.command_perform.specs.Words.{asked_by}
use Rattle.command_perform.proofs.CompileChecks.{checkable_of}
use Rattle.command_perform.proofs.Endings.{answers_of, done_of, no_command_of}
use Rattle.command_perform.proofs.MakeRuns.{make_ends_of}
use Rattle.command_perform.proofs.Succeeding.{succeeds_of}
use Rattle.command_answers.proofs.answering.answer.Goals as goal

pub returns-clause-done : goal.returns-clause-done
returns-clause-done g c = done_of (asked_by (map string_bytes c.args.words.now)) _ _ _ _ c.perform.result c.perform.ensures.ends

pub returns-clause-checked : goal.returns-clause-checked
returns-clause-checked g c = checkable_of (asked_by (map string_bytes c.args.words.now)) (map string_bytes c.args.words.now) _ _ _ _ c.perform.result refl c.perform.ensures.ends c.perform.ensures.range

pub returns-clause-make : goal.returns-clause-make
returns-clause-make g c = make_ends_of (asked_by (map string_bytes c.args.words.now)) _ _ _ _ c.perform.result c.perform.ensures.ends c.perform.ensures.range

pub returns-clause-succeeds : goal.returns-clause-succeeds
returns-clause-succeeds g c = λ s. succeeds_of (asked_by (map string_bytes c.args.words.now)) _ _ _ _ c.perform.result s c.perform.ensures.ends

pub returns-clause-answers : goal.returns-clause-answers
returns-clause-answers g c = answers_of (asked_by (map string_bytes c.args.words.now)) _ _ _ _ c.perform.result c.perform.ensures.ends

pub returns-clause-no_command : goal.returns-clause-no_command
returns-clause-no_command g c = no_command_of (asked_by (map string_bytes c.args.words.now)) _ _ _ _ c.perform.result c.perform.ensures.ends

pub returns-clause-ends : goal.returns-clause-ends
returns-clause-ends g c = c.perform.ensures.ends

pub returns-clause-built : goal.returns-clause-built
returns-clause-built g c = c.perform.ensures.built
