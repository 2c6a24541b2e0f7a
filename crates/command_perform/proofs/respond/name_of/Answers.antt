use Rattle.std.proofs.Common.{ap, ◌∙◌}
use Rattle.response_time.specs.Entries.{is_file}
use Rattle.command_perform.proofs.TaskRuns.{file_is_text}
use Rattle.command_perform.proofs.respond.name_of.Goals as goal

pub returns-in-Err : goal.returns-in-Err
returns-in-Err c = absurd (c.in-Err.ensures.cases.0 (file_is_text c.as_bytes.result.now (ap is_file c.as_bytes.ensures ∙ c.requires)))
