use Rattle.std.proofs.Common.{◌∙◌}
use Rattle.command_perform.proofs.FileRuns.{goes_on}
use Rattle.command_perform.proofs.files.read_more.Goals as goal

pub returns-in-Ok-extend_from_slice-clause-read : goal.returns-in-Ok-extend_from_slice-clause-read
returns-in-Ok-extend_from_slice-clause-read g c = goes_on _ _ _ _ c.read_at.new.buf _ _ c.in-Ok.ensures.read (c.len.ensures ∙ c.args.bytes.now.ok.0) c.in-Ok-extend_from_slice.ensures.items
