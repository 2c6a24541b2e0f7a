use Rattle.std.proofs.Common.{rules}
use Rattle.command_perform.proofs.Evaluations.{makes_run}
use Rattle.command_perform.proofs.evaluate.make_evaluated.Goals as goal

pub returns-in-Ok-outputs : goal.returns-in-Ok-outputs
returns-in-Ok-outputs c =
    let run = rw (c.as_slice.ensures, c.as_slice-2.ensures) at c.in-Ok.ensures in
    ((search rules), makes_run _ _ _ c.in-Ok.run' _ run c.in-Ok-outputs.ensures)
