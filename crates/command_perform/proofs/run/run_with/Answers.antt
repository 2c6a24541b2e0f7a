use Rattle.rv_core.specs.Table.{table_of}
use Rattle.command_words.specs.Held.{run_request}
use Rattle.command_perform.specs.Outputs.{outputs_of}
use Rattle.command_perform.specs.Commands.{job_of}
use Rattle.command_perform.proofs.RunRuns.{makes_output, ran_ends}
use Rattle.command_perform.proofs.run.run_with.Goals as goal

pub returns-in-Ok-outputs : goal.returns-in-Ok-outputs
returns-in-Ok-outputs c =
    let s = rw (c.as_slice.ensures, c.into_vec.ensures, c.cycle_limit-limit.ensures.value) at c.in-Ok.ensures in
    let asked = run_request c.args.asked in
    let ran = c.in-Ok.ran in
    let made = outputs_of c.in-Ok-outputs.made in
    (ran_ends asked.output ran.machine ran.ending made c.in-Ok-outputs.ensures, makes_output asked.output (job_of asked (table_of c.args.costs) _ _) ran.machine ran.ending made s c.in-Ok-outputs.ensures)
