use Rattle.elf_image.proofs.FaultLemmas.{stops_as, loads}
use Rattle.command_perform.proofs.RunRuns.{simulates}
use Rattle.command_perform.proofs.run.simulate.Goals as goal

pub returns-in-Err : goal.returns-in-Err
returns-in-Err c = stops_as _ c.read.result _ c.in-Err.is c.read.ensures.not_elf c.read.ensures.wrong_machine c.read.ensures.bad_segment

pub returns-in-Ok-new : goal.returns-in-Ok-new
returns-in-Ok-new c =
    simulates _ _ c.in-Ok-new.machine _ _ (loads _ c.read.result _ c.in-Ok.is c.read.ensures.ok) c.in-Ok.ensures.image c.in-Ok-new.ensures.started c.in-Ok-new.ensures.first c.run-ending.ensures.runs c.run-ending.ensures.exits c.run-ending.ensures.finishes
