use Rattle.rv_core.specs.Table.{table_of}
use Rattle.command_perform.proofs.TaskRuns.{as_many, are_tasks}
use Rattle.command_perform.proofs.respond.respond_for.Goals as goal

pub answered-requires-clause-tasks : goal.answered-requires-clause-tasks
answered-requires-clause-tasks g c =
    rw c.as_slice.ensures.value (are_tasks (table_of c.args.costs.now) _ c.args.entries.now c.in-Ok.tasks.items c.requires.each c.requires.few c.in-Ok.ensures.tasks)

pub answered-requires-clause-long : goal.answered-requires-clause-long
answered-requires-clause-long g c = rw c.as_slice.ensures.value (as_many (table_of c.args.costs.now) _ c.args.entries.now c.in-Ok.tasks.items c.in-Ok.ensures.tasks)
