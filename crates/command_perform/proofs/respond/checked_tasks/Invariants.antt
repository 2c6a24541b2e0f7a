use Rattle.std.proofs.Common.{drop}
use Rattle.rv_core.specs.Table.{table_of}
use Rattle.command_perform.specs.Tasks.{Taking}
use Rattle.command_perform.proofs.respond.checked_tasks.Given as goal

abbrev pub invariant-tasks : goal.invariant-tasks
invariant-tasks g l = Taking (table_of l.costs) l.entries (drop l.entry-index l.entries) (g.S.Store.state l.fn.store) (g.S.Store.state l.store) l.tasks.items
