use Rattle.rv_core.specs.Table.{table_of}
use Rattle.command_perform.proofs.TaskRuns.{left_over, none_left, taking_begins, taking_more, taking_fails, taking_ends, failed_reads}
use Rattle.command_perform.proofs.respond.checked_tasks.Goals as goal

pub tasks-init : goal.tasks-init
tasks-init g c = taking_begins (table_of c.args.costs.now) c.args.entries.now (g.S.Store.state c.args.store.now) _ c.new-tasks.ensures.items

pub tasks-preserved : goal.tasks-preserved
tasks-preserved g c =
    taking_more (table_of c.args.costs.now) c.args.entries.now _ c.entry-item.result _ _ _ _ _ _ _ (left_over c.args.entries.now c.tasks.entry-index c.entry-item.result c.tasks-test.true c.entry-item.is) c.in-Ok-push.ensures.items c.tasks.invariant c.in-Ok.ensures.task c.in-Ok.ensures.reads

pub returns-in-Err-clause-tasks : goal.returns-in-Err-clause-tasks
returns-in-Err-clause-tasks g c =
    taking_fails (table_of c.args.costs.now) c.args.entries.now _ c.entry-item.result _ _ _ _ _ (left_over c.args.entries.now c.tasks.entry-index c.entry-item.result c.tasks-test.true c.entry-item.is) c.tasks.invariant c.in-Err.ensures.task

pub returns-in-Err-clause-reads : goal.returns-in-Err-clause-reads
returns-in-Err-clause-reads g c = failed_reads _ _ _ _ _ _ _ _ c.tasks.invariant c.in-Err.ensures.reads

pub returns-clause-tasks : goal.returns-clause-tasks
returns-clause-tasks g c = taking_ends (table_of c.args.costs.now) c.args.entries.now _ _ _ _ (none_left c.args.entries.now c.tasks.entry-index c.tasks-test.false) c.tasks.invariant
