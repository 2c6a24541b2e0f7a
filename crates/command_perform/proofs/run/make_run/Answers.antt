use Rattle.rv_core.specs.Table.{table_of}
use Rattle.command_words.specs.Held.{run_request}
use Rattle.command_perform.proofs.Charges.{run_charged, run_uncharged}
use Rattle.command_perform.proofs.run.make_run.Goals as goal

pub returns-in-Ok : goal.returns-in-Ok
returns-in-Ok c = run_charged (run_request c.args.asked) c.args.contents.items c.in-Ok.image c.in-Ok.input (table_of c.in-Ok.costs) c.run_with.result c.in-Ok.ensures c.run_with.ensures

pub returns-in-Err : goal.returns-in-Err
returns-in-Err c = run_uncharged (run_request c.args.asked) c.args.contents.items c.in-Err.status c.in-Err.ensures
