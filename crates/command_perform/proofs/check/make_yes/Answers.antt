use Rattle.rv_core.specs.Table.{table_of}
use Rattle.command_words.specs.Held.{check_request}
use Rattle.command_perform.proofs.Charges.{check_charged, check_uncharged}
use Rattle.command_perform.proofs.check.make_yes.Goals as goal

pub returns-in-Ok : goal.returns-in-Ok
returns-in-Ok c = check_charged (check_request c.args.asked) c.args.contents.items c.in-Ok.image c.in-Ok.report (table_of c.in-Ok.costs) c.yes_with.result c.in-Ok.ensures c.yes_with.ensures

pub returns-in-Err : goal.returns-in-Err
returns-in-Err c = check_uncharged (check_request c.args.asked) c.args.contents.items c.in-Err.status c.in-Err.ensures
