use Rattle.rv_core.specs.Table.{table_of}
use Rattle.report_shares.proofs.AddUpLemmas.{parts_add_up}
use Rattle.report_shares.proofs.laws.shares_add_up.Goals as goal

pub returns : goal.returns
returns c = parts_add_up (table_of c.args._costs.now) c.args._system.now c.args._flow.now.parts c.args._shares.now c.requires
