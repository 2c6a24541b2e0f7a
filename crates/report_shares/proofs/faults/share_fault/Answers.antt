use Rattle.rv_core.specs.Table.{table_of}
use Rattle.report_shares.proofs.FaultLemmas.{fits}
use Rattle.report_shares.proofs.faults.share_fault.Goals as goal

pub returns-clause-fit : goal.returns-clause-fit
returns-clause-fit c = fits (table_of c.args.costs.now) c.args.system.now c.args.flow.now.parts c.args.shares.now c.first_fault.result c.requires.shares c.requires.shares_ascend c.first_fault.ensures
