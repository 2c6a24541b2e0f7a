use Rattle.cost_table.proofs.OneTable.{one_table, never_refused}
use Rattle.cost_table.proofs.laws.one_table.Goals as goal

pub returns-clause-one : goal.returns-clause-one
returns-clause-one c = one_table

pub returns-clause-never_refused : goal.returns-clause-never_refused
returns-clause-never_refused c = never_refused
