use Rattle.toml.proofs.Views.{table_get}
use Rattle.cost_table.proofs.Lookups.{found_some, found_none}
use Rattle.cost_table.proofs.numbers.has_key.Goals as goal

pub returns-in-Some : goal.returns-in-Some
returns-in-Some c = rw (found_some c.get.result _ c.in-Some.field-0 (table_get c.get.result c.args.key.name.now c.args.table.now.entries c.get.ensures.value) c.in-Some.is)

pub returns-in-None : goal.returns-in-None
returns-in-None c = rw (found_none c.get.result _ (table_get c.get.result c.args.key.name.now c.args.table.now.entries c.get.ensures.value) c.in-None.is)
