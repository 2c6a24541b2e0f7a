use Rattle.toml.proofs.Views.{table_get}
use Rattle.cost_table.proofs.Lookups.{found_some, found_none}
use Rattle.cost_table.proofs.numbers.cost_at.Goals as goal

pub returns-in-Some : goal.returns-in-Some
returns-in-Some c =
    let found = found_some c.get.result _ c.in-Some.value (table_get c.get.result c.args.key.name.now c.args.table.now.entries c.get.ensures.value) c.in-Some.is in
    rw (found, ← c.as_integer.ensures) c.cost_from.ensures

pub returns-in-None : goal.returns-in-None
returns-in-None c = rw (found_none c.get.result _ (table_get c.get.result c.args.key.name.now c.args.table.now.entries c.get.ensures.value) c.in-None.is) c.cost_without.ensures
