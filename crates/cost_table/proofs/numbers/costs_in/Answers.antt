use Rattle.toml.specs.View.{table_view}
use Rattle.cost_table.proofs.FirstFaults.{fetches}
use Rattle.cost_table.proofs.numbers.costs_in.Goals as goal

pub fetch_cost-requires : goal.fetch_cost-requires
fetch_cost-requires c = (fetches (table_view c.args.table.now) c.requires).0

pub fetch_cost-requires-2 : goal.fetch_cost-requires-2
fetch_cost-requires-2 c = (fetches (table_view c.args.table.now) c.requires).1

pub returns : goal.returns
returns c = rw (c.fetch_cost.ensures.cost, c.fetch_cost-2.ensures.cost, c.part_cost.ensures.cost, c.part_cost-2.ensures.cost, c.part_cost-3.ensures.cost, c.part_cost-4.ensures.cost, c.part_cost-5.ensures.cost, c.part_cost-6.ensures.cost, c.part_cost-7.ensures.cost, c.part_cost-8.ensures.cost, c.part_cost-9.ensures.cost, c.part_cost-10.ensures.cost, c.part_cost-11.ensures.cost, c.part_cost-12.ensures.cost, c.extra_cost.ensures.cost)
