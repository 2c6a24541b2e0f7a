use Rattle.std.proofs.Common.{◌∙◌, sym, inr}
use Rattle.toml.specs.View.{table_view}
use Rattle.cost_table.proofs.FirstFaults.{refused}
use Rattle.cost_table.proofs.reading.read.Goals as goal

pub returns-in-Some : goal.returns-in-Some
returns-in-Some c = inr (refused c.args.bytes.now (table_view c.in-Ok.table) c.in-Some.fault
    (record { text = c.in-Ok.ensures.ok.0; parsed = c.in-Ok.ensures.ok.1 }) (sym c.first_fault.ensures ∙ c.in-Some.is))
