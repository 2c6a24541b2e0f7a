-- The placing that a table stands for.
use Rattle.low_ir.specs.Places.{Placing}
use Rattle.register_eval.specs.declared.table.Table.{Table}

abbrev pub table_of : Table → Placing
table_of t = record { places = t.places.now; kept = t.kept.now; slots = t.slots }
