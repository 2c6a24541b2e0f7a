use Rattle.std.proofs.Common.{◌≡◌, map}
use Rattle.low_eval.proofs.Behind.{behind}
use Rattle.low_ir.specs.Places.{place_in, place_operand, places}
use Rattle.low_ir.specs.Runs.{values}
use Rattle.low_ir.specs.View.{operand_of}
use Rattle.register_eval.proofs.Behind.{values_from}
use Rattle.register_eval.specs.Tables.{table_of}
use Rattle.register_eval.proofs.file.File.values.Given as goal

abbrev pub invariant-loop-operand : goal.invariant-loop-operand
invariant-loop-operand l = behind l.values.items (values_from (table_of l.table) l.self l.operands l.operand-index) ≡ values places l.self (map (place_operand (place_in (table_of l.table))) (map operand_of l.operands))
