use Rattle.std.proofs.Common.{◌≡◌, drop, map}
use Rattle.low_ir.specs.Formed.{registers_in}
use Rattle.low_ir.specs.View.{operand_of}
use Rattle.register_live_ranges.specs.Accesses.{reads_noted}
use Rattle.register_live_ranges.specs.Rows.{rows_of}
use Rattle.register_live_ranges.proofs.accesses.put_arguments.Given as goal

abbrev pub invariant-loop-operand : goal.invariant-loop-operand
invariant-loop-operand l =
    reads_noted (rows_of l.rows.items) l.fn.access (registers_in (map operand_of (drop l.operand-index l.operands)))
    ≡ reads_noted (rows_of l.initial.rows.items) l.fn.access (registers_in (map operand_of l.operands))
