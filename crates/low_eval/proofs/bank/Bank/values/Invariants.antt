use Rattle.std.proofs.Common.{◌≡◌, map}
use Rattle.low_ir.specs.Runs.{values, virtual}
use Rattle.low_ir.specs.View.{operand_of}
use Rattle.low_eval.proofs.Behind.{behind, values_from}
use Rattle.low_eval.proofs.bank.Bank.values.Given as goal

abbrev pub invariant-loop-operand : goal.invariant-loop-operand
invariant-loop-operand l = behind l.values.items (values_from l.self l.operands l.operand-index) ≡ values virtual l.self (map operand_of l.operands)
