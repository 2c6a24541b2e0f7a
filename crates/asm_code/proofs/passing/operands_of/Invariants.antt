use Rattle.std.proofs.Common.{◌≡◌, ◌++◌, drop, map}
use Rattle.low_ir.specs.View as view
use Rattle.low_ir.specs.Places.{place_operand}
use Rattle.asm_emission.specs.View.{operand_of, place_at}
use Rattle.asm_code.proofs.passing.operands_of.Given as goal

abbrev pub invariant-loop-operand : goal.invariant-loop-operand
invariant-loop-operand l = map operand_of l.placed.items ++ map (place_operand (place_at l.places)) (map view.operand_of (drop l.operand-index l.operands)) ≡ map (place_operand (place_at l.places)) (map view.operand_of l.operands)
