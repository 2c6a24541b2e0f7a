use Rattle.std.proofs.Common.{◌≡◌, ◌++◌, drop, map}
use Rattle.low_ir.specs.View.{function_of}
use Rattle.low_ir.specs.Placings.{placed_of}
use Rattle.asm_code.specs.Bodies.{each_items}
use Rattle.asm_code.proofs.programs.all_functions.Given as goal

abbrev pub invariant-loop-number : goal.invariant-loop-number
invariant-loop-number l = l.all.items ++ each_items l.memory (placed_of l.code) l.number (map function_of (drop l.number l.code.low.functions.items)) ≡ each_items l.memory (placed_of l.code) 0 (map function_of l.code.low.functions.items)
