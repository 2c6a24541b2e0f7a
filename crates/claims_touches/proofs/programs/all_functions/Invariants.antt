use Rattle.std.proofs.Common.{◌≡◌, ◌++◌, drop, map}
use Rattle.low_ir.specs.View.{function_of}
use Rattle.low_ir.specs.Placings.{placed_of}
use Rattle.claims_touches.specs.Named.{touch_in}
use Rattle.claims_touches.specs.Bodies.{each_touches}
use Rattle.claims_touches.proofs.programs.all_functions.Given as goal

abbrev pub invariant-loop-number : goal.invariant-loop-number
invariant-loop-number l = map (map (map (touch_in (placed_of l.code).claims))) l.all.items ++ each_touches l.memory (placed_of l.code) l.number (map function_of (drop l.number l.code.low.functions.items)) ≡ each_touches l.memory (placed_of l.code) 0 (map function_of l.code.low.functions.items)
