use Rattle.std.proofs.Common.{◌≡◌, ◌+◌, drop, map}
use Rattle.low_ir.specs.View.{function_of}
use Rattle.low_ir.specs.Placings.{assignment_of}
use Rattle.layout_cases.specs.Rooms.{words_from}
use Rattle.layout_cases.proofs.rooms.frames.Given as goal

abbrev pub invariant-loop-number : goal.invariant-loop-number
invariant-loop-number l = l.sum + words_from (assignment_of l.code) l.number (map function_of (drop l.number l.code.low.functions.items)) ≡ words_from (assignment_of l.code) 0 (map function_of l.code.low.functions.items)
