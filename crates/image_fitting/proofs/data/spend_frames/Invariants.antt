use Rattle.std.proofs.Common.{◌≡◌, ◌+◌, drop, map}
use Rattle.low_ir.specs.Places.{place_functions}
use Rattle.low_ir.specs.Placings.{assignment_of}
use Rattle.low_ir.specs.View.{function_of}
use Rattle.image_definition.specs.Sizes.{frames_room}
use Rattle.image_fitting.proofs.data.spend_frames.Given as goal

abbrev pub invariant-loop-number : goal.invariant-loop-number
invariant-loop-number l =
    l.from + frames_room (place_functions (assignment_of l.code) l.number (map function_of (drop l.number l.code.low.functions.items)))
    ≡ l.left + frames_room (place_functions (assignment_of l.code) 0 (map function_of l.code.low.functions.items))
