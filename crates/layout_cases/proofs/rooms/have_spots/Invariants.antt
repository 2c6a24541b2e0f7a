use Rattle.std.proofs.Common.{drop, map}
use Rattle.low_ir.specs.View.{function_of}
use Rattle.image_saving.specs.Walks.{HaveSpots}
use Rattle.layout_cases.proofs.rooms.have_spots.Given as goal

abbrev pub invariant-loop-function : goal.invariant-loop-function
invariant-loop-function l = HaveSpots (map function_of (drop l.function-index l.functions)) → HaveSpots (map function_of l.functions)
