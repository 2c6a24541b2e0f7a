use Rattle.std.proofs.Common.{◌≡◌, ◌+◌, ◌<◌, ◌≤◌, ℕ, Some, map}
use Rattle.std.specs.Prelude.{slice_get}
use Rattle.low_ir.specs.Code.{Function, Note}
use Rattle.low_ir.specs.Room.{frame_room, repeated}
use Rattle.low_ir.specs.View.{function_of}
use Rattle.pass_strength_reduction.specs.Weighing.{block_worth, worth_in}
use Rattle.pass_strength_reduction.proofs.weighing.are_bounded.Given as goal

abbrev pub invariant-loop-function : goal.invariant-loop-function
invariant-loop-function l = record {
  number : l.number ≡ l.function-index;
  all : (f : ℕ) (fn : Function ℕ Note) → f < l.function-index → slice_get (map function_of l.functions) f ≡ Some fn → frame_room + repeated (block_worth l.worths) fn.loops 0 fn.blocks ≤ worth_in l.worths f;
}
