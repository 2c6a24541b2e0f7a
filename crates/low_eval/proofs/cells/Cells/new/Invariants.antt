use Rattle.std.proofs.Common.{◌≡◌, map}
use Rattle.std.specs.List.{range_with_len}
use Rattle.low_ir.specs.View.{object_of}
use Rattle.low_eval.specs.First.{first_element}
use Rattle.low_eval.proofs.cells.Cells.new.Given as goal

abbrev pub invariant-loop-index : goal.invariant-loop-index
invariant-loop-index l = l.elements.items ≡ map (first_element l.object.storage (object_of l.object)) (range_with_len 0 l.index)
