use Rattle.std.proofs.Common.{◌≡◌, ◌++◌, length, map}
use Rattle.std.specs.Prelude.{reverse}
use Rattle.low_ir.specs.View.{loop_of}
use Rattle.lower_definition.specs.Programs.{turned_loop}
use Rattle.low_make.proofs.functions.turned_loops.Given as goal

abbrev pub invariant-loop-other : goal.invariant-loop-other
invariant-loop-other l = map loop_of l.turned.items ++ map (turned_loop l.last) (reverse (map loop_of l.loops.items)) ≡ map (turned_loop l.last) (reverse (map loop_of l.initial.loops.items))

abbrev pub decreases-loop-other : goal.decreases-loop-other
decreases-loop-other l = length l.loops.items
