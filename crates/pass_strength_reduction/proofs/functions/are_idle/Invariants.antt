use Rattle.std.proofs.Common.{map, take}
use Rattle.std.specs.Prelude.{All, slice_get}
use Rattle.low_ir.specs.View.{block_of, loop_of}
use Rattle.pass_strength_reduction_law.specs.Steps.{IsIdle}
use Rattle.pass_strength_reduction.proofs.functions.are_idle.Given as goal

abbrev pub invariant-loop-each : goal.invariant-loop-each
invariant-loop-each l = All (λ each. IsIdle (slice_get (map block_of l.blocks) (loop_of each).latch)) (take l.each-index l.loops)
