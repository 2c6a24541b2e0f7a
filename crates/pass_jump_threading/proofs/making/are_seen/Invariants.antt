use Rattle.std.proofs.Common.{take}
use Rattle.std.specs.Prelude.{All}
use Rattle.low_ir.specs.View.{loop_of}
use Rattle.pass_jump_threading.specs.Planning.{IsSeen}
use Rattle.pass_jump_threading.proofs.making.are_seen.Given as goal

abbrev pub invariant-loop-each : goal.invariant-loop-each
invariant-loop-each l = All (λ each. IsSeen l.seen (loop_of each)) (take l.each-index l.loops)
