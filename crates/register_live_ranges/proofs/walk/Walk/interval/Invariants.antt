use Rattle.low_ir.specs.View.{function_of}
use Rattle.register_live_ranges.specs.Walks.{restarted}
use Rattle.register_live_ranges.proofs.Taking.{room}
use Rattle.register_live_ranges.proofs.Walking.{Walks}
use Rattle.register_live_ranges.proofs.walk.Walk.interval.Given as goal

abbrev pub invariant-loop-block : goal.invariant-loop-block
invariant-loop-block l = Walks l.fn.register (function_of l.reading.function.now).blocks (restarted l.fn.self) l.self

abbrev pub decreases-loop-block : goal.decreases-loop-block
decreases-loop-block l = room l.fn.register l.self
