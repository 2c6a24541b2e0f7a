use Rattle.std.proofs.Common.{◌-◌, length}
use Rattle.path_fit.proofs.NestLemmas.{EndBy}
use Rattle.path_fit.proofs.nest.is_closed.Given as goal

abbrev pub invariant-loop-next : goal.invariant-loop-next
invariant-loop-next l = EndBy l.shapes l.fn.place l.next l.last

abbrev pub decreases-loop-next : goal.decreases-loop-next
decreases-loop-next l = length l.shapes - l.next
