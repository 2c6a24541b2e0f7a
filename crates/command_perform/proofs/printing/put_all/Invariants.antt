use Rattle.std.proofs.Common.{◌-◌, length}
use Rattle.command_perform.specs.Files.{HasPut}
use Rattle.command_perform.proofs.printing.put_all.Given as goal

abbrev pub invariant-loop-done : goal.invariant-loop-done
invariant-loop-done g l = HasPut (g.O.Sink.state l.fn.out) (g.O.Sink.state l.out) l.bytes l.done

abbrev pub decreases-loop-done : goal.decreases-loop-done
decreases-loop-done g l = length l.bytes - l.done
