use Rattle.std.proofs.Common.{◌-◌, length}
use Rattle.command_perform.specs.Files.{HasWritten}
use Rattle.command_perform.proofs.files.write_all.Given as goal

abbrev pub invariant-loop-done : goal.invariant-loop-done
invariant-loop-done g l = HasWritten (g.S.Store.state l.fn.store) (g.S.Store.state l.store) l.name l.bytes l.done

abbrev pub decreases-loop-done : goal.decreases-loop-done
decreases-loop-done g l = length l.bytes - l.done
