use Rattle.std.proofs.Common.{◌+◌, ◌-◌, length}
use Rattle.command_perform.specs.Files.{HasRead}
use Rattle.command_perform.proofs.files.read_all.Given as goal

abbrev pub invariant-loop-bytes : goal.invariant-loop-bytes
invariant-loop-bytes g l = HasRead (g.S.Store.state l.initial.store) (g.S.Store.state l.store) l.name l.bytes.items l.most (length l.buffer.items)

abbrev pub decreases-loop-bytes : goal.decreases-loop-bytes
decreases-loop-bytes g l = l.most + 1 - length l.bytes.items
