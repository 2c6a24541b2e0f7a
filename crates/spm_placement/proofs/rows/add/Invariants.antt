use Rattle.std.proofs.Common.{◌-◌, length}
use Rattle.spm_placement.specs.Rows.{IsAdded}
use Rattle.spm_placement.proofs.rows.add.Given as goal

abbrev pub invariant-loop-i : goal.invariant-loop-i
invariant-loop-i l = IsAdded l.words l.worth (length l.row - (l.i - l.words)) l.fn.row l.row
