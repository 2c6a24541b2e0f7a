use Rattle.std.proofs.Common.{drop}
use Rattle.spm_placement.specs.Rows.{IsRow}
use Rattle.spm_placement.proofs.RowLemmas.{last}
use Rattle.spm_placement.proofs.rows.add_all.Given as goal

abbrev pub invariant-loop-i : goal.invariant-loop-i
invariant-loop-i l = IsRow (last l.upto l.i l.items) (drop l.upto l.items) l.row
