use Rattle.std.proofs.Common.{◌≡◌, ℕ, ◌<◌, ◌≤◌}
use Rattle.spm_placement.specs.Rows.{begun, cell_at}
use Rattle.spm_placement.proofs.rows.begin.Given as goal

abbrev pub invariant-loop-at : goal.invariant-loop-at
invariant-loop-at l = record {
  lower : (c : ℕ) → c < l.at → cell_at l.row c ≡ begun c (cell_at l.fn.row c);
  upper : (c : ℕ) → l.at ≤ c → cell_at l.row c ≡ cell_at l.fn.row c;
}
