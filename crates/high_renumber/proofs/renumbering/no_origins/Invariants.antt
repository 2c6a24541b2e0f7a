use Rattle.std.proofs.Common.{◌≡◌}
use Rattle.std.specs.List.{range_with_len}
use Rattle.high_renumber.proofs.renumbering.no_origins.Given as goal

abbrev pub invariant-loop-i : goal.invariant-loop-i
invariant-loop-i l = l.marks.items ≡ range_with_len 0 l.i
