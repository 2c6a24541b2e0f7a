use Rattle.std.proofs.Common.{◌≡◌, ◌++◌, map, take}
use Rattle.high_pass.specs.Composing.{at_mark}
use Rattle.high_pass.proofs.compose.add_nevers.Given as goal

abbrev pub invariant-loop-mark : goal.invariant-loop-mark
invariant-loop-mark l = l.all.items ≡ l.initial.all.items ++ map (at_mark l.never) (take l.mark-index l.marks)
