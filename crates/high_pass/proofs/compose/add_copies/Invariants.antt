use Rattle.std.proofs.Common.{◌≡◌, ◌++◌, map, take}
use Rattle.high_pass.specs.Composing.{times}
use Rattle.high_pass.proofs.compose.add_copies.Given as goal

abbrev pub invariant-loop-copy : goal.invariant-loop-copy
invariant-loop-copy l = l.all.items ≡ l.initial.all.items ++ map (times l.factor) (take l.copy-index l.copies)
