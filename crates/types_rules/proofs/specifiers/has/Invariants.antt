use Rattle.std.proofs.Common.{◌≡◌, drop}
use Rattle.types_rules.specs.Specifiers.{has}
use Rattle.types_rules.proofs.specifiers.has.Given as goal

abbrev pub invariant-loop-other : goal.invariant-loop-other
invariant-loop-other l = has l.word l.specifiers ≡ has l.word (drop l.other-index l.specifiers)
