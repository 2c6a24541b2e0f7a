use Rattle.std.proofs.Common.{◌≡◌, drop}
use Rattle.types_rules.specs.Specifiers.{repeats}
use Rattle.types_rules.proofs.specifiers.repeats.Given as goal

abbrev pub invariant-loop-i : goal.invariant-loop-i
invariant-loop-i l = repeats l.specifiers ≡ repeats (drop l.i l.specifiers)
