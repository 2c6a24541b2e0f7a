use Rattle.std.proofs.Common.{◌≡◌, ◌+◌, drop}
use Rattle.types_rules.specs.Sights.{number_of}
use Rattle.c_types.proofs.outline.number_of.Given as goal

abbrev pub invariant-loop-i : goal.invariant-loop-i
invariant-loop-i l = number_of l.name l.names ≡ l.i + number_of l.name (drop l.i l.names)
