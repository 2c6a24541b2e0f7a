use Rattle.std.proofs.Common.{◌≡◌, drop}
use Rattle.claims_definition.specs.Movables.{is_only}
use Rattle.claims_movables.proofs.alone.is_only.Given as goal

abbrev pub invariant-loop-other : goal.invariant-loop-other
invariant-loop-other l = is_only l.array (drop l.other-index l.arrays) ≡ is_only l.array l.arrays
