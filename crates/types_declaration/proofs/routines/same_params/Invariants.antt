use Rattle.std.proofs.Common.{◌≡◌, drop, length}
use Rattle.types_rules.specs.Scope.{same_params}
use Rattle.types_declaration.proofs.routines.same_params.Given as goal

abbrev pub invariant-loop-i : goal.invariant-loop-i
invariant-loop-i l = (length l.one ≡ length l.other) × (same_params l.one l.other ≡ same_params (drop l.i l.one) (drop l.i l.other))
