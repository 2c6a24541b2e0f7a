use Rattle.std.proofs.Common.{◌≡◌, take}
use Rattle.std.specs.List.{flat_map}
use Rattle.compile_claims.specs.Named.{nevers_at}
use Rattle.compile_claims.proofs.nevers.nevers_by_mark.Given as goal

abbrev pub invariant-loop-mark : goal.invariant-loop-mark
invariant-loop-mark l = l.nevers.items ≡ flat_map (nevers_at l.places) (take l.mark-index l.marks)
