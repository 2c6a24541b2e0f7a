use Rattle.std.proofs.Common.{◌≡◌, take}
use Rattle.std.specs.List.{flat_map}
use Rattle.compile_claims.specs.Places.{places_at}
use Rattle.compile_claims.proofs.copies.places_of.Given as goal

abbrev pub invariant-loop-mark : goal.invariant-loop-mark
invariant-loop-mark l = l.all.items ≡ flat_map (places_at l.places) (take l.mark-index l.marks)
