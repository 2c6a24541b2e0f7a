use Rattle.std.proofs.Common.{◌≡◌, ◌++◌, map, take}
use Rattle.compile_claims.specs.Named.{never_at}
use Rattle.compile_claims.proofs.nevers.add_nevers.Given as goal

abbrev pub invariant-loop-at : goal.invariant-loop-at
invariant-loop-at l = l.nevers.items ≡ l.initial.nevers.items ++ map (never_at l.mark) (take l.at-index l.addresses)
