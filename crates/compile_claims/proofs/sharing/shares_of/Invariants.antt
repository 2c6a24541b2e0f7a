use Rattle.std.proofs.Common.{◌≡◌, map, take}
use Rattle.compile_claims.specs.Shares.{share_of}
use Rattle.compile_claims.proofs.sharing.shares_of.Given as goal

abbrev pub invariant-loop-range : goal.invariant-loop-range
invariant-loop-range l = l.shares.items ≡ map (share_of l.names l.functions) (take l.range-index l.ranges)
