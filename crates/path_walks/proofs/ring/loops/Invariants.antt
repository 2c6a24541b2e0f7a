use Rattle.std.proofs.Common.{◌≡◌, ◌++◌, drop}
use Rattle.path_places.specs.Places.{loops_of}
use Rattle.path_walks.specs.Prices.{price_in}
use Rattle.path_walks.proofs.ring.loops.Given as goal

abbrev pub invariant-loop-i : goal.invariant-loop-i
invariant-loop-i l =
    let s = l.priced.system.now in
    let price = price_in s.moves l.priced.prices.now in
    l.loops.items ++ loops_of price l.priced.low s.moves s.claims l.span l.steps (drop l.i s.claims.loops) (drop l.i l.priced.shapes.now) ≡ loops_of price l.priced.low s.moves s.claims l.span l.steps s.claims.loops l.priced.shapes.now
