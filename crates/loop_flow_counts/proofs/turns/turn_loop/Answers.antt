use Rattle.std.proofs.Common.{arith, ◌-◌, [], ◌∷◌, length}
use Rattle.std.proofs.lemmas.List.Elements.{All-head}
use Rattle.loop_worths.specs.Rings.{IsRing}
use Rattle.loop_worths.proofs.CodeLemmas.{rings}
use Rattle.loop_flow_counts.proofs.turns.turn_loop.Goals as goal

pub turn_ways-requires-clause-fits : goal.turn_ways-requires-clause-fits
turn_ways-requires-clause-fits c =
    let long = length c.args.weighed.weights.now in
    let some = c.requires.some in
    All-head (IsRing long c.args.weighed.steps.now) c.args.ring [] (rings (long - 1) long c.args.weighed.steps.now (c.args.ring ∷ []) (omega (arith, some)) c.requires.steps (c.requires.ring, tt, tt))
