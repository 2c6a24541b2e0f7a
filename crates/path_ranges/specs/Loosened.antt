-- A system without what keeps flows from visits: every address may be visited, and a loop may turn as often as it multiplies its starts, but need not.
use Rattle.std.specs.Prelude.{List, [], ◌∷◌}
use Rattle.code_flow_system.specs.declared.claims.LoopClaim.{LoopClaim}
use Rattle.code_flow_system.specs.Claims.{Claims}
use Rattle.code_flow_system.specs.Systems.{System}
use Rattle.code_flow_system.specs.Loose.{most_turns}

abbrev pub loose_claim : LoopClaim → LoopClaim
loose_claim c = record { source = c.source; factor = c.factor; min = 0; max = most_turns c; header = c.header; back = c.back }

abbrev pub loose_loops : List LoopClaim → List LoopClaim
loose_loops [] = []
loose_loops (c ∷ cs) = loose_claim c ∷ loose_loops cs

abbrev pub loose_claims : Claims → Claims
loose_claims c = record { exits = c.exits; nevers = []; regions = c.regions; loops = loose_loops c.loops; facts = [] }

abbrev pub loosened : System → System
loosened s = record { entry = s.entry; claims = loose_claims s.claims; moves = s.moves }
