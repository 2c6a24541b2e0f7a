-- A system without its facts: the same walks, worths, flow and multipliers, since none of these looks at facts.
use Rattle.std.specs.Prelude.{[]}
use Rattle.code_flow_system.specs.Claims.{Claims}
use Rattle.code_flow_system.specs.Systems.{System}

abbrev pub free_claims : Claims → Claims
free_claims c = record { exits = c.exits; nevers = c.nevers; regions = c.regions; loops = c.loops; facts = [] }

abbrev pub free : System → System
free s = record { entry = s.entry; claims = free_claims s.claims; moves = s.moves }
