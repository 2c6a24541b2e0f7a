-- The passes of a function: chosen steps of its walk to the ends, and of the turn walks of its loops.
use Rattle.std.specs.Prelude.{ℕ, ◌-◌, ◌==◌, ◌&&◌, nat_le, nat_lt, ℤ, pos, ◌+ℤ◌, List, [], ◌∷◌, Bool, false, Option, Some, None, is_some, if◌then◌else◌}
use Rattle.std.specs.Int.RustNames.{int_le, int_lt}
use Rattle.loop_walks.specs.declared.step.Step.{Step}
use Rattle.loop_walks.specs.declared.step.Loop.{Loop}
use Rattle.loop_walks.specs.Walks.{worth_at, cost}
use Rattle.loop_walks.specs.Turns.{further, way_at, turn_ways, gain}
use Rattle.loop_walks.specs.Levels.{Level, weighed}
use Rattle.loop_flows.specs.Flows.{Turning}

-- a step that costs all that the worth falls
abbrev pub is_tight : Level → Step → Bool
is_tight g m = int_le (worth_at g.worths m.at) (cost g.weights m +ℤ worth_at g.worths m.on)

-- a way that is no longer than another one
abbrev pub is_way : Option ℤ → Option ℤ → Bool
is_way None o = false
is_way (Some x) None = false
is_way (Some x) (Some y) = int_le x y

abbrev pub in_range : Loop → ℕ → Bool
in_range l a = nat_le l.header a && nat_lt a l.end

-- a step of the loop along which the way to the jump back goes
abbrev pub is_turn : ℤ → List ℤ → Loop → List (Option ℤ) → Step → Bool
is_turn low weights l ways m = in_range l m.at && is_way (way_at ways (m.at - l.header)) (further low (cost weights m) (way_at ways (m.on - l.header)))

abbrev pub turns_from : Loop → List (Option ℤ) → ℕ → Bool
turns_from l ways a = nat_le l.header a && is_some (way_at ways (a - l.header))

-- how often a loop turns again for each start: as often as it may where a turn gains, and else as often as it has to
abbrev pub further_turns : Loop → ℤ → ℕ
further_turns l g = if int_lt g (pos 0) then (if nat_le l.min 1 then 0 else l.min - 1) else l.max - 1

abbrev pub turning_of : ℤ → List ℤ → Loop → List Step → List (Option ℤ) → ℕ → Turning
turning_of low weights l ms ways b = record {
  header = l.header;
  back = b;
  chosen = is_turn low weights l ways;
  opened = turns_from l ways;
  further = further_turns l (gain low weights l ms);
}

-- before other turnings, if there is a way from the header to the jump back
abbrev pub with_way : Option ℤ → Turning → List Turning → List Turning
with_way None t ts = ts
with_way (Some x) t ts = t ∷ ts

-- and if that is another place
abbrev pub with_back : ℤ → List ℤ → Loop → List Step → Option ℕ → List Turning → List Turning
with_back low weights l ms None ts = ts
with_back low weights l ms (Some b) ts = if b == l.header then ts else with_way (way_at (turn_ways low weights l ms) 0) (turning_of low weights l ms (turn_ways low weights l ms) b) ts

-- the turnings of the loops of a function, the outermost first
abbrev pub turnings : ℤ → List Step → List ℤ → List Loop → List Turning
turnings low ms weights [] = []
turnings low ms weights (l ∷ ls) = with_back low (weighed low ms weights ls) l ms l.back (turnings low ms weights ls)
