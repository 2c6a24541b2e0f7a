-- The functions of a system as steps and loops over places. A place is the number of moves that begin before an address.
use Rattle.std.specs.Prelude.{ℕ, ◌+◌, ◌==◌, ◌&&◌, ◌||◌, not, min, nat_lt, ℤ, pos, ◌+ℤ◌, List, [], ◌∷◌, length, Bool, false, Option, Some, None, if◌then◌else◌}
use Rattle.code_flow_system.specs.declared.claims.Never.{Never}
use Rattle.code_flow_system.specs.declared.claims.LoopClaim.{LoopClaim}
use Rattle.code_flow_system.specs.declared.moves.Move.{Move}
use Rattle.code_flow_system.specs.declared.shapes.LoopShape.{LoopShape}
use Rattle.code_flow_system.specs.declared.shapes.Span.{Span}
use Rattle.code_flow_system.specs.Claims.{Claims}
use Rattle.code_flow_system.specs.Systems.{has_moves}
use Rattle.code_flow_system.specs.Shapes.{onward, is_back}
use Rattle.loop_walks.specs.declared.step.Step.{Step}
use Rattle.loop_walks.specs.declared.step.Loop.{Loop}
use Rattle.loop_walks.specs.Walks.{larger, worth_at}
use Rattle.path_places.specs.Reached.{in_span}

abbrev pub place_of : List Move → ℕ → ℕ
place_of [] a = 0
place_of (m ∷ ms) a = (if nat_lt m.at a then 1 else 0) + place_of ms a

-- the place at which a move goes on; where it goes nowhere, the one behind all
abbrev pub on_place : List Move → List ℕ → ℕ
on_place all [] = length all
on_place all (d ∷ ds) = place_of all d

-- what a call adds: the worth of the place where the called function begins
abbrev pub call_worth : List Move → List ℤ → Option ℕ → Option ℕ → ℤ
call_worth all ws None behind = pos 0
call_worth all ws (Some to) None = pos 0
call_worth all ws (Some to) (Some behind) = worth_at ws (place_of all to)

abbrev pub step_of : (Move → ℤ) → List Move → List ℤ → Move → Step
step_of price all ws m = record { at = place_of all m.at; on = on_place all (onward m); price = price m +ℤ call_worth all ws m.to m.behind }

-- an address of a never claim, or a header that may not be visited

abbrev pub is_never : List Never → ℕ → Bool
is_never [] a = false
is_never (c ∷ cs) a = (c.at == a) || is_never cs a

abbrev pub is_shut : List LoopClaim → ℕ → Bool
is_shut [] a = false
is_shut (c ∷ cs) a = ((c.header == a) && (c.max == 0)) || is_shut cs a

abbrev pub is_stop : Claims → ℕ → Bool
is_stop c a = is_never c.nevers a || is_shut c.loops a

-- a move of the span, of no stop and no jump back
abbrev pub is_walked : Claims → List LoopShape → Span → ℕ → Bool
is_walked c ls p a = in_span p a && not (is_stop c a || is_back ls a)

-- the steps of a function at the worths of those before it, from some of all moves
abbrev pub steps_of : (Move → ℤ) → List Move → List ℤ → (ℕ → Bool) → List Move → List Step
steps_of price all ws walked [] = []
steps_of price all ws walked (m ∷ ms) = if walked m.at then step_of price all ws m ∷ steps_of price all ws walked ms else steps_of price all ws walked ms

-- how many steps at the beginning are before a place
abbrev pub before : ℕ → List Step → ℕ
before a [] = 0
before a (m ∷ ms) = if nat_lt m.at a then 1 + before a ms else 0

-- the place of a jump back that is reached and may be visited
abbrev pub back_place : List Move → Claims → ℕ → Option ℕ
back_place all c a = if has_moves all a && not (is_stop c a) then Some (place_of all a) else None

-- the greatest price of the moves of an address, or another number
abbrev pub dearest_from : (Move → ℤ) → List Move → ℕ → ℤ → ℤ
dearest_from price [] a z = z
dearest_from price (m ∷ ms) a z = if m.at == a then larger (price m) (dearest_from price ms a z) else dearest_from price ms a z

abbrev pub end_place : List Move → LoopShape → Span → ℕ
end_place all l p = min (place_of all (l.last + 1)) (place_of all p.end)

abbrev pub loop_of : (Move → ℤ) → ℤ → List Move → Claims → Span → List Step → LoopClaim → LoopShape → Loop
loop_of price low all c p ms claim l = record {
  header = place_of all l.header;
  end = end_place all l p;
  back = back_place all c l.back;
  price = dearest_from price all l.back low;
  head = before (place_of all l.header) ms;
  body = before (place_of all l.header + 1) ms;
  rest = before (end_place all l p) ms;
  min = claim.min;
  max = claim.max;
}

-- the loops of a function: those whose header it reaches
abbrev pub loops_of : (Move → ℤ) → ℤ → List Move → Claims → Span → List Step → List LoopClaim → List LoopShape → List Loop
loops_of price low all c p ms [] ls = []
loops_of price low all c p ms (claim ∷ cs) [] = []
loops_of price low all c p ms (claim ∷ cs) (l ∷ ls) = if in_span p l.header && has_moves all l.header then loop_of price low all c p ms claim l ∷ loops_of price low all c p ms cs ls else loops_of price low all c p ms cs ls
