-- The flow of a whole system: its functions one after the other, a caller before those that it calls.
use Rattle.std.specs.Prelude.{ℕ, ◌+◌, ◌==◌, pos, List, [], ◌∷◌, length, Bool, Option, Some, None, slice_set, if◌then◌else◌}
use Rattle.std.proofs.Math.ListN.{replicate}
use Rattle.code_flow_system.specs.declared.cert.Part.{Part}
use Rattle.code_flow_system.specs.declared.moves.Move.{Move}
use Rattle.code_flow_system.specs.declared.shapes.LoopShape.{LoopShape}
use Rattle.code_flow_system.specs.declared.shapes.Span.{Span}
use Rattle.code_flow_system.specs.Systems.{System}
use Rattle.loop_walks.specs.Levels.{Level, ground}
use Rattle.loop_flows.specs.Passes.{amount_at, spread}
use Rattle.loop_flows.specs.Flows.{Turning, only_at, counts_of, backs_of}
use Rattle.path_places.specs.Places.{place_of, is_walked}
use Rattle.path_places.specs.PlaceLaws.{function_steps}
use Rattle.path_places.specs.Driver.{Prices, blank, function_loops, function_level}
use Rattle.loop_flows.specs.Turns.{is_tight, turnings}

-- what starts at each place, by the calls of functions that are done, and how often each move is made
pub record Flowing : Type 0 where
  pub starts : List ℕ
  pub amounts : List ℕ

-- the counts of the steps of walked moves, added to the moves' amounts
abbrev pub counted : (ℕ → Bool) → List Move → List ℕ → List ℕ → List ℕ
counted walked [] us cs = []
counted walked (m ∷ ms) [] cs = []
counted walked (m ∷ ms) (u ∷ us) [] = u ∷ counted walked ms us []
counted walked (m ∷ ms) (u ∷ us) (c ∷ cs) = if walked m.at then (u + c) ∷ counted walked ms us cs else u ∷ counted walked ms us (c ∷ cs)

-- a jump back has one move, whose number in the list is its place
abbrev pub turned_back : List ℕ → List Turning → List ℕ → List ℕ
turned_back us [] bs = us
turned_back us (t ∷ ts) [] = us
turned_back us (t ∷ ts) (b ∷ bs) = turned_back (slice_set us t.back (amount_at us t.back + b)) ts bs

-- a call starts the called function
abbrev pub call_starts : List Move → Option ℕ → Option ℕ → ℕ → List ℕ → List ℕ
call_starts all None behind c us = us
call_starts all (Some to) None c us = us
call_starts all (Some to) (Some behind) c us = slice_set us (place_of all to) (amount_at us (place_of all to) + c)

abbrev pub called : List Move → (ℕ → Bool) → List Move → List ℕ → List ℕ → List ℕ
called all walked [] cs us = us
called all walked (m ∷ ms) [] us = us
called all walked (m ∷ ms) (c ∷ cs) us = if walked m.at then called all walked ms cs (call_starts all m.to m.behind c us) else called all walked ms (c ∷ cs) us

-- the level at which no loop of a function is settled
abbrev pub function_ground : System → List LoopShape → Prices → Level → Span → Level
function_ground s ls q v p = ground q.low (function_steps s ls q.of v.worths p) v (function_loops s ls q v.worths p)

abbrev pub function_turnings : System → List LoopShape → Prices → Level → Span → List Turning
function_turnings s ls q v p = turnings q.low (function_steps s ls q.of v.worths p) v.weights (function_loops s ls q v.worths p)

-- the pass to the ends
abbrev pub first_counts : System → List LoopShape → Prices → Level → Span → List ℕ → List ℕ
first_counts s ls q v p starts = spread (is_tight (function_ground s ls q v p)) starts (function_steps s ls q.of v.worths p)

abbrev pub function_counts : System → List LoopShape → Prices → Level → Span → List ℕ → List ℕ
function_counts s ls q v p starts = counts_of (length s.moves) (function_steps s ls q.of v.worths p) (first_counts s ls q v p starts) (function_turnings s ls q v p)

abbrev pub function_backs : System → List LoopShape → Prices → Level → Span → List ℕ → List ℕ
function_backs s ls q v p starts = backs_of (length s.moves) (function_steps s ls q.of v.worths p) (first_counts s ls q v p starts) (function_turnings s ls q v p)

-- what a function adds
abbrev pub function_flow : System → List LoopShape → Prices → Level → Span → Flowing → Flowing
function_flow s ls q v p f = record {
  starts = called s.moves (is_walked s.claims ls p) s.moves (function_counts s ls q v p f.starts) f.starts;
  amounts = turned_back (counted (is_walked s.claims ls p) s.moves f.amounts (function_counts s ls q v p f.starts)) (function_turnings s ls q v p) (function_backs s ls q v p f.starts);
}

-- the flow of some functions, from a level on, where the later ones are done first
abbrev pub flow_from : System → List LoopShape → Prices → Level → List Span → Flowing → Flowing
flow_from s ls q v [] f = f
flow_from s ls q v (p ∷ ps) f = function_flow s ls q v p (flow_from s ls q (function_level s ls q v p) ps f)

-- at first one run starts at the entry
abbrev pub first_flow : System → Flowing
first_flow s = record { starts = only_at (length s.moves) (place_of s.moves s.entry) 1; amounts = replicate (length s.moves) 0 }

-- how often each move is made, in order
abbrev pub amounts_of : System → List LoopShape → List Span → Prices → List ℕ
amounts_of s ls ps q = (flow_from s ls q (blank (length s.moves) q.low) ps (first_flow s)).amounts

-- the moves that are made
abbrev pub parts_of : List Move → List ℕ → List Part
parts_of [] us = []
parts_of (m ∷ ms) [] = []
parts_of (m ∷ ms) (u ∷ us) = if u == 0 then parts_of ms us else record { at = m.at; number = m.number; part = pos u } ∷ parts_of ms us
