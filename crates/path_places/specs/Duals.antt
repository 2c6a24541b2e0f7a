-- The worths and the multipliers of a whole system as dual values: potentials of its addresses, and multipliers of its never and loop claims.
use Rattle.std.specs.Prelude.{ℕ, ◌==◌, ◌&&◌, ℤ, pos, ◌+ℤ◌, ◌-ℤ◌, List, [], ◌∷◌, ◌++◌, length, if◌then◌else◌}
use Rattle.frac128.specs.Terms.{Terms, coefficient}
use Rattle.code_flow_system.specs.declared.claims.Never.{Never}
use Rattle.code_flow_system.specs.declared.claims.LoopClaim.{LoopClaim}
use Rattle.code_flow_system.specs.declared.moves.Move.{Move}
use Rattle.code_flow_system.specs.declared.shapes.LoopShape.{LoopShape}
use Rattle.code_flow_system.specs.declared.shapes.Span.{Span}
use Rattle.code_flow_system.specs.Systems.{System, has_moves}
use Rattle.code_flow_system.specs.Certificates.{Limit, never_limits, loop_limits, held, fall}
use Rattle.code_flow_system.specs.Bounds.{Dual}
use Rattle.loop_walks.specs.declared.step.Pair.{Pair}
use Rattle.loop_walks.specs.Walks.{larger, worth_at}
use Rattle.loop_walks.specs.Levels.{Level}
use Rattle.path_places.specs.Reached.{in_span}
use Rattle.path_places.specs.Places.{place_of}
use Rattle.path_places.specs.Driver.{Prices, blank, function_level, function_pairs, functions_level}

-- the multipliers of all loops, with those of a function's loops each at its own loop
abbrev pub dealt : List Move → Span → List LoopShape → List Pair → List Pair → List Pair
dealt all p [] known new = []
dealt all p (l ∷ ls) [] new = []
dealt all p (l ∷ ls) (k ∷ known) [] = k ∷ dealt all p ls known []
dealt all p (l ∷ ls) (k ∷ known) (n ∷ new) = if in_span p l.header && has_moves all l.header then n ∷ dealt all p ls known new else k ∷ dealt all p ls known (n ∷ new)

abbrev pub no_pairs : List LoopShape → List Pair
no_pairs [] = []
no_pairs (l ∷ ls) = record { least = pos 0; most = pos 0 } ∷ no_pairs ls

-- and with those of all functions from a level on
abbrev pub pairs_from : System → List LoopShape → Prices → Level → List Span → List Pair → List Pair
pairs_from s ls q v [] known = known
pairs_from s ls q v (p ∷ ps) known = pairs_from s ls q (function_level s ls q v p) ps (dealt s.moves p ls known (function_pairs s ls q v p))

abbrev pub final_level : System → List LoopShape → List Span → Prices → Level
final_level s ls ps q = functions_level s ls q (blank (length s.moves) q.low) ps

-- one pair for each loop, and none where its header isn't reached
abbrev pub final_pairs : System → List LoopShape → List Span → Prices → List Pair
final_pairs s ls ps q = pairs_from s ls q (blank (length s.moves) q.low) ps (no_pairs ls)

-- the potential of each address is the worth of its place
abbrev pub potentials_of : List Move → List ℤ → List Move → Terms
potentials_of all ws [] = []
potentials_of all ws (m ∷ ms) = if m.number == 0 then (m.at, worth_at ws (place_of all m.at)) ∷ potentials_of all ws ms else potentials_of all ws ms

-- what is left of a move's price
abbrev pub owed : (Move → ℤ) → (ℕ → ℤ) → List Limit → Move → ℤ
owed price p ls m = price m -ℤ (fall p m +ℤ held ls m.at)

-- the most that is left of the prices of an address, or nothing
abbrev pub most_owed : (Move → ℤ) → (ℕ → ℤ) → List Limit → List Move → ℕ → ℤ
most_owed price p ls [] a = pos 0
most_owed price p ls (m ∷ ms) a = if m.at == a then larger (owed price p ls m) (most_owed price p ls ms a) else most_owed price p ls ms a

abbrev pub both_of : List Pair → List (ℤ × ℤ)
both_of [] = []
both_of (p ∷ ps) = (p.least, p.most) ∷ both_of ps

-- the multipliers of claims that forbid to visit a place, a never claim or a loop without turns, pay what is left at the place

abbrev pub never_bounds : (ℕ → ℤ) → List Never → List ℤ
never_bounds owe [] = []
never_bounds owe (c ∷ cs) = owe c.at ∷ never_bounds owe cs

abbrev pub loop_bounds : (ℕ → ℤ) → List LoopClaim → List Pair → List (ℤ × ℤ)
loop_bounds owe [] ps = []
loop_bounds owe (c ∷ cs) [] = []
loop_bounds owe (c ∷ cs) (p ∷ ps) = (p.least, p.most +ℤ (if c.max == 0 then owe c.header else pos 0)) ∷ loop_bounds owe cs ps

-- potentials, with what is left at each address beside the multipliers of loops
pub record Values : Type 0 where
  pub worths : List ℤ
  pub pairs : List Pair

abbrev pub values_of : System → List LoopShape → List Span → Prices → Values
values_of s ls ps q = record { worths = (final_level s ls ps q).worths; pairs = final_pairs s ls ps q }

abbrev pub owe_of : System → (Move → ℤ) → Values → ℕ → ℤ
owe_of s price x a = most_owed price (coefficient (potentials_of s.moves x.worths s.moves)) (loop_limits s.claims.loops (both_of x.pairs)) s.moves a

abbrev pub never_multipliers : System → (Move → ℤ) → Values → List ℤ
never_multipliers s price x = never_bounds (owe_of s price x) s.claims.nevers

abbrev pub loop_multipliers : System → (Move → ℤ) → Values → List (ℤ × ℤ)
loop_multipliers s price x = loop_bounds (owe_of s price x) s.claims.loops x.pairs

abbrev pub dual_of : System → (Move → ℤ) → Values → Dual
dual_of s price x = record {
  price = price;
  potentials = potentials_of s.moves x.worths s.moves;
  limits = never_limits s.claims.nevers (never_multipliers s price x) ++ loop_limits s.claims.loops (loop_multipliers s price x);
}
