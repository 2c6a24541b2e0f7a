-- Loops that fit a system, without its functions.
use Rattle.std.specs.Prelude.{◌≡◌, ℕ, ◌<◌, ◌==◌, ◌&&◌, nat_le, List, [], ◌∷◌, length, Bool, false, Option, Some, None, All, slice_index_or}
use Rattle.std.specs.List.{AllAdjacentBelow}
use Rattle.code_flow_system.specs.declared.shapes.LoopShape.{LoopShape}
use Rattle.code_flow_system.specs.declared.moves.Move.{Move}
use Rattle.code_flow_system.specs.declared.index.Arrival.{Arrival}
use Rattle.code_flow_system.specs.Moves.{destinations}
use Rattle.code_flow_system.specs.Systems.{System}
use Rattle.code_flow_system.specs.Shapes.{AreShapesOf, AreAllNested, IsInLoop, IsLoop, GoesUp}

abbrev pub lies_in : LoopShape → ℕ → Bool
lies_in l a = nat_le l.first a && nat_le a l.last

-- the range holds the header and the back jump
pub record HoldsEnds (l : LoopShape) : Type 0 where
  pub header : IsInLoop l l.header
  pub back : IsInLoop l l.back

-- of a move's target and the address behind a call there is one alone, and it is that
abbrev pub goes_alone : Option ℕ → Option ℕ → ℕ → Bool
goes_alone None None header = false
goes_alone None (Some behind) header = behind == header
goes_alone (Some to) None header = to == header
goes_alone (Some to) (Some behind) header = false

abbrev pub arrives_in : ℕ → ℕ → Arrival → Bool
arrives_in first last r = nat_le first r.to && nat_le r.to last

-- the arrival is at the header, or comes from within
abbrev pub EntersBy : LoopShape → List Move → Arrival → Type 0
EntersBy l ms r = (d : Move) → ¬ IsInLoop l (slice_index_or ms r.place d).at → r.to ≡ l.header

abbrev pub HeadersAscend : List LoopShape → Type 0
HeadersAscend ls = AllAdjacentBelow (λ k l. k.header < l.header) ls (length ls)

-- the address is the back jump of the loop with that header
abbrev pub IsBackOf : ℕ → ℕ → LoopShape → Type 0
IsBackOf header a l = (l.header ≡ header) × (l.back ≡ a)

-- where the move is that of a back jump, it goes to the loop's header alone
abbrev pub GoesBackTo : List LoopShape → Move → Type 0
GoesBackTo ls m = All (λ l. m.at ≡ l.back → destinations m ≡ l.header ∷ []) ls

-- no loop but one that jumps back from there has the address as its header
abbrev pub HeadsOwnLoop : List LoopShape → ℕ → Type 0
HeadsOwnLoop ls a = All (λ l. l.header ≡ a → l.back ≡ a) ls

pub record ShapesFit (s : System) (ls : List LoopShape) : Type 0 where
  pub shapes : AreShapesOf s.claims.loops ls
  pub nested : AreAllNested ls
  pub loops : All (IsLoop s) ls
  pub up : All (GoesUp ls) s.moves
  pub apart : All (λ l. HeadsOwnLoop ls l.back) ls
