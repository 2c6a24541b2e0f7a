-- Functions that fit a system, without its loops.
use Rattle.std.specs.Prelude.{◌≡◌, ℕ, ◌<◌, ◌≤◌, ◌&&◌, nat_le, nat_lt, List, [], ◌∷◌, Bool, Some, All, filter, take, slice_index_or}
use Rattle.std.specs.List.{Any}
use Rattle.code_flow_system.specs.declared.shapes.Span.{Span}
use Rattle.code_flow_system.specs.declared.moves.Move.{Move}
use Rattle.code_flow_system.specs.Systems.{System}
use Rattle.code_flow_system.specs.Shapes.{AreAllApart, IsInOne, IsInSpan, StaysIn, CallsEarlier, onward}

abbrev pub lies_within : Span → ℕ → Bool
lies_within p a = nat_le p.first a && nat_lt a p.end

-- each function begins where the one before it has ended, or behind
abbrev pub AreInOrder : ℕ → List Span → Type 0
AreInOrder end [] = Unit {0}
AreInOrder end (p ∷ ps) = (end ≤ p.first) × (p.first ≤ p.end) × AreInOrder p.end ps

-- a call goes to the beginning of one of these functions
abbrev pub CallsBefore : List Span → Move → Type 0
CallsBefore ps m = (target back : ℕ) → m.to ≡ Some target → m.behind ≡ Some back → Any (λ p. p.first ≡ target) ps

-- the move stays in the function, and calls those before it
pub record KeepsTo (before : List Span) (p : Span) (m : Move) : Type 0 where
  pub stays : All (IsInSpan p) (onward m)
  pub calls : CallsBefore before m

-- so do all moves of the function at that place
pub record KeepAt (i : ℕ) (ps : List Span) (ms : List Move) : Type 0 where
  pub all : (d : Span) → All (KeepsTo (take i ps) (slice_index_or ps i d)) (filter (λ m. lies_within (slice_index_or ps i d) m.at) ms)

abbrev pub KeepUpTo : ℕ → List Span → List Move → Type 0
KeepUpTo n ps ms = (i : ℕ) → i < n → KeepAt i ps ms

-- a function holds the address where it begins
abbrev pub HoldsFirst : Span → Type 0
HoldsFirst p = p.first < p.end

pub record SpansFit (s : System) (ps : List Span) : Type 0 where
  pub filled : All HoldsFirst ps
  pub apart : AreAllApart ps
  pub covered : All (λ m. IsInOne ps m.at) s.moves
  pub stays : All (λ m. All (StaysIn m) ps) s.moves
  pub calls : All (CallsEarlier ps) s.moves
