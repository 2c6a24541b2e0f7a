-- What is reached by the moves of a system, and spans in their order.
use Rattle.std.specs.Prelude.{◌≡◌, ℕ, zero, suc, ◌<◌, ◌&&◌, nat_le, nat_lt, List, [], ◌∷◌, Contains, All, if◌then◌else◌, Bool}
use Rattle.code_flow_system.specs.declared.moves.Move.{Move}
use Rattle.code_flow_system.specs.declared.shapes.Span.{Span}
use Rattle.code_flow_system.specs.Moves.{destinations}
use Rattle.code_flow_system.specs.Systems.{System}

-- a move of one address arrives at another
abbrev pub GoesBy : List Move → ℕ → ℕ → Type 0
GoesBy ms a b = (m : Move) × Contains ms m × (m.at ≡ a) × Contains (destinations m) b

-- reached from the entry by n moves
abbrev pub ReachedBy : List Move → ℕ → ℕ → ℕ → Type 0
ReachedBy ms entry zero a = a ≡ entry
ReachedBy ms entry (suc n) a = (b : ℕ) × ReachedBy ms entry n b × GoesBy ms b a

-- each address with moves is reached
abbrev pub AreReached : System → Type 0
AreReached s = (m : Move) → Contains s.moves m → (n : ℕ) × ReachedBy s.moves s.entry n m.at

-- no span is empty
abbrev pub AreFilled : List Span → Type 0
AreFilled ps = All (λ p. p.first < p.end) ps

abbrev pub in_span : Span → ℕ → Bool
in_span p a = nat_le p.first a && nat_lt a p.end

-- the number of the span of an address
abbrev pub rank : List Span → ℕ → ℕ
rank [] a = 0
rank (p ∷ ps) a = if in_span p a then 0 else suc (rank ps a)
