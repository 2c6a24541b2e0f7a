-- Loose flows: what bounds every number that a search over flows can meet.
use Rattle.std.specs.Prelude.{◌≡◌, ℕ, ◌==◌, ◌<◌, pos, ◌*ℤ◌, ◌≤ℤ◌, List, [], ◌∷◌, All, if◌then◌else◌}
use Rattle.frac128.specs.Terms.{coefficient}
use Rattle.code_flow_system.specs.declared.claims.LoopClaim.{LoopClaim}
use Rattle.code_flow_system.specs.declared.moves.Move.{Move}
use Rattle.code_flow_system.specs.Moves.{destinations}
use Rattle.code_flow_system.specs.Systems.{System}
use Rattle.code_flow_system.specs.Counts.{Amounts, count, inflow}
use Rattle.code_flow_system.specs.Flows.{IsFlow}

-- the moves of all addresses but one
abbrev pub moves_elsewhere : ℕ → List Move → List Move
moves_elsewhere a [] = []
moves_elsewhere a (m ∷ ms) = if m.at == a then moves_elsewhere a ms else m ∷ moves_elsewhere a ms

-- how often a loop multiplies its starts from outside
abbrev pub most_turns : LoopClaim → ℕ
most_turns c = if c.max == 0 then 1 else c.max

-- the header is visited at most so often for each arrival from elsewhere than the back jump
abbrev pub KeepsTurns : System → ℕ → Amounts → LoopClaim → Type 0
KeepsTurns s unit x c = count x s.moves c.header ≤ℤ (pos (most_turns c) *ℤ coefficient (inflow s.entry unit x (moves_elsewhere c.back s.moves)) c.header)

-- like a flow, but each address may lose some of what arrives, and never and fact claims are left out
pub record IsLoose (s : System) (unit : ℕ) (x : Amounts) : Type 0 where
  pub positive : 0 < unit
  pub kept : (a : ℕ) → count x s.moves a ≤ℤ coefficient (inflow s.entry unit x s.moves) a
  pub loops : All (KeepsTurns s unit x) s.claims.loops

-- each move of the loop's back jump goes to its header alone
abbrev pub GoesBack : List Move → LoopClaim → Type 0
GoesBack ms c = All (λ m. m.at ≡ c.back → destinations m ≡ c.header ∷ []) ms

-- each flow is a loose one
abbrev pub FlowsAreLoose : System → Type 0
FlowsAreLoose s = All (GoesBack s.moves) s.claims.loops → (unit : ℕ) (x : Amounts) → IsFlow s unit x → IsLoose s unit x
