-- Prices over a nest of loops: what is still to come at each address, and what a turn of each loop adds at its header (Li and Malik 1995, loop bounds; Schrijver 1986, weak duality).
use Rattle.std.specs.Prelude.{ℕ, ◌*◌, ◌==◌, ℤ, pos, ◌+ℤ◌, ◌*ℤ◌, ◌≤ℤ◌, List, [], ◌∷◌, All, if◌then◌else◌}
use Rattle.frac128.specs.Terms.{Terms, int_sum_by, coefficient, when_same}
use Rattle.code_flow_system.specs.declared.claims.LoopClaim.{LoopClaim}
use Rattle.code_flow_system.specs.declared.moves.Move.{Move}
use Rattle.code_flow_system.specs.Moves.{destinations}
use Rattle.code_flow_system.specs.Systems.{System}
use Rattle.code_flow_system.specs.Counts.{Amounts, total}
use Rattle.code_flow_system.specs.Loose.{most_turns, IsLoose}

-- the worths of addresses, and one number for each loop claim, the worth of a turn
pub record Worths : Type 0 where
  pub places : Terms
  pub turns : List ℕ

-- what the loops of a header add to its worth
abbrev pub turns_at : List LoopClaim → List ℕ → ℕ → ℤ
turns_at [] zs a = pos 0
turns_at (c ∷ cs) [] a = pos 0
turns_at (c ∷ cs) (z ∷ zs) a = when_same a c.header (pos z) +ℤ turns_at cs zs a

-- the worth of all turns of the loops whose header it is
abbrev pub starts : List LoopClaim → List ℕ → ℕ → ℤ
starts [] zs a = pos 0
starts (c ∷ cs) [] a = pos 0
starts (c ∷ cs) (z ∷ zs) a = when_same a c.header (pos (most_turns c * z)) +ℤ starts cs zs a

-- the same, but of the loops of which the move is no back jump
abbrev pub starts_from : List LoopClaim → List ℕ → ℕ → ℕ → ℤ
starts_from [] zs from a = pos 0
starts_from (c ∷ cs) [] from a = pos 0
starts_from (c ∷ cs) (z ∷ zs) from a = (if from == c.back then pos 0 else when_same a c.header (pos (most_turns c * z))) +ℤ starts_from cs zs from a

-- a move's price, the worths of where it arrives and of the loops that it starts there are at most the worth of its address
abbrev pub IsPaid : (Move → ℤ) → List LoopClaim → Worths → Move → Type 0
IsPaid price cs w m = (price m +ℤ int_sum_by (λ d. coefficient w.places d +ℤ starts_from cs w.turns m.at d) (destinations m)) ≤ℤ (coefficient w.places m.at +ℤ turns_at cs w.turns m.at)

-- no worth is negative, and each move is paid
pub record ArePrices (s : System) (price : Move → ℤ) (w : Worths) : Type 0 where
  pub positive : All (λ t. pos 0 ≤ℤ t.1) w.places
  pub moves : All (IsPaid price s.claims.loops w) s.moves

-- no loose flow has a total above the unit times the entry's worth, with the loops that begin there
abbrev pub BoundsLooseFlows : System → Type 0
BoundsLooseFlows s = (price : Move → ℤ) (w : Worths) → ArePrices s price w → (unit : ℕ) (x : Amounts) → IsLoose s unit x → total price x s.moves ≤ℤ (pos unit *ℤ (coefficient w.places s.entry +ℤ starts s.claims.loops w.turns s.entry))
