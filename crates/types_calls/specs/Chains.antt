-- Chains of calls, call ranks, and functions that reach themselves (C11 6.5.2.2).
use Rattle.std.specs.Prelude.{◌≡◌, ◌⊎◌, ℕ, ◌<◌, ◌≤◌, List, [], ◌∷◌, length}
use Rattle.std.proofs.Math.ListN.{get_or}
use Rattle.types_calls.specs.Calls.{Graph}
use Rattle.types_calls.specs.declared.ranks.CallFault.{CallFault}
use Rattle.types_calls.specs.declared.ranks.CallFault.TheVariants.{Recursion, Memory}

abbrev pub Among : ℕ → List ℕ → Type 0
Among g [] = ⊥
Among g (x ∷ xs) = (g ≡ x) ⊎ Among g xs

-- the functions that a function calls
abbrev pub callees : Graph → ℕ → List ℕ
callees graph f = get_or graph f []

-- f calls the first of these, which calls the next, and so on
abbrev pub IsChain : Graph → ℕ → List ℕ → Type 0
IsChain graph f [] = Unit {0}
IsChain graph f (g ∷ gs) = Among g (callees graph f) × IsChain graph g gs

-- the last function of a chain
abbrev pub end_of : ℕ → List ℕ → ℕ
end_of f [] = f
end_of f (g ∷ gs) = end_of g gs

-- the greatest number of calls in a chain that begins at f
pub record IsRank (graph : Graph) (f n : ℕ) : Type 0 where
  pub chain : List ℕ
  pub is_chain : IsChain graph f chain
  pub attained : length chain ≡ n
  pub greatest : (gs : List ℕ) → IsChain graph f gs → length gs ≤ n

-- g is reached from f by one call or more
pub record Reaches (graph : Graph) (f g : ℕ) : Type 0 where
  pub next : ℕ
  pub chain : List ℕ
  pub calls : Among next (callees graph f)
  pub is_chain : IsChain graph next chain
  pub ends : end_of next chain ≡ g

-- the rank of each function; it falls along calls
pub record AreRanks (graph : Graph) (ranks : List ℕ) : Type 0 where
  pub size : length ranks ≡ length graph
  pub each : (f : ℕ) → f < length graph → IsRank graph f (get_or ranks f 0)
  pub falls : (f g : ℕ) → Among g (callees graph f) → get_or ranks g 0 < get_or ranks f 0

-- the first function, in the order of definitions, that reaches itself
pub record IsFirstCycle (graph : Graph) (f : ℕ) : Type 0 where
  pub reaches : Reaches graph f f
  pub first : (g : ℕ) → g < f → Reaches graph g g → ⊥

-- what a fault says of a graph
abbrev pub IsCallFault : CallFault → Graph → Type 0
IsCallFault (Recursion function) graph = IsFirstCycle graph function.0
IsCallFault Memory graph = Unit {0}
