-- There are multipliers for each claim.
use Rattle.std.proofs.Common.{◌≡◌, ℕ, suc, ℤ, refl, ap, List, [], ◌∷◌, length}
use Rattle.code_flow_system.specs.declared.claims.Never.{Never}
use Rattle.code_flow_system.specs.declared.claims.LoopClaim.{LoopClaim}
use Rattle.loop_walks.specs.declared.step.Pair.{Pair}
use Rattle.path_places.specs.Duals.{never_bounds, loop_bounds}
use Rattle.path_places.proofs.HoldLemmas.{Alongside}

pub nevers_long : (owe : ℕ → ℤ) (cs : List Never) → length (never_bounds owe cs) ≡ length cs
nevers_long owe [] = refl
nevers_long owe (c ∷ cs) = ap suc (nevers_long owe cs)

pub loops_long : (owe : ℕ → ℤ) (cs : List LoopClaim) (ps : List Pair) → Alongside cs ps → length (loop_bounds owe cs ps) ≡ length cs
loops_long owe [] ps h = refl
loops_long owe (c ∷ cs) [] h = absurd h
loops_long owe (c ∷ cs) (p ∷ ps) h = ap suc (loops_long owe cs ps h)
