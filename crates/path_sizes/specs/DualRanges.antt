-- The ranges of the values of the walks as dual values: potentials, multipliers, and the rows that a checker adds up.
use Rattle.std.specs.Prelude.{◌≡◌, ℕ, ◌*◌, ◌^◌, ◌<◌, ◌≤◌, ℤ, pos, unsigned_abs, List, length, All}
use Rattle.frac128.specs.Terms.{coefficient}
use Rattle.code_flow_system.specs.declared.moves.Move.{Move}
use Rattle.code_flow_system.specs.declared.shapes.LoopShape.{LoopShape}
use Rattle.code_flow_system.specs.declared.shapes.Span.{Span}
use Rattle.code_flow_system.specs.Systems.{System}
use Rattle.code_flow_system.specs.Certificates.{row_size, loop_limits}
use Rattle.path_places.specs.Driver.{Prices}
use Rattle.path_places.specs.Duals.{Values, values_of, potentials_of, both_of, never_multipliers, loop_multipliers, dual_of}
use Rattle.path_ranges.specs.Bounded.{IsBounded}
use Rattle.path_ranges.specs.Ranges.{IsEnough}

-- numbers are no larger than a size, never claims and loops without turns pay no more than 3 times that, and a row's terms together come to no more than 32 times that
pub record IsNarrowDual (s : System) (price : Move → ℤ) (x : Values) (size : ℕ) : Type 0 where
  pub potentials : All (λ t. unsigned_abs t.1 ≤ size) (potentials_of s.moves x.worths s.moves)
  pub nevers : All (λ w. unsigned_abs w ≤ 3 * size) (never_multipliers s price x)
  pub loops : All (λ w. (unsigned_abs w.0 ≤ size) × (unsigned_abs w.1 ≤ 3 * size)) (loop_multipliers s price x)
  pub rows : All (λ m. row_size price (coefficient (potentials_of s.moves x.worths s.moves)) (dual_of s price x).limits m ≤ 32 * size) s.moves
  -- one pair for each loop; and a row beside the loops' multipliers alone
  pub long : length x.pairs ≡ length s.claims.loops
  pub pairs : All (λ p. (unsigned_abs p.least ≤ size) × (unsigned_abs p.most ≤ size)) x.pairs
  pub plain : All (λ m. row_size price (coefficient (potentials_of s.moves x.worths s.moves)) (loop_limits s.claims.loops (both_of x.pairs)) m ≤ 32 * size) s.moves

-- at any prices
abbrev pub DualsAreNarrow : System → List LoopShape → List Span → Type 0
DualsAreNarrow s ls ps = (q : Prices) (price : Move → ℤ) (most : ℤ) (starts size : ℕ) → IsBounded s ls ps q price most starts → IsEnough s q most starts (pos size) → size < 2 ^ 124 → IsNarrowDual s q.of (values_of s ls ps q) size
