-- All that bounds of loose flows give for a search by costs.
use Rattle.std.specs.Prelude.{◌≡◌, ◌^◌, pos, neg_ℤ, List, length, All}
use Rattle.frac128.specs.Terms.{coefficient}
use Rattle.rv_core.specs.Table.{Table}
use Rattle.code_flow_system.specs.declared.shapes.LoopShape.{LoopShape}
use Rattle.code_flow_system.specs.declared.shapes.Span.{Span}
use Rattle.code_flow_system.specs.Systems.{System}
use Rattle.code_flow_system.specs.Flows.{price}
use Rattle.code_flow_system.specs.Certificates.{loop_limits, row_size, IsNarrow, IsSmall}
use Rattle.path_places.specs.Driver.{blank}
use Rattle.path_places.specs.Duals.{Values, values_of, potentials_of, both_of, never_multipliers, loop_multipliers, dual_of}
use Rattle.path_flows.specs.Opens.{AreOpenFunctions}
use Rattle.path_ranges.specs.Limits.{cost_prices, IsLimited}
use Rattle.path_sizes.specs.Sizes.{AllStaySmall}

-- the ranges that a certificate wants
pub record HasSmallValues (t : Table) (s : System) (x : Values) : Type 0 where
  pub potentials : All (λ p. IsSmall p.1) (potentials_of s.moves x.worths s.moves)
  pub nevers : All IsSmall (never_multipliers s (price t s) x)
  pub loops : All (λ w. IsSmall w.0 × IsSmall w.1) (loop_multipliers s (price t s) x)
  pub rows : All (λ m. IsNarrow (row_size (price t s) (coefficient (potentials_of s.moves x.worths s.moves)) (dual_of s (price t s) x).limits m)) s.moves
  -- one pair for each loop; and a row beside the loops' multipliers alone
  pub long : length x.pairs ≡ length s.claims.loops
  pub pairs : All (λ p. IsSmall p.least × IsSmall p.most) x.pairs
  pub plain : All (λ m. IsNarrow (row_size (price t s) (coefficient (potentials_of s.moves x.worths s.moves)) (loop_limits s.claims.loops (both_of x.pairs)) m)) s.moves

-- the walks in 128 bits are exact, open sums have open parts, and the certificate's numbers have their ranges
pub record HasRanges (t : Table) (s : System) (ls : List LoopShape) (ps : List Span) : Type 0 where
  pub walks : AllStaySmall s ls (cost_prices t s) (blank (length s.moves) (neg_ℤ (pos (2 ^ 62)))) ps
  pub opens : AreOpenFunctions (neg_ℤ (pos (2 ^ 60))) s ls (cost_prices t s) (blank (length s.moves) (neg_ℤ (pos (2 ^ 62)))) ps
  pub values : HasSmallValues t s (values_of s ls ps (cost_prices t s))

abbrev pub CostsHaveRanges : Table → System → List LoopShape → List Span → Type 0
CostsHaveRanges t s ls ps = IsLimited t s ls ps → HasRanges t s ls ps
