-- All ranges of a search by costs.
use Rattle.std.proofs.Common.{◌*◌, ◌≤◌, ◌^◌, pos, arith, List, [], ◌∷◌, All, unsigned_abs}
use Rattle.std.proofs.lemmas.Int.{ints}
use Rattle.std.proofs.lemmas.List.Elements.{All-head, All-tail, All-cons, All-nil}
use Rattle.frac128.specs.Terms.{coefficient}
use Rattle.rv_core.specs.Table.{Table}
use Rattle.code_flow_system.specs.declared.shapes.LoopShape.{LoopShape}
use Rattle.code_flow_system.specs.declared.shapes.Span.{Span}
use Rattle.code_flow_system.specs.Systems.{System}
use Rattle.code_flow_system.specs.Flows.{price}
use Rattle.code_flow_system.specs.Certificates.{loop_limits, row_size, IsNarrow, IsSmall}
use Rattle.path_places.specs.Duals.{values_of, potentials_of, both_of, never_multipliers, loop_multipliers, dual_of}
use Rattle.path_ranges.specs.Limits.{cost_prices}
use Rattle.path_ranges.proofs.LimitLemmas.{costs_bounded}
use Rattle.path_sizes.proofs.SystemOpens.{all_open}
use Rattle.path_sizes.proofs.SystemSizes.{all_fit}
use Rattle.path_sizes.proofs.FineSizes.{duals_narrow}
use Rattle.path_sizes.specs.CostRanges.{CostsHaveRanges}

pub all_map : {X : Type 0} (P Q : X → Type 0) (xs : List X) → ((x : X) → P x → Q x) → All P xs → All Q xs
all_map P Q [] f h = All-nil Q
all_map P Q (x ∷ xs) f h = All-cons Q x xs (f x (All-head P x xs h)) (all_map P Q xs f (All-tail P x xs h))

pub costs_ranged : (t : Table) (s : System) (ls : List LoopShape) (ps : List Span) → CostsHaveRanges t s ls ps
costs_ranged t s ls ps h =
    let b = costs_bounded t s ls ps h in
    let n = duals_narrow s ls ps (cost_prices t s) (price t s) (pos (2 ^ 60)) (2 ^ 32) (2 ^ 97) b.bounded b.enough (omega arith) in record {
      walks = (all_fit s ls ps (cost_prices t s) (price t s) (pos (2 ^ 60)) (2 ^ 32) (pos (2 ^ 97)) b.bounded b.enough (omega (arith, ints))).0;
      opens = all_open s ls ps (cost_prices t s) (price t s) (pos (2 ^ 60)) (2 ^ 32) b.bounded (omega (arith, ints));
      values = record {
        potentials = all_map (λ p. unsigned_abs p.1 ≤ 2 ^ 97) (λ p. IsSmall p.1) (potentials_of s.moves (values_of s ls ps (cost_prices t s)).worths s.moves) (λ p k. omega (arith, k)) n.potentials;
        nevers = all_map (λ w. unsigned_abs w ≤ 3 * 2 ^ 97) IsSmall (never_multipliers s (price t s) (values_of s ls ps (cost_prices t s))) (λ w k. omega (arith, k)) n.nevers;
        loops = all_map (λ w. (unsigned_abs w.0 ≤ 2 ^ 97) × (unsigned_abs w.1 ≤ 3 * 2 ^ 97)) (λ w. IsSmall w.0 × IsSmall w.1) (loop_multipliers s (price t s) (values_of s ls ps (cost_prices t s))) (λ w k. let a = k.0 in let c = k.1 in (omega (arith, a), omega (arith, c))) n.loops;
        rows = all_map (λ m. row_size (price t s) (coefficient (potentials_of s.moves (values_of s ls ps (cost_prices t s)).worths s.moves)) (dual_of s (price t s) (values_of s ls ps (cost_prices t s))).limits m ≤ 32 * 2 ^ 97) (λ m. IsNarrow (row_size (price t s) (coefficient (potentials_of s.moves (values_of s ls ps (cost_prices t s)).worths s.moves)) (dual_of s (price t s) (values_of s ls ps (cost_prices t s))).limits m)) s.moves (λ m k. omega (arith, k)) n.rows;
        long = n.long;
        pairs = all_map (λ p. (unsigned_abs p.least ≤ 2 ^ 97) × (unsigned_abs p.most ≤ 2 ^ 97)) (λ p. IsSmall p.least × IsSmall p.most) (values_of s ls ps (cost_prices t s)).pairs (λ p k. let a = k.0 in let c = k.1 in (omega (arith, a), omega (arith, c))) n.pairs;
        plain = all_map (λ m. row_size (price t s) (coefficient (potentials_of s.moves (values_of s ls ps (cost_prices t s)).worths s.moves)) (loop_limits s.claims.loops (both_of (values_of s ls ps (cost_prices t s)).pairs)) m ≤ 32 * 2 ^ 97) (λ m. IsNarrow (row_size (price t s) (coefficient (potentials_of s.moves (values_of s ls ps (cost_prices t s)).worths s.moves)) (loop_limits s.claims.loops (both_of (values_of s ls ps (cost_prices t s)).pairs)) m)) s.moves (λ m k. omega (arith, k)) n.plain;
      };
    }
