-- Prices in a list beside the moves that are no more than costs.
use Rattle.std.proofs.Common.{◌≡◌, ℕ, ◌%◌, ◌^◌, ◌<◌, ◌≤◌, ℤ, pos, ◌≤ℤ◌, arith, List, All, length, map, ap, subst, sym}
use Rattle.std.proofs.lemmas.Int.{ints}
use Rattle.std.proofs.lemmas.List.Elements.{All-weaker}
use Rattle.rv_core.specs.Table.{Table}
use Rattle.code_flow_system.specs.declared.shapes.LoopShape.{LoopShape}
use Rattle.code_flow_system.specs.declared.shapes.Span.{Span}
use Rattle.code_flow_system.specs.Systems.{System, AreAscending}
use Rattle.code_flow_system.specs.Flows.{price}
use Rattle.loop_walks.specs.Walks.{worth_at}
use Rattle.loop_walks.specs.Levels.{Level, level_of}
use Rattle.path_places.specs.Places.{place_of}
use Rattle.path_places.specs.Driver.{blank}
use Rattle.path_places.specs.Duals.{final_level}
use Rattle.path_flows.specs.Flows.{amounts_of}
use Rattle.path_walks.specs.Prices.{price_in}
use Rattle.path_walks.specs.Sizes.{AllStaySmall}
use Rattle.path_values.proofs.SameLemmas.{price_is}
use Rattle.path_cert.specs.BoundLaws.{IsBoundable}
use Rattle.path_cert.specs.PricedFlows.{AreUpToCosts, priced, PricedFlowsAreFlows}
use Rattle.path_places.proofs.PotentialLemmas.{all_of}
use Rattle.path_cases.specs.Prices.{rest_of}

rest_up : (n : ℕ) → (pos 0 ≤ℤ pos (n % 7)) × (pos (n % 7) ≤ℤ pos n)
rest_up n = let h : n % 7 ≤ n = omega arith in (omega (arith, ints), omega (arith, ints))

pub up_to_costs : (t : Table) (s : System) (zs : List ℤ) → AreAscending s.moves → zs ≡ map (rest_of t s) s.moves → AreUpToCosts t s (price_in s.moves zs)
up_to_costs t s zs up e = all_of (λ m. (pos 0 ≤ℤ price_in s.moves zs m) × (price_in s.moves zs m ≤ℤ price t s m)) s.moves
    (λ m im. subst (λ (z : ℤ). (pos 0 ≤ℤ z) × (z ≤ℤ price t s m)) (sym (price_is s.moves zs (rest_of t s) up e m im)) (rest_up _))

module _ (t : Table) (s : System) (ls : List LoopShape) (ps : List Span) (is : IsBoundable t s ls ps) (law : PricedFlowsAreFlows t s ls ps) (zs : List ℤ) (e : zs ≡ map (rest_of t s) s.moves) where
  up : AreUpToCosts t s (price_in s.moves zs)
  up = up_to_costs t s zs is.limited.whole.system.ascending e

  pub walks_small : AllStaySmall s ls (priced (price_in s.moves zs)) (blank (length s.moves) (priced (price_in s.moves zs)).low) ps
  walks_small = (law is (price_in s.moves zs) up).walks

  pub amounts_small : (ws us : List ℤ) (place : ℕ) → level_of ws us ≡ final_level s ls ps (priced (price_in s.moves zs)) → place ≡ place_of s.moves s.entry → pos 0 ≤ℤ worth_at ws place → All (λ u. u < 2 ^ 127) (amounts_of s ls ps (priced (price_in s.moves zs)))
  amounts_small ws us place level at h =
      let here : pos 0 ≤ℤ worth_at ws (place_of s.moves s.entry) = subst (λ p. pos 0 ≤ℤ worth_at ws p) at h in
      let there : pos 0 ≤ℤ worth_at (final_level s ls ps (priced (price_in s.moves zs))).worths (place_of s.moves s.entry) = subst (λ (vs : List ℤ). pos 0 ≤ℤ worth_at vs (place_of s.moves s.entry)) (ap (λ (v : Level). v.worths) level) here in
      All-weaker (λ u. u < 2 ^ 60) (λ u. u < 2 ^ 127) (λ u k. omega (arith, k)) (amounts_of s ls ps (priced (price_in s.moves zs))) ((law is (price_in s.moves zs) up).flow there).amounts
