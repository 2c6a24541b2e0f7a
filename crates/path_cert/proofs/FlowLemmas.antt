-- The best flow of walks that pay for facts, and its amounts.
use Rattle.std.proofs.Common.{ℕ, ◌*◌, ◌^◌, ◌<◌, ℤ, pos, neg_ℤ, ◌≤ℤ◌, ◌<ℤ◌, arith, List, length}
use Rattle.std.proofs.lemmas.Int.{ints}
use Rattle.rv_core.specs.Table.{Table}
use Rattle.code_flow_system.specs.declared.shapes.LoopShape.{LoopShape}
use Rattle.code_flow_system.specs.declared.shapes.Span.{Span}
use Rattle.code_flow_system.specs.Systems.{System}
use Rattle.code_flow_system.specs.Counts.{amount}
use Rattle.code_flow_system.specs.Loose.{IsLoose}
use Rattle.path_places.specs.Driver.{Prices}
use Rattle.path_flows.specs.Flows.{amounts_of}
use Rattle.path_flows.proofs.ConservedLemmas.{listed_amounts}
use Rattle.path_sizes.proofs.SystemSizes.{all_fit}
use Rattle.path_flows.specs.Free.{free}
use Rattle.path_flows.specs.CountLaws.{BacksAreFree}
use Rattle.path_flows.proofs.FreeLemmas.{free_whole}
use Rattle.path_flows.proofs.KeepLemmas.{goes}
use Rattle.path_ranges.specs.Narrow.{FetchesCost}
use Rattle.path_ranges.proofs.NarrowLemmas.{counts_below}
use Rattle.path_flows.proofs.SumLemmas.{one_unit, amounts_below}
use Rattle.path_cert.specs.Best.{best_worth, best_flow, HasBestFlow}
use Rattle.path_cert.specs.Priced.{fact_size, fact_prices, fact_most, fact_low}
use Rattle.path_cert.specs.Facts.{fact_numbers, IsFactBounded, IsFactFlow, HasFactFlow, FactFlowsAreBest}
use Rattle.path_conditions.specs.Walking.{IsFactLimited}
use Rattle.path_cert.proofs.BestLemmas.{free_loose, open_system, has_best}
use Rattle.path_cert.proofs.FactLemmas.{facts_bounded}

module _ (t : Table) (s : System) (ls : List LoopShape) (ps : List Span) (is : IsFactLimited t s ls ps) (fetches : FetchesCost t) (backs : BacksAreFree s ls) (scale : ℕ) (ys : List ℤ) (fits : 3 * fact_numbers (length s.claims.loops) (fact_most scale ys) < 2 ^ 120) where
  abbrev q : Prices
  q = fact_prices t s scale ys (fact_low scale ys)

  bounds : IsFactBounded t s ls ps scale ys
  bounds = facts_bounded t s ls ps is scale ys

  best : HasBestFlow s ls ps (fact_prices t s scale ys (fact_low scale ys)) (pos (fact_most scale ys))
  best = has_best s ls ps (fact_prices t s scale ys (fact_low scale ys)) (fact_size t s scale ys) (pos (fact_most scale ys)) (2 ^ 32) bounds.bounded bounds.far backs

  flow : neg_ℤ (pos (fact_most scale ys)) ≤ℤ best_worth s ls ps (fact_prices t s scale ys (fact_low scale ys)) → IsFactFlow s ls ps (fact_prices t s scale ys (fact_low scale ys))
  flow wide =
      let can = open_system s ls ps (fact_prices t s scale ys (fact_low scale ys)) (fact_size t s scale ys) (pos (fact_most scale ys)) (2 ^ 32) bounds.bounded bounds.far backs wide in
      let found = best.flow wide in
      let loose : IsLoose s 1 (best_flow s ls ps (fact_prices t s scale ys (fact_low scale ys))) = free_loose s ls ps is.limited.whole 1 (best_flow s ls ps (fact_prices t s scale ys (fact_low scale ys))) found.flow in
      let long = (goes (free s) ls ps (free_whole s ls ps is.limited.whole) (fact_prices t s scale ys (fact_low scale ys)) (neg_ℤ (pos (fact_most scale ys))) can).long_amounts in
      let small = counts_below t s fetches is.limited.whole.system (2 ^ 60) is.limited.values 1 (best_flow s ls ps (fact_prices t s scale ys (fact_low scale ys))) loose in record {
        best = found;
        amounts = amounts_below (best_flow s ls ps (fact_prices t s scale ys (fact_low scale ys))) s.moves (amounts_of s ls ps (fact_prices t s scale ys (fact_low scale ys))) long
            (listed_amounts s.moves (amounts_of s ls ps (fact_prices t s scale ys (fact_low scale ys))) long is.limited.whole.system.ascending)
            (λ m im. one_unit (amount (best_flow s ls ps (fact_prices t s scale ys (fact_low scale ys))) m) (2 ^ 60) (small.1 m im));
      }

  pub fact_flow : HasFactFlow t s ls ps scale ys
  fact_flow = record {
    walks = (all_fit s ls ps (fact_prices t s scale ys (fact_low scale ys)) (fact_size t s scale ys) (pos (fact_most scale ys)) (2 ^ 32) (pos (fact_numbers (length s.claims.loops) (fact_most scale ys))) bounds.bounded bounds.enough (below (fact_numbers (length s.claims.loops) (fact_most scale ys)) fits)).0;
    open_entry = best.open_entry;
    flow = flow;
  }
    where
      below : (n : ℕ) → 3 * n < 2 ^ 120 → pos n <ℤ pos (2 ^ 124)
      below n h = omega (arith, ints, h)

pub flows_best : (t : Table) (s : System) (ls : List LoopShape) (ps : List Span) → FactFlowsAreBest t s ls ps
flows_best t s ls ps is fetches backs scale ys fits = fact_flow t s ls ps is fetches backs scale ys fits
