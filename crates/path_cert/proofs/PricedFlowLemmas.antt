-- The flow of the walks at prices that are no more than the costs of moves.
use Rattle.std.proofs.Common.{◌^◌, ℤ, pos, neg_ℤ, ◌≤ℤ◌, arith, List}
use Rattle.std.proofs.lemmas.Int.{ints}
use Rattle.rv_core.specs.Table.{Table}
use Rattle.code_flow_system.specs.declared.moves.Move.{Move}
use Rattle.code_flow_system.specs.declared.shapes.LoopShape.{LoopShape}
use Rattle.code_flow_system.specs.declared.shapes.Span.{Span}
use Rattle.code_flow_system.specs.Systems.{System}
use Rattle.code_flow_system.specs.Counts.{Amounts, amount}
use Rattle.code_flow_system.specs.Flows.{price}
use Rattle.code_flow_system.specs.Loose.{IsLoose}
use Rattle.code_flow_system.specs.Certificates.{listed}
use Rattle.code_flow_system.proofs.LooseLemmas.{flows_are_loose, goes_back}
use Rattle.loop_ranges.specs.Near.{IsUpTo}
use Rattle.path_places.specs.Driver.{Prices}
use Rattle.path_flows.specs.Flows.{amounts_of, parts_of}
use Rattle.path_flows.proofs.ConservedLemmas.{listed_amounts}
use Rattle.path_ranges.specs.Bounded.{IsBounded}
use Rattle.path_sizes.proofs.SystemSizes.{all_fit}
use Rattle.path_sizes.proofs.SystemOpens.{all_open}
use Rattle.path_flows.specs.CountLaws.{IsOpenSystem}
use Rattle.path_flows.proofs.KeepLemmas.{all_keep, goes}
use Rattle.path_cert.proofs.MoveLemmas.{all_reached}
use Rattle.path_ranges.proofs.LimitLemmas.{costs_bounded}
use Rattle.path_sizes.proofs.RangeLemmas.{all_map}
use Rattle.path_cert.specs.BoundLaws.{IsBoundable}
use Rattle.path_cert.specs.PricedFlows.{AreUpToCosts, priced, entry_worth, IsPricedFlow, HasPricedFlow, PricedFlowsAreFlows}
use Rattle.path_cert.proofs.BoundLemmas.{kept_bounds, loose_below}
use Rattle.path_flows.proofs.SumLemmas.{one_unit, amounts_below}

module _ (t : Table) (s : System) (ls : List LoopShape) (ps : List Span) (is : IsBoundable t s ls ps) (of : Move → ℤ) (up : AreUpToCosts t s of) where
  abbrev q : Prices
  q = priced of

  abbrev x : Amounts
  x = listed (parts_of s.moves (amounts_of s ls ps q))

  bounded : IsBounded s ls ps (priced of) (price t s) (pos (2 ^ 60)) (2 ^ 32)
  bounded =
      let b = (costs_bounded t s ls ps is.limited).bounded in record {
        whole = b.whole;
        prices = all_map (λ m. (pos 0 ≤ℤ of m) × (of m ≤ℤ price t s m)) (λ m. IsUpTo (of m) (price t s m)) s.moves (λ m h. within (of m) (price t s m) h.0 h.1) up;
        positive = b.positive;
        totals = b.totals;
        apart = b.apart;
        loops = b.loops;
      }
    where
      within : (v l : ℤ) → pos 0 ≤ℤ v → v ≤ℤ l → IsUpTo v l
      within v l h k = (omega (arith, ints), k)

  open_system : pos 0 ≤ℤ entry_worth s ls ps (priced of) → IsOpenSystem s ls ps (priced of) (neg_ℤ (pos (2 ^ 60)))
  open_system h = record {
    negative = omega (arith, ints);
    code = all_open s ls ps (priced of) (price t s) (pos (2 ^ 60)) (2 ^ 32) bounded (omega (arith, ints));
    entry = above (entry_worth s ls ps (priced of)) h;
    bounds = kept_bounds t s ls ps is;
    backs = is.backs;
    facts = is.facts;
  }
    where
      above : (z : ℤ) → pos 0 ≤ℤ z → neg_ℤ (pos (2 ^ 60)) ≤ℤ z
      above z h = omega (arith, ints)

  flow : pos 0 ≤ℤ entry_worth s ls ps (priced of) → IsPricedFlow s ls ps (priced of)
  flow h =
      let can = open_system h in
      let keeps = all_keep s ls ps is.limited.whole (priced of) (neg_ℤ (pos (2 ^ 60))) can in
      let loose : IsLoose s 1 x = flows_are_loose s (goes_back s s.claims.loops ls is.limited.whole.fits.shapes is.limited.whole.fits.loops) 1 x keeps in
      let long = (goes s ls ps is.limited.whole (priced of) (neg_ℤ (pos (2 ^ 60))) can).long_amounts in record {
        flow = keeps;
        total = all_reached s ls ps is.limited.whole (priced of) (neg_ℤ (pos (2 ^ 60))) can;
        amounts = amounts_below x s.moves (amounts_of s ls ps (priced of)) long (listed_amounts s.moves (amounts_of s ls ps (priced of)) long is.limited.whole.system.ascending)
            (λ m im. one_unit (amount x m) (2 ^ 60) ((loose_below t s ls ps is 1 x loose).2 m im));
      }

  priced_flow : HasPricedFlow s ls ps (priced of)
  priced_flow = record {
    walks = (all_fit s ls ps (priced of) (price t s) (pos (2 ^ 60)) (2 ^ 32) (pos (2 ^ 97)) bounded (costs_bounded t s ls ps is.limited).enough (omega (arith, ints))).0;
    flow = flow;
  }

pub all_priced : (t : Table) (s : System) (ls : List LoopShape) (ps : List Span) → PricedFlowsAreFlows t s ls ps
all_priced t s ls ps is of up = priced_flow t s ls ps is of up
