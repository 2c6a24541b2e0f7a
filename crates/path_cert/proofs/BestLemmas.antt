-- The walks find a best flow: no flow is above the worth of the entry, so that it is open, and then the listed flow reaches it.
use Rattle.std.proofs.Common.{ℕ, ℤ, pos, neg_ℤ, ◌+ℤ◌, ◌*ℤ◌, ◌≤ℤ◌, ◌<ℤ◌, arith, refl, subst, List, [], ◌∷◌, ◌++◌, All}
use Rattle.std.proofs.lemmas.Int.{ints}
use Rattle.std.proofs.lemmas.List.Elements.{All-head, All-tail, All-cons, All-nil, All-append}
use Rattle.frac128.proofs.SignedLemmas.{mul-add, mul_at_least}
use Rattle.code_flow_system.specs.declared.claims.LoopClaim.{LoopClaim}
use Rattle.code_flow_system.specs.declared.cert.Cert.{Cert}
use Rattle.code_flow_system.specs.declared.cert.Mark.TheVariants.{Neither}
use Rattle.code_flow_system.specs.declared.moves.Move.{Move}
use Rattle.code_flow_system.specs.declared.shapes.LoopShape.{LoopShape}
use Rattle.code_flow_system.specs.declared.shapes.Span.{Span}
use Rattle.code_flow_system.specs.Systems.{System}
use Rattle.code_flow_system.specs.Counts.{Amounts, amount, count, total}
use Rattle.code_flow_system.specs.Flows.{IsFlow}
use Rattle.code_flow_system.specs.Loose.{KeepsTurns, IsLoose}
use Rattle.code_flow_system.specs.Certificates.{never_limits, loop_limits}
use Rattle.code_flow_system.specs.Bounds.{KeepsLimit}
use Rattle.code_flow_system.proofs.LimitLemmas.{limits_keep}
use Rattle.code_flow_system.proofs.LooseLemmas.{flows_are_loose, goes_back}
use Rattle.code_flow_system.proofs.DualityLemmas.{bounds_totals}
use Rattle.loop_ranges.specs.Near.{IsUpTo}
use Rattle.path_places.specs.PlaceLaws.{IsReachedWhole}
use Rattle.path_places.specs.Driver.{Prices}
use Rattle.path_places.specs.Duals.{values_of, dual_of, never_multipliers, loop_multipliers}
use Rattle.path_places.proofs.RowLemmas.{walks_dual, potential_place}
use Rattle.path_ranges.specs.Bounded.{StartsBelow, IsBounded}
use Rattle.path_sizes.proofs.SystemOpens.{all_open}
use Rattle.path_flows.specs.Free.{free}
use Rattle.path_flows.specs.CountLaws.{HasBounds, BacksAreFree, IsOpenSystem}
use Rattle.path_flows.proofs.FreeLemmas.{left_all, right_all, free_whole}
use Rattle.path_flows.proofs.KeepLemmas.{all_keep}
use Rattle.path_cert.proofs.MoveLemmas.{all_reached}
use Rattle.path_cert.specs.Best.{best_worth, BoundsBest, IsBestFlow, HasBestFlow}
use Rattle.path_cert.specs.BestLaws.{BestFlowsAreFound}

-- a total at prices is no further below 0 than that of their sizes is above it
sizes_cover : (of price : Move → ℤ) (x : Amounts) (ms : List Move) → All (λ m. IsUpTo (of m) (price m)) ms → pos 0 ≤ℤ (total of x ms +ℤ total price x ms)
sizes_cover of price x [] h = omega (arith, ints)
sizes_cover of price x (m ∷ ms) h =
    let r = sizes_cover of price x ms (All-tail (λ m. IsUpTo (of m) (price m)) m ms h) in
    let u = (All-head (λ m. IsUpTo (of m) (price m)) m ms h).0 in
    let p = mul_at_least (amount x m) (of m +ℤ price m) (natural (x m.at m.number)) (omega (arith, ints)) in
    let e = mul-add (amount x m) (of m) (price m) in omega (arith, ints)
  where
    natural : (k : ℕ) → pos 0 ≤ℤ pos k
    natural k = omega (arith, ints)

-- a flow without facts is a loose one
pub free_loose : (s : System) (ls : List LoopShape) (ps : List Span) → IsReachedWhole s ls ps → (unit : ℕ) (x : Amounts) → IsFlow (free s) unit x → IsLoose s unit x
free_loose s ls ps whole unit x f =
    let l = flows_are_loose (free s) (goes_back s s.claims.loops ls whole.fits.shapes whole.fits.loops) unit x f in
    record { positive = l.positive; kept = l.kept; loops = each s.claims.loops l.loops }
  where
    each : (cs : List LoopClaim) → All (KeepsTurns (free s) unit x) cs → All (KeepsTurns s unit x) cs
    each [] h = All-nil (KeepsTurns s unit x)
    each (c ∷ cs) h = All-cons (KeepsTurns s unit x) c cs (All-head (KeepsTurns (free s) unit x) c cs h) (each cs (All-tail (KeepsTurns (free s) unit x) c cs h))

module _ (s : System) (ls : List LoopShape) (ps : List Span) (whole : IsReachedWhole s ls ps) (q : Prices) (negative : q.low ≤ℤ pos 0) where
  -- a certificate of the multipliers, for its limits
  abbrev cert : Cert
  cert = record {
    cycles = 0;
    mark = Neither;
    scale = 1;
    potentials = [];
    nevers = never_multipliers s q.of (values_of s ls ps q);
    loops = loop_multipliers s q.of (values_of s ls ps q);
    facts = [];
    flow = record { unit = 0; parts = [] };
  }

  pub bounds_best : BoundsBest s ls ps q
  bounds_best unit x f =
      let p = potential_place s ls ps whole q s.entry whole.system.entry in
      let law = bounds_totals s (dual_of s q.of (values_of s ls ps q)) (walks_dual s ls ps whole q negative) unit x (record { conserved = f.conserved; limits = kept }) in
      subst (λ (z : ℤ). total q.of x s.moves ≤ℤ (pos unit *ℤ z)) p law
    where
      kept : All (KeepsLimit (count x s.moves)) (dual_of s q.of (values_of s ls ps q)).limits
      kept =
          let a = limits_keep (free s).claims cert (count x s.moves) f.claims in
          let b = left_all (KeepsLimit (count x s.moves)) (never_limits s.claims.nevers (never_multipliers s q.of (values_of s ls ps q))) (loop_limits s.claims.loops (loop_multipliers s q.of (values_of s ls ps q)) ++ []) a in
          let c = right_all (KeepsLimit (count x s.moves)) (never_limits s.claims.nevers (never_multipliers s q.of (values_of s ls ps q))) (loop_limits s.claims.loops (loop_multipliers s q.of (values_of s ls ps q)) ++ []) a in
          All-append (KeepsLimit (count x s.moves)) (never_limits s.claims.nevers (never_multipliers s q.of (values_of s ls ps q))) (loop_limits s.claims.loops (loop_multipliers s q.of (values_of s ls ps q))) b
          (left_all (KeepsLimit (count x s.moves)) (loop_limits s.claims.loops (loop_multipliers s q.of (values_of s ls ps q))) [] c)

  -- where the entry is open, the listed flow is a best one
  pub reaches_best : (least : ℤ) → IsOpenSystem (free s) ls ps q least → IsBestFlow s ls ps q
  reaches_best least is = record {
    flow = all_keep (free s) ls ps (free_whole s ls ps whole) q least is;
    total = all_reached (free s) ls ps (free_whole s ls ps whole) q least is;
    best = bounds_best;
  }

module _ (s : System) (ls : List LoopShape) (ps : List Span) (q : Prices) (price : Move → ℤ) (most : ℤ) (starts : ℕ) (b : IsBounded s ls ps q price most starts) (far : ((most +ℤ (most +ℤ most)) +ℤ q.low) <ℤ pos 0) (backs : BacksAreFree s ls) where
  negative : q.low ≤ℤ pos 0
  negative = let a = b.apart in let p = b.positive in omega (arith, ints)

  bounds : (cs : List LoopClaim) → All (StartsBelow starts) cs → All HasBounds cs
  bounds [] h = All-nil HasBounds
  bounds (c ∷ cs) h = All-cons HasBounds c cs (All-head (StartsBelow starts) c cs h).0 (bounds cs (All-tail (StartsBelow starts) c cs h))

  pub open_system : neg_ℤ most ≤ℤ best_worth s ls ps q → IsOpenSystem (free s) ls ps q (neg_ℤ most)
  open_system wide = record {
    negative = negative;
    code = all_open s ls ps q price most starts b far;
    entry = wide;
    bounds = bounds s.claims.loops b.loops;
    backs = backs;
    facts = refl;
  }

  pub open_entry : (x : Amounts) → IsFlow (free s) 1 x → neg_ℤ most ≤ℤ best_worth s ls ps q
  open_entry x f =
      let t = b.totals x (free_loose s ls ps b.whole 1 x f) in
      let c = sizes_cover q.of price x s.moves b.prices in
      let d = bounds_best s ls ps b.whole q negative 1 x f in
      least_of (best_worth s ls ps q) (total q.of x s.moves) (total price x s.moves) t c d
    where
      least_of : (p u v : ℤ) → v ≤ℤ most → pos 0 ≤ℤ (u +ℤ v) → u ≤ℤ (pos 1 *ℤ p) → neg_ℤ most ≤ℤ p
      least_of p u v t c d = omega (arith, ints)

  pub has_best : HasBestFlow s ls ps q most
  has_best = record { open_entry = open_entry; flow = λ wide. reaches_best s ls ps b.whole q negative (neg_ℤ most) (open_system wide) }

pub best_found : (s : System) (ls : List LoopShape) (ps : List Span) → BestFlowsAreFound s ls ps
best_found s ls ps q price most starts b far backs = has_best s ls ps q price most starts b far backs
