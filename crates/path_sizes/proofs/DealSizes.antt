-- The sizes of the multipliers of all claims, as they are dealt from function to function.
use Rattle.std.proofs.Common.{◌≡◌, ℕ, ℤ, pos, ◌-ℤ◌, ◌*ℤ◌, arith, ap, List, [], ◌∷◌, Bool, true, false, cond, unsigned_abs}
use Rattle.std.specs.Prelude.{◌&&◌}
use Rattle.std.proofs.lemmas.Int.{ints}
use Rattle.code_flow_system.specs.declared.claims.LoopClaim.{LoopClaim}
use Rattle.code_flow_system.specs.declared.shapes.LoopShape.{LoopShape}
use Rattle.code_flow_system.specs.declared.shapes.Span.{Span}
use Rattle.code_flow_system.specs.Systems.{System, has_moves}
use Rattle.code_flow_system.specs.Shapes.{AreShapesOf}
use Rattle.loop_walks.specs.declared.step.Step.{Step}
use Rattle.loop_walks.specs.declared.step.Loop.{Loop}
use Rattle.loop_walks.specs.declared.step.Pair.{Pair}
use Rattle.loop_walks.specs.Levels.{Level}
use Rattle.loop_sizes.specs.Laws.{IsSizedPair, AreSizedPairs}
use Rattle.path_places.specs.Reached.{in_span}
use Rattle.path_places.specs.Places.{loop_of, loops_of}
use Rattle.path_places.specs.PlaceLaws.{function_steps}
use Rattle.path_places.specs.Driver.{Prices, function_level, function_pairs}
use Rattle.path_places.specs.Duals.{dealt, no_pairs, pairs_from}
use Rattle.path_places.proofs.DealLemmas.{AreDealt}
use Rattle.path_sizes.specs.Sizes.{AllAreSized}
use Rattle.path_sizes.proofs.ClaimSizes.{size_within, IsSizedClaim, IsSizedDeal}

module _ (s : System) (ls : List LoopShape) (q : Prices) (n : ℕ) where
  of_pair : (p : Span) (ms : List Step) (c : LoopClaim) (l : LoopShape) (k : Pair) → IsSizedPair (pos n) (loop_of q.of q.low s.moves s.claims p ms c l) k → IsSizedClaim n c k
  of_pair p ms c l k h = record {
    least = size_within n k.least h.least.0 h.least.1;
    least_turns = size_within n (k.least *ℤ (pos c.min -ℤ pos 1)) h.least_turns.0 h.least_turns.1;
    least_starts = size_within n (k.least *ℤ pos c.min) h.least_starts.0 h.least_starts.1;
    most = size_within n k.most h.most.0 h.most.1;
    most_turns = size_within n (k.most *ℤ (pos c.max -ℤ pos 1)) h.most_turns.0 h.most_turns.1;
    most_starts = size_within n (k.most *ℤ pos c.max) h.most_starts.0 h.most_starts.1;
    weight = size_within n ((k.most *ℤ (pos c.max -ℤ pos 1)) -ℤ (k.least *ℤ (pos c.min -ℤ pos 1))) h.weight.0 h.weight.1;
  }

  deal_sized : (p : Span) (ms : List Step) (cs : List LoopClaim) (ks : List LoopShape) (known new : List Pair) → AreDealt (IsSizedDeal n) cs ks known → AreSizedPairs (pos n) (loops_of q.of q.low s.moves s.claims p ms cs ks) new → AreDealt (IsSizedDeal n) cs ks (dealt s.moves p ks known new)
  deal_sized p ms [] [] known new h sized = tt
  deal_sized p ms [] (l ∷ ks) known new h sized = absurd h
  deal_sized p ms (c ∷ cs) [] known new h sized = absurd h
  deal_sized p ms (c ∷ cs) (l ∷ ks) [] new h sized = absurd h
  deal_sized p ms (c ∷ cs) (l ∷ ks) (k ∷ known) [] h sized = (h.0, deal_sized p ms cs ks known [] h.1 (none (loops_of q.of q.low s.moves s.claims p ms cs ks)))
    where
      none : (rs : List Loop) → AreSizedPairs (pos n) rs []
      none [] = tt
      none (r ∷ rs) = tt
  deal_sized p ms (c ∷ cs) (l ∷ ks) (k ∷ known) (u ∷ new) h sized = by_test (in_span p l.header && has_moves s.moves l.header) (λ us z. deal_sized p ms cs ks known us h.1 z) sized
    where
      by_test : (t : Bool) → ((us : List Pair) → AreSizedPairs (pos n) (loops_of q.of q.low s.moves s.claims p ms cs ks) us → AreDealt (IsSizedDeal n) cs ks (dealt s.moves p ks known us)) →
          AreSizedPairs (pos n) (cond t (loop_of q.of q.low s.moves s.claims p ms c l ∷ loops_of q.of q.low s.moves s.claims p ms cs ks) (loops_of q.of q.low s.moves s.claims p ms cs ks)) (u ∷ new) →
          AreDealt (IsSizedDeal n) (c ∷ cs) (l ∷ ks) (cond t (u ∷ dealt s.moves p ks known new) (k ∷ dealt s.moves p ks known (u ∷ new)))
      by_test true r z = (of_pair p ms c l u z.0, r new z.1)
      by_test false r z = (h.0, r (u ∷ new) z)

  sized_from : (v : Level) (rs : List Span) (known : List Pair) → AllAreSized s ls q (pos n) v rs → AreDealt (IsSizedDeal n) s.claims.loops ls known → AreDealt (IsSizedDeal n) s.claims.loops ls (pairs_from s ls q v rs known)
  sized_from v [] known h k = k
  sized_from v (r ∷ rs) known h k = sized_from (function_level s ls q v r) rs (dealt s.moves r ls known (function_pairs s ls q v r)) h.1
      (deal_sized r (function_steps s ls q.of v.worths r) s.claims.loops ls known (function_pairs s ls q v r) k h.0.pairs)

  zero_product : (z : ℤ) → pos 0 *ℤ z ≡ pos 0
  zero_product z = omega (arith, ints)

  nothing : (z : ℤ) → unsigned_abs (pos 0 *ℤ z) ≡ 0
  nothing z = ap unsigned_abs (zero_product z)

  none_sized : (c : LoopClaim) → IsSizedClaim n c (record { least = pos 0; most = pos 0 })
  none_sized c = record {
    least = omega arith;
    least_turns = (let e = nothing (pos c.min -ℤ pos 1) in omega (arith, e));
    least_starts = (let e = nothing (pos c.min) in omega (arith, e));
    most = omega arith;
    most_turns = (let e = nothing (pos c.max -ℤ pos 1) in omega (arith, e));
    most_starts = (let e = nothing (pos c.max) in omega (arith, e));
    weight = (let e = zero_product (pos c.max -ℤ pos 1) in let f = zero_product (pos c.min -ℤ pos 1) in let g : ((pos 0 *ℤ (pos c.max -ℤ pos 1)) -ℤ (pos 0 *ℤ (pos c.min -ℤ pos 1))) ≡ pos 0 = omega (arith, ints) in let k = ap unsigned_abs g in omega (arith, k));
  }

  no_pairs_sized : (cs : List LoopClaim) (ks : List LoopShape) → AreShapesOf cs ks → AreDealt (IsSizedDeal n) cs ks (no_pairs ks)
  no_pairs_sized [] [] h = tt
  no_pairs_sized [] (l ∷ ks) h = absurd h
  no_pairs_sized (c ∷ cs) [] h = absurd h
  no_pairs_sized (c ∷ cs) (l ∷ ks) h = (none_sized c, no_pairs_sized cs ks h.2)

  pub all_dealt : (v : Level) (rs : List Span) → AreShapesOf s.claims.loops ls → AllAreSized s ls q (pos n) v rs → AreDealt (IsSizedDeal n) s.claims.loops ls (pairs_from s ls q v rs (no_pairs ls))
  all_dealt v rs shapes h = sized_from v rs (no_pairs ls) h (no_pairs_sized s.claims.loops ls shapes)
