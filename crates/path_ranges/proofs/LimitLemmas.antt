-- The bounds of a search by costs.
use Rattle.std.proofs.Common.{◌≡◌, ℕ, zero, suc, ◌+◌, ◌*◌, ◌≤◌, ◌<◌, ◌^◌, ℤ, pos, neg_ℤ, ◌+ℤ◌, ◌-ℤ◌, ◌*ℤ◌, ◌≤ℤ◌, arith, ap, ◌∙◌, List, [], ◌∷◌, length, All}
use Rattle.std.proofs.lemmas.Int.{ints}
use Rattle.std.proofs.lemmas.List.Elements.{All-head, All-tail, All-cons, All-nil}
use Rattle.frac128.proofs.SignedLemmas.{add-mul}
use Rattle.rv_core.specs.Table.{Table}
use Rattle.code_flow_system.specs.declared.claims.LoopClaim.{LoopClaim}
use Rattle.code_flow_system.specs.declared.moves.Move.{Move}
use Rattle.code_flow_system.specs.declared.shapes.LoopShape.{LoopShape}
use Rattle.code_flow_system.specs.declared.shapes.Span.{Span}
use Rattle.code_flow_system.specs.Systems.{System}
use Rattle.code_flow_system.specs.Flows.{price}
use Rattle.loop_ranges.specs.Near.{IsUpTo}
use Rattle.loop_ranges.specs.Reach.{reach}
use Rattle.path_ranges.specs.Bounded.{StartsBelow}
use Rattle.path_ranges.specs.Limits.{IsLoopWithin, CostsAreBounded}

-- what so many loops reach
reach-is : (step bound : ℤ) (k : ℕ) → reach step bound k ≡ bound +ℤ (pos k *ℤ step)
reach-is step bound zero = let z : pos 0 *ℤ step ≡ pos 0 = omega (arith, ints) in omega (arith, ints)
reach-is step bound (suc k) =
    let r = reach-is step (bound +ℤ step) k in
    let s : pos (suc k) ≡ pos k +ℤ pos 1 = omega (arith, ints) in
    let e = add-mul (pos k) (pos 1) step in
    let o : pos 1 *ℤ step ≡ step = omega (arith, ints) in
    let f : pos (suc k) *ℤ step ≡ (pos k +ℤ pos 1) *ℤ step = ap (λ (y : ℤ). y *ℤ step) s in omega (arith, ints)

costs_up_to : (t : Table) (s : System) (ms : List Move) → All (λ m. IsUpTo (price t s m) (price t s m)) ms
costs_up_to t s [] = All-nil (λ m. IsUpTo (price t s m) (price t s m))
costs_up_to t s (m ∷ ms) = All-cons (λ m. IsUpTo (price t s m) (price t s m)) m ms (self (price t s m) (omega (arith, ints))) (costs_up_to t s ms)
  where
    self : (z : ℤ) → pos 0 ≤ℤ z → IsUpTo z z
    self z h = (omega (arith, ints), omega (arith, ints))

starts_below : (cs : List LoopClaim) → All IsLoopWithin cs → All (StartsBelow (2 ^ 32)) cs
starts_below [] h = All-nil (StartsBelow (2 ^ 32))
starts_below (c ∷ cs) h = let k = All-head IsLoopWithin c cs h in let m = k.1 in All-cons (StartsBelow (2 ^ 32)) c cs (k.0, omega (arith, m)) (starts_below cs (All-tail IsLoopWithin c cs h))

-- what 2^32 loops reach
enough_for : (k : ℕ) → k < 2 ^ 32 → (reach (((pos (2 ^ 60) +ℤ pos (2 ^ 60)) -ℤ neg_ℤ (pos (2 ^ 62))) +ℤ pos (2 ^ 32)) (pos (2 ^ 60)) k +ℤ ((pos (2 ^ 60) -ℤ (neg_ℤ (pos (2 ^ 62)) +ℤ neg_ℤ (pos (2 ^ 62)))) +ℤ pos (2 ^ 32))) ≤ℤ pos (2 ^ 97)
enough_for k few =
    let s : (((pos (2 ^ 60) +ℤ pos (2 ^ 60)) -ℤ neg_ℤ (pos (2 ^ 62))) +ℤ pos (2 ^ 32)) ≡ pos (6 * 2 ^ 60 + 2 ^ 32) = omega (arith, ints) in
    let r = reach-is (((pos (2 ^ 60) +ℤ pos (2 ^ 60)) -ℤ neg_ℤ (pos (2 ^ 62))) +ℤ pos (2 ^ 32)) (pos (2 ^ 60)) k in
    let e : pos k *ℤ (((pos (2 ^ 60) +ℤ pos (2 ^ 60)) -ℤ neg_ℤ (pos (2 ^ 62))) +ℤ pos (2 ^ 32)) ≡ pos (k * (6 * 2 ^ 60 + 2 ^ 32)) = ap (λ (y : ℤ). pos k *ℤ y) s ∙ product k (6 * 2 ^ 60 + 2 ^ 32) in
    omega (arith, ints, few)
  where
    product : (a b : ℕ) → pos a *ℤ pos b ≡ pos (a * b)
    product a b = omega (arith, ints)

pub costs_bounded : (t : Table) (s : System) (ls : List LoopShape) (ps : List Span) → CostsAreBounded t s ls ps
costs_bounded t s ls ps h = record {
  bounded = record {
    whole = h.whole;
    prices = costs_up_to t s s.moves;
    positive = omega (arith, ints);
    totals = λ x l. let v = h.values 1 x l in let o : pos 1 *ℤ pos (2 ^ 60) ≡ pos (2 ^ 60) = omega (arith, ints) in omega (arith, ints);
    apart = omega (arith, ints);
    loops = starts_below s.claims.loops h.loops;
  };
  enough = enough_for (length s.claims.loops) h.few;
}
