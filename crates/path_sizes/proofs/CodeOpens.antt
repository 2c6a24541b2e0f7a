-- Open sums have open parts in a function.
use Rattle.std.proofs.Common.{◌≡◌, ℕ, ◌+◌, ◌-◌, ◌<◌, ℤ, pos, neg_ℤ, ◌+ℤ◌, ◌≤ℤ◌, ◌<ℤ◌, arith, ◌∙◌, subst, List, [], ◌∷◌, length, Some}
use Rattle.std.proofs.lemmas.Int.{ints}
use Rattle.loop_walks.specs.declared.step.Step.{Step}
use Rattle.loop_walks.specs.declared.step.Loop.{Loop}
use Rattle.loop_walks.specs.Walks.{worth_at, cost}
use Rattle.loop_walks.specs.Turns.{way_at, turn_ways}
use Rattle.loop_walks.specs.Levels.{weighed}
use Rattle.loop_walks.specs.Rows.{AreSteps, Each, IsLoopOf, AreLoops, HaveNone}
use Rattle.loop_walks.proofs.EachLemmas.{each_map, each_both, steps_are}
use Rattle.loop_ranges.specs.Near.{IsUpTo, IsNear, IsNearWay}
use Rattle.loop_ranges.specs.Loose.{Loose, Turn, IsLooseTurn, AreLooseTurns}
use Rattle.loop_ranges.specs.Reach.{IsNearWeight}
use Rattle.loop_ranges.proofs.NearLemmas.{near_sum}
use Rattle.loop_ranges.proofs.WalkRanges.{AreNearWays, ways_near, weighed_before, weighed_near}
use Rattle.loop_flows.specs.Opens.{HasOpenParts, HasOpenWay, TurnsOpenly, TurnAllOpenly}
use Rattle.path_sizes.proofs.OpenLemmas.{open_sum, way_beside}

-- a step whose price is near a loose one that isn't negative; where the price is open, so is what the step calls
pub record IsOpenStep (low most : ℤ) (calls : Step → Type 0) (x : Loose) (k : Step) : Type 0 where
  pub price : ℤ
  pub near : IsNear low k.price price
  pub positive : pos 0 ≤ℤ price
  pub small : (price +ℤ x.weight k.at) ≤ℤ most
  pub called : neg_ℤ most ≤ℤ k.price → calls k

module _ (low most : ℤ) (negative : low ≤ℤ pos 0) (positive : pos 0 ≤ℤ most) (far : ((most +ℤ (most +ℤ most)) +ℤ low) <ℤ pos 0) (apart : (most +ℤ low) <ℤ pos 0) (calls : Step → Type 0) (n : ℕ) (x : Loose) (weights_positive : (a : ℕ) → pos 0 ≤ℤ x.weight a)
    (ms : List Step) (steps : AreSteps n ms) (open_steps : Each (IsOpenStep low most calls x) ms) where
  -- what a step costs, at weights that are near
  pub record HasOpenCost (weights : List ℤ) (k : Step) : Type 0 where
    pub step : IsOpenStep low most calls x k
    pub weight : IsNearWeight low x weights k
    pub near : IsNear low (cost weights k) (step.price +ℤ x.weight k.at)

  step_small : (k : Step) (h : IsOpenStep low most calls x k) → (h.price ≤ℤ most) × (x.weight k.at ≤ℤ most)
  step_small k h = let w = weights_positive k.at in let p = h.positive in let s = h.small in (omega (arith, ints), omega (arith, ints))

  -- of an open cost the weight is open, and what the step calls
  parts_open : (weights : List ℤ) (k : Step) (h : IsOpenStep low most calls x k) → IsNearWeight low x weights k → IsUpTo (cost weights k) (h.price +ℤ x.weight k.at) → (neg_ℤ most ≤ℤ worth_at weights k.at) × calls k
  parts_open weights k h weight up =
      let s = step_small k h in let s0 = s.0 in let s1 = s.1 in
      let small = h.small in let u0 = up.0 in
      let p = open_sum low most negative positive far k.price h.price (worth_at weights k.at) (x.weight k.at) h.positive s.0 (weights_positive k.at) s.1 h.near weight (omega (arith, ints)) in
      let a = p.0.0 in let b = p.1.0 in
      (omega (arith, ints), h.called (omega (arith, ints)))

  pub costs_of : (weights : List ℤ) → Each (IsNearWeight low x weights) ms → Each (HasOpenCost weights) ms
  costs_of weights near = each_both (IsOpenStep low most calls x) (IsNearWeight low x weights) (HasOpenCost weights) ms
      (λ k h w. record { step = h; weight = w; near = near_sum low k.price h.price (worth_at weights k.at) (x.weight k.at) negative h.near w }) open_steps near

  -- ---- one loop, at the weights of those in it

  module _ (l : Loop) (t : Turn) (weights : List ℤ) (loop : IsLoopOf n ms l) (none : worth_at weights l.header ≡ pos 0) (near : Each (IsNearWeight low x weights) ms) (loose : IsLooseTurn low most x ms l t) where
    costs : Each (HasOpenCost weights) ms
    costs = costs_of weights near

    ways : AreNearWays low l t (turn_ways low weights l ms)
    ways = ways_near low most x negative apart n ms l t weights loop (steps_are n ms steps) none near loose

    open_way : (m : Step) → HasOpenCost weights m → HasOpenWay (neg_ℤ most) calls weights l.header (turn_ways low weights l ms) m
    open_way m c y is high =
        let w = way_beside low most negative positive far y t.price (t.way (l.header + (m.on - l.header))) loose.costs (subst (λ o. IsNearWay low o (t.way (l.header + (m.on - l.header)))) is (ways (m.on - l.header))) (loose.far (l.header + (m.on - l.header))) in
        let p = c.step.positive in let s = c.step.small in let g = weights_positive m.at in
        let o = open_sum low most negative positive far (cost weights m) (c.step.price +ℤ x.weight m.at) y w.loose (omega (arith, ints)) s w.not_less w.small c.near w.near high in
        let parts = parts_open weights m c.step c.weight o.0 in
        let y0 = o.1.0 in let ws = w.small in
        (parts.0, parts.1, omega (arith, ints))

    open_turn : (y : ℤ) → way_at (turn_ways low weights l ms) 0 ≡ Some y → neg_ℤ most ≤ℤ (y +ℤ l.price) → (neg_ℤ most ≤ℤ y) × (neg_ℤ most ≤ℤ l.price)
    open_turn y is high =
        let w = way_beside low most negative positive far y t.price (t.way (l.header + 0)) loose.costs (subst (λ o. IsNearWay low o (t.way (l.header + 0))) is (ways 0)) (loose.far (l.header + 0)) in
        let o = open_sum low most negative positive far y w.loose l.price t.price w.not_less w.small loose.costs loose.small.0 w.near loose.price high in
        let y0 = o.0.0 in let ws = w.small in let p0 = o.1.0 in let ps = loose.small.0 in (omega (arith, ints), omega (arith, ints))

    pub turns_openly : TurnsOpenly (neg_ℤ most) calls low weights ms l
    turns_openly = record {
      steps = each_map (HasOpenCost weights) (HasOpenWay (neg_ℤ most) calls weights l.header (turn_ways low weights l ms)) ms open_way costs;
      turn = open_turn;
    }

  -- ---- all loops

  module _ (weights : List ℤ) (long : n < length weights) (near : Each (IsNearWeight low x weights) ms) where
    pub turn_all_openly : (ls : List Loop) (ts : List Turn) → AreLoops n ms ls → HaveNone weights ls → AreLooseTurns low most x ms ls ts → TurnAllOpenly (neg_ℤ most) calls low weights ms ls
    turn_all_openly [] ts loops none loose = tt
    turn_all_openly (l ∷ ls) [] loops none loose = absurd loose
    turn_all_openly (l ∷ ls) (t ∷ ts) loops none loose = (
      turns_openly l t (weighed low ms weights ls) loops.0 (weighed_before low most x negative apart ms weights ls l.header loops.1 ∙ none.0) (weighed_near low most x negative apart n ms weights ls ts (omega (arith, long)) (steps_are n ms steps) loops.2 none.1 loose.1 near) loose.0,
      turn_all_openly ls ts loops.2 none.1 loose.1,
    )

  -- ---- to the ends

  module _ (weights ws : List ℤ) (costs : Each (HasOpenCost weights) ms) (worths : (a : ℕ) → (pos 0 ≤ℤ x.worth a) × (x.worth a ≤ℤ most)) where
    pub parts_are_open : Each (λ k. IsNear low (worth_at ws k.on) (x.worth k.on)) ms → Each (HasOpenParts (neg_ℤ most) calls weights ws) ms
    parts_are_open near = each_both (HasOpenCost weights) (λ k. IsNear low (worth_at ws k.on) (x.worth k.on)) (HasOpenParts (neg_ℤ most) calls weights ws) ms
        (λ k c v high.
        let p = c.step.positive in let s = c.step.small in let g = weights_positive k.at in
        let o = open_sum low most negative positive far (cost weights k) (c.step.price +ℤ x.weight k.at) (worth_at ws k.on) (x.worth k.on) (omega (arith, ints)) s (worths k.on).0 (worths k.on).1 c.near v high in
        let parts = parts_open weights k c.step c.weight o.0 in
        let y0 = o.1.0 in let w1 = (worths k.on).1 in
        (parts.0, parts.1, omega (arith, ints))) costs near
