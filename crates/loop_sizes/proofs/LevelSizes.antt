-- The sizes of all numbers when the loops are settled.
use Rattle.std.proofs.Common.{◌≡◌, ℕ, zero, suc, ◌+◌, ◌-◌, ◌≤◌, ◌<◌, ◌^◌, ℤ, pos, ◌+ℤ◌, ◌-ℤ◌, ◌≤ℤ◌, ◌<ℤ◌, arith, refl, ap, ◌∙◌, subst, List, [], ◌∷◌, length, drop, inl, inr, Bool, true, false, cond, Option, Some, None, get_or-set_other}
use Rattle.std.specs.Prelude.{◌==◌, slice_set}
use Rattle.std.proofs.lemmas.Int.{ints}
use Rattle.std.proofs.lemmas.Grind.{get_or-set_at}
use Rattle.std.proofs.lemmas.Bool.Decides.{eqb_tells}
use Rattle.std.proofs.Math.ListN.{length-set}
use Rattle.loop_walks.specs.declared.step.Step.{Step}
use Rattle.loop_walks.specs.declared.step.Loop.{Loop}
use Rattle.loop_walks.specs.declared.step.Pair.{Pair}
use Rattle.loop_walks.specs.Walks.{larger, worth_at, relaxed, head_steps, body_steps}
use Rattle.loop_walks.specs.Turns.{gain}
use Rattle.loop_walks.specs.Multipliers.{first_weight, weight_of, back_worth}
use Rattle.loop_walks.specs.Levels.{weighed, gains, onward, Level, level_pair, raised, new_weights, new_start, level_by, levels, level_pairs, ground}
use Rattle.loop_walks.specs.Rows.{IsStep, AreSteps, Each, IsBack, AreLoops, ArePaid, HaveNone}
use Rattle.loop_walks.proofs.EachLemmas.{each_map, each_between, each_drop, steps_are}
use Rattle.loop_walks.proofs.LargerLemmas.{larger_left}
use Rattle.loop_walks.proofs.WalkLemmas.{relaxed-long, relaxed_grows, relaxed_pays}
use Rattle.loop_walks.proofs.LevelLemmas.{set_other, raised-long, weighed-long, From, from_above, Before, level_before, level_paid}
use Rattle.loop_ranges.specs.Loose.{Loose, Turn, AreLooseTurns}
use Rattle.loop_ranges.specs.Reach.{IsNearWeight, StartBelow, BacksAbove, AreBelow, reach}
use Rattle.loop_ranges.proofs.WalkRanges.{weighed_before, weighed_near}
use Rattle.loop_ranges.proofs.LevelRanges.{onward_below}
use Rattle.loop_ranges.proofs.LevelsBelow.{level_in_below}
use Rattle.loop_worths.specs.Sizes.{IsSmall, IsSmallLevel, AreSmallLevels}
use Rattle.loop_sizes.specs.Laws.{IsIn, IsSizedPair, AreSizedPairs, NumbersStaySmall}
use Rattle.loop_sizes.proofs.SuffixLemmas.{relaxed_suffix}
use Rattle.loop_sizes.proofs.PairSizes.{small_is, pair_sizes, pair_small}
use Rattle.loop_sizes.proofs.TurnSizes.{between_in, part_prices, all_prices, gain_most, gain_low, gain_turns, price_in, weighed_in, turns_small}

reach_least : (step bound : ℤ) (k : ℕ) → pos 0 ≤ℤ step → bound ≤ℤ reach step bound k
reach_least step bound zero h = omega (arith, ints)
reach_least step bound (suc k) h = let r = reach_least step (bound +ℤ step) k h in omega (arith, ints)

-- a jump back is worth no less than before
raised_grows : (ws : List ℤ) (l : Loop) (o : Option ℕ) (z : ℤ) (a : ℕ) → ((b : ℕ) → o ≡ Some b → b < length ws) → worth_at ws a ≤ℤ worth_at (raised ws l o z) a
raised_grows ws l None z a inside = omega (arith, ints)
raised_grows ws l (Some b) z a inside = by_test (b == l.header)
  where
    by_test : (t : Bool) → worth_at ws a ≤ℤ worth_at (cond t ws (slice_set ws b (larger (worth_at ws b) z))) a
    by_test true = omega (arith, ints)
    by_test false = elim (eqb_tells a b) [
      | inl k ↦
          let e = get_or-set_at ws b a (larger (worth_at ws b) z) (pos 0) k.1 (inside b refl) in
          let f : worth_at ws a ≡ worth_at ws b = ap (λ c. worth_at ws c) k.1 in
          let g = larger_left (worth_at ws b) z in rw e (omega (arith, ints))
      | inr k ↦ let e = get_or-set_other ws b a (larger (worth_at ws b) z) (pos 0) k.1 in rw e (omega (arith, ints))
    ]

module _ (low most size : ℤ) (n q : ℕ) (x : Loose) (h : low ≤ℤ pos 0) (pm : pos 0 ≤ℤ most) (apart : (most +ℤ low) <ℤ pos 0) (wide : (most -ℤ low) ≤ℤ size) (fits : size <ℤ pos (2 ^ 124)) (ms : List Step) (weights : List ℤ) (steps : AreSteps n ms)
    (prices : Each (λ m. m.price ≤ℤ most) ms) (lows : Each (λ m. (low -ℤ most) ≤ℤ m.price) ms) (near : Each (IsNearWeight low x weights) ms) (long : n < length weights) (small : (a : ℕ) → IsIn size (worth_at weights a)) where
  abbrev pair_at : Level → Loop → List Loop → Pair
  pair_at v l ls = level_pair low ms v.worths l (gain low (weighed low ms weights ls) l ms)

  -- one loop at its level
  module _ (v : Level) (l : Loop) (ls : List Loop) (t : Turn) (ts : List Turn) (bound : ℤ) (loops : AreLoops n ms (l ∷ ls)) (loose : AreLooseTurns low most x ms (l ∷ ls) (t ∷ ts)) (none : HaveNone weights (l ∷ ls)) (few : l.min ≤ q) (back : low ≤ℤ l.price) (bound_least : most ≤ℤ bound)
      (before : Before low n ms v l (weighed low ms weights ls) (level_pair low ms v.worths l (gain low (weighed low ms weights ls) l ms))) (below : AreBelow bound v.worths) (above : (a : ℕ) → low ≤ℤ worth_at v.worths a) (weights_in : (a : ℕ) → IsIn size (worth_at v.weights a))
      (enough : ((bound +ℤ (((most +ℤ most) -ℤ low) +ℤ pos q)) +ℤ ((most -ℤ (low +ℤ low)) +ℤ pos q)) ≤ℤ size) where
    none_own : worth_at (weighed low ms weights ls) l.header ≡ pos 0
    none_own = weighed_before low most x h apart ms weights ls l.header loops.1 ∙ none.0

    ways_near : Each (IsNearWeight low x (weighed low ms weights ls)) ms
    ways_near = weighed_near low most x h apart n ms weights ls ts (omega (arith, long)) (steps_are n ms steps) loops.2 none.1 loose.1 near

    onward_most : onward low v.worths (head_steps l ms) ≤ℤ (bound +ℤ most)
    onward_most = onward_below low v.worths (head_steps l ms) (bound +ℤ most) (omega (arith, ints))
        (each_map (λ m. m.price ≤ℤ most) (λ m. (m.price +ℤ worth_at v.worths m.on) ≤ℤ (bound +ℤ most)) (head_steps l ms) (λ m p. let b = below m.on in omega (arith, ints)) (each_between (λ m. m.price ≤ℤ most) l.head l.body ms prices))

    pub sizes : IsSizedPair size l (pair_at v l ls)
    sizes = pair_sizes low most bound size q l (gain low (weighed low ms weights ls) l ms) (onward low v.worths (head_steps l ms)) (worth_at v.worths l.header) h pm few
        (gain_low low most size n x h pm apart wide fits ms weights steps prices lows near long small l t (weighed low ms weights ls) loops.0 none_own ways_near loose.0)
        (gain_most low most size n x h pm apart wide fits ms weights steps prices lows near long small l t (weighed low ms weights ls) loops.0 none_own ways_near loose.0)
        (gain_turns low most size n x h pm apart wide fits ms weights steps prices lows near long small l t (weighed low ms weights ls) loops.0 none_own ways_near loose.0)
        bound_least onward_most (above l.header) (omega (arith, ints))

    back_long : (b : ℕ) → l.back ≡ Some b → b < length v.worths
    back_long b is =
        let i : IsBack l ms (Some b) = subst (λ o. IsBack l ms o) is loops.0.back in
        let i1 = i.1 in let r = loops.0.range.1 in let w = before.long_worths in omega (arith, i1, r, w)

    start_long : n < length (new_start v l (pair_at v l ls))
    start_long = let e = raised-long v.worths l l.back (back_worth l (worth_at v.worths l.header) (pair_at v l ls)) in let w = before.long_worths in omega (arith, e, w)

    body_are : Each (IsStep n) (body_steps l ms)
    body_are = each_between (IsStep n) l.body l.rest ms (steps_are n ms steps)

    start_above : (a : ℕ) → low ≤ℤ worth_at (new_start v l (pair_at v l ls)) a
    start_above a = let u = above a in let r = raised_grows v.worths l l.back (back_worth l (worth_at v.worths l.header) (pair_at v l ls)) a back_long in omega (arith, ints)

    pub next_below : AreBelow (bound +ℤ (((most +ℤ most) -ℤ low) +ℤ pos q)) (level_by ms v l (pair_at v l ls)).worths
    next_below = level_in_below low most n q x h pm apart ms weights steps prices near long v l ls t ts bound loops loose none few (omega (arith, ints)) before below

    -- all through the walk of the body
    body_within : (i a : ℕ) → IsIn size (worth_at (relaxed (new_weights v l (pair_at v l ls)) (new_start v l (pair_at v l ls)) (drop i (body_steps l ms))) a)
    body_within i a =
        let u = start_above a in
        let g = relaxed_grows (new_weights v l (pair_at v l ls)) (new_start v l (pair_at v l ls)) n (drop i (body_steps l ms)) a start_long (each_drop (IsStep n) i (body_steps l ms) body_are) in
        let s = relaxed_suffix (new_weights v l (pair_at v l ls)) (new_start v l (pair_at v l ls)) n i (body_steps l ms) a start_long body_are in
        let b = next_below a in (omega (arith, ints), omega (arith, ints))

    pub next_weights : (a : ℕ) → IsIn size (worth_at (new_weights v l (pair_at v l ls)) a)
    next_weights a = elim (eqb_tells a l.header) [
      | inl k ↦ let e = get_or-set_at v.weights l.header a (weight_of l (pair_at v l ls)) (pos 0) k.1 (let r0 = loops.0.range.0 in let r1 = loops.0.range.1 in let w = before.long_weights in omega (arith, r0, r1, w)) in rw e sizes.weight
      | inr k ↦ let e = get_or-set_other v.weights l.header a (weight_of l (pair_at v l ls)) (pos 0) k.1 in rw e (weights_in a)
    ]

    pub next_above : (a : ℕ) → low ≤ℤ worth_at (level_by ms v l (pair_at v l ls)).worths a
    next_above a =
        let u = start_above a in
        let g = relaxed_grows (new_weights v l (pair_at v l ls)) (new_start v l (pair_at v l ls)) n (body_steps l ms) a start_long body_are in omega (arith, ints)

    pub one_level : IsSmall (gain low (weighed low ms weights ls) l ms) × IsSmallLevel ms v l (pair_at v l ls)
    one_level = (
      small_is size (gain low (weighed low ms weights ls) l ms) fits (between_in low most size n x h pm apart wide fits ms weights steps prices lows near long small (gain low (weighed low ms weights ls) l ms)
          (gain_low low most size n x h pm apart wide fits ms weights steps prices lows near long small l t (weighed low ms weights ls) loops.0 none_own ways_near loose.0)
          (gain_most low most size n x h pm apart wide fits ms weights steps prices lows near long small l t (weighed low ms weights ls) loops.0 none_own ways_near loose.0)),
      record {
        worths = λ a. small_is size (worth_at v.worths a) fits (let u = above a in let b = below a in (omega (arith, ints), omega (arith, ints)));
        prices = part_prices low most size n x h pm apart wide fits ms weights steps prices lows near long small l.head l.body;
        price = price_in low most size n x h pm apart wide fits ms weights steps prices lows near long small l t (weighed low ms weights ls) loops.0 none_own ways_near loose.0 back;
        pair = pair_small size l (pair_at v l ls) fits sizes;
        walk = record {
          prices = part_prices low most size n x h pm apart wide fits ms weights steps prices lows near long small l.body l.rest;
          weights_are = λ a. small_is size (worth_at (new_weights v l (pair_at v l ls)) a) fits (next_weights a);
          worths = λ i a. small_is size (worth_at (relaxed (new_weights v l (pair_at v l ls)) (new_start v l (pair_at v l ls)) (drop i (body_steps l ms))) a) fits (body_within i a);
        };
      },
    )

  -- all loops, the outermost first
  pub levels_small : (v : Level) (ls : List Loop) (ts : List Turn) (bound : ℤ) → AreLoops n ms ls → AreLooseTurns low most x ms ls ts → HaveNone weights ls → StartBelow q ls → BacksAbove low ls → most ≤ℤ bound → n < length v.worths → n < length v.weights → ArePaid v ms →
      ((a : ℕ) → From a ls → worth_at v.weights a ≡ worth_at (weighed low ms weights ls) a) → AreBelow bound v.worths → ((a : ℕ) → low ≤ℤ worth_at v.worths a) → ((a : ℕ) → IsIn size (worth_at v.weights a)) →
      (reach (((most +ℤ most) -ℤ low) +ℤ pos q) bound (length ls) +ℤ ((most -ℤ (low +ℤ low)) +ℤ pos q)) ≤ℤ size →
      AreSmallLevels low ms v ls (gains low ms weights ls) × ((a : ℕ) → IsIn size (worth_at (levels low ms v ls (gains low ms weights ls)).weights a)) × AreSizedPairs size ls (level_pairs low ms v ls (gains low ms weights ls))
  levels_small v [] ts bound loops loose none few backs least long_worths long_weights paid same below above weights_in enough = (tt, weights_in, tt)
  levels_small v (l ∷ ls) [] bound loops loose none few backs least long_worths long_weights paid same below above weights_in enough = absurd loose
  levels_small v (l ∷ ls) (t ∷ ts) bound loops loose none few backs least long_worths long_weights paid same below above weights_in enough =
      let k = level_before low n ms weights steps v l ls loops.0 loops.1 long long_worths long_weights paid none same in
      let r = reach_least (((most +ℤ most) -ℤ low) +ℤ pos q) (bound +ℤ (((most +ℤ most) -ℤ low) +ℤ pos q)) (length ls) (omega (arith, ints)) in
      let enough_now : ((bound +ℤ (((most +ℤ most) -ℤ low) +ℤ pos q)) +ℤ ((most -ℤ (low +ℤ low)) +ℤ pos q)) ≤ℤ size = omega (arith, ints) in
      let one = one_level v l ls t ts bound loops loose none few.0 backs.0 least k below above weights_in enough_now in
      let rest = levels_small (level_by ms v l (level_pair low ms v.worths l (gain low (weighed low ms weights ls) l ms))) ls ts (bound +ℤ (((most +ℤ most) -ℤ low) +ℤ pos q)) loops.2 loose.1 none.1 few.1 backs.1 (omega (arith, ints))
      (worths_long (level_pair low ms v.worths l (gain low (weighed low ms weights ls) l ms))) (weights_long (level_pair low ms v.worths l (gain low (weighed low ms weights ls) l ms)))
      (level_paid low n ms l steps loops.0 v (weighed low ms weights ls) (level_pair low ms v.worths l (gain low (weighed low ms weights ls) l ms)) k)
      (λ a f. let b = from_above a l.header ls loops.1 f in
      set_other v.weights l.header a (weight_of l (level_pair low ms v.worths l (gain low (weighed low ms weights ls) l ms))) (λ e. absurd (omega (arith, b, e)))
      ∙ (same a (omega (arith, b)) ∙ set_other (weighed low ms weights ls) l.header a (first_weight low l (gain low (weighed low ms weights ls) l ms)) (λ e. absurd (omega (arith, b, e)))))
      (next_below v l ls t ts bound loops loose none few.0 backs.0 least k below above weights_in enough_now)
      (next_above v l ls t ts bound loops loose none few.0 backs.0 least k below above weights_in enough_now)
      (next_weights v l ls t ts bound loops loose none few.0 backs.0 least k below above weights_in enough_now) enough in
      ((one.0, one.1, rest.0), rest.1, (sizes v l ls t ts bound loops loose none few.0 backs.0 least k below above weights_in enough_now, rest.2))
    where
      worths_long : (p : Pair) → n < length (level_by ms v l p).worths
      worths_long p =
          let e = relaxed-long (slice_set v.weights l.header (weight_of l p)) (raised v.worths l l.back (back_worth l (worth_at v.worths l.header) p)) (body_steps l ms) in
          let f = raised-long v.worths l l.back (back_worth l (worth_at v.worths l.header) p) in omega (arith, e, f, long_worths)

      weights_long : (p : Pair) → n < length (level_by ms v l p).weights
      weights_long p = let e = length-set v.weights l.header (weight_of l p) in omega (arith, e, long_weights)

-- the law of a function
pub stay_small : NumbersStaySmall
stay_small low most bound size q n x ms v ls ts code sized =
    let long = code.blank.worths_long in
    let wide = code.blank.weights_long in
    let step : pos 0 ≤ℤ (((most +ℤ most) -ℤ low) +ℤ pos q) = (let a = code.negative in let b = code.positive in omega (arith, ints)) in
    let r = reach_least (((most +ℤ most) -ℤ low) +ℤ pos q) bound (length ls) step in
    let enough = sized.enough in let least = sized.bound_least in
    let a = code.negative in let p = code.positive in
    let room : (most -ℤ low) ≤ℤ size = omega (arith, ints) in
    let levels_are = levels_small low most size n q x code.negative code.positive code.apart room sized.fits ms v.weights code.steps code.prices sized.steps code.weights wide sized.weights (ground low ms v ls) ls ts bound code.loops code.turns code.blank.none code.starts sized.backs sized.bound_least
    (let e = relaxed-long (weighed low ms v.weights ls) v.worths ms in omega (arith, e, long))
    (let e = weighed-long low ms v.weights ls in omega (arith, e, wide))
    (relaxed_pays (weighed low ms v.weights ls) v.worths n ms long code.steps) (λ a f. refl) sized.below ground_above
    (weighed_in low most size n x code.negative code.positive code.apart room sized.fits ms v.weights code.steps code.prices sized.steps code.weights wide sized.weights ls ts code.loops code.blank.none code.turns) sized.enough in
    record {
      weights = levels_are.1;
      pairs = levels_are.2;
      small = record {
        low_is = small_is size low sized.fits (omega (arith, ints), omega (arith, ints));
        turns = turns_small low most size n x code.negative code.positive code.apart room sized.fits ms v.weights code.steps code.prices sized.steps code.weights wide sized.weights ls ts code.loops code.blank.none code.turns sized.backs;
        walk = record {
          prices = all_prices low most size n x code.negative code.positive code.apart room sized.fits ms v.weights code.steps code.prices sized.steps code.weights wide sized.weights;
          weights_are = λ a. small_is size (worth_at (weighed low ms v.weights ls) a) sized.fits (weighed_in low most size n x code.negative code.positive code.apart room sized.fits ms v.weights code.steps code.prices sized.steps code.weights wide sized.weights ls ts code.loops code.blank.none code.turns a);
          worths = λ i a. small_is size (worth_at (relaxed (weighed low ms v.weights ls) v.worths (drop i ms)) a) sized.fits
              (let u = sized.above a in
              let g = relaxed_grows (weighed low ms v.weights ls) v.worths n (drop i ms) a long (each_drop (IsStep n) i ms (steps_are n ms code.steps)) in
              let s = relaxed_suffix (weighed low ms v.weights ls) v.worths n i ms a long (steps_are n ms code.steps) in
              let b = sized.below a in (omega (arith, ints), omega (arith, ints)));
        };
        levels_are = levels_are.0;
      };
    }
  where
    ground_above : (a : ℕ) → low ≤ℤ worth_at (ground low ms v ls).worths a
    ground_above a =
        let u = sized.above a in
        let g = relaxed_grows (weighed low ms v.weights ls) v.worths n ms a code.blank.worths_long (steps_are n ms code.steps) in omega (arith, ints)
