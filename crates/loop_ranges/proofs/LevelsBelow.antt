-- How far worths reach when all loops of a function are settled.
use Rattle.std.proofs.Common.{◌≡◌, ℕ, ◌+◌, ◌-◌, ◌≤◌, ◌<◌, ℤ, pos, ◌+ℤ◌, ◌-ℤ◌, ◌≤ℤ◌, ◌<ℤ◌, arith, refl, ◌∙◌, List, [], ◌∷◌, length, Option, Some, None, true}
use Rattle.std.specs.Prelude.{slice_set}
use Rattle.std.proofs.lemmas.Int.{ints}
use Rattle.std.proofs.Math.ListN.{length-set}
use Rattle.loop_walks.specs.declared.step.Step.{Step}
use Rattle.loop_walks.specs.declared.step.Loop.{Loop}
use Rattle.loop_walks.specs.declared.step.Pair.{Pair}
use Rattle.loop_walks.specs.Walks.{worth_at, head_steps, body_steps}
use Rattle.loop_walks.specs.Turns.{way_at, turn_ways, gain_by, gain}
use Rattle.loop_walks.specs.Multipliers.{first_weight, weight_of, back_worth}
use Rattle.loop_walks.specs.Levels.{weighed, gains, onward, Level, level_pair, raised, level_by, levels, ground}
use Rattle.loop_walks.specs.Rows.{AreSteps, Each, AreLoops, ArePaid, HaveNone}
use Rattle.loop_walks.proofs.LargerLemmas.{larger_left}
use Rattle.loop_walks.proofs.EachLemmas.{each_map, each_between, steps_are}
use Rattle.loop_walks.proofs.WalkLemmas.{relaxed-long, relaxed_pays}
use Rattle.loop_walks.proofs.LevelLemmas.{set_other, raised-long, weighed-long, From, from_above, Before, beneath, level_paid, level_before}
use Rattle.loop_ranges.specs.Loose.{Loose, Turn, AreLooseTurns}
use Rattle.loop_ranges.specs.Reach.{IsNearWeight, StartBelow, AreBelow, reach, WorthsStayNear, WorthsReach}
use Rattle.loop_ranges.proofs.NearLemmas.{near_most}
use Rattle.loop_ranges.proofs.WalkRanges.{relaxed_near, weighed_before, weighed_near, ways_near}
use Rattle.loop_ranges.proofs.LevelRanges.{onward_below, back_below, level_below}

gain_least : (low price : ℤ) (o : Option ℤ) → low ≤ℤ gain_by low price o
gain_least low price None = omega (arith, ints)
gain_least low price (Some t) = larger_left low (t +ℤ price)

module _ (low most : ℤ) (n q : ℕ) (x : Loose) (h : low ≤ℤ pos 0) (pm : pos 0 ≤ℤ most) (small : (most +ℤ low) <ℤ pos 0) (ms : List Step) (weights : List ℤ) (steps : AreSteps n ms) (prices : Each (λ m. m.price ≤ℤ most) ms) (near : Each (IsNearWeight low x weights) ms) (long : n < length weights) where
  -- what a level adds at most
  abbrev step : ℤ
  step = ((most +ℤ most) -ℤ low) +ℤ pos q

  pub level_in_below : (v : Level) (l : Loop) (ls : List Loop) (t : Turn) (ts : List Turn) (bound : ℤ) → AreLoops n ms (l ∷ ls) → AreLooseTurns low most x ms (l ∷ ls) (t ∷ ts) → HaveNone weights (l ∷ ls) → l.min ≤ q → low ≤ℤ bound →
      Before low n ms v l (weighed low ms weights ls) (level_pair low ms v.worths l (gain low (weighed low ms weights ls) l ms)) → AreBelow bound v.worths →
      AreBelow (bound +ℤ step) (level_by ms v l (level_pair low ms v.worths l (gain low (weighed low ms weights ls) l ms))).worths
  level_in_below v l ls t ts bound loops loose none few least k below a =
      let inside : Each (λ m. (m.price +ℤ worth_at v.worths m.on) ≤ℤ (bound +ℤ most)) (head_steps l ms) = each_map (λ m. m.price ≤ℤ most) (λ m. (m.price +ℤ worth_at v.worths m.on) ≤ℤ (bound +ℤ most)) (head_steps l ms) (λ m p. let b = below m.on in omega (arith, ints)) (each_between (λ m. m.price ≤ℤ most) l.head l.body ms prices) in
      let e = onward_below low v.worths (head_steps l ms) (bound +ℤ most) (omega (arith, ints)) inside in
      let hb = below l.header in
      let z = back_below low l (gain low (weighed low ms weights ls) l ms) (onward low v.worths (head_steps l ms)) (worth_at v.worths l.header) (bound +ℤ most) h (gain_least low l.price (way_at (turn_ways low (weighed low ms weights ls) l ms) 0)) e (omega (arith, ints)) in
      let r = weighed_near low most x h small n ms weights ls ts (omega arith) (steps_are n ms steps) loops.2 none.1 loose.1 near in
      let ways = ways_near low most x h small n ms l t (weighed low ms weights ls) loops.0 (steps_are n ms steps) (weighed_before low most x h small ms weights ls l.header loops.1 ∙ none.0) r loose.0 in
      let up = near_most low l.price t.price h loose.0.price in
      level_below low most bound l.price t.price (back_worth l (worth_at v.worths l.header) (level_pair low ms v.worths l (gain low (weighed low ms weights ls) l ms)))
      (worth_at (level_by ms v l (level_pair low ms v.worths l (gain low (weighed low ms weights ls) l ms))).worths a) (worth_at v.worths a)
      (way_at (turn_ways low (weighed low ms weights ls) l ms) (a - l.header)) (t.way (l.header + (a - l.header))) q h pm
      (beneath low n ms l steps loops.0 v (weighed low ms weights ls) (level_pair low ms v.worths l (gain low (weighed low ms weights ls) l ms)) k a)
      (below a) (ways (a - l.header)) (loose.0.far (l.header + (a - l.header))) up (more z)
    where
      more : {z : ℤ} → z ≤ℤ (((l.price +ℤ (bound +ℤ most)) -ℤ low) +ℤ pos l.min) → z ≤ℤ (((l.price +ℤ (bound +ℤ most)) -ℤ low) +ℤ pos q)
      more z = omega (arith, ints)

  -- each loop that is settled adds that at most
  pub levels_below : (v : Level) (ls : List Loop) (ts : List Turn) (bound : ℤ) → AreLoops n ms ls → AreLooseTurns low most x ms ls ts → StartBelow q ls → low ≤ℤ bound → n < length v.worths → n < length v.weights → ArePaid v ms → HaveNone weights ls →
      ((a : ℕ) → From a ls → worth_at v.weights a ≡ worth_at (weighed low ms weights ls) a) → AreBelow bound v.worths →
      AreBelow (reach (((most +ℤ most) -ℤ low) +ℤ pos q) bound (length ls)) (levels low ms v ls (gains low ms weights ls)).worths
  levels_below v [] ts bound loops loose few least long_worths long_weights paid none same below = below
  levels_below v (l ∷ ls) [] bound loops loose few least long_worths long_weights paid none same below = absurd loose
  levels_below v (l ∷ ls) (t ∷ ts) bound loops loose few least long_worths long_weights paid none same below =
      let k = level_before low n ms weights steps v l ls loops.0 loops.1 long long_worths long_weights paid none same in
      levels_below (level_by ms v l (level_pair low ms v.worths l (gain low (weighed low ms weights ls) l ms))) ls ts (bound +ℤ (((most +ℤ most) -ℤ low) +ℤ pos q)) loops.2 loose.1 few.1 (omega (arith, ints))
      (worths_long (level_pair low ms v.worths l (gain low (weighed low ms weights ls) l ms))) (weights_long (level_pair low ms v.worths l (gain low (weighed low ms weights ls) l ms)))
      (level_paid low n ms l steps loops.0 v (weighed low ms weights ls) (level_pair low ms v.worths l (gain low (weighed low ms weights ls) l ms)) k) none.1
      (λ a f. let b = from_above a l.header ls loops.1 f in
      set_other v.weights l.header a (weight_of l (level_pair low ms v.worths l (gain low (weighed low ms weights ls) l ms))) (λ e. absurd (omega (arith, b, e)))
      ∙ (same a (omega (arith, b)) ∙ set_other (weighed low ms weights ls) l.header a (first_weight low l (gain low (weighed low ms weights ls) l ms)) (λ e. absurd (omega (arith, b, e)))))
      (level_in_below v l ls t ts bound loops loose none few.0 least k below)
    where
      worths_long : (p : Pair) → n < length (level_by ms v l p).worths
      worths_long p =
          let e = relaxed-long (slice_set v.weights l.header (weight_of l p)) (raised v.worths l l.back (back_worth l (worth_at v.worths l.header) p)) (body_steps l ms) in
          let f = raised-long v.worths l l.back (back_worth l (worth_at v.worths l.header) p) in omega (arith, e, f, long_worths)

      weights_long : (p : Pair) → n < length (level_by ms v l p).weights
      weights_long p = let e = length-set v.weights l.header (weight_of l p) in omega (arith, e, long_weights)

-- the laws of a function

pub stay_near : WorthsStayNear
stay_near low most q n x ms v ls ts code inside keeps start a at =
    let r = weighed_near low most x code.negative code.apart n ms v.weights ls ts (let b = code.blank.weights_long in omega arith) (steps_are n ms code.steps) code.loops code.blank.none code.turns code.weights in
    relaxed_near low x code.negative (λ b. inside b ≡ true) (weighed low ms v.weights ls) v.worths n ms code.blank.worths_long (steps_are n ms code.steps) keeps code.pays r start a at

pub worths_below : WorthsReach
worths_below low most q n x ms v ls ts code bound least below =
    let long = code.blank.worths_long in
    let wide = code.blank.weights_long in
    levels_below low most n q x code.negative code.positive code.apart ms v.weights code.steps code.prices code.weights wide (ground low ms v ls) ls ts bound code.loops code.turns code.starts least
    (let e = relaxed-long (weighed low ms v.weights ls) v.worths ms in omega (arith, e, long))
    (let e = weighed-long low ms v.weights ls in omega (arith, e, wide))
    (relaxed_pays (weighed low ms v.weights ls) v.worths n ms long code.steps) code.blank.none (λ a f. refl) below
