-- The sizes of all numbers of turn walks, and of the first weights.
use Rattle.std.proofs.Common.{◌≡◌, ℕ, ◌+◌, ◌-◌, ◌≤◌, ◌<◌, ◌^◌, ℤ, pos, ◌+ℤ◌, ◌-ℤ◌, ◌*ℤ◌, ◌≤ℤ◌, ◌<ℤ◌, arith, ◌∙◌, subst, List, [], ◌∷◌, length, drop, inl, inr, Option, Some, None, IfSome, get_or-set_other}
use Rattle.std.specs.Prelude.{slice_set}
use Rattle.std.proofs.lemmas.Int.{ints}
use Rattle.std.proofs.lemmas.Grind.{get_or-set_at}
use Rattle.std.proofs.lemmas.Bool.Decides.{eqb_tells}
use Rattle.std.proofs.lemmas.List.Elements.{All-cons, All-nil}
use Rattle.frac128.proofs.SignedLemmas.{mul-le}
use Rattle.loop_walks.specs.declared.step.Step.{Step}
use Rattle.loop_walks.specs.declared.step.Loop.{Loop}
use Rattle.loop_walks.specs.Walks.{worth_at, between, range_steps}
use Rattle.loop_walks.specs.Turns.{way_at, turned, turn_start, turn_ways, gain_by, gain}
use Rattle.loop_walks.specs.Multipliers.{first_weight}
use Rattle.loop_walks.specs.Levels.{weighed}
use Rattle.loop_walks.specs.Rows.{AreSteps, Each, IsBack, IsLoopOf, AreLoops, HaveNone}
use Rattle.loop_walks.proofs.EachLemmas.{each_map, each_both, each_between, each_drop, steps_are}
use Rattle.loop_walks.proofs.LargerLemmas.{larger_left}
use Rattle.loop_walks.proofs.TurnLemmas.{turn_start-long}
use Rattle.loop_ranges.specs.Near.{IsNear, IsNearWay, IsAtMost}
use Rattle.loop_ranges.specs.Reach.{IsNearWeight, BacksAbove}
use Rattle.loop_ranges.specs.Loose.{Loose, Turn, IsLooseTurn, AreLooseTurns}
use Rattle.loop_ranges.proofs.NearLemmas.{near_most}
use Rattle.loop_ranges.proofs.WalkRanges.{IsTurn, turned_near, start_near, range_turns, turn_near, weighed_before, weighed-long, weighed_near}
use Rattle.loop_worths.specs.Sizes.{IsSmall, HaveSmallPrices, AreSmallWays, IsSmallTurn, AreSmallTurns}
use Rattle.loop_sizes.specs.Laws.{IsIn}
use Rattle.loop_sizes.proofs.SuffixLemmas.{IsLeastWay, ways_least}
use Rattle.loop_sizes.proofs.PairSizes.{small_is, first_weight_within}

pub gain_least : (low price : ℤ) (o : Option ℤ) → low ≤ℤ gain_by low price o
gain_least low price None = omega (arith, ints)
gain_least low price (Some t) = larger_left low (t +ℤ price)

prices_of_each : (ms : List Step) → Each (λ m. IsSmall m.price) ms → HaveSmallPrices ms
prices_of_each [] h = All-nil (λ m. IsSmall m.price)
prices_of_each (m ∷ ms) h = All-cons (λ m. IsSmall m.price) m ms h.0 (prices_of_each ms h.1)

module _ (low most size : ℤ) (n : ℕ) (x : Loose) (h : low ≤ℤ pos 0) (pm : pos 0 ≤ℤ most) (apart : (most +ℤ low) <ℤ pos 0) (wide : (most -ℤ low) ≤ℤ size) (fits : size <ℤ pos (2 ^ 124)) (ms : List Step) (weights : List ℤ) (steps : AreSteps n ms)
    (prices : Each (λ m. m.price ≤ℤ most) ms) (lows : Each (λ m. (low -ℤ most) ≤ℤ m.price) ms) (near : Each (IsNearWeight low x weights) ms) (long : n < length weights) (small : (a : ℕ) → IsIn size (worth_at weights a)) where
  -- numbers between a block and the greatest loose one
  pub between_in : (z : ℤ) → low ≤ℤ z → z ≤ℤ most → IsIn size z
  between_in z l m = (omega (arith, ints), omega (arith, ints))

  pub small_prices : Each (λ m. IsSmall m.price) ms
  small_prices = each_both (λ m. m.price ≤ℤ most) (λ m. (low -ℤ most) ≤ℤ m.price) (λ m. IsSmall m.price) ms (λ m u l. small_is size m.price fits (omega (arith, ints), omega (arith, ints))) prices lows

  pub part_prices : (from to : ℕ) → HaveSmallPrices (between from to ms)
  part_prices from to = prices_of_each (between from to ms) (each_between (λ m. IsSmall m.price) from to ms small_prices)

  pub all_prices : HaveSmallPrices ms
  all_prices = prices_of_each ms small_prices

  -- one loop, at the weights of those in it
  module _ (l : Loop) (t : Turn) (turn_weights : List ℤ) (loop : IsLoopOf n ms l) (none : worth_at turn_weights l.header ≡ pos 0) (turn_weights_near : Each (IsNearWeight low x turn_weights) ms) (loose : IsLooseTurn low most x ms l t) where
    back_inside : (b : ℕ) → l.back ≡ Some b → (l.header ≤ b) × (b < l.end)
    back_inside b is = let i : IsBack l ms (Some b) = subst (λ o. IsBack l ms o) is loop.back in (i.0, i.1)

    turns : Each (IsTurn low x l t turn_weights) (range_steps l ms)
    turns = range_turns low most x h apart n ms l t turn_weights loop (steps_are n ms steps) none turn_weights_near loose

    pub gain_near : IsNear low (gain low turn_weights l ms) t.gain
    gain_near = turn_near low x h l t turn_weights most ms back_inside loose turns

    pub gain_most : gain low turn_weights l ms ≤ℤ most
    gain_most = let k = near_most low (gain low turn_weights l ms) t.gain h gain_near in let s = loose.small.1 in omega (arith, ints)

    pub gain_low : low ≤ℤ gain low turn_weights l ms
    gain_low = gain_least low l.price (way_at (turn_ways low turn_weights l ms) 0)

    pub gain_turns : (pos l.max *ℤ gain low turn_weights l ms) ≤ℤ most
    gain_turns =
        let k = near_most low (gain low turn_weights l ms) t.gain h gain_near in
        let m = mul-le l.max (gain low turn_weights l ms) t.gain k in
        let u = loose.turns in omega (arith, ints)

    pub weight_in : (low ≤ℤ first_weight low l (gain low turn_weights l ms)) × (first_weight low l (gain low turn_weights l ms) ≤ℤ most)
    weight_in = first_weight_within low most l (gain low turn_weights l ms) h pm apart gain_turns gain_most

    -- a way is small
    way_small : (o p : Option ℤ) → IsNearWay low o p → IsAtMost p t.price most → IsLeastWay low o → IfSome o IsSmall
    way_small None p k far least = tt
    way_small (Some v) None k far least = absurd k
    way_small (Some v) (Some u) k far least =
        let c = loose.costs in
        let m = near_most low v u h k.1 in
        small_is size v fits (between_in v least (omega (arith, ints)))

    ways_small : (i : ℕ) → AreSmallWays (turned low turn_weights l.header (turn_start l) (drop i (range_steps l ms)))
    ways_small i j = way_small (way_at (turned low turn_weights l.header (turn_start l) (drop i (range_steps l ms))) j) (t.way (l.header + j))
        (turned_near low x h l t turn_weights (turn_start l) (drop i (range_steps l ms)) (turn_start-long l) (each_drop (IsTurn low x l t turn_weights) i (range_steps l ms) turns) (start_near low x h l t turn_weights l.back back_inside loose.back) j)
        (loose.far (l.header + j))
        (ways_least low h l turn_weights (drop i (range_steps l ms)) back_inside (each_drop (λ m. (m.at - l.header) < (l.end - l.header)) i (range_steps l ms) (each_map (IsTurn low x l t turn_weights) (λ m. (m.at - l.header) < (l.end - l.header)) (range_steps l ms) (λ m k. k.within) turns)) j)

    pub price_in : low ≤ℤ l.price → IsSmall l.price
    price_in back = let k = near_most low l.price t.price h loose.price in let s = loose.small.0 in small_is size l.price fits (between_in l.price back (omega (arith, ints)))

    one_turn : low ≤ℤ l.price → ((a : ℕ) → IsIn size (worth_at turn_weights a)) → IsSmallTurn low turn_weights ms l
    one_turn back turn_small = record {
      price = price_in back;
      turns = record {
        prices = part_prices l.head l.rest;
        weights_are = λ a. small_is size (worth_at turn_weights a) fits (turn_small a);
        ways = ways_small;
      };
      gain_is = small_is size (gain low turn_weights l ms) fits (between_in (gain low turn_weights l ms) gain_low gain_most);
      weight = (let w = weight_in in small_is size (first_weight low l (gain low turn_weights l ms)) fits (between_in (first_weight low l (gain low turn_weights l ms)) w.0 w.1));
    }

  set_in : (ws : List ℤ) (a : ℕ) (z : ℤ) (b : ℕ) → a < length ws → IsIn size z → IsIn size (worth_at ws b) → IsIn size (worth_at (slice_set ws a z) b)
  set_in ws a z b inside new old = elim (eqb_tells b a) [
    | inl k ↦ let e = get_or-set_at ws a b z (pos 0) k.1 inside in rw e new
    | inr k ↦ let e = get_or-set_other ws a b z (pos 0) k.1 in rw e old
  ]

  -- all loops
  pub weighed_in : (ls : List Loop) (ts : List Turn) → AreLoops n ms ls → HaveNone weights ls → AreLooseTurns low most x ms ls ts → (a : ℕ) → IsIn size (worth_at (weighed low ms weights ls) a)
  weighed_in [] ts loops none loose a = small a
  weighed_in (l ∷ ls) [] loops none loose a = absurd loose
  weighed_in (l ∷ ls) (t ∷ ts) loops none loose a =
      let z = weighed_before low most x h apart ms weights ls l.header loops.1 ∙ none.0 in
      let r = weighed_near low most x h apart n ms weights ls ts (omega (arith, long)) (steps_are n ms steps) loops.2 none.1 loose.1 near in
      let w = weight_in l t (weighed low ms weights ls) loops.0 z r loose.0 in
      let r0 = loops.0.range.0 in let r1 = loops.0.range.1 in let k = weighed-long low most x h apart ms weights ls in
      set_in (weighed low ms weights ls) l.header (first_weight low l (gain low (weighed low ms weights ls) l ms)) a (omega (arith, r0, r1, k, long))
      (between_in (first_weight low l (gain low (weighed low ms weights ls) l ms)) w.0 w.1) (weighed_in ls ts loops.2 none.1 loose.1 a)

  pub turns_small : (ls : List Loop) (ts : List Turn) → AreLoops n ms ls → HaveNone weights ls → AreLooseTurns low most x ms ls ts → BacksAbove low ls → AreSmallTurns low ms weights ls
  turns_small [] ts loops none loose backs = tt
  turns_small (l ∷ ls) [] loops none loose backs = absurd loose
  turns_small (l ∷ ls) (t ∷ ts) loops none loose backs =
      let z = weighed_before low most x h apart ms weights ls l.header loops.1 ∙ none.0 in
      let r = weighed_near low most x h apart n ms weights ls ts (omega (arith, long)) (steps_are n ms steps) loops.2 none.1 loose.1 near in (
        one_turn l t (weighed low ms weights ls) loops.0 z r loose.0 backs.0 (weighed_in ls ts loops.2 none.1 loose.1),
        turns_small ls ts loops.2 none.1 loose.1 backs.1,
      )
