-- Open sums have open parts in all functions, one after the other.
use Rattle.std.proofs.Common.{◌≡◌, ℕ, zero, suc, ◌+◌, ℤ, pos, neg_ℤ, ◌+ℤ◌, ◌≤ℤ◌, ◌<ℤ◌, arith, refl, sym, ap, subst, List, [], ◌∷◌, length, Contains, All, inl, true, Option, Some, None}
use Rattle.std.specs.Prelude.{◌||◌, not}
use Rattle.std.proofs.lemmas.Int.{ints}
use Rattle.std.proofs.lemmas.List.Elements.{All-contains}
use Rattle.code_flow_system.specs.declared.moves.Move.{Move}
use Rattle.code_flow_system.specs.declared.shapes.LoopShape.{LoopShape}
use Rattle.code_flow_system.specs.declared.shapes.Span.{Span}
use Rattle.code_flow_system.specs.Systems.{System}
use Rattle.code_flow_system.specs.Shapes.{is_back, IsInSpan, AreApart, AreAllApart}
use Rattle.loop_walks.specs.declared.step.Step.{Step}
use Rattle.loop_walks.specs.Walks.{worth_at}
use Rattle.loop_walks.specs.Levels.{weighed, Level, ground}
use Rattle.loop_walks.specs.Rows.{Each}
use Rattle.loop_walks.proofs.EachLemmas.{each_map, steps_are}
use Rattle.loop_walks.proofs.WalkLemmas.{Pays, relaxed_pays}
use Rattle.loop_ranges.specs.Near.{IsUpTo, IsNear}
use Rattle.loop_ranges.specs.Reach.{IsNearWeight, IsLooseCode}
use Rattle.loop_ranges.proofs.NearLemmas.{near_sum}
use Rattle.loop_ranges.proofs.WalkRanges.{weighed_near}
use Rattle.path_places.specs.Reached.{in_span, rank}
use Rattle.path_places.specs.Places.{place_of, call_worth, is_stop, is_walked}
use Rattle.path_places.specs.PlaceLaws.{function_steps}
use Rattle.path_places.proofs.LoopLemmas.{steps_each}
use Rattle.path_places.proofs.FunctionLemmas.{walked_in}
use Rattle.path_places.specs.Driver.{Prices, blank, function_loops, function_level}
use Rattle.path_places.proofs.DriverLemmas.{step_among, Numbered, numbered}
use Rattle.loop_ranges.specs.LooseWalk.{backed, loose_of, loose_turns, IsLooseWalk}
use Rattle.loop_ranges.proofs.LooseLemmas.{start_long, worths_positive, weights_positive}
use Rattle.path_ranges.specs.Loosened.{loose_claims}
use Rattle.path_ranges.specs.LooseDriver.{no_worths, loose_start, loose_steps, loose_loops_of, loose_function, AreLooseBelow}
use Rattle.path_ranges.proofs.SystemLemmas.{none_stop}
use Rattle.path_ranges.proofs.FunctionFlows.{loose_walk, worths_below}
use Rattle.path_flows.specs.Opens.{CallsOpenly, IsOpenFunction, AreOpenFunctions}
use Rattle.path_ranges.specs.Bounded.{IsBounded}
use Rattle.path_ranges.proofs.BesideFunctions.{walked_loosely}
use Rattle.path_ranges.proofs.FunctionRanges.{is_own, loose_code, on_own, own_near}
use Rattle.path_ranges.proofs.SystemRanges.{prices, Holds, fresh_for, calls_near, holds_next, start_holds}
use Rattle.path_sizes.specs.OpenLaws.{FunctionsAreOpen}
use Rattle.path_sizes.proofs.OpenLemmas.{open_sum}
use Rattle.path_sizes.proofs.CodeOpens.{IsOpenStep, HasOpenCost, costs_of, turn_all_openly, parts_are_open}

module _ (s : System) (ls : List LoopShape) (ps : List Span) (q : Prices) (price : Move → ℤ) (most : ℤ) (starts : ℕ) (b : IsBounded s ls ps q price most starts) (far : ((most +ℤ (most +ℤ most)) +ℤ q.low) <ℤ pos 0) (negative : q.low ≤ℤ pos 0) where
  module _ (k : ℕ) (v : Level) (ws : List ℤ) (r : Span) (rs : List Span) (h : Holds s ls ps q price most starts b k v ws (r ∷ rs)) (ir : Contains ps r) (number : (x : ℕ) → IsInSpan r x → rank ps x ≡ k) (apart : All (AreApart r) rs)
      (below : (a : ℕ) → worth_at (loose_function s ls price ws r).worths a ≤ℤ most) where
    walk : IsLooseWalk (length s.moves) (loose_steps s ls price ws r) (loose_start s ws) (loose_loops_of s ls price ws r)
    walk = loose_walk s ls ps b.whole price (prices s ls ps q price most starts b) ws h.long h.positive h.flows r ir

    worth_positive : (a : ℕ) → pos 0 ≤ℤ worth_at (loose_function s ls price ws r).worths a
    worth_positive = worths_positive (length s.moves) (loose_steps s ls price ws r) (loose_start s ws) (loose_loops_of s ls price ws r) walk

    weight_positive : (a : ℕ) → pos 0 ≤ℤ worth_at (loose_function s ls price ws r).weights a
    weight_positive = weights_positive (length s.moves) (loose_steps s ls price ws r) (loose_start s ws) (loose_loops_of s ls price ws r) walk

    code : IsLooseCode q.low most starts (length s.moves) (loose_of (loose_function s ls price ws r)) (function_steps s ls q.of v.worths r) v (function_loops s ls q v.worths r) (loose_turns (loose_steps s ls price ws r) (no_worths (length s.moves)) (loose_loops_of s ls price ws r))
    code = loose_code s ls ps q price most starts b v r ir h.long_worths h.long_weights h.above (fresh_for s ls ps q price most starts b k v ws r rs h ir number apart below) ws walk below (calls_near s ls ps q price most starts b k v ws r rs h ir number apart below)

    -- what the loose step of a move costs
    loose_cost : (m : Move) → Contains s.moves m → is_walked s.claims ls r m.at ≡ true → ((price m +ℤ call_worth s.moves ws m.to m.behind) +ℤ worth_at (loose_function s ls price ws r).weights (place_of s.moves m.at)) ≤ℤ most
    loose_cost m im w = step_among (λ k. (k.price +ℤ worth_at (loose_function s ls price ws r).weights k.at) ≤ℤ most) price s.moves ws (is_walked (loose_claims s.claims) ls r) s.moves m
        (each_map (Pays (loose_function s ls price ws r).weights (loose_function s ls price ws r).worths) (λ k. (k.price +ℤ worth_at (loose_function s ls price ws r).weights k.at) ≤ℤ most) (loose_steps s ls price ws r)
        (λ k paid. let o = worth_positive k.on in let u = below k.at in let e = paid in omega (arith, ints))
        (relaxed_pays (loose_function s ls price ws r).weights (backed ws (loose_loops_of s ls price ws r)) (length s.moves) (loose_steps s ls price ws r) (start_long (length s.moves) (loose_steps s ls price ws r) (loose_start s ws) (loose_loops_of s ls price ws r) walk) walk.steps))
        im (walked_loosely (in_span r m.at) (is_stop s.claims m.at) (is_stop (loose_claims s.claims) m.at) (is_back ls m.at) w (none_stop s.claims m.at))

    call_positive : (to back : Option ℕ) → pos 0 ≤ℤ call_worth s.moves ws to back
    call_positive None back = omega (arith, ints)
    call_positive (Some t) None = omega (arith, ints)
    call_positive (Some t) (Some j) = h.positive (place_of s.moves t)

    call_near : (to back : Option ℕ) → ((t j : ℕ) → to ≡ Some t → back ≡ Some j → IsNear q.low (worth_at v.worths (place_of s.moves t)) (worth_at ws (place_of s.moves t))) → IsNear q.low (call_worth s.moves v.worths to back) (call_worth s.moves ws to back)
    call_near None back n = inl (omega (arith, ints), omega (arith, ints))
    call_near (Some t) None n = inl (omega (arith, ints), omega (arith, ints))
    call_near (Some t) (Some j) n = n t j refl refl

    -- where a move's price and call are open, so are both
    call_open : (m : Move) → Contains s.moves m → is_walked s.claims ls r m.at ≡ true → neg_ℤ most ≤ℤ (q.of m +ℤ call_worth s.moves v.worths m.to m.behind) → neg_ℤ most ≤ℤ call_worth s.moves v.worths m.to m.behind
    call_open m im w high =
        let inside = walked_in r (not (is_stop s.claims m.at || is_back ls m.at)) m.at w in
        let c = call_positive m.to m.behind in
        let g = weight_positive (place_of s.moves m.at) in
        let l = loose_cost m im w in
        let u = All-contains (λ m. IsUpTo (q.of m) (price m)) s.moves m b.prices im in
        let p = All-contains (λ m. pos 0 ≤ℤ price m) s.moves m (prices s ls ps q price most starts b) im in
        let o = open_sum q.low most negative b.positive far (q.of m) (price m) (call_worth s.moves v.worths m.to m.behind) (call_worth s.moves ws m.to m.behind) p (omega (arith, ints)) c (omega (arith, ints)) (inl u)
        (call_near m.to m.behind (calls_near s ls ps q price most starts b k v ws r rs h ir number apart below m im inside)) high in
        let y = o.1.0 in omega (arith, ints)

    open_steps : Each (IsOpenStep q.low most (CallsOpenly (neg_ℤ most) s ls q v.worths r) (loose_of (loose_function s ls price ws r))) (function_steps s ls q.of v.worths r)
    open_steps = steps_each (IsOpenStep q.low most (CallsOpenly (neg_ℤ most) s ls q v.worths r) (loose_of (loose_function s ls price ws r))) q.of s.moves v.worths (is_walked s.claims ls r) s.moves
        (λ m im w. record {
          price = price m +ℤ call_worth s.moves ws m.to m.behind;
          near = near_sum q.low (q.of m) (price m) (call_worth s.moves v.worths m.to m.behind) (call_worth s.moves ws m.to m.behind) negative (inl (All-contains (λ m. IsUpTo (q.of m) (price m)) s.moves m b.prices im))
              (call_near m.to m.behind (calls_near s ls ps q price most starts b k v ws r rs h ir number apart below m im (walked_in r (not (is_stop s.claims m.at || is_back ls m.at)) m.at w)));
          positive = (let p = All-contains (λ m. pos 0 ≤ℤ price m) s.moves m (prices s ls ps q price most starts b) im in let c = call_positive m.to m.behind in omega (arith, ints));
          small = loose_cost m im w;
          called = λ high m' im' w' e. call_open m' im' w' (subst (λ (z : ℤ). neg_ℤ most ≤ℤ z) (sym (ap (λ (y : Step). y.price) e)) high);
        })

    weights_near : Each (IsNearWeight q.low (loose_of (loose_function s ls price ws r)) (weighed q.low (function_steps s ls q.of v.worths r) v.weights (function_loops s ls q v.worths r))) (function_steps s ls q.of v.worths r)
    weights_near = weighed_near q.low most (loose_of (loose_function s ls price ws r)) negative b.apart (length s.moves) (function_steps s ls q.of v.worths r) v.weights (function_loops s ls q v.worths r) (loose_turns (loose_steps s ls price ws r) (no_worths (length s.moves)) (loose_loops_of s ls price ws r))
        (let l = h.long_weights in omega (arith, l)) (steps_are (length s.moves) (function_steps s ls q.of v.worths r) code.steps) code.loops code.blank.none code.turns code.weights

    costs : Each (HasOpenCost q.low most negative b.positive far b.apart (CallsOpenly (neg_ℤ most) s ls q v.worths r) (length s.moves) (loose_of (loose_function s ls price ws r)) weight_positive (function_steps s ls q.of v.worths r) code.steps open_steps (weighed q.low (function_steps s ls q.of v.worths r) v.weights (function_loops s ls q v.worths r))) (function_steps s ls q.of v.worths r)
    costs = costs_of q.low most negative b.positive far b.apart (CallsOpenly (neg_ℤ most) s ls q v.worths r) (length s.moves) (loose_of (loose_function s ls price ws r)) weight_positive (function_steps s ls q.of v.worths r) code.steps open_steps (weighed q.low (function_steps s ls q.of v.worths r) v.weights (function_loops s ls q v.worths r)) weights_near

    own_worths_near : (a : ℕ) → is_own s.moves r a ≡ true → IsNear q.low (worth_at (ground q.low (function_steps s ls q.of v.worths r) v (function_loops s ls q v.worths r)).worths a) (worth_at (loose_function s ls price ws r).worths a)
    own_worths_near = own_near s ls ps q price most starts b v r ir h.long_worths h.long_weights h.above (fresh_for s ls ps q price most starts b k v ws r rs h ir number apart below) ws walk below (calls_near s ls ps q price most starts b k v ws r rs h ir number apart below)

    steps_own : Each (λ m. is_own s.moves r m.on ≡ true) (function_steps s ls q.of v.worths r)
    steps_own = on_own s ls ps q price most starts b v r ir h.long_worths h.long_weights h.above (fresh_for s ls ps q price most starts b k v ws r rs h ir number apart below) ws walk below (calls_near s ls ps q price most starts b k v ws r rs h ir number apart below)

    pub open_function : IsOpenFunction (neg_ℤ most) s ls q v r
    open_function = record {
      above = (let p = b.positive in omega (arith, ints));
      nothing = (let p = b.positive in omega (arith, ints));
      steps = parts_are_open q.low most negative b.positive far b.apart (CallsOpenly (neg_ℤ most) s ls q v.worths r) (length s.moves) (loose_of (loose_function s ls price ws r)) weight_positive (function_steps s ls q.of v.worths r) code.steps open_steps (weighed q.low (function_steps s ls q.of v.worths r) v.weights (function_loops s ls q v.worths r)) (ground q.low (function_steps s ls q.of v.worths r) v (function_loops s ls q v.worths r)).worths costs (λ a. (worth_positive a, below a))
          (each_map (λ m. is_own s.moves r m.on ≡ true) (λ m. IsNear q.low (worth_at (ground q.low (function_steps s ls q.of v.worths r) v (function_loops s ls q v.worths r)).worths m.on) (worth_at (loose_function s ls price ws r).worths m.on)) (function_steps s ls q.of v.worths r) (λ m o. own_worths_near m.on o) steps_own);
      turns = turn_all_openly q.low most negative b.positive far b.apart (CallsOpenly (neg_ℤ most) s ls q v.worths r) (length s.moves) (loose_of (loose_function s ls price ws r)) weight_positive (function_steps s ls q.of v.worths r) code.steps open_steps v.weights h.long_weights code.weights (function_loops s ls q v.worths r) (loose_turns (loose_steps s ls price ws r) (no_worths (length s.moves)) (loose_loops_of s ls price ws r)) code.loops code.blank.none code.turns;
    }

  opens_from : (k : ℕ) (v : Level) (ws : List ℤ) (rs : List Span) → Holds s ls ps q price most starts b k v ws rs → ((r : Span) → Contains rs r → Contains ps r) → Numbered s ls ps b.whole q k rs → AreAllApart rs → AreLooseBelow s ls price most ws rs → AreOpenFunctions (neg_ℤ most) s ls q v rs
  opens_from k v ws [] h inside number apart below = tt
  opens_from k v ws (r ∷ rs) h inside number apart below =
      let ir = inside r (zero, omega arith, refl) in (
        open_function k v ws r rs h ir number.0 apart.0 below.0,
        opens_from (k + 1) (function_level s ls q v r) (loose_function s ls price ws r).worths rs (holds_next s ls ps q price most starts b k v ws r rs h ir number.0 apart.0 below.0) (λ p i. inside p (suc i.0, (let j = i.1 in omega (arith, j)), i.2)) number.1 apart.1 below.1,
      )

-- at any prices
pub all_open : (s : System) (ls : List LoopShape) (ps : List Span) → FunctionsAreOpen s ls ps
all_open s ls ps q price most starts b far =
    opens_from s ls ps q price most starts b far (let a = b.apart in let p = b.positive in omega (arith, ints)) 0 (blank (length s.moves) q.low) (no_worths (length s.moves)) ps (start_holds s ls ps q price most starts b)
    (λ r i. i) (numbered s ls ps b.whole q 0 ps b.whole.fits.apart (λ x i. omega arith)) b.whole.fits.apart
    (worths_below s ls ps b.whole price most (prices s ls ps q price most starts b) b.positive b.totals)
