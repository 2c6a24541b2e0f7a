-- A function at the prices of a search stands beside its loose walk.
use Rattle.std.proofs.Common.{◌≡◌, ◌≢◌, ℕ, zero, suc, ◌-◌, ◌≤◌, ◌<◌, ℤ, pos, ◌≤ℤ◌, arith, refl, sym, ap, ◌∙◌, subst, List, [], ◌∷◌, length, take, drop, Contains, All, inl, inr, ◌⊎◌, Bool, true, false, cond, Option, Some, None}
use Rattle.std.specs.Prelude.{◌==◌, ◌&&◌, ◌||◌, not}
use Rattle.std.proofs.lemmas.Int.{ints}
use Rattle.std.proofs.lemmas.Bool.Decides.{nat_tests, eqb_tells}
use Rattle.std.proofs.lemmas.List.Elements.{All-head, All-tail, All-contains}
use Rattle.code_flow_system.specs.declared.claims.LoopClaim.{LoopClaim}
use Rattle.code_flow_system.specs.declared.moves.Move.{Move}
use Rattle.code_flow_system.specs.declared.shapes.LoopShape.{LoopShape}
use Rattle.code_flow_system.specs.declared.shapes.Span.{Span}
use Rattle.code_flow_system.specs.Systems.{System, has_moves}
use Rattle.code_flow_system.specs.Loose.{most_turns}
use Rattle.code_flow_system.specs.Shapes.{AreShapesOf, is_back, IsInSpan}
use Rattle.loop_walks.specs.declared.step.Step.{Step}
use Rattle.loop_walks.specs.declared.step.Loop.{Loop}
use Rattle.loop_walks.specs.Walks.{larger, worth_at, between, range_steps}
use Rattle.loop_walks.specs.Rows.{AreSteps, Each, IsLoopOf, AreLoops}
use Rattle.loop_walks.proofs.EachLemmas.{each_map, each_both, each_between, each_whole}
use Rattle.loop_walks.proofs.LargerLemmas.{larger_left, larger_right}
use Rattle.loop_walks.proofs.TurnLemmas.{IsInRange}
use Rattle.loop_ranges.specs.Near.{IsUpTo, IsNear}
use Rattle.loop_ranges.proofs.NearLemmas.{near_up, near_sum, near_larger}
use Rattle.path_places.specs.Reached.{in_span}
use Rattle.path_places.specs.Places.{place_of, call_worth, step_of, is_stop, is_shut, is_walked, steps_of, before, back_place, dearest_from, end_place, loop_of, loops_of}
use Rattle.path_places.specs.PlaceLaws.{function_steps}
use Rattle.path_places.proofs.BeforeLemmas.{before_up, taken_before, dropped_before}
use Rattle.path_places.proofs.LoopLemmas.{steps_each, has_of}
use Rattle.path_places.proofs.FunctionLemmas.{walked_in}
use Rattle.path_places.specs.Driver.{Prices, function_loops}
use Rattle.loop_ranges.specs.Beside.{HasLoose, IsBesideLoop, AreBesideLoops}
use Rattle.loop_ranges.proofs.FarLemmas.{range_in}
use Rattle.loop_ranges.proofs.BesideLemmas.{each_contains}
use Rattle.path_ranges.specs.Loosened.{loose_claim, loose_loops, loose_claims}
use Rattle.path_ranges.specs.LooseDriver.{loose_steps, loose_loops_of}
use Rattle.path_ranges.proofs.SystemLemmas.{none_stop, place_same}
use Rattle.path_ranges.specs.Bounded.{StartsBelow}

-- ---- steps of a range

each_sub : (L ks : List Step) → ((k : Step) → Contains ks k → Contains L k) → Each (λ k. Contains L k) ks
each_sub L [] h = tt
each_sub L (k ∷ ks) h = (h k (zero, omega arith, refl), each_sub L ks (λ x i. h x (suc i.0, (let j = i.1 in omega (arith, j)), i.2)))

-- a step that begins in a range is one of the range's
in_range : (n a b : ℕ) (ks : List Step) (k : Step) → AreSteps n ks → a ≤ b → Contains ks k → a ≤ k.at → k.at < b → Contains (between (before a ks) (before b ks) ks) k
in_range n a b ks k steps le among from to = each_contains (λ x. a ≤ x.at → x.at < b → Contains (between (before a ks) (before b ks) ks) x) ks k
    (each_whole (λ x. a ≤ x.at → x.at < b → Contains (between (before a ks) (before b ks) ks) x) (before a ks) (before b ks) ks (before_up a b ks le)
    (each_map (λ x. x.at < a) (λ x. a ≤ x.at → x.at < b → Contains (between (before a ks) (before b ks) ks) x) (take (before a ks) ks) (λ x lt f t. absurd (omega (arith, lt, f))) (taken_before a ks))
    (each_map (λ x. Contains (between (before a ks) (before b ks) ks) x) (λ x. a ≤ x.at → x.at < b → Contains (between (before a ks) (before b ks) ks) x) (between (before a ks) (before b ks) ks) (λ x c f t. c)
    (each_sub (between (before a ks) (before b ks) ks) (between (before a ks) (before b ks) ks) (λ x c. c)))
    (each_map (λ x. b ≤ x.at) (λ x. a ≤ x.at → x.at < b → Contains (between (before a ks) (before b ks) ks) x) (drop (before b ks) ks) (λ x ge f t. absurd (omega (arith, ge, t))) (dropped_before b n ks steps)))
    among from to

-- a step of a move that is walked is one of the steps
step_in : (price : Move → ℤ) (all : List Move) (ws : List ℤ) (walked : ℕ → Bool) (ms : List Move) (m : Move) → Contains ms m → walked m.at ≡ true → Contains (steps_of price all ws walked ms) (step_of price all ws m)
step_in price all ws walked [] m (k, lt, e) w = absurd (omega (arith, lt))
step_in price all ws walked (x ∷ ms) m (zero, lt, e) w = subst (λ (y : Move). Contains (steps_of price all ws walked (x ∷ ms)) (step_of price all ws y)) e (here (walked x.at) (subst (λ (y : Move). walked y.at ≡ true) (sym e) w))
  where
    here : (t : Bool) → t ≡ true → Contains (cond t (step_of price all ws x ∷ steps_of price all ws walked ms) (steps_of price all ws walked ms)) (step_of price all ws x)
    here true e = (zero, omega arith, refl)
    here false e = cc
step_in price all ws walked (x ∷ ms) m (suc k, lt, e) w = later (walked x.at) (step_in price all ws walked ms m (k, omega (arith, lt), e) w)
  where
    later : (t : Bool) → Contains (steps_of price all ws walked ms) (step_of price all ws m) → Contains (cond t (step_of price all ws x ∷ steps_of price all ws walked ms) (steps_of price all ws walked ms)) (step_of price all ws m)
    later true i = (suc i.0, (let j = i.1 in omega (arith, j)), i.2)
    later false i = i

-- what is walked in a search is walked loosely
pub walked_loosely : (x t u b : Bool) → x && not (t || b) ≡ true → u ≡ false → x && not (u || b) ≡ true
walked_loosely true true u b h e = cc
walked_loosely true false true b h e = cc
walked_loosely true false false b h e = h
walked_loosely false t u b h e = cc

walked_no_stop : (x t b : Bool) → x && not (t || b) ≡ true → t ≡ false
walked_no_stop true true b h = cc
walked_no_stop true false b h = refl
walked_no_stop false t b h = cc

-- the greatest prices of an address
dearest_near : (low : ℤ) (f g : Move → ℤ) (ms : List Move) (a : ℕ) → low ≤ℤ pos 0 → All (λ m. IsUpTo (f m) (g m)) ms → IsNear low (dearest_from f ms a low) (dearest_from g ms a (pos 0))
dearest_near low f g [] a h p = inr (omega (arith, ints))
dearest_near low f g (m ∷ ms) a h p = by_test (m.at == a) (dearest_near low f g ms a h (All-tail (λ m. IsUpTo (f m) (g m)) m ms p))
  where
    by_test : (t : Bool) → IsNear low (dearest_from f ms a low) (dearest_from g ms a (pos 0)) → IsNear low (cond t (larger (f m) (dearest_from f ms a low)) (dearest_from f ms a low)) (cond t (larger (g m) (dearest_from g ms a (pos 0))) (dearest_from g ms a (pos 0)))
    by_test true r = near_larger low (f m) (dearest_from f ms a low) (larger (g m) (dearest_from g ms a (pos 0)))
        (near_up low (f m) (g m) (larger (g m) (dearest_from g ms a (pos 0))) (larger_left (g m) (dearest_from g ms a (pos 0))) (inl (All-head (λ m. IsUpTo (f m) (g m)) m ms p)))
        (near_up low (dearest_from f ms a low) (dearest_from g ms a (pos 0)) (larger (g m) (dearest_from g ms a (pos 0))) (larger_right (g m) (dearest_from g ms a (pos 0))) r)
    by_test false r = r

-- a header that may not be visited is a stop
shut_at : (cs : List LoopClaim) (c : LoopClaim) → Contains cs c → c.max ≡ 0 → is_shut cs c.header ≡ true
shut_at [] c (i, lt, e) z = absurd (omega (arith, lt))
shut_at (x ∷ cs) c (zero, lt, e) z = here (x.header == c.header) (x.max == 0) (same x.header c.header (ap (λ (y : LoopClaim). y.header) e)) (same x.max 0 (ap (λ (y : LoopClaim). y.max) e ∙ z))
  where
    same : (a b : ℕ) → a ≡ b → (a == b) ≡ true
    same a b e = grind (arith, nat_tests)

    here : (t u : Bool) → t ≡ true → u ≡ true → (t && u) || is_shut cs c.header ≡ true
    here true true e f = refl
    here true false e f = cc
    here false u e f = cc
shut_at (x ∷ cs) c (suc i, lt, e) z = later ((x.header == c.header) && (x.max == 0)) (shut_at cs c (i, omega (arith, lt), e) z)
  where
    later : (t : Bool) → is_shut cs c.header ≡ true → t || is_shut cs c.header ≡ true
    later true h = refl
    later false h = h

either_stop : (t u : Bool) → u ≡ true → t || u ≡ true
either_stop true u e = refl
either_stop false u e = e

less_turns : (c : LoopClaim) → c.max ≤ most_turns c
less_turns c = by_test (c.max == 0) refl
  where
    by_test : (t : Bool) → (c.max == 0) ≡ t → c.max ≤ cond t 1 c.max
    by_test true e = grind (arith, nat_tests)
    by_test false e = omega arith

module _ (s : System) (ls : List LoopShape) (q : Prices) (price : Move → ℤ) (starts : ℕ) (prices : All (λ m. IsUpTo (q.of m) (price m)) s.moves) (negative : q.low ≤ℤ pos 0) (bounds : All (StartsBelow starts) s.claims.loops)
    (vs ws : List ℤ) (p : Span) (calls : (m : Move) → Contains s.moves m → IsInSpan p m.at → (t b : ℕ) → m.to ≡ Some t → m.behind ≡ Some b → IsNear q.low (worth_at vs (place_of s.moves t)) (worth_at ws (place_of s.moves t)))
    (real : AreSteps (length s.moves) (function_steps s ls q.of vs p)) (loose : AreSteps (length s.moves) (loose_steps s ls price ws p)) where
  call_near : (to back : Option ℕ) → ((t b : ℕ) → to ≡ Some t → back ≡ Some b → IsNear q.low (worth_at vs (place_of s.moves t)) (worth_at ws (place_of s.moves t))) → IsNear q.low (call_worth s.moves vs to back) (call_worth s.moves ws to back)
  call_near None back h = inl (omega (arith, ints), omega (arith, ints))
  call_near (Some t) None h = inl (omega (arith, ints), omega (arith, ints))
  call_near (Some t) (Some b) h = h t b refl refl

  has_loose : Each (HasLoose q.low (loose_steps s ls price ws p)) (function_steps s ls q.of vs p)
  has_loose = steps_each (HasLoose q.low (loose_steps s ls price ws p)) q.of s.moves vs (is_walked s.claims ls p) s.moves
      (λ m im w. record {
        step = step_of price s.moves ws m;
        among = step_in price s.moves ws (is_walked (loose_claims s.claims) ls p) s.moves m im (walked_loosely (in_span p m.at) (is_stop s.claims m.at) (is_stop (loose_claims s.claims) m.at) (is_back ls m.at) w (none_stop s.claims m.at));
        at = refl;
        on = refl;
        price = near_sum q.low (q.of m) (price m) (call_worth s.moves vs m.to m.behind) (call_worth s.moves ws m.to m.behind) negative (inl (All-contains (λ m. IsUpTo (q.of m) (price m)) s.moves m prices im))
            (call_near m.to m.behind (calls m im (walked_in p (not (is_stop s.claims m.at || is_back ls m.at)) m.at w)));
      })

  -- one loop
  module _ (c : LoopClaim) (ic : Contains s.claims.loops c) (l : LoopShape) (header_is : l.header ≡ c.header) (there : has_moves s.moves l.header ≡ true)
      (fits : IsLoopOf (length s.moves) (function_steps s ls q.of vs p) (loop_of q.of q.low s.moves s.claims p (function_steps s ls q.of vs p) c l)) where
    abbrev ring : Loop
    ring = loop_of q.of q.low s.moves s.claims p (function_steps s ls q.of vs p) c l

    abbrev loose_ring : Loop
    loose_ring = loop_of price (pos 0) s.moves (loose_claims s.claims) p (loose_steps s ls price ws p) (loose_claim c) l

    same_back : (b : ℕ) → back_place s.moves s.claims l.back ≡ Some b → back_place s.moves (loose_claims s.claims) l.back ≡ Some b
    same_back b is = by_test (has_moves s.moves l.back) (is_stop s.claims l.back) (is_stop (loose_claims s.claims) l.back) (none_stop s.claims l.back) is
      where
        by_test : (t u v : Bool) → v ≡ false → cond (t && not u) (Some (place_of s.moves l.back)) None ≡ Some b → cond (t && not v) (Some (place_of s.moves l.back)) None ≡ Some b
        by_test true true v e h = cc
        by_test true false true e h = cc
        by_test true false false e h = h
        by_test false u v e h = cc

    range_loose : Each (HasLoose q.low (range_steps loose_ring (loose_steps s ls price ws p))) (range_steps ring (function_steps s ls q.of vs p))
    range_loose = each_both (IsInRange ring.header (ring.end - ring.header)) (HasLoose q.low (loose_steps s ls price ws p)) (HasLoose q.low (range_steps loose_ring (loose_steps s ls price ws p))) (range_steps ring (function_steps s ls q.of vs p))
        (λ m r h. record {
          step = h.step;
          among = (let r0 = r.0 in let r1 = r.1 in let e = h.at in let o = fits.range.0 in in_range (length s.moves) (place_of s.moves l.header) (end_place s.moves l p) (loose_steps s ls price ws p) h.step loose (omega (arith, o)) h.among (omega (arith, r0, e)) (omega (arith, r0, r1, e)));
          at = h.at;
          on = h.on;
          price = h.price;
        })
        (range_in (length s.moves) (function_steps s ls q.of vs p) ring fits) (each_between (HasLoose q.low (loose_steps s ls price ws p)) ring.head ring.rest (function_steps s ls q.of vs p) has_loose)

    -- a header that may not be visited has no steps
    no_steps : c.max ≡ 0 → Each (λ m. m.at ≢ place_of s.moves l.header) (function_steps s ls q.of vs p)
    no_steps z = steps_each (λ m. m.at ≢ place_of s.moves l.header) q.of s.moves vs (is_walked s.claims ls p) s.moves
        (λ m im w e.
        let same = place_same s m.at l.header (has_of s.moves m im) there e in
        let f = walked_no_stop (in_span p m.at) (is_stop s.claims m.at) (is_back ls m.at) w in
        stopped (is_stop s.claims m.at) f (subst (λ a. is_stop s.claims a ≡ true) (sym (same ∙ header_is)) (either_stop _ (is_shut s.claims.loops c.header) (shut_at s.claims.loops c ic z))))
      where
        stopped : (t : Bool) → t ≡ false → t ≡ true → ⊥
        stopped true e f = cc
        stopped false e f = cc

    loop_bounds : ((0 < c.max) × (c.min ≤ c.max)) ⊎ Each (λ m. m.at ≢ place_of s.moves l.header) (function_steps s ls q.of vs p)
    loop_bounds = elim (eqb_tells c.max 0) [
      | inl z ↦ inr (no_steps z.1)
      | inr d ↦ elim (All-contains (StartsBelow starts) s.claims.loops c bounds ic).0 [
        | inl le ↦ let d1 = d.1 in inl (omega (arith, d1), le)
        | inr z ↦ absurd (d.1 z)
      ]
    ]

    beside : IsBesideLoop q.low (function_steps s ls q.of vs p) (loose_steps s ls price ws p) ring loose_ring
    beside = record {
      range = (refl, refl);
      back = same_back;
      price = dearest_near q.low q.of price s.moves l.back negative prices;
      max = less_turns c;
      steps = range_loose;
      bounds = loop_bounds;
    }

  -- all loops
  some_beside : (cs : List LoopClaim) (ks : List LoopShape) → AreShapesOf cs ks → ((c : LoopClaim) → Contains cs c → Contains s.claims.loops c) →
      AreLoops (length s.moves) (function_steps s ls q.of vs p) (loops_of q.of q.low s.moves s.claims p (function_steps s ls q.of vs p) cs ks) →
      AreBesideLoops q.low (function_steps s ls q.of vs p) (loose_steps s ls price ws p) (loops_of q.of q.low s.moves s.claims p (function_steps s ls q.of vs p) cs ks) (loops_of price (pos 0) s.moves (loose_claims s.claims) p (loose_steps s ls price ws p) (loose_loops cs) ks)
  some_beside [] ks shapes ic loops = tt
  some_beside (c ∷ cs) [] shapes ic loops = absurd shapes
  some_beside (c ∷ cs) (l ∷ ks) shapes ic loops = by_test (in_span p l.header) (has_moves s.moves l.header) refl (some_beside cs ks shapes.2 (λ d h. ic d (suc h.0, (let k = h.1 in omega (arith, k)), h.2))) loops
    where
      by_test : (t u : Bool) → has_moves s.moves l.header ≡ u →
          (AreLoops (length s.moves) (function_steps s ls q.of vs p) (loops_of q.of q.low s.moves s.claims p (function_steps s ls q.of vs p) cs ks) → AreBesideLoops q.low (function_steps s ls q.of vs p) (loose_steps s ls price ws p) (loops_of q.of q.low s.moves s.claims p (function_steps s ls q.of vs p) cs ks) (loops_of price (pos 0) s.moves (loose_claims s.claims) p (loose_steps s ls price ws p) (loose_loops cs) ks)) →
          AreLoops (length s.moves) (function_steps s ls q.of vs p) (cond (t && u) (loop_of q.of q.low s.moves s.claims p (function_steps s ls q.of vs p) c l ∷ loops_of q.of q.low s.moves s.claims p (function_steps s ls q.of vs p) cs ks) (loops_of q.of q.low s.moves s.claims p (function_steps s ls q.of vs p) cs ks)) →
          AreBesideLoops q.low (function_steps s ls q.of vs p) (loose_steps s ls price ws p) (cond (t && u) (loop_of q.of q.low s.moves s.claims p (function_steps s ls q.of vs p) c l ∷ loops_of q.of q.low s.moves s.claims p (function_steps s ls q.of vs p) cs ks) (loops_of q.of q.low s.moves s.claims p (function_steps s ls q.of vs p) cs ks))
          (cond (t && u) (loop_of price (pos 0) s.moves (loose_claims s.claims) p (loose_steps s ls price ws p) (loose_claim c) l ∷ loops_of price (pos 0) s.moves (loose_claims s.claims) p (loose_steps s ls price ws p) (loose_loops cs) ks) (loops_of price (pos 0) s.moves (loose_claims s.claims) p (loose_steps s ls price ws p) (loose_loops cs) ks))
      by_test true true f r loops = (beside c (ic c (zero, omega arith, refl)) l shapes.0 f loops.0, r loops.2)
      by_test true false f r loops = r loops
      by_test false u f r loops = r loops

  -- the function stands beside its loose walk
  pub steps_beside : Each (HasLoose q.low (loose_steps s ls price ws p)) (function_steps s ls q.of vs p)
  steps_beside = has_loose

  pub loops_beside : AreShapesOf s.claims.loops ls → AreLoops (length s.moves) (function_steps s ls q.of vs p) (function_loops s ls q vs p) → AreBesideLoops q.low (function_steps s ls q.of vs p) (loose_steps s ls price ws p) (function_loops s ls q vs p) (loose_loops_of s ls price ws p)
  loops_beside shapes loops = some_beside s.claims.loops ls shapes (λ c h. h) loops
