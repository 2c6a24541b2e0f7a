-- The loops of a function lead flows on: from a jump back, along the steps of a way, and around the header.
use Rattle.std.proofs.Common.{◌≡◌, ℕ, zero, suc, ◌-◌, ◌≤◌, ℤ, pos, ◌+ℤ◌, ◌-ℤ◌, ◌*ℤ◌, ◌≤ℤ◌, arith, refl, sym, ap, ◌∙◌, subst, List, [], ◌∷◌, length, Contains, All, inl, inr, ◌⊎◌, Bool, true, false, cond, Some, None}
use Rattle.std.specs.Prelude.{◌&&◌, ◌||◌, not}
use lib.IntN.{*ℤ_comm}
use Rattle.std.proofs.lemmas.Int.{ints}
use Rattle.std.proofs.lemmas.Bool.Decides.{eqb_tells, leb_tells}
use Rattle.std.proofs.lemmas.List.Elements.{All-contains}
use Rattle.frac128.proofs.SignedLemmas.{mul-le}
use Rattle.code_flow_system.specs.declared.claims.LoopClaim.{LoopClaim}
use Rattle.code_flow_system.specs.declared.moves.Move.{Move}
use Rattle.code_flow_system.specs.declared.shapes.LoopShape.{LoopShape}
use Rattle.code_flow_system.specs.declared.shapes.Span.{Span}
use Rattle.code_flow_system.specs.Moves.{destinations}
use Rattle.code_flow_system.specs.Systems.{System, has_moves}
use Rattle.code_flow_system.specs.Counts.{total}
use Rattle.code_flow_system.specs.Loose.{most_turns}
use Rattle.code_flow_system.specs.Shapes.{AreShapesOf, IsLoop, is_back, IsInSpan}
use Rattle.loop_walks.specs.declared.step.Loop.{Loop}
use Rattle.loop_walks.specs.Walks.{worth_at, range_steps}
use Rattle.loop_walks.specs.Rows.{Each, IsLoopOf, AreLoops}
use Rattle.loop_walks.proofs.EachLemmas.{each_both, each_between}
use Rattle.loop_walks.proofs.TurnLemmas.{IsInRange}
use Rattle.path_places.specs.Reached.{in_span}
use Rattle.path_places.specs.Places.{place_of, is_stop, is_walked, back_place, dearest_from, loop_of, loops_of}
use Rattle.path_places.specs.PlaceLaws.{IsReachedWhole}
use Rattle.path_places.proofs.RankLemmas.{rank_equal, span_of}
use Rattle.path_places.proofs.PlaceLemmas.{place_above}
use Rattle.path_places.proofs.LoopLemmas.{steps_each, has_of}
use Rattle.path_places.proofs.FunctionLemmas.{walked_in, sound_ascend}
use Rattle.loop_ranges.specs.LooseWalk.{back_price, MayTurn, AllMayTurn}
use Rattle.loop_ranges.proofs.FarLemmas.{range_in}
use Rattle.loop_ranges.proofs.FlowLemmas.{Leads, LeadsWay, IsFlowingLoop, AreFlowingLoops}
use Rattle.path_ranges.specs.Loosened.{loose_claim, loose_loops, loose_claims}
use Rattle.path_ranges.specs.LooseDriver.{loose_steps}
use Rattle.path_ranges.proofs.TotalLemmas.{times, once, total-times}
use Rattle.path_ranges.proofs.PartLemmas.{least_turns, Precedes, left, come, turn_round, back_part, back_left, back_comes, back_total}
use Rattle.path_ranges.proofs.SystemLemmas.{none_stop, one_claim, place_same}
use Rattle.path_ranges.proofs.PlaceFlows.{Part, IsFrom, IsAround, IsWay, along, way_along}
use Rattle.path_ranges.proofs.DearestLemmas.{Dearest, dearest_none, dearest_least, dearest_is}

-- a walked address is in its span and no jump back
pub walked_no_back : (x t b : Bool) → x && not (t || b) ≡ true → b ≡ false
walked_no_back true true b h = cc
walked_no_back true false true h = cc
walked_no_back true false false h = refl
walked_no_back false t b h = cc

module _ (s : System) (ls : List LoopShape) (ps : List Span) (whole : IsReachedWhole s ls ps) (price : Move → ℤ) (prices : All (λ m. pos 0 ≤ℤ price m) s.moves) (ws : List ℤ) (flows : (i : ℕ) → IsFrom s ls ps whole price i (worth_at ws i)) (p : Span) (ip : Contains ps p) where
  -- steps lead on
  pub steps_lead : Each (Leads (IsFrom s ls ps whole price) (IsAround s ls ps whole price) (IsWay s ls ps whole price)) (loose_steps s ls price ws p)
  steps_lead = steps_each (Leads (IsFrom s ls ps whole price) (IsAround s ls ps whole price) (IsWay s ls ps whole price)) price s.moves ws (is_walked (loose_claims s.claims) ls p) s.moves
      (λ m im w x v around from. along s ls ps whole price m im (walked_no_back (in_span p m.at) (is_stop (loose_claims s.claims) m.at) (is_back ls m.at) w) ws flows x v around from)

  -- where a jump back is
  back_is : (a b : ℕ) → back_place s.moves (loose_claims s.claims) a ≡ Some b → (has_moves s.moves a ≡ true) × (place_of s.moves a ≡ b)
  back_is a b is = by_test (has_moves s.moves a) refl (is_stop (loose_claims s.claims) a) is
    where
      by_test : (t : Bool) → has_moves s.moves a ≡ t → (u : Bool) → cond (t && not u) (Some (place_of s.moves a)) None ≡ Some b → (has_moves s.moves a ≡ true) × (place_of s.moves a ≡ b)
      by_test true h true e = cc
      by_test true h false e = (h, cc)
      by_test false h u e = cc

  back_none : (a : ℕ) → back_place s.moves (loose_claims s.claims) a ≡ None → has_moves s.moves a ≡ false
  back_none a is = by_test (has_moves s.moves a) refl (is_stop (loose_claims s.claims) a) (none_stop s.claims a) is
    where
      by_test : (t : Bool) → has_moves s.moves a ≡ t → (u : Bool) → u ≡ false → cond (t && not u) (Some (place_of s.moves a)) None ≡ None → has_moves s.moves a ≡ false
      by_test true h true z e = cc
      by_test true h false z e = cc
      by_test false h u z e = h

  -- one loop
  module _ (c : LoopClaim) (ic : Contains s.claims.loops c) (l : LoopShape) (il : Contains ls l) (header_is : l.header ≡ c.header) (inside : IsInSpan p l.header) (there : has_moves s.moves l.header ≡ true) where
    abbrev ring : Loop
    ring = loop_of price (pos 0) s.moves (loose_claims s.claims) p (loose_steps s ls price ws p) (loose_claim c) l

    loop : IsLoop s l
    loop = All-contains (IsLoop s) ls l whole.fits.loops il

    -- all claims of the header are the one
    turns_are : (d : LoopClaim) → Contains s.claims.loops d → d.header ≡ l.header → most_turns c ≡ most_turns d
    turns_are d id e = ap most_turns (one_claim s.claims.loops c d (sound_ascend s.claims whole.system.sound) ic id (sym header_is ∙ sym e))

    may_turn : MayTurn ring
    may_turn = record {
      often = (let e = least_turns c in omega (arith, e));
      positive = dearest_least price s.moves l.back (pos 0);
      idle = λ e. dearest_none price s.moves l.back (pos 0) (back_none l.back e);
    }

    back_goes : (m : Move) → Contains s.moves m → m.at ≡ l.back → Contains (destinations m) l.header
    back_goes m im e = subst (λ ds. Contains ds l.header) (sym (All-contains (λ (x : Move). x.at ≡ l.back → destinations x ≡ l.header ∷ []) s.moves m loop.goes_back im e)) (zero, omega arith, refl)

    module _ (k : Dearest price s.moves l.back) (back_there : has_moves s.moves l.back ≡ true) where
      same_place : place_of s.moves k.move.at ≡ place_of s.moves l.back
      same_place = ap (place_of s.moves) k.at

      -- the jump back, so often
      back_flow : (n : ℕ) → 1 ≤ n → (n ≡ 1) ⊎ (l.back ≡ l.header) → ((d : LoopClaim) → Contains s.claims.loops d → d.header ≡ l.back → n ≤ most_turns d) → Part s ls ps whole price (k.move.at ∷ []) (pos n *ℤ dearest_from price s.moves l.back (pos 0))
      back_flow n often how most = record {
        amounts = times n (once k.move);
        part = back_part s ps whole.system.ascending k.move k.among n often (elim how [ inl e ↦ inl e | inr e ↦ inr (subst (λ a. Contains (destinations k.move) a) (sym e ∙ sym k.at) (back_goes k.move k.among k.at)) ]) (λ d id e. most d id (e ∙ k.at));
        value = (let e = back_total s ps whole.system.ascending k.move k.among n price in let t = mul-le n (dearest_from price s.moves l.back (pos 0)) (price k.move) k.most in omega (arith, ints));
      }

      from_back : IsFrom s ls ps whole price (place_of s.moves l.back) (back_price ring (place_of s.moves l.back))
      from_back = elim (eqb_tells (place_of s.moves l.back) (place_of s.moves l.header)) [
        | inl q ↦
            let e = place_same s l.back l.header back_there there q.1 in
            let z = q.0 in
            rw z (inr (record { at = k.move.at; there = has_of s.moves k.move k.among; place = same_place; flow = back_flow (most_turns c) (least_turns c) (inr e) (λ d id h. let t = turns_are d id (h ∙ e) in omega (arith, t)) }))
        | inr q ↦
            let z = q.0 in
            let one : pos 1 *ℤ dearest_from price s.moves l.back (pos 0) ≡ dearest_from price s.moves l.back (pos 0) = omega (arith, ints) in
            rw z (inr (record { at = k.move.at; there = has_of s.moves k.move k.among; place = same_place; flow = subst (λ (y : ℤ). Part s ls ps whole price (k.move.at ∷ []) y) one (back_flow 1 (omega arith) (inl refl) (λ d id h. least_turns d)) }))
      ]

      way_back : IsWay s ls ps whole price ring (place_of s.moves l.back) (pos 0)
      way_back = record {
        at = k.move.at;
        there = has_of s.moves k.move k.among;
        place = same_place;
        header = l.header;
        header_there = there;
        header_place = refl;
        flow = record {
          amounts = times 1 (once k.move);
          part = back_part s ps whole.system.ascending k.move k.among 1 (omega arith) (inl refl) (λ d id e. least_turns d);
          value = (let e = back_total s ps whole.system.ascending k.move k.among 1 price in let t = mul-le 1 (dearest_from price s.moves l.back (pos 0)) (price k.move) k.most in let o : pos 1 *ℤ dearest_from price s.moves l.back (pos 0) ≡ dearest_from price s.moves l.back (pos 0) = omega (arith, ints) in omega (arith, ints));
        };
        comes = back_comes s ps whole.system.ascending k.move k.among 1 l.header (omega arith) (back_goes k.move k.among k.at);
        single = back_left s ps whole.system.ascending k.move k.among 1 l.header;
      }

    -- the header is a step's address, or stands before it
    header_before : (m : Move) → Contains s.moves m → IsInSpan p m.at → place_of s.moves l.header ≤ place_of s.moves m.at → (l.header ≡ m.at) ⊎ Precedes ps l.header m.at
    header_before m im at le = elim (leb_tells l.header m.at) [
      | inl q ↦ elim (eqb_tells l.header m.at) [
        | inl e ↦ inl e.1
        | inr e ↦ let q1 = q.1 in let e1 = e.1 in inr (inr (rank_equal ps p l.header m.at whole.fits.apart ip inside at, omega (arith, q1, e1)))
      ]
      | inr q ↦ let q1 = q.1 in let a = place_above s.moves m.at l.header (has_of s.moves m im) (omega (arith, q1)) in absurd (omega (arith, a, le))
    ]

    way_steps : IsLoopOf (length s.moves) (loose_steps s ls price ws p) ring → Each (LeadsWay (IsFrom s ls ps whole price) (IsAround s ls ps whole price) (IsWay s ls ps whole price) ring) (range_steps ring (loose_steps s ls price ws p))
    way_steps fits = each_both (IsInRange ring.header (ring.end - ring.header)) (λ k. ring.header ≤ k.at → LeadsWay (IsFrom s ls ps whole price) (IsAround s ls ps whole price) (IsWay s ls ps whole price) ring k) (LeadsWay (IsFrom s ls ps whole price) (IsAround s ls ps whole price) (IsWay s ls ps whole price) ring) (range_steps ring (loose_steps s ls price ws p))
        (λ k r lead. lead r.0) (range_in (length s.moves) (loose_steps s ls price ws p) ring fits)
        (each_between (λ k. ring.header ≤ k.at → LeadsWay (IsFrom s ls ps whole price) (IsAround s ls ps whole price) (IsWay s ls ps whole price) ring k) ring.head ring.rest (loose_steps s ls price ws p)
        (steps_each (λ k. ring.header ≤ k.at → LeadsWay (IsFrom s ls ps whole price) (IsAround s ls ps whole price) (IsWay s ls ps whole price) ring k) price s.moves ws (is_walked (loose_claims s.claims) ls p) s.moves
        (λ m im w le x t none around way. way_along s ls ps whole price m im (walked_no_back (in_span p m.at) (is_stop (loose_claims s.claims) m.at) (is_back ls m.at) w) ring l.header there refl
        (header_before m im (walked_in p (not (is_stop (loose_claims s.claims) m.at || is_back ls m.at)) m.at w) le) ws flows x t none around way)))

    turns_flow : (t : ℤ) → pos 0 ≤ℤ t → IsWay s ls ps whole price ring (place_of s.moves l.header) t → IsAround s ls ps whole price (place_of s.moves l.header) ((t +ℤ dearest_from price s.moves l.back (pos 0)) *ℤ (pos (most_turns c) -ℤ pos 1))
    turns_flow t pt k =
        let e = place_same s k.at l.header k.there there k.place in
        let f = place_same s k.header l.header k.header_there there k.header_place in
        inr (record {
          at = k.at;
          there = k.there;
          place = k.place;
          turns = record {
            amounts = times (most_turns c - 1) k.flow.amounts;
            round = turn_round s ps whole.system.ascending k.at k.flow.amounts (most_turns c - 1) k.flow.part
                (subst (λ a. left s ps whole.system.ascending k.flow.amounts a ≤ℤ pos 1) (f ∙ sym e) k.single) (subst (λ a. pos 1 ≤ℤ come s ps whole.system.ascending k.flow.amounts a) (f ∙ sym e) k.comes)
                (λ d id h. let o = least_turns c in let q = turns_are d id (h ∙ e) in omega (arith, o, q));
            value =
                (let o = least_turns c in
                let g = total-times price (most_turns c - 1) k.flow.amounts s.moves in
                let v = mul-le (most_turns c - 1) (t +ℤ dearest_from price s.moves l.back (pos 0)) (total price k.flow.amounts s.moves) k.flow.value in
                let i : (pos (most_turns c) -ℤ pos 1) ≡ pos (most_turns c - 1) = less_one (most_turns c) o in
                let j = *ℤ_comm (t +ℤ dearest_from price s.moves l.back (pos 0)) (pos (most_turns c - 1)) in
                let y : ((t +ℤ dearest_from price s.moves l.back (pos 0)) *ℤ (pos (most_turns c) -ℤ pos 1)) ≡ ((t +ℤ dearest_from price s.moves l.back (pos 0)) *ℤ pos (most_turns c - 1)) = ap (λ (y : ℤ). (t +ℤ dearest_from price s.moves l.back (pos 0)) *ℤ y) i in omega (arith, ints));
          };
        })
      where
        less_one : (n : ℕ) → 1 ≤ n → (pos n -ℤ pos 1) ≡ pos (n - 1)
        less_one n h = omega (arith, ints)

    pub loop_flows : IsLoopOf (length s.moves) (loose_steps s ls price ws p) ring → IsFlowingLoop (IsFrom s ls ps whole price) (IsAround s ls ps whole price) (IsWay s ls ps whole price) (loose_steps s ls price ws p) ring
    loop_flows fits = record {
      back = λ b is. by_back b (back_is l.back b is);
      steps = way_steps fits;
      turns = turns_flow;
    }
      where
        by_back : (b : ℕ) → (has_moves s.moves l.back ≡ true) × (place_of s.moves l.back ≡ b) → IsFrom s ls ps whole price b (back_price ring b) × IsWay s ls ps whole price ring b (pos 0)
        by_back b h =
            let k = dearest_is price s.moves l.back prices h.0 in
            subst (λ a. IsFrom s ls ps whole price a (back_price ring a) × IsWay s ls ps whole price ring a (pos 0)) h.1 (from_back k h.0, way_back k h.0)

  -- all loops of the function
  pub some_flow : (cs : List LoopClaim) (ks : List LoopShape) → AreShapesOf cs ks → ((c : LoopClaim) → Contains cs c → Contains s.claims.loops c) → ((l : LoopShape) → Contains ks l → Contains ls l) →
      AreLoops (length s.moves) (loose_steps s ls price ws p) (loops_of price (pos 0) s.moves (loose_claims s.claims) p (loose_steps s ls price ws p) (loose_loops cs) ks) →
      AllMayTurn (loops_of price (pos 0) s.moves (loose_claims s.claims) p (loose_steps s ls price ws p) (loose_loops cs) ks)
      × AreFlowingLoops (IsFrom s ls ps whole price) (IsAround s ls ps whole price) (IsWay s ls ps whole price) (loose_steps s ls price ws p) (loops_of price (pos 0) s.moves (loose_claims s.claims) p (loose_steps s ls price ws p) (loose_loops cs) ks)
  some_flow [] ks shapes ic il loops = (tt, tt)
  some_flow (c ∷ cs) [] shapes ic il loops = (tt, tt)
  some_flow (c ∷ cs) (l ∷ ks) shapes ic il loops = by_test (in_span p l.header) refl (has_moves s.moves l.header) refl (some_flow cs ks shapes.2 (λ d h. ic d (suc h.0, omega (arith, h.1), h.2)) (λ d h. il d (suc h.0, omega (arith, h.1), h.2))) loops
    where
      by_test : (t : Bool) → in_span p l.header ≡ t → (u : Bool) → has_moves s.moves l.header ≡ u →
          (AreLoops (length s.moves) (loose_steps s ls price ws p) (loops_of price (pos 0) s.moves (loose_claims s.claims) p (loose_steps s ls price ws p) (loose_loops cs) ks) → AllMayTurn (loops_of price (pos 0) s.moves (loose_claims s.claims) p (loose_steps s ls price ws p) (loose_loops cs) ks)
          × AreFlowingLoops (IsFrom s ls ps whole price) (IsAround s ls ps whole price) (IsWay s ls ps whole price) (loose_steps s ls price ws p) (loops_of price (pos 0) s.moves (loose_claims s.claims) p (loose_steps s ls price ws p) (loose_loops cs) ks)) →
          AreLoops (length s.moves) (loose_steps s ls price ws p) (cond (t && u) (loop_of price (pos 0) s.moves (loose_claims s.claims) p (loose_steps s ls price ws p) (loose_claim c) l ∷ loops_of price (pos 0) s.moves (loose_claims s.claims) p (loose_steps s ls price ws p) (loose_loops cs) ks) (loops_of price (pos 0) s.moves (loose_claims s.claims) p (loose_steps s ls price ws p) (loose_loops cs) ks)) →
          AllMayTurn (cond (t && u) (loop_of price (pos 0) s.moves (loose_claims s.claims) p (loose_steps s ls price ws p) (loose_claim c) l ∷ loops_of price (pos 0) s.moves (loose_claims s.claims) p (loose_steps s ls price ws p) (loose_loops cs) ks) (loops_of price (pos 0) s.moves (loose_claims s.claims) p (loose_steps s ls price ws p) (loose_loops cs) ks))
          × AreFlowingLoops (IsFrom s ls ps whole price) (IsAround s ls ps whole price) (IsWay s ls ps whole price) (loose_steps s ls price ws p) (cond (t && u) (loop_of price (pos 0) s.moves (loose_claims s.claims) p (loose_steps s ls price ws p) (loose_claim c) l ∷ loops_of price (pos 0) s.moves (loose_claims s.claims) p (loose_steps s ls price ws p) (loose_loops cs) ks) (loops_of price (pos 0) s.moves (loose_claims s.claims) p (loose_steps s ls price ws p) (loose_loops cs) ks))
      by_test true e true f r loops =
          let k = r loops.2 in
          let x = may_turn c (ic c (zero, omega arith, refl)) l (il l (zero, omega arith, refl)) shapes.0 (span_of p l.header e) f in
          let y = loop_flows c (ic c (zero, omega arith, refl)) l (il l (zero, omega arith, refl)) shapes.0 (span_of p l.header e) f loops.0 in
          ((x, k.0), (y, k.1))
      by_test true e false f r loops = r loops
      by_test false e u f r loops = r loops
