-- Flows from places: along a step, with what is called and the turns around it, and on ways to a jump back.
use Rattle.std.proofs.Common.{◌≡◌, ◌≢◌, ℕ, zero, ℤ, pos, ◌+ℤ◌, ◌≤ℤ◌, arith, refl, sym, ap, ◌∙◌, subst, List, [], ◌∷◌, ◌++◌, length, Contains, inl, inr, ◌⊎◌, true, false, Option, Some, None}
use Rattle.std.specs.Option.{option_to_list}
use Rattle.std.proofs.lemmas.Int.{ints}
use Rattle.std.proofs.lemmas.List.Elements.{All-contains}
use Rattle.frac128.proofs.TermsLemmas.{when_same-elsewhere}
use Rattle.code_flow_system.specs.declared.claims.LoopClaim.{LoopClaim}
use Rattle.code_flow_system.specs.declared.moves.Move.{Move}
use Rattle.code_flow_system.specs.declared.shapes.LoopShape.{LoopShape}
use Rattle.code_flow_system.specs.declared.shapes.Span.{Span}
use Rattle.code_flow_system.specs.Moves.{destinations, destinations_of}
use Rattle.code_flow_system.specs.Systems.{System, has_moves}
use Rattle.code_flow_system.specs.Counts.{Amounts, total}
use Rattle.code_flow_system.specs.Shapes.{onward, is_back}
use Rattle.code_flow_system.proofs.ReachLemmas.{in_destinations}
use Rattle.loop_walks.specs.declared.step.Loop.{Loop}
use Rattle.loop_walks.specs.Walks.{worth_at}
use Rattle.path_places.specs.Places.{place_of, on_place, call_worth}
use Rattle.path_places.specs.PlaceLaws.{IsReachedWhole}
use Rattle.path_places.proofs.PlaceLemmas.{place_below}
use Rattle.path_places.proofs.LoopLemmas.{has_of, onward_arrives, first_or}
use Rattle.path_ranges.proofs.TotalLemmas.{leaves, comes, added, none, once, total-added, total-none}
use Rattle.path_ranges.proofs.PartLemmas.{Precedes, PrecedesAll, left, come, come_least, IsPart, IsRound, none_part, none_round, part_sum, part_more, left_whole, come_whole, step_part, step_total, starts_least, same_most, precedes_left, precedes_differs}
use Rattle.path_ranges.proofs.SystemLemmas.{called_by, dests-split, place_same, goes_behind, not_back}

module _ (s : System) (ls : List LoopShape) (ps : List Span) (whole : IsReachedWhole s ls ps) (price : Move → ℤ) where
  -- a part of so much
  pub record Part (ds : List ℕ) (v : ℤ) : Type 0 where
    pub amounts : Amounts
    pub part : IsPart s ps whole.system.ascending ds amounts
    pub value : v ≤ℤ total price amounts s.moves

  -- turns around a header, of so much
  pub record Round (y : ℕ) (w : ℤ) : Type 0 where
    pub amounts : Amounts
    pub round : IsRound s ps whole.system.ascending y amounts
    pub value : w ≤ℤ total price amounts s.moves

  -- a flow from the address of a place
  pub record PlaceFlow (i : ℕ) (v : ℤ) : Type 0 where
    pub at : ℕ
    pub there : has_moves s.moves at ≡ true
    pub place : place_of s.moves at ≡ i
    pub flow : Part (at ∷ []) v

  pub record PlaceRound (i : ℕ) (w : ℤ) : Type 0 where
    pub at : ℕ
    pub there : has_moves s.moves at ≡ true
    pub place : place_of s.moves at ≡ i
    pub turns : Round at w

  -- nothing, or a flow

  abbrev pub IsFrom : ℕ → ℤ → Type 0
  IsFrom i v = (v ≤ℤ pos 0) ⊎ PlaceFlow i v

  abbrev pub IsAround : ℕ → ℤ → Type 0
  IsAround i w = (w ≤ℤ pos 0) ⊎ PlaceRound i w

  -- a flow from a place to a header, which it comes to by the jump back: of so much, and the price of that
  pub record IsWay (l : Loop) (i : ℕ) (t : ℤ) : Type 0 where
    pub at : ℕ
    pub there : has_moves s.moves at ≡ true
    pub place : place_of s.moves at ≡ i
    pub header : ℕ
    pub header_there : has_moves s.moves header ≡ true
    pub header_place : place_of s.moves header ≡ l.header
    pub flow : Part (at ∷ []) (t +ℤ l.price)
    pub comes : pos 1 ≤ℤ come s ps whole.system.ascending flow.amounts header
    pub single : left s ps whole.system.ascending flow.amounts header ≤ℤ pos 1

  nothing : (ds : List ℕ) (v : ℤ) → v ≤ℤ pos 0 → Part ds v
  nothing ds v h = record { amounts = none; part = none_part s ps whole.system.ascending ds; value = (let e = total-none price s.moves in omega (arith, ints)) }

  pub no_turns : (y : ℕ) (w : ℤ) → w ≤ℤ pos 0 → Round y w
  no_turns y w h = record { amounts = none; round = none_round s ps whole.system.ascending y; value = (let e = total-none price s.moves in omega (arith, ints)) }

  pub closed : (m : Move) (d : ℕ) → Contains s.moves m → Contains (destinations m) d → has_moves s.moves d ≡ true
  closed m d im id = All-contains (λ a. has_moves s.moves a ≡ true) (destinations_of s.moves) d whole.system.closed (in_destinations s.moves m d im id)

  -- ---- what is behind a move

  -- the address of a place where a move goes on is among those
  on_address : (m : Move) → Contains s.moves m → (y : ℕ) → has_moves s.moves y ≡ true → place_of s.moves y ≡ on_place s.moves (onward m) → Contains (onward m) y
  on_address m im y there place = elim (first_or (onward m)) [
    | inl e ↦
        let q : place_of s.moves y ≡ length s.moves = place ∙ ap (on_place s.moves) e in
        let b = place_below s.moves y there in absurd (omega (arith, q, b))
    | inr h ↦
        let q : place_of s.moves y ≡ place_of s.moves h.0 = place ∙ ap (on_place s.moves) h.2 in
        let id : Contains (onward m) h.0 = subst (λ ds. Contains ds h.0) (sym h.2) (zero, omega arith, refl) in
        let e = place_same s y h.0 there (closed m h.0 im (onward_arrives m.to m.behind h.0 id)) q in
        subst (λ d. Contains (onward m) d) (sym e) id
  ]

  on_part : (m : Move) → Contains s.moves m → (v : ℤ) → IsFrom (on_place s.moves (onward m)) v → Part (onward m) v
  on_part m im v f = elim f [
    | inl h ↦ nothing (onward m) v h
    | inr k ↦ record {
      amounts = k.flow.amounts;
      part = part_more s ps whole.system.ascending (onward m) k.at k.flow.amounts (on_address m im k.at k.there k.place) k.flow.part;
      value = k.flow.value;
    }
  ]

  call_part : (ws : List ℤ) → ((i : ℕ) → IsFrom i (worth_at ws i)) → (to back : Option ℕ) → ((t : ℕ) → to ≡ Some t → has_moves s.moves t ≡ true) → Part (called_by to back) (call_worth s.moves ws to back)
  call_part ws flows None back there = nothing [] (pos 0) (omega (arith, ints))
  call_part ws flows (Some t) None there = nothing [] (pos 0) (omega (arith, ints))
  call_part ws flows (Some t) (Some b) there = elim (flows (place_of s.moves t)) [
    | inl h ↦ nothing (t ∷ []) (worth_at ws (place_of s.moves t)) h
    | inr k ↦ subst (λ d. Part (d ∷ []) (worth_at ws (place_of s.moves t))) (place_same s k.at t k.there (there t refl) k.place) k.flow
  ]

  pub target_there : (m : Move) → Contains s.moves m → (t : ℕ) → m.to ≡ Some t → has_moves s.moves t ≡ true
  target_there m im t e = closed m t im (subst (λ o. Contains (option_to_list o ++ option_to_list m.behind) t) (sym e) (zero, omega arith, refl))

  both_parts : (m : Move) (v w : ℤ) → Part (called_by m.to m.behind) v → Part (onward m) w → Part (destinations m) (v +ℤ w)
  both_parts m v w c o = record {
    amounts = added c.amounts o.amounts;
    part = subst (λ ds. IsPart s ps whole.system.ascending ds (added c.amounts o.amounts)) (sym (dests-split m.to m.behind)) (part_sum s ps whole.system.ascending (called_by m.to m.behind) (onward m) c.amounts o.amounts c.part o.part);
    value = (let e = total-added price c.amounts o.amounts s.moves in let a = c.value in let b = o.value in omega (arith, ints));
  }

  round_at : (y : ℕ) → has_moves s.moves y ≡ true → (w : ℤ) → IsAround (place_of s.moves y) w → Round y w
  round_at y there w f = elim f [
    | inl h ↦ no_turns y w h
    | inr k ↦ subst (λ d. Round d w) (place_same s k.at y k.there there k.place) k.turns
  ]

  -- ---- a move that is no jump back

  module _ (m : Move) (im : Contains s.moves m) (free : is_back ls m.at ≡ false) where
    apart : (c : LoopClaim) → Contains s.claims.loops c → m.at ≢ c.back
    apart = not_back s.claims.loops ls m.at whole.fits.shapes free

    behind : (b : ℕ) → (b ≡ m.at) ⊎ Precedes ps b m.at → PrecedesAll ps b (destinations m)
    behind = goes_behind s ls ps whole.fits whole.filled m im free

    pub before_parts : (v w : ℤ) → Part (destinations m) v → Round m.at w → Part (m.at ∷ []) ((price m +ℤ w) +ℤ v)
    before_parts v w p r = record {
      amounts = added (once m) (added p.amounts r.amounts);
      part = step_part s ps whole.system.ascending m im apart behind p.amounts r.amounts p.part r.round;
      value = (let e = step_total s ps whole.system.ascending m im apart behind p.amounts r.amounts p.part r.round price in let a = p.value in let b = r.value in omega (arith, ints));
    }

    -- a flow along the step
    pub along : (ws : List ℤ) → ((i : ℕ) → IsFrom i (worth_at ws i)) → (w v : ℤ) → IsAround (place_of s.moves m.at) w → IsFrom (on_place s.moves (onward m)) v →
        IsFrom (place_of s.moves m.at) (((price m +ℤ call_worth s.moves ws m.to m.behind) +ℤ w) +ℤ v)
    along ws flows w v around from =
        let p = both_parts m (call_worth s.moves ws m.to m.behind) v (call_part ws flows m.to m.behind (target_there m im)) (on_part m im v from) in
        let r = round_at m.at (has_of s.moves m im) w around in
        let e : ((price m +ℤ w) +ℤ (call_worth s.moves ws m.to m.behind +ℤ v)) ≡ (((price m +ℤ call_worth s.moves ws m.to m.behind) +ℤ w) +ℤ v) = omega (arith, ints) in
        inr (record { at = m.at; there = has_of s.moves m im; place = refl; flow = subst (λ (z : ℤ). Part (m.at ∷ []) z) e (before_parts (call_worth s.moves ws m.to m.behind +ℤ v) w p r) })

    -- a way along the step, for a header that is the step's address or stands before it
    pub way_along : (l : Loop) (h : ℕ) → has_moves s.moves h ≡ true → place_of s.moves h ≡ l.header → (h ≡ m.at) ⊎ Precedes ps h m.at → (ws : List ℤ) → ((i : ℕ) → IsFrom i (worth_at ws i)) → (w t : ℤ) → (place_of s.moves m.at ≡ l.header → w ≡ pos 0) →
        IsAround (place_of s.moves m.at) w → IsWay l (on_place s.moves (onward m)) t → IsWay l (place_of s.moves m.at) (((price m +ℤ call_worth s.moves ws m.to m.behind) +ℤ w) +ℤ t)
    way_along l h there place first ws flows w t none_here around k = by_first first
      where
        call : Part (called_by m.to m.behind) (call_worth s.moves ws m.to m.behind)
        call = call_part ws flows m.to m.behind (target_there m im)

        on_is : IsPart s ps whole.system.ascending (onward m) k.flow.amounts
        on_is = part_more s ps whole.system.ascending (onward m) k.at k.flow.amounts (on_address m im k.at k.there k.place) k.flow.part

        parts : IsPart s ps whole.system.ascending (destinations m) (added call.amounts k.flow.amounts)
        parts = subst (λ ds. IsPart s ps whole.system.ascending ds (added call.amounts k.flow.amounts)) (sym (dests-split m.to m.behind)) (part_sum s ps whole.system.ascending (called_by m.to m.behind) (onward m) call.amounts k.flow.amounts call.part on_is)

        same : k.header ≡ h
        same = place_same s k.header h k.header_there there (k.header_place ∙ sym place)

        single_on : left s ps whole.system.ascending k.flow.amounts h ≤ℤ pos 1
        single_on = subst (λ b. left s ps whole.system.ascending k.flow.amounts b ≤ℤ pos 1) same k.single

        done : (r : Round m.at w) → left s ps whole.system.ascending (added (once m) (added (added call.amounts k.flow.amounts) r.amounts)) h ≤ℤ pos 1 → IsWay l (place_of s.moves m.at) (((price m +ℤ call_worth s.moves ws m.to m.behind) +ℤ w) +ℤ t)
        done r one = record {
          at = m.at;
          there = has_of s.moves m im;
          place = refl;
          header = h;
          header_there = there;
          header_place = place;
          flow = record {
            amounts = added (once m) (added (added call.amounts k.flow.amounts) r.amounts);
            part = step_part s ps whole.system.ascending m im apart behind (added call.amounts k.flow.amounts) r.amounts parts r.round;
            value =
                (let e = step_total s ps whole.system.ascending m im apart behind (added call.amounts k.flow.amounts) r.amounts parts r.round price in
                let f = total-added price call.amounts k.flow.amounts s.moves in
                let a = call.value in let b = k.flow.value in let c = r.value in omega (arith, ints));
          };
          comes =
              (let e = come_whole s ps whole.system.ascending m im apart behind (added call.amounts k.flow.amounts) r.amounts parts r.round h in
              let f = total-added (comes h) call.amounts k.flow.amounts s.moves in
              let a = come_least s ps whole.system.ascending call.amounts h in
              let b = come_least s ps whole.system.ascending r.amounts h in
              let c = starts_least (destinations m) h in
              let d : pos 1 ≤ℤ come s ps whole.system.ascending k.flow.amounts h = subst (λ b. pos 1 ≤ℤ come s ps whole.system.ascending k.flow.amounts b) same k.comes in omega (arith, ints));
          single = one;
        }

        by_first : (h ≡ m.at) ⊎ Precedes ps h m.at → IsWay l (place_of s.moves m.at) (((price m +ℤ call_worth s.moves ws m.to m.behind) +ℤ w) +ℤ t)
        by_first f = elim f [
          | inl e ↦
              let z : w ≡ pos 0 = none_here (sym (ap (place_of s.moves) e) ∙ place) in
              let l0 = left_whole s ps whole.system.ascending m im apart behind (added call.amounts k.flow.amounts) none parts (none_round s ps whole.system.ascending m.at) h in
              let x0 = parts.behind h (behind h (inl e)) in
              let n0 = total-none (leaves h) s.moves in
              let o = same_most m.at h in
              done (record { amounts = none; round = none_round s ps whole.system.ascending m.at; value = (let e = total-none price s.moves in omega (arith, ints)) }) (omega (arith, ints))
          | inr p ↦
              let r = round_at m.at (has_of s.moves m im) w around in
              let l0 = left_whole s ps whole.system.ascending m im apart behind (added call.amounts k.flow.amounts) r.amounts parts r.round h in
              let q = precedes_left ps h (called_by m.to m.behind) (onward m) (subst (λ ds. PrecedesAll ps h ds) (dests-split m.to m.behind) (behind h (inr p))) in
              let c0 = call.part.behind h q.0 in
              let r0 = r.round.behind h p in
              let f0 = total-added (leaves h) call.amounts k.flow.amounts s.moves in
              let w0 = when_same-elsewhere m.at h (pos 1) (precedes_differs ps h m.at p) in
              let o = single_on in
              done r (omega (arith, ints))
        ]
