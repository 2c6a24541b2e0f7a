-- Each worth of the loose walk is that of a flow, where steps lead on from flow to flow and ways from the header make turns.
use Rattle.std.proofs.Common.{◌≡◌, ℕ, ◌+◌, ◌-◌, ◌≤◌, ◌<◌, ℤ, pos, ◌+ℤ◌, ◌-ℤ◌, ◌*ℤ◌, ◌≤ℤ◌, arith, refl, sym, ap, ◌∙◌, subst, List, [], ◌∷◌, length, inl, inr, Bool, true, false, cond, Option, Some, None, get_or, get_or-set_other}
use Rattle.std.specs.Prelude.{slice_set}
use Rattle.std.specs.Int.RustNames.{int_le}
use Rattle.std.proofs.lemmas.Int.{ints}
use Rattle.std.proofs.lemmas.Grind.{get_or-set_at}
use Rattle.std.proofs.lemmas.List.{length-replicate, get_or-replicate}
use Rattle.std.proofs.lemmas.Bool.Decides.{eqb_tells, leb_tells}
use Rattle.std.proofs.Math.ListN.{replicate, get_or-eq_default}
use Rattle.loop_walks.specs.declared.step.Step.{Step}
use Rattle.loop_walks.specs.declared.step.Loop.{Loop}
use Rattle.loop_walks.specs.Walks.{larger, worth_at, cost, relaxed, range_steps}
use Rattle.loop_walks.specs.Turns.{greater, further, way_at, turned, with_back, turn_start, turn_ways, gain_by, gain}
use Rattle.loop_walks.specs.Multipliers.{first_weight}
use Rattle.loop_walks.specs.Levels.{weighed, Level}
use Rattle.loop_walks.specs.Rows.{IsStep, Each, IsLoopOf, AreLoops, HaveNone}
use Rattle.loop_walks.proofs.EachLemmas.{each_both, each_between, steps_are}
use Rattle.loop_walks.proofs.WalkLemmas.{within}
use Rattle.loop_walks.proofs.TurnLemmas.{IsInRange, turn_at, turn_other, turned-long, turn_start-long}
use Rattle.loop_walks.proofs.LevelLemmas.{weighed-long}
use Rattle.loop_ranges.specs.LooseWalk.{back_price, back_raised, backed, loose_level, MayTurn, AllMayTurn, IsLooseWalk}
use Rattle.loop_ranges.proofs.LooseLemmas.{larger-zero, gain_positive, weight_is, set_at, set_other, weighed_positive, back_in, backed-long, start_long}
use Rattle.loop_ranges.proofs.FarLemmas.{range_in, weighed_before}

-- flows of so much: from a place, around it by further turns alone, and from a place to a loop's jump back
module _ (from around : ℕ → ℤ → Type 0) (way : Loop → ℕ → ℤ → Type 0) where
  -- a step before a flow, with the turns around its place
  abbrev pub Leads : Step → Type 0
  Leads m = (w v : ℤ) → around m.at w → from m.on v → from m.at ((m.price +ℤ w) +ℤ v)

  -- a step before a way; around the header there are no turns
  abbrev pub LeadsWay : Loop → Step → Type 0
  LeadsWay l m = (w v : ℤ) → (m.at ≡ l.header → w ≡ pos 0) → around m.at w → way l m.on v → way l m.at ((m.price +ℤ w) +ℤ v)

  -- the jump back begins a flow and a way, steps lead on, and a way from the header makes its further turns
  pub record IsFlowingLoop (ms : List Step) (l : Loop) : Type 0 where
    pub back : (b : ℕ) → l.back ≡ Some b → from b (back_price l b) × way l b (pos 0)
    pub steps : Each (LeadsWay l) (range_steps l ms)
    pub turns : (t : ℤ) → pos 0 ≤ℤ t → way l l.header t → around l.header ((t +ℤ l.price) *ℤ (pos l.max -ℤ pos 1))

  abbrev pub AreFlowingLoops : List Step → List Loop → Type 0
  AreFlowingLoops ms [] = Unit {0}
  AreFlowingLoops ms (l ∷ ls) = IsFlowingLoop ms l × AreFlowingLoops ms ls

  -- a way that isn't negative
  abbrev IsWay : Loop → ℕ → Option ℤ → Type 0
  IsWay l a None = Unit {0}
  IsWay l a (Some t) = (pos 0 ≤ℤ t) × way l a t

  greater_way : (l : Loop) (a : ℕ) (o p : Option ℤ) → IsWay l a o → IsWay l a p → IsWay l a (greater o p)
  greater_way l a None p x y = y
  greater_way l a (Some s) None x y = x
  greater_way l a (Some s) (Some t) x y = by_test (int_le s t)
    where
      by_test : (b : Bool) → IsWay l a (Some (cond b t s))
      by_test true = y
      by_test false = x

  -- a way behind a step
  further_way : (l : Loop) (m : Step) (w : ℤ) (o : Option ℤ) → LeadsWay l m → (m.at ≡ l.header → w ≡ pos 0) → around m.at w → pos 0 ≤ℤ (m.price +ℤ w) → IsWay l m.on o → IsWay l m.at (further (pos 0) (m.price +ℤ w) o)
  further_way l m w None leads none turns positive x = tt
  further_way l m w (Some t) leads none turns positive x =
      let x0 = x.0 in
      let e = larger-zero ((m.price +ℤ w) +ℤ t) (omega (arith, ints)) in
      rw e (omega (arith, ints), leads w t none turns x.1)

  none_at : (n i : ℕ) → get_or (replicate {A = Option ℤ} n None) i None ≡ None
  none_at n i = elim (leb_tells n i) [
    | inl e ↦ let e1 = e.1 in let k = length-replicate {A = Option ℤ} n None in get_or-eq_default (replicate n None) None (omega (arith, k, e1))
    | inr e ↦ get_or-replicate n i None None e.1
  ]

  -- ---- the turns of a loop, at the weights of those in it

  module _ (l : Loop) (weights : List ℤ) (none : worth_at weights l.header ≡ pos 0) (turns : (a : ℕ) → around a (worth_at weights a)) where
    abbrev AreWays : List (Option ℤ) → Type 0
    AreWays ts = (i : ℕ) → IsWay l (l.header + i) (way_at ts i)

    record IsWayStep (m : Step) : Type 0 where
      pub range : IsInRange l.header (l.end - l.header) m
      pub on : m.at < m.on
      pub positive : pos 0 ≤ℤ cost weights m
      pub leads : LeadsWay l m

    turned_ways : (ts : List (Option ℤ)) (ms : List Step) → length ts ≡ l.end - l.header → Each IsWayStep ms → AreWays ts → AreWays (turned (pos 0) weights l.header ts ms)
    turned_ways ts [] long steps ways i = ways i
    turned_ways ts (m ∷ ms) long steps ways i = by_place (turned_ways ts ms long steps.1 ways)
      where
        after_long : length (turned (pos 0) weights l.header ts ms) ≡ l.end - l.header
        after_long = turned-long (pos 0) weights l.header ts ms ∙ long

        by_place : AreWays (turned (pos 0) weights l.header ts ms) → IsWay l (l.header + i) (way_at (turned (pos 0) weights l.header ts (m ∷ ms)) i)
        by_place r = elim (eqb_tells i (m.at - l.header)) [
          | inl q ↦
              let k = steps.0 in
              let k0 = k.range.0 in let k1 = k.range.1 in let k2 = k.on in
              let e = turn_at (pos 0) weights l.header (turned (pos 0) weights l.header ts ms) m i (let v = after_long in omega (arith, v, k1)) q.1 in
              let f : l.header + i ≡ m.at = omega (arith, q.1, k0) in
              let g : l.header + (m.on - l.header) ≡ m.on = omega (arith, k0, k2) in
              let on : IsWay l m.on (way_at (turned (pos 0) weights l.header ts ms) (m.on - l.header)) = subst (λ a. IsWay l a (way_at (turned (pos 0) weights l.header ts ms) (m.on - l.header))) g (r (m.on - l.header)) in
              let step = further_way l m (worth_at weights m.at) (way_at (turned (pos 0) weights l.header ts ms) (m.on - l.header)) k.leads (λ d. ap (λ a. worth_at weights a) d ∙ none) (turns m.at) k.positive on in
              rw e (greater_way l (l.header + i) (way_at (turned (pos 0) weights l.header ts ms) i) (further (pos 0) (cost weights m) (way_at (turned (pos 0) weights l.header ts ms) (m.on - l.header))) (r i)
              (subst (λ a. IsWay l a (further (pos 0) (cost weights m) (way_at (turned (pos 0) weights l.header ts ms) (m.on - l.header)))) (sym f) step))
          | inr q ↦ let e = turn_other (pos 0) weights l.header (turned (pos 0) weights l.header ts ms) m i q.1 in rw e (r i)
        ]

    start_ways : (o : Option ℕ) → ((b : ℕ) → o ≡ Some b → (l.header ≤ b) × (b < l.end)) → ((b : ℕ) → o ≡ Some b → way l b (pos 0)) → AreWays (with_back o l.header (replicate (l.end - l.header) None))
    start_ways None within back i = rw (none_at (l.end - l.header) i) tt
    start_ways (Some b) within back i = elim (eqb_tells i (b - l.header)) [
      | inl q ↦
          let w = within b refl in let w0 = w.0 in let w1 = w.1 in
          let e = get_or-set_at (replicate (l.end - l.header) None) (b - l.header) i (Some (pos 0)) None q.1 (let n = length-replicate {A = Option ℤ} (l.end - l.header) None in omega (arith, n, w0, w1)) in
          let f : l.header + i ≡ b = omega (arith, q.1, w0) in
          rw e (omega (arith, ints), subst (λ a. way l a (pos 0)) (sym f) (back b refl))
      | inr q ↦
          let e = get_or-set_other (replicate (l.end - l.header) None) (b - l.header) i (Some (pos 0)) None q.1 in
          rw e (rw (none_at (l.end - l.header) i) tt)
    ]

    -- the first weight of the header is that of turns around it
    first_around : (n : ℕ) (ms : List Step) → IsLoopOf n ms l → Each (IsStep n) ms → Each (λ m. pos 0 ≤ℤ m.price) ms → ((a : ℕ) → pos 0 ≤ℤ worth_at weights a) → MayTurn l → IsFlowingLoop ms l → ((a : ℕ) → around a (pos 0)) →
        around l.header (first_weight (pos 0) l (gain (pos 0) weights l ms))
    first_around n ms fits steps prices positive turn flows still =
        let ways = turned_ways (turn_start l) (range_steps l ms) (turn_start-long l) each_way (start_ways l.back (λ b is. let i = back_in n ms l fits b is in (i.0, i.1)) (λ b is. (flows.back b is).1)) in
        let z : l.header + 0 ≡ l.header = omega arith in
        let e = weight_is l (gain (pos 0) weights l ms) (gain_positive l.price (way_at (turn_ways (pos 0) weights l ms) 0)) in
        rw e (by_way (way_at (turn_ways (pos 0) weights l ms) 0) (subst (λ a. IsWay l a (way_at (turn_ways (pos 0) weights l ms) 0)) z (ways 0)))
      where
        one_way : (m : Step) → IsInRange l.header (l.end - l.header) m × LeadsWay l m → (IsStep n m) × (pos 0 ≤ℤ m.price) → IsWayStep m
        one_way m a b = record { range = a.0; on = b.0.0; positive = (let w = positive m.at in let p = b.1 in omega (arith, ints)); leads = a.1 }

        each_way : Each IsWayStep (range_steps l ms)
        each_way = each_both (λ m. IsInRange l.header (l.end - l.header) m × LeadsWay l m) (λ m. (IsStep n m) × (pos 0 ≤ℤ m.price)) IsWayStep (range_steps l ms) one_way
            (each_both (IsInRange l.header (l.end - l.header)) (LeadsWay l) (λ m. IsInRange l.header (l.end - l.header) m × LeadsWay l m) (range_steps l ms) (λ m a b. (a, b)) (range_in n ms l fits) flows.steps)
            (each_between (λ m. (IsStep n m) × (pos 0 ≤ℤ m.price)) l.head l.rest ms (each_both (IsStep n) (λ m. pos 0 ≤ℤ m.price) (λ m. (IsStep n m) × (pos 0 ≤ℤ m.price)) ms (λ m a b. (a, b)) steps prices))

        by_way : (o : Option ℤ) → IsWay l l.header o → around l.header (gain_by (pos 0) l.price o *ℤ (pos l.max -ℤ pos 1))
        by_way None x = let e : pos 0 *ℤ (pos l.max -ℤ pos 1) ≡ pos 0 = omega (arith, ints) in rw e (still l.header)
        by_way (Some t) x =
            let x0 = x.0 in let p = turn.positive in
            let e = larger-zero (t +ℤ l.price) (omega (arith, ints)) in
            rw e (flows.turns t x.0 x.1)

  -- ---- all loops, and the walk to the ends

  set_around : (ws : List ℤ) (h : ℕ) (z : ℤ) (a : ℕ) → h < length ws → around h z → around a (worth_at ws a) → around a (worth_at (slice_set ws h z) a)
  set_around ws h z a long new old = elim (eqb_tells a h) [
    | inl k ↦ subst (λ b. around b (worth_at (slice_set ws h z) b)) (sym k.1) (let e = set_at ws h z long in rw e new)
    | inr k ↦ let e = set_other ws h a z k.1 in rw e old
  ]

  set_from : (ws : List ℤ) (h : ℕ) (z : ℤ) (a : ℕ) → h < length ws → from h (worth_at ws h) → from h z → from a (worth_at ws a) → from a (worth_at (slice_set ws h (larger (worth_at ws h) z)) a)
  set_from ws h z a long own new old = elim (eqb_tells a h) [
    | inl k ↦ subst (λ b. from b (worth_at (slice_set ws h (larger (worth_at ws h) z)) b)) (sym k.1) (let e = set_at ws h (larger (worth_at ws h) z) long in rw e (by_test (int_le (worth_at ws h) z)))
    | inr k ↦ let e = set_other ws h a (larger (worth_at ws h) z) k.1 in rw e old
  ]
    where
      by_test : (t : Bool) → from h (cond t z (worth_at ws h))
      by_test true = new
      by_test false = own

  module _ (n : ℕ) (ms : List Step) (v : Level) (ls : List Loop) (walk : IsLooseWalk n ms v ls) (stays : (a : ℕ) → from a (worth_at v.worths a)) (still : (a : ℕ) → around a (pos 0)) (turning : (a : ℕ) → around a (worth_at v.weights a))
      (leads : Each Leads ms) (flows : AreFlowingLoops ms ls) where
    weights_flow : (rs : List Loop) → AreLoops n ms rs → AllMayTurn rs → HaveNone v.weights rs → AreFlowingLoops ms rs → (a : ℕ) → around a (worth_at (weighed (pos 0) ms v.weights rs) a)
    weights_flow [] loops turns none flow a = turning a
    weights_flow (l ∷ rs) loops turns none flow a =
        let e = weighed-long (pos 0) ms v.weights rs in
        let r0 = loops.0.range.0 in let r1 = loops.0.range.1 in let long = walk.blank.weights_long in
        set_around (weighed (pos 0) ms v.weights rs) l.header (first_weight (pos 0) l (gain (pos 0) (weighed (pos 0) ms v.weights rs) l ms)) a (omega (arith, e, r0, r1, long))
        (first_around l (weighed (pos 0) ms v.weights rs) (weighed_before (pos 0) ms v.weights rs l.header loops.1 ∙ none.0) (weights_flow rs loops.2 turns.1 none.1 flow.1) n ms loops.0 (steps_are n ms walk.steps) walk.prices
        (weighed_positive n ms ms v.weights rs walk.blank.weights_long loops.2 turns.1 walk.weights) turns.0 flow.0 still)
        (weights_flow rs loops.2 turns.1 none.1 flow.1 a)

    raised_flows : (ws : List ℤ) (l : Loop) (o : Option ℕ) → ((b : ℕ) → o ≡ Some b → (b < length ws) × from b (back_price l b)) → ((a : ℕ) → from a (worth_at ws a)) → (a : ℕ) → from a (worth_at (back_raised ws l o) a)
    raised_flows ws l None back flow a = flow a
    raised_flows ws l (Some b) back flow a = set_from ws b (back_price l b) a (back b refl).0 (flow b) (back b refl).1 (flow a)

    backed_flows : (rs : List Loop) → AreLoops n ms rs → AreFlowingLoops ms rs → (a : ℕ) → from a (worth_at (backed v.worths rs) a)
    backed_flows [] loops flow a = stays a
    backed_flows (l ∷ rs) loops flow a = raised_flows (backed v.worths rs) l l.back (λ b is. (fits b is, (flow.0.back b is).0)) (backed_flows rs loops.2 flow.1) a
      where
        fits : (b : ℕ) → l.back ≡ Some b → b < length (backed v.worths rs)
        fits b is =
            let i = (back_in n ms l loops.0 b is).1 in let r = loops.0.range.1 in
            let e = backed-long v.worths rs in let long = walk.blank.worths_long in omega (arith, i, r, e, long)

    relaxed_flows : (weights ws : List ℤ) (ks : List Step) → n < length ws → Each (IsStep n) ks → Each Leads ks → ((a : ℕ) → around a (worth_at weights a)) → ((a : ℕ) → from a (worth_at ws a)) → (a : ℕ) → from a (worth_at (relaxed weights ws ks) a)
    relaxed_flows weights ws [] long steps lead turns flow a = flow a
    relaxed_flows weights ws (m ∷ ks) long steps lead turns flow a = by_place (relaxed_flows weights ws ks long steps.1 lead.1 turns flow)
      where
        by_place : ((b : ℕ) → from b (worth_at (relaxed weights ws ks) b)) → from a (worth_at (relaxed weights ws (m ∷ ks)) a)
        by_place r = set_from (relaxed weights ws ks) m.at (cost weights m +ℤ worth_at (relaxed weights ws ks) m.on) a (within weights ws n m ks steps.0 long) (r m.at)
            (lead.0 (worth_at weights m.at) (worth_at (relaxed weights ws ks) m.on) (turns m.at) (r m.on)) (r a)

    -- each worth of the loose walk is that of a flow from its place
    pub worths_flow : (a : ℕ) → from a (worth_at (loose_level ms v ls).worths a)
    worths_flow = relaxed_flows (weighed (pos 0) ms v.weights ls) (backed v.worths ls) ms (start_long n ms v ls walk) (steps_are n ms walk.steps) leads
        (weights_flow ls walk.loops walk.turns walk.blank.none flows) (backed_flows ls walk.loops flows)
