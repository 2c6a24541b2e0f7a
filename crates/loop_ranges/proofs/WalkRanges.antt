-- Walks keep worths near the loose ones: to the ends, to a jump back, and the weights of headers.
use Rattle.std.proofs.Common.{◌≡◌, ◌≢◌, ℕ, zero, suc, ◌+◌, ◌-◌, ◌*◌, ◌≤◌, ◌<◌, ℤ, pos, ◌+ℤ◌, ◌*ℤ◌, ◌≤ℤ◌, ◌<ℤ◌, arith, refl, sym, ap, ◌∙◌, subst, List, [], ◌∷◌, length, get_or, Option, Some, None, inl, inr, ◌⊎◌, get_or-set_other}
use Rattle.std.specs.Prelude.{slice_set}
use lib.IntN.{negsuc}
use Rattle.std.proofs.lemmas.Int.{ints}
use Rattle.std.proofs.lemmas.Grind.{get_or-set_at}
use Rattle.std.proofs.lemmas.List.{length-replicate, get_or-replicate}
use Rattle.std.proofs.lemmas.Bool.Decides.{eqb_tells, leb_tells}
use Rattle.std.proofs.Math.ListN.{length-set, replicate, get_or-eq_default}
use Rattle.loop_walks.specs.declared.step.Step.{Step}
use Rattle.loop_walks.specs.declared.step.Loop.{Loop}
use Rattle.loop_walks.specs.Walks.{worth_at, cost, relaxed, between, range_steps}
use Rattle.loop_walks.specs.Turns.{further, way_at, turned, with_back, turn_start, turn_ways, gain}
use Rattle.loop_walks.specs.Multipliers.{first_weight}
use Rattle.loop_walks.specs.Levels.{weighed, gains}
use Rattle.loop_walks.specs.Rows.{IsStep, Each, IsLoopOf, IsBack, HeadersAbove, AreLoops, HaveNone}
use Rattle.loop_walks.proofs.EachLemmas.{each_map, each_both, each_between, each_beside}
use Rattle.loop_walks.proofs.WalkLemmas.{taken_at, taken_other, within}
use Rattle.loop_walks.proofs.TurnLemmas.{turn_at, turn_other, turned-long, turn_start-long}
use Rattle.loop_ranges.specs.Near.{IsNear, IsNearWay, IsThere}
use Rattle.loop_ranges.specs.Reach.{IsNearWeight}
use Rattle.loop_ranges.specs.Loose.{Loose, PaysLoosely, Turn, turn_weight, TurnsLoosely, IsLooseTurn, AreLooseTurns}
use Rattle.loop_ranges.proofs.NearLemmas.{near_up, near_sum, near_larger, way_near, further_near, gain_near, weight_near}

-- a step of a loop's range that is paid loosely, also on a way
pub record IsTurn (low : ℤ) (x : Loose) (l : Loop) (t : Turn) (weights : List ℤ) (m : Step) : Type 0 where
  pub from : l.header ≤ m.at
  pub within : (m.at - l.header) < (l.end - l.header)
  pub on : m.at < m.on
  pub turns : TurnsLoosely low x l t m
  pub weight : IsNear low (worth_at weights m.at) (turn_weight x l m.at)

-- a number of turns, once at least
once : (n : ℕ) (z : ℤ) → 0 < n → pos 0 ≤ℤ z → z ≤ℤ (pos n *ℤ z)
once zero z p h = absurd (omega arith)
once (suc n) (pos z) p h = let e : z ≤ suc n * z = one n z in omega (arith, ints)
  where
    one : (n z : ℕ) → z ≤ suc n * z
    one n z = omega arith
once (suc n) (negsuc z) p h = absurd (omega (arith, ints))

range_in : (n : ℕ) (ms : List Step) (l : Loop) → IsLoopOf n ms l → Each (λ m. (l.header ≤ m.at) × ((m.at - l.header) < (l.end - l.header))) (range_steps l ms)
range_in n ms l fits =
    let r0 = fits.range.0 in
    each_beside (λ m. (l.header ≤ m.at) × ((m.at - l.header) < (l.end - l.header))) l.head l.body l.rest ms fits.order.0 fits.order.1
    (each_map (λ m. m.at ≡ l.header) (λ m. (l.header ≤ m.at) × ((m.at - l.header) < (l.end - l.header))) (between l.head l.body ms) (λ m e. (omega (arith, e), omega (arith, e, r0))) fits.heads)
    (each_map (λ m. (l.header < m.at) × (m.at < l.end)) (λ m. (l.header ≤ m.at) × ((m.at - l.header) < (l.end - l.header))) (between l.body l.rest ms) (λ m h. (omega (arith, h.0), omega (arith, h.0, h.1))) fits.body)

zero_near : (low : ℤ) (o : Option ℤ) → IsThere o → IsNearWay low (Some (pos 0)) o
zero_near low None h = absurd h
zero_near low (Some t) h = (h, inl (omega (arith, ints), h))

-- the ways from the places of a loop
abbrev pub AreNearWays : ℤ → Loop → Turn → List (Option ℤ) → Type 0
AreNearWays low l t ts = (i : ℕ) → IsNearWay low (way_at ts i) (t.way (l.header + i))

none_at : (n i : ℕ) → get_or (replicate {A = Option ℤ} n None) i None ≡ None
none_at n i = elim (leb_tells n i) [
  | inl e ↦ let e1 = e.1 in let k = length-replicate {A = Option ℤ} n None in get_or-eq_default (replicate n None) None (omega (arith, k, e1))
  | inr e ↦ get_or-replicate n i None None e.1
]

module _ (low : ℤ) (x : Loose) (h : low ≤ℤ pos 0) where
  cost_near : (weights : List ℤ) (m : Step) (u w : ℤ) → IsNear low m.price u → IsNear low (worth_at weights m.at) w → IsNear low (cost weights m) (u +ℤ w)
  cost_near weights m u w p k = near_sum low m.price u (worth_at weights m.at) w h p k

  -- ---- to the ends

  -- where worths begin near at some places, which steps don't leave, they stay near there
  pub relaxed_near : (P : ℕ → Type 0) (weights ws : List ℤ) (n : ℕ) (ms : List Step) → n < length ws → Each (IsStep n) ms → Each (λ m. P m.on) ms → Each (PaysLoosely low x) ms → Each (IsNearWeight low x weights) ms
      → ((a : ℕ) → P a → IsNear low (worth_at ws a) (x.worth a)) → (a : ℕ) → P a → IsNear low (worth_at (relaxed weights ws ms) a) (x.worth a)
  relaxed_near P weights ws n [] long i o p w near a at = near a at
  relaxed_near P weights ws n (m ∷ ms) long i o p w near a at =
      by_place (relaxed_near P weights ws n ms long i.1 o.1 p.1 w.1 near)
    where
      by_place : ((a : ℕ) → P a → IsNear low (worth_at (relaxed weights ws ms) a) (x.worth a)) → IsNear low (worth_at (relaxed weights ws (m ∷ ms)) a) (x.worth a)
      by_place r = elim (eqb_tells a m.at) [
        | inl k ↦
            let e = taken_at weights (relaxed weights ws ms) m a (within weights ws n m ms i.0 long) k.1 in
            let s = near_sum low (cost weights m) (p.0.price +ℤ x.weight m.at) (worth_at (relaxed weights ws ms) m.on) (x.worth m.on) h (cost_near weights m p.0.price (x.weight m.at) p.0.near w.0) (r m.on o.0) in
            let u = near_up low (cost weights m +ℤ worth_at (relaxed weights ws ms) m.on) ((p.0.price +ℤ x.weight m.at) +ℤ x.worth m.on) (x.worth m.at) p.0.paid s in
            let u' : IsNear low (cost weights m +ℤ worth_at (relaxed weights ws ms) m.on) (x.worth a) = subst (λ b. IsNear low (cost weights m +ℤ worth_at (relaxed weights ws ms) m.on) (x.worth b)) (sym k.1) u in
            rw e (near_larger low (worth_at (relaxed weights ws ms) a) (cost weights m +ℤ worth_at (relaxed weights ws ms) m.on) (x.worth a) (r a at) u')
        | inr k ↦ let e = taken_other weights (relaxed weights ws ms) m a k.1 in rw e (r a at)
      ]

  -- ---- to a jump back

  module _ (l : Loop) (t : Turn) (weights : List ℤ) where
    -- the way behind a step, if it stays in the range
    far_near : (ts : List (Option ℤ)) (m : Step) → length ts ≡ l.end - l.header → IsTurn low x l t weights m → AreNearWays low l t ts → IsNearWay low (further low (cost weights m) (way_at ts (m.on - l.header))) (t.way m.at)
    far_near ts m long k near = elim (leb_tells l.end m.on) [
      | inl out ↦
          let o1 = out.1 in
          let e : way_at ts (m.on - l.header) ≡ None = get_or-eq_default ts None (omega (arith, long)) in
          subst (λ (o : Option ℤ). IsNearWay low (further low (cost weights m) o) (t.way m.at)) (sym e) tt
      | inr inside ↦
          let k0 = k.from in let k1 = k.on in
          let e : l.header + (m.on - l.header) ≡ m.on = omega (arith, k0, k1) in
          further_near low (cost weights m) (k.turns.price +ℤ turn_weight x l m.at) (way_at ts (m.on - l.header)) (t.way m.on) (t.way m.at) h
          (cost_near weights m k.turns.price (turn_weight x l m.at) k.turns.near k.weight) k.turns.positive (k.turns.further inside.1)
          (subst (λ b. IsNearWay low (way_at ts (m.on - l.header)) (t.way b)) e (near (m.on - l.header)))
    ]

    pub turned_near : (ts : List (Option ℤ)) (ms : List Step) → length ts ≡ l.end - l.header → Each (IsTurn low x l t weights) ms → AreNearWays low l t ts → AreNearWays low l t (turned low weights l.header ts ms)
    turned_near ts [] long k near j = near j
    turned_near ts (m ∷ ms) long k near j = by_place (turned_near ts ms long k.1 near)
      where
        vs_long : length (turned low weights l.header ts ms) ≡ l.end - l.header
        vs_long = turned-long low weights l.header ts ms ∙ long

        by_place : AreNearWays low l t (turned low weights l.header ts ms) → IsNearWay low (way_at (turned low weights l.header ts (m ∷ ms)) j) (t.way (l.header + j))
        by_place r = elim (eqb_tells j (m.at - l.header)) [
          | inl q ↦
              let e = turn_at low weights l.header (turned low weights l.header ts ms) m j (let v = vs_long in let i0 = k.0.within in omega (arith, v, i0)) q.1 in
              let k0 = k.0.from in
              let f : l.header + j ≡ m.at = omega (arith, q.1, k0) in
              rw e (way_near low (way_at (turned low weights l.header ts ms) j) (further low (cost weights m) (way_at (turned low weights l.header ts ms) (m.on - l.header))) (t.way (l.header + j)) (r j)
              (subst (λ b. IsNearWay low (further low (cost weights m) (way_at (turned low weights l.header ts ms) (m.on - l.header))) (t.way b)) (sym f) (far_near (turned low weights l.header ts ms) m vs_long k.0 r)))
          | inr q ↦ let e = turn_other low weights l.header (turned low weights l.header ts ms) m j q.1 in rw e (r j)
        ]

    pub start_near : (o : Option ℕ) → ((b : ℕ) → o ≡ Some b → (l.header ≤ b) × (b < l.end)) → ((b : ℕ) → o ≡ Some b → IsThere (t.way b)) → AreNearWays low l t (with_back o l.header (replicate (l.end - l.header) None))
    start_near None within back i = rw (none_at (l.end - l.header) i) tt
    start_near (Some b) within back i = elim (eqb_tells i (b - l.header)) [
      | inl q ↦
          let w = within b refl in let w0 = w.0 in let w1 = w.1 in
          let e = get_or-set_at (replicate (l.end - l.header) None) (b - l.header) i (Some (pos 0)) None q.1 (let n = length-replicate {A = Option ℤ} (l.end - l.header) None in omega (arith, n, w0, w1)) in
          let f : l.header + i ≡ b = omega (arith, q.1, w0) in
          rw e (zero_near low (t.way (l.header + i)) (subst (λ c. IsThere (t.way c)) (sym f) (back b refl)))
      | inr q ↦
          let e = get_or-set_other (replicate (l.end - l.header) None) (b - l.header) i (Some (pos 0)) None q.1 in
          rw e (rw (none_at (l.end - l.header) i) tt)
    ]

    ways_are_near : (most : ℤ) (ms : List Step) → ((b : ℕ) → l.back ≡ Some b → (l.header ≤ b) × (b < l.end)) → IsLooseTurn low most x ms l t → Each (IsTurn low x l t weights) (range_steps l ms) → AreNearWays low l t (turn_ways low weights l ms)
    ways_are_near most ms within loose steps = turned_near (turn_start l) (range_steps l ms) (turn_start-long l) steps (start_near l.back within loose.back)

    -- what a turn gains is near what it gains loosely
    pub turn_near : (most : ℤ) (ms : List Step) → ((b : ℕ) → l.back ≡ Some b → (l.header ≤ b) × (b < l.end)) → IsLooseTurn low most x ms l t → Each (IsTurn low x l t weights) (range_steps l ms) → IsNear low (gain low weights l ms) t.gain
    turn_near most ms within loose steps =
        let ways = ways_are_near most ms within loose steps in
        let e : l.header + 0 ≡ l.header = omega arith in
        gain_near low l.price t.price (way_at (turn_ways low weights l ms) 0) (t.way l.header) t.gain h loose.price loose.positive loose.turn
        (subst (λ a. IsNearWay low (way_at (turn_ways low weights l ms) 0) (t.way a)) e (ways 0))

-- ---- the weights of headers

module _ (low most : ℤ) (x : Loose) (h : low ≤ℤ pos 0) (small : (most +ℤ low) <ℤ pos 0) where
  -- without a weight of the own header
  turn_weight_near : (l : Loop) (weights : List ℤ) (a : ℕ) → worth_at weights l.header ≡ pos 0 → IsNear low (worth_at weights a) (x.weight a) → IsNear low (worth_at weights a) (turn_weight x l a)
  turn_weight_near l weights a none near = elim (eqb_tells a l.header) [
    | inl k ↦
        let e : worth_at weights a ≡ pos 0 = ap (λ b. worth_at weights b) k.1 ∙ none in
        let q = k.0 in rw (q, e) (inl (omega (arith, ints), omega (arith, ints)))
    | inr k ↦ let q = k.0 in rw q near
  ]

  -- the steps of a range are turns
  pub range_turns : (n : ℕ) (ms : List Step) (l : Loop) (t : Turn) (weights : List ℤ) → IsLoopOf n ms l → Each (IsStep n) ms → worth_at weights l.header ≡ pos 0 → Each (IsNearWeight low x weights) ms → IsLooseTurn low most x ms l t → Each (IsTurn low x l t weights) (range_steps l ms)
  range_turns n ms l t weights fits steps none near loose =
      let inside = range_in n ms l fits in
      each_both (λ m. ((l.header ≤ m.at) × ((m.at - l.header) < (l.end - l.header))) × IsStep n m) (λ m. IsNearWeight low x weights m × TurnsLoosely low x l t m) (IsTurn low x l t weights) (range_steps l ms)
      (λ m a b. record { from = a.0.0; within = a.0.1; on = a.1.0; turns = b.1; weight = turn_weight_near l weights m.at none b.0 })
      (each_both (λ m. (l.header ≤ m.at) × ((m.at - l.header) < (l.end - l.header))) (IsStep n) (λ m. ((l.header ≤ m.at) × ((m.at - l.header) < (l.end - l.header))) × IsStep n m) (range_steps l ms) (λ m a b. (a, b)) inside (each_between (IsStep n) l.head l.rest ms steps))
      (each_both (IsNearWeight low x weights) (TurnsLoosely low x l t) (λ m. IsNearWeight low x weights m × TurnsLoosely low x l t m) (range_steps l ms) (λ m a b. (a, b)) (each_between (IsNearWeight low x weights) l.head l.rest ms near) loose.steps)

  pub back_within : (n : ℕ) (ms : List Step) (l : Loop) → IsLoopOf n ms l → (b : ℕ) → l.back ≡ Some b → (l.header ≤ b) × (b < l.end)
  back_within n ms l fits b is = let i : IsBack l ms (Some b) = subst (λ o. IsBack l ms o) is fits.back in (i.0, i.1)

  -- the ways of a turn are near the loose ones
  pub ways_near : (n : ℕ) (ms : List Step) (l : Loop) (t : Turn) (weights : List ℤ) → IsLoopOf n ms l → Each (IsStep n) ms → worth_at weights l.header ≡ pos 0 → Each (IsNearWeight low x weights) ms → IsLooseTurn low most x ms l t → AreNearWays low l t (turn_ways low weights l ms)
  ways_near n ms l t weights fits steps none near loose = ways_are_near low x h l t weights most ms (back_within n ms l fits) loose (range_turns n ms l t weights fits steps none near loose)

  -- a header's new weight is near, where a step begins there
  set_near : (ms : List Step) (weights : List ℤ) (l : Loop) (t : Turn) → l.header < length weights → IsLooseTurn low most x ms l t → IsNear low (gain low weights l ms) t.gain → Each (IsNearWeight low x weights) ms → Each (IsNearWeight low x (slice_set weights l.header (first_weight low l (gain low weights l ms)))) ms
  set_near ms weights l t long loose gains near = by_bounds loose.bounds
    where
      w : ℤ
      w = first_weight low l (gain low weights l ms)

      kept : (m : Step) → m.at ≢ l.header → IsNearWeight low x weights m → IsNearWeight low x (slice_set weights l.header (first_weight low l (gain low weights l ms))) m
      kept m d n = let e = get_or-set_other weights l.header m.at (first_weight low l (gain low weights l ms)) (pos 0) d in rw e n

      by_bounds : ((0 < l.max) × (l.min ≤ l.max)) ⊎ Each (λ m. m.at ≢ l.header) ms → Each (IsNearWeight low x (slice_set weights l.header (first_weight low l (gain low weights l ms)))) ms
      by_bounds (inr none) = each_both (λ m. m.at ≢ l.header) (IsNearWeight low x weights) (IsNearWeight low x (slice_set weights l.header (first_weight low l (gain low weights l ms)))) ms kept none near
      by_bounds (inl some) = each_map (IsNearWeight low x weights) (IsNearWeight low x (slice_set weights l.header (first_weight low l (gain low weights l ms)))) ms one near
        where
          gain_small : (t.gain +ℤ low) <ℤ pos 0
          gain_small = let a = loose.turns in let p = loose.positive in let o = once l.max t.gain some.0 p in omega (arith, ints)

          fresh : IsNear low (first_weight low l (gain low weights l ms)) (x.weight l.header)
          fresh = weight_near low l (gain low weights l ms) t.gain (x.weight l.header) h some.0 some.1 loose.positive gain_small gains loose.weight

          one : (m : Step) → IsNearWeight low x weights m → IsNearWeight low x (slice_set weights l.header (first_weight low l (gain low weights l ms))) m
          one m n = elim (eqb_tells m.at l.header) [
            | inl q ↦
                let e = get_or-set_at weights l.header m.at (first_weight low l (gain low weights l ms)) (pos 0) q.1 long in
                rw e (subst (λ a. IsNear low (first_weight low l (gain low weights l ms)) (x.weight a)) (sym q.1) fresh)
            | inr q ↦ kept m q.1 n
          ]

  pub weighed-long : (ms : List Step) (weights : List ℤ) (ls : List Loop) → length (weighed low ms weights ls) ≡ length weights
  weighed-long ms weights [] = refl
  weighed-long ms weights (l ∷ ls) = length-set (weighed low ms weights ls) l.header (first_weight low l (gain low (weighed low ms weights ls) l ms)) ∙ weighed-long ms weights ls

  -- a place before all headers has no weight of theirs
  pub weighed_before : (ms : List Step) (weights : List ℤ) (ls : List Loop) (a : ℕ) → HeadersAbove a ls → worth_at (weighed low ms weights ls) a ≡ worth_at weights a
  weighed_before ms weights [] a above = refl
  weighed_before ms weights (l ∷ ls) a above =
      let lt = above.0 in
      get_or-set_other (weighed low ms weights ls) l.header a (first_weight low l (gain low (weighed low ms weights ls) l ms)) (pos 0) (λ e. absurd (omega (arith, e, lt)))
      ∙ weighed_before ms weights ls a above.1

  pub weighed_near : (n : ℕ) (ms : List Step) (weights : List ℤ) (ls : List Loop) (ts : List Turn) → n ≤ length weights → Each (IsStep n) ms → AreLoops n ms ls → HaveNone weights ls → AreLooseTurns low most x ms ls ts → Each (IsNearWeight low x weights) ms → Each (IsNearWeight low x (weighed low ms weights ls)) ms
  weighed_near n ms weights [] ts long steps loops none loose near = near
  weighed_near n ms weights (l ∷ ls) [] long steps loops none loose near = absurd loose
  weighed_near n ms weights (l ∷ ls) (t ∷ ts) long steps loops none loose near =
      let r = weighed_near n ms weights ls ts long steps loops.2 none.1 loose.1 near in
      let z = weighed_before ms weights ls l.header loops.1 ∙ none.0 in
      let g = turn_near low x h l t (weighed low ms weights ls) most ms (back_within n ms l loops.0) loose.0 (range_turns n ms l t (weighed low ms weights ls) loops.0 steps z r loose.0) in
      let a = loops.0.range.0 in let b = loops.0.range.1 in let k = weighed-long ms weights ls in
      set_near ms (weighed low ms weights ls) l t (omega (arith, a, b, k, long)) loose.0 g r

  -- what each turn gains is near
  abbrev pub AreNearGains : List ℤ → List Turn → Type 0
  AreNearGains [] ts = Unit {0}
  AreNearGains (g ∷ gs) [] = ⊥
  AreNearGains (g ∷ gs) (t ∷ ts) = IsNear low g t.gain × AreNearGains gs ts

  pub gains_near : (n : ℕ) (ms : List Step) (weights : List ℤ) (ls : List Loop) (ts : List Turn) → n ≤ length weights → Each (IsStep n) ms → AreLoops n ms ls → HaveNone weights ls → AreLooseTurns low most x ms ls ts → Each (IsNearWeight low x weights) ms → AreNearGains (gains low ms weights ls) ts
  gains_near n ms weights [] ts long steps loops none loose near = tt
  gains_near n ms weights (l ∷ ls) [] long steps loops none loose near = absurd loose
  gains_near n ms weights (l ∷ ls) (t ∷ ts) long steps loops none loose near =
      let r = weighed_near n ms weights ls ts long steps loops.2 none.1 loose.1 near in
      let z = weighed_before ms weights ls l.header loops.1 ∙ none.0 in (
        turn_near low x h l t (weighed low ms weights ls) most ms (back_within n ms l loops.0) loose.0 (range_turns n ms l t (weighed low ms weights ls) loops.0 steps z r loose.0),
        gains_near n ms weights ls ts long steps loops.2 none.1 loose.1 near,
      )
