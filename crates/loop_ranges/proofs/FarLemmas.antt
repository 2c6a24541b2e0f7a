-- A way to a jump back, with its price and at the header the weight of its further turns, is no more than what its place is worth.
use Rattle.std.proofs.Common.{◌≡◌, ◌≢◌, ℕ, ◌+◌, ◌-◌, ◌≤◌, ◌<◌, ℤ, pos, ◌+ℤ◌, ◌-ℤ◌, ◌*ℤ◌, ◌≤ℤ◌, arith, refl, sym, ap, ◌∙◌, subst, List, [], ◌∷◌, length, inl, inr, Bool, true, false, cond, Option, Some, None, get_or, get_or-set_other}
use Rattle.std.specs.Prelude.{◌==◌}
use Rattle.std.specs.Int.RustNames.{int_le}
use Rattle.std.proofs.lemmas.Int.{ints}
use Rattle.std.proofs.lemmas.Grind.{get_or-set_at}
use Rattle.std.proofs.lemmas.List.{length-replicate, get_or-replicate}
use Rattle.std.proofs.lemmas.Bool.Decides.{eqb_tells, leb_tells}
use Rattle.std.proofs.Math.ListN.{replicate, get_or-eq_default}
use Rattle.frac128.proofs.SignedLemmas.{mul-sub}
use Rattle.loop_walks.specs.declared.step.Step.{Step}
use Rattle.loop_walks.specs.declared.step.Loop.{Loop}
use Rattle.loop_walks.specs.Walks.{worth_at, cost, head_steps, body_steps, range_steps}
use Rattle.loop_walks.specs.Turns.{greater, further, way_at, turned, with_back, turn_start, turn_ways, gain_by, gain}
use Rattle.loop_walks.specs.Multipliers.{first_weight}
use Rattle.loop_walks.specs.Levels.{weighed}
use Rattle.loop_walks.specs.Rows.{IsStep, Each, IsLoopOf, HeadersAbove, AreLoops, HaveNone}
use Rattle.loop_walks.proofs.EachLemmas.{each_map, each_both, each_between, each_beside}
use Rattle.loop_walks.proofs.TurnLemmas.{IsInRange, turn_at, turn_other, turned-long, turned_other, turn_start-long, turn_start_back}
use Rattle.loop_walks.proofs.LevelLemmas.{From, from_above, weighed-long}
use Rattle.loop_ranges.specs.LooseWalk.{back_price, MayTurn, AllMayTurn}
use Rattle.loop_ranges.proofs.LooseLemmas.{larger-zero, weight_is, set_at, set_other, weighed_positive, back_in, AreBacked}

-- a way that isn't negative, and with a price behind it no more than a worth
abbrev pub IsBeneath : ℤ → Option ℤ → ℤ → Type 0
IsBeneath c None v = Unit {0}
IsBeneath c (Some t) v = (pos 0 ≤ℤ t) × ((t +ℤ c) ≤ℤ v)

greater_beneath : (c v : ℤ) (o p : Option ℤ) → IsBeneath c o v → IsBeneath c p v → IsBeneath c (greater o p) v
greater_beneath c v None p h k = k
greater_beneath c v (Some x) None h k = h
greater_beneath c v (Some x) (Some y) h k = by_test (int_le x y)
  where
    by_test : (t : Bool) → IsBeneath c (Some (cond t y x)) v
    by_test true = k
    by_test false = h

-- the way before a step that isn't negative and is paid
further_beneath : (c c' u v v' : ℤ) (o : Option ℤ) → pos 0 ≤ℤ u → (((u +ℤ c') -ℤ c) +ℤ v) ≤ℤ v' → IsBeneath c o v → IsBeneath c' (further (pos 0) u o) v'
further_beneath c c' u v v' None pu paid h = tt
further_beneath c c' u v v' (Some t) pu paid h =
    let h0 = h.0 in let h1 = h.1 in
    let e = larger-zero (u +ℤ t) (omega (arith, ints)) in
    rw e (omega (arith, ints), omega (arith, ints))

pub range_in : (n : ℕ) (ms : List Step) (l : Loop) → IsLoopOf n ms l → Each (IsInRange l.header (l.end - l.header)) (range_steps l ms)
range_in n ms l fits =
    let r0 = fits.range.0 in
    each_beside (IsInRange l.header (l.end - l.header)) l.head l.body l.rest ms fits.order.0 fits.order.1
    (each_map (λ m. m.at ≡ l.header) (IsInRange l.header (l.end - l.header)) (head_steps l ms) (λ m e. (omega (arith, e), omega (arith, e, r0))) fits.heads)
    (each_map (λ m. (l.header < m.at) × (m.at < l.end)) (IsInRange l.header (l.end - l.header)) (body_steps l ms) (λ m h. (omega (arith, h.0), omega (arith, h.0, h.1))) fits.body)

none_at : (n i : ℕ) → get_or (replicate {A = Option ℤ} n None) i None ≡ None
none_at n i = elim (leb_tells n i) [
  | inl e ↦ let e1 = e.1 in let k = length-replicate {A = Option ℤ} n None in get_or-eq_default (replicate n None) None (omega (arith, k, e1))
  | inr e ↦ get_or-replicate n i None None e.1
]

-- a place before all headers has no weight of theirs
pub weighed_before : (low : ℤ) (ms : List Step) (weights : List ℤ) (ls : List Loop) (a : ℕ) → HeadersAbove a ls → worth_at (weighed low ms weights ls) a ≡ worth_at weights a
weighed_before low ms weights [] a above = refl
weighed_before low ms weights (l ∷ ls) a above =
    let lt = above.0 in
    set_other (weighed low ms weights ls) l.header a (first_weight low l (gain low (weighed low ms weights ls) l ms)) (λ e. absurd (omega (arith, e, lt)))
    ∙ weighed_before low ms weights ls a above.1

-- one loop, whose turns have these weights; the last weights and worths are given
module _ (l : Loop) (weights : List ℤ) (weight worth : ℕ → ℤ) where
  -- the weight of further turns, at the header alone
  abbrev pub own : ℕ → ℤ
  own a = cond (a == l.header) (weight a) (pos 0)

  -- a step of the range that is paid
  pub record IsFarStep (m : Step) : Type 0 where
    pub range : IsInRange l.header (l.end - l.header) m
    pub on : m.at < m.on
    pub positive : pos 0 ≤ℤ cost weights m
    pub paid : ((cost weights m +ℤ own m.at) +ℤ worth m.on) ≤ℤ worth m.at

  abbrev pub AreFar : List (Option ℤ) → Type 0
  AreFar ts = (i : ℕ) → IsBeneath (l.price +ℤ own (l.header + i)) (way_at ts i) (worth (l.header + i))

  own_behind : (a : ℕ) → l.header < a → own a ≡ pos 0
  own_behind a lt = elim (eqb_tells a l.header) [
    | inl k ↦ let e = k.1 in absurd (omega (arith, e, lt))
    | inr k ↦ let q = k.0 in rw q refl
  ]

  turned_far : (ts : List (Option ℤ)) (ms : List Step) → length ts ≡ l.end - l.header → Each IsFarStep ms → AreFar ts → AreFar (turned (pos 0) weights l.header ts ms)
  turned_far ts [] long steps far i = far i
  turned_far ts (m ∷ ms) long steps far i = by_place (turned_far ts ms long steps.1 far)
    where
      after_long : length (turned (pos 0) weights l.header ts ms) ≡ l.end - l.header
      after_long = turned-long (pos 0) weights l.header ts ms ∙ long

      by_place : AreFar (turned (pos 0) weights l.header ts ms) → IsBeneath (l.price +ℤ own (l.header + i)) (way_at (turned (pos 0) weights l.header ts (m ∷ ms)) i) (worth (l.header + i))
      by_place r = elim (eqb_tells i (m.at - l.header)) [
        | inl q ↦
            let k = steps.0 in
            let k0 = k.range.0 in let k1 = k.range.1 in let k2 = k.on in let paid = k.paid in
            let e = turn_at (pos 0) weights l.header (turned (pos 0) weights l.header ts ms) m i (let v = after_long in omega (arith, v, k1)) q.1 in
            let f : l.header + i ≡ m.at = omega (arith, q.1, k0) in
            let g : l.header + (m.on - l.header) ≡ m.on = omega (arith, k0, k2) in
            let z = own_behind m.on (omega (arith, k0, k2)) in
            let far_on : IsBeneath (l.price +ℤ own m.on) (way_at (turned (pos 0) weights l.header ts ms) (m.on - l.header)) (worth m.on) = subst (λ a. IsBeneath (l.price +ℤ own a) (way_at (turned (pos 0) weights l.header ts ms) (m.on - l.header)) (worth a)) g (r (m.on - l.header)) in
            let step : IsBeneath (l.price +ℤ own m.at) (further (pos 0) (cost weights m) (way_at (turned (pos 0) weights l.header ts ms) (m.on - l.header))) (worth m.at) =
            further_beneath (l.price +ℤ own m.on) (l.price +ℤ own m.at) (cost weights m) (worth m.on) (worth m.at) (way_at (turned (pos 0) weights l.header ts ms) (m.on - l.header)) k.positive
            (let o = own m.at in let y = cost weights m in omega (arith, ints)) far_on in
            rw e (greater_beneath (l.price +ℤ own (l.header + i)) (worth (l.header + i)) (way_at (turned (pos 0) weights l.header ts ms) i) (further (pos 0) (cost weights m) (way_at (turned (pos 0) weights l.header ts ms) (m.on - l.header))) (r i)
            (subst (λ a. IsBeneath (l.price +ℤ own a) (further (pos 0) (cost weights m) (way_at (turned (pos 0) weights l.header ts ms) (m.on - l.header))) (worth a)) (sym f) step))
        | inr q ↦ let e = turn_other (pos 0) weights l.header (turned (pos 0) weights l.header ts ms) m i q.1 in rw e (r i)
      ]

  start_far : (o : Option ℕ) → ((b : ℕ) → o ≡ Some b → (l.header ≤ b) × (b < l.end)) → ((b : ℕ) → o ≡ Some b → (l.price +ℤ own b) ≤ℤ worth b) → AreFar (with_back o l.header (replicate (l.end - l.header) None))
  start_far None within paid i = rw (none_at (l.end - l.header) i) tt
  start_far (Some b) within paid i = elim (eqb_tells i (b - l.header)) [
    | inl q ↦
        let w = within b refl in let w0 = w.0 in let w1 = w.1 in
        let e = get_or-set_at (replicate (l.end - l.header) None) (b - l.header) i (Some (pos 0)) None q.1 (let n = length-replicate {A = Option ℤ} (l.end - l.header) None in omega (arith, n, w0, w1)) in
        let f : l.header + i ≡ b = omega (arith, q.1, w0) in
        rw e (subst (λ a. IsBeneath (l.price +ℤ own a) (Some (pos 0)) (worth a)) (sym f) (omega (arith, ints), let p = paid b refl in omega (arith, ints)))
    | inr q ↦
        let e = get_or-set_other (replicate (l.end - l.header) None) (b - l.header) i (Some (pos 0)) None q.1 in
        rw e (rw (none_at (l.end - l.header) i) tt)
  ]

  pub ways_far : (ms : List Step) → ((b : ℕ) → l.back ≡ Some b → (l.header ≤ b) × (b < l.end)) → ((b : ℕ) → l.back ≡ Some b → (l.price +ℤ own b) ≤ℤ worth b) → Each IsFarStep (range_steps l ms) → AreFar (turn_ways (pos 0) weights l ms)
  ways_far ms within paid steps = turned_far (turn_start l) (range_steps l ms) (turn_start-long l) steps (start_far l.back within paid)

-- where the header is the jump back, its weight is that of all further turns
own_back : (n : ℕ) (ms : List Step) (l : Loop) (weights : List ℤ) (w v : ℤ) → IsLoopOf n ms l → MayTurn l → l.back ≡ Some l.header → w ≡ first_weight (pos 0) l (gain (pos 0) weights l ms) → (pos l.max *ℤ l.price) ≤ℤ v → (l.price +ℤ w) ≤ℤ v
own_back n ms l weights w v fits turn is weight worth =
    let inside = back_in n ms l fits l.header is in
    let ways : way_at (turn_ways (pos 0) weights l ms) (l.header - l.header) ≡ Some (pos 0) =
    turned_other (pos 0) weights l.header (l.end - l.header) (turn_start l) (range_steps l ms) l.header (omega arith) (range_in n ms l fits) (each_between (λ m. m.at ≢ l.header) l.head l.rest ms inside.2)
    ∙ turn_start_back l l.header is (omega arith) inside.1 in
    let z : l.header - l.header ≡ 0 = omega arith in
    let first : way_at (turn_ways (pos 0) weights l ms) 0 ≡ Some (pos 0) = subst (λ i. way_at (turn_ways (pos 0) weights l ms) i ≡ Some (pos 0)) z ways in
    let p = turn.positive in
    let g : gain (pos 0) weights l ms ≡ l.price = ap (λ (o : Option ℤ). gain_by (pos 0) l.price o) first ∙ (larger-zero (pos 0 +ℤ l.price) (omega (arith, ints)) ∙ omega (arith, ints)) in
    let e : w ≡ l.price *ℤ (pos l.max -ℤ pos 1) = weight ∙ (ap (λ (y : ℤ). first_weight (pos 0) l y) g ∙ weight_is l l.price p) in
    let d = mul-sub l.price (pos l.max) (pos 1) in
    let c : l.price *ℤ pos l.max ≡ pos l.max *ℤ l.price = omega (arith, ints) in
    let o : l.price *ℤ pos 1 ≡ l.price = omega (arith, ints) in
    omega (arith, ints)

-- all loops, the inmost first: the last weights are as they were made

abbrev pub AreAllFar : List Step → List ℤ → (ℕ → ℤ) → (ℕ → ℤ) → List Loop → Type 0
AreAllFar ms weights weight worth [] = Unit {0}
AreAllFar ms weights weight worth (l ∷ ls) = AreFar l (weighed (pos 0) ms weights ls) weight worth (turn_ways (pos 0) (weighed (pos 0) ms weights ls) l ms)
    × (weight l.header ≡ first_weight (pos 0) l (gain (pos 0) (weighed (pos 0) ms weights ls) l ms)) × AreAllFar ms weights weight worth ls

module _ (n : ℕ) (ms : List Step) (weights : List ℤ) (weight worth : ℕ → ℤ) (long : n < length weights) (prices : Each (λ m. pos 0 ≤ℤ m.price) ms) (steps : Each (IsStep n) ms)
    (positive : (a : ℕ) → pos 0 ≤ℤ worth_at weights a) (paid : Each (λ m. ((m.price +ℤ weight m.at) +ℤ worth m.on) ≤ℤ worth m.at) ms) where
  one_far : (l : Loop) (ls : List Loop) → IsLoopOf n ms l → HeadersAbove l.header ls → AreLoops n ms ls → MayTurn l → AllMayTurn ls → worth_at weights l.header ≡ pos 0 → ((b : ℕ) → l.back ≡ Some b → back_price l b ≤ℤ worth b) →
      ((a : ℕ) → l.header < a → weight a ≡ worth_at (weighed (pos 0) ms weights ls) a) → weight l.header ≡ first_weight (pos 0) l (gain (pos 0) (weighed (pos 0) ms weights ls) l ms) →
      AreFar l (weighed (pos 0) ms weights ls) weight worth (turn_ways (pos 0) (weighed (pos 0) ms weights ls) l ms)
  one_far l ls fits above loops turn turns none back same header = ways_far l (weighed (pos 0) ms weights ls) weight worth ms (λ b is. let i = back_in n ms l fits b is in (i.0, i.1)) back_paid far_steps
    where
      back_paid : (b : ℕ) → l.back ≡ Some b → (l.price +ℤ own l (weighed (pos 0) ms weights ls) weight worth b) ≤ℤ worth b
      back_paid b is = elim (eqb_tells b l.header) [
        | inl k ↦
            let q = k.0 in
            let p : back_price l b ≤ℤ worth b = back b is in
            let p' : (pos l.max *ℤ l.price) ≤ℤ worth b = (let e : back_price l b ≡ pos l.max *ℤ l.price = rw q refl in subst (λ (z : ℤ). z ≤ℤ worth b) e p) in
            let o : own l (weighed (pos 0) ms weights ls) weight worth b ≡ weight b = rw q refl in
            let w : weight b ≡ first_weight (pos 0) l (gain (pos 0) (weighed (pos 0) ms weights ls) l ms) = ap weight k.1 ∙ header in
            let r = own_back n ms l (weighed (pos 0) ms weights ls) (weight b) (worth b) fits turn (is ∙ ap Some k.1) w p' in
            subst (λ (z : ℤ). (l.price +ℤ z) ≤ℤ worth b) (sym o) r
        | inr k ↦
            let q = k.0 in
            let p : back_price l b ≤ℤ worth b = back b is in
            let e : back_price l b ≡ l.price = rw q refl in
            let o : own l (weighed (pos 0) ms weights ls) weight worth b ≡ pos 0 = rw q refl in omega (arith, ints)
      ]

      far_step : (m : Step) → IsInRange l.header (l.end - l.header) m → ((IsStep n m) × (pos 0 ≤ℤ m.price)) × (((m.price +ℤ weight m.at) +ℤ worth m.on) ≤ℤ worth m.at) → IsFarStep l (weighed (pos 0) ms weights ls) weight worth m
      far_step m r h = record {
        range = r;
        on = h.0.0.0;
        positive = (let w = weighed_positive n ms ms weights ls long loops turns positive m.at in let p = h.0.1 in omega (arith, ints));
        paid = (let p = h.1 in let e = same_weight in omega (arith, ints));
      }
        where
          same_weight : worth_at (weighed (pos 0) ms weights ls) m.at +ℤ own l (weighed (pos 0) ms weights ls) weight worth m.at ≡ weight m.at
          same_weight = elim (eqb_tells m.at l.header) [
            | inl k ↦
                let q = k.0 in
                let o : own l (weighed (pos 0) ms weights ls) weight worth m.at ≡ weight m.at = rw q refl in
                let z : worth_at (weighed (pos 0) ms weights ls) m.at ≡ pos 0 = ap (λ a. worth_at (weighed (pos 0) ms weights ls) a) k.1 ∙ (weighed_before (pos 0) ms weights ls l.header above ∙ none) in omega (arith, ints)
            | inr k ↦
                let q = k.0 in let d = k.1 in let r0 = r.0 in
                let o : own l (weighed (pos 0) ms weights ls) weight worth m.at ≡ pos 0 = rw q refl in
                let s = same m.at (omega (arith, r0, d)) in omega (arith, ints)
          ]

      far_steps : Each (IsFarStep l (weighed (pos 0) ms weights ls) weight worth) (range_steps l ms)
      far_steps = each_both (IsInRange l.header (l.end - l.header)) (λ m. ((IsStep n m) × (pos 0 ≤ℤ m.price)) × (((m.price +ℤ weight m.at) +ℤ worth m.on) ≤ℤ worth m.at)) (IsFarStep l (weighed (pos 0) ms weights ls) weight worth) (range_steps l ms) far_step (range_in n ms l fits)
          (each_between (λ m. ((IsStep n m) × (pos 0 ≤ℤ m.price)) × (((m.price +ℤ weight m.at) +ℤ worth m.on) ≤ℤ worth m.at)) l.head l.rest ms
          (each_both (λ m. (IsStep n m) × (pos 0 ≤ℤ m.price)) (λ m. ((m.price +ℤ weight m.at) +ℤ worth m.on) ≤ℤ worth m.at) (λ m. ((IsStep n m) × (pos 0 ≤ℤ m.price)) × (((m.price +ℤ weight m.at) +ℤ worth m.on) ≤ℤ worth m.at)) ms (λ m a b. (a, b))
          (each_both (IsStep n) (λ m. pos 0 ≤ℤ m.price) (λ m. (IsStep n m) × (pos 0 ≤ℤ m.price)) ms (λ m a b. (a, b)) steps prices) paid))

  pub all_far : (ls : List Loop) → AreLoops n ms ls → AllMayTurn ls → HaveNone weights ls → AreBacked worth ls → ((a : ℕ) → From a ls → weight a ≡ worth_at (weighed (pos 0) ms weights ls) a) → AreAllFar ms weights weight worth ls
  all_far [] loops turns none backs same = tt
  all_far (l ∷ ls) loops turns none backs same = (
    one_far l ls loops.0 loops.1 loops.2 turns.0 turns.1 none.0 backs.0 later header,
    header,
    all_far ls loops.2 turns.1 none.1 backs.1 (λ a f. later a (from_above a l.header ls loops.1 f)),
  )
    where
      later : (a : ℕ) → l.header < a → weight a ≡ worth_at (weighed (pos 0) ms weights ls) a
      later a lt = same a (omega (arith, lt)) ∙ set_other (weighed (pos 0) ms weights ls) l.header a (first_weight (pos 0) l (gain (pos 0) (weighed (pos 0) ms weights ls) l ms)) (λ e. absurd (omega (arith, e, lt)))

      header : weight l.header ≡ first_weight (pos 0) l (gain (pos 0) (weighed (pos 0) ms weights ls) l ms)
      header = same l.header (omega arith) ∙ set_at (weighed (pos 0) ms weights ls) l.header (first_weight (pos 0) l (gain (pos 0) (weighed (pos 0) ms weights ls) l ms))
          (let r = weighed-long (pos 0) ms weights ls in let a = loops.0.range.0 in let b = loops.0.range.1 in omega (arith, r, a, b, long))
