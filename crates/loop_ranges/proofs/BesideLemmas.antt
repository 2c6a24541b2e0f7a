-- The loose walk gives loose worths and turns of a function beside it.
use Rattle.std.proofs.Common.{◌≡◌, ◌≢◌, ℕ, zero, suc, ◌+◌, ◌-◌, ◌≤◌, ◌<◌, ℤ, pos, ◌+ℤ◌, ◌-ℤ◌, ◌*ℤ◌, ◌≤ℤ◌, arith, refl, sym, ap, ◌∙◌, subst, List, [], ◌∷◌, Contains, inl, inr, Bool, true, false, cond, Option, Some, None}
use Rattle.std.specs.Prelude.{◌==◌}
use lib.IntN.{negsuc}
use Rattle.std.proofs.lemmas.Int.{ints}
use Rattle.std.proofs.lemmas.Bool.Decides.{eqb_tells}
use Rattle.std.proofs.Math.Nat.{mul-le-mul_left}
use Rattle.frac128.proofs.SignedLemmas.{mul-sub}
use Rattle.loop_walks.specs.declared.step.Step.{Step}
use Rattle.loop_walks.specs.declared.step.Loop.{Loop}
use Rattle.loop_walks.specs.Walks.{larger, worth_at, cost, range_steps}
use Rattle.loop_walks.specs.Turns.{further, way_at, turn_start, turn_ways, gain_by, gain}
use Rattle.loop_walks.specs.Multipliers.{first_weight}
use Rattle.loop_walks.specs.Levels.{weighed, Level}
use Rattle.loop_walks.specs.Rows.{Each, IsLoopOf, AreLoops, HaveNone}
use Rattle.loop_walks.proofs.EachLemmas.{each_map, each_between, between_steps, steps_are}
use Rattle.loop_walks.proofs.LargerLemmas.{larger_right, WayAtMost}
use Rattle.loop_walks.proofs.WalkLemmas.{Pays, relaxed_pays}
use Rattle.loop_walks.proofs.TurnLemmas.{IsInRange, PaysTurn, turned_pays, turned_other, turn_start-long, turn_start_back}
use Rattle.loop_walks.proofs.LevelLemmas.{From, from_above}
use Rattle.loop_ranges.specs.Near.{PaysFurther, IsAtMost, IsThere}
use Rattle.loop_ranges.specs.Loose.{PaysLoosely, turn_weight, TurnsLoosely, IsLooseTurn, AreLooseTurns}
use Rattle.loop_ranges.specs.LooseWalk.{back_price, backed, loose_level, loose_of, loose_turn, loose_turns, MayTurn, AllMayTurn, IsLooseWalk}
use Rattle.loop_ranges.specs.Beside.{HasLoose, IsBesideLoop, AreBesideLoops, LooseWalkPays}
use Rattle.loop_ranges.proofs.LooseLemmas.{larger-zero, gain_positive, weight_is, set_other, weighed_positive, back_in, AreBacked, start_long, worths_positive, weights_positive, backs_are}
use Rattle.loop_ranges.proofs.FarLemmas.{IsBeneath, AreFar, AreAllFar, all_far, own, range_in, weighed_before}

pub each_contains : (P : Step → Type 0) (ks : List Step) (k : Step) → Each P ks → Contains ks k → P k
each_contains P [] k h (i, lt, e) = absurd (omega (arith, lt))
each_contains P (x ∷ ks) k h (zero, lt, e) = subst P e h.0
each_contains P (x ∷ ks) k h (suc i, lt, e) = each_contains P ks k h.1 (i, omega (arith, lt), e)

-- numbers

fewer : (k m : ℕ) (z : ℤ) → k ≤ m → pos 0 ≤ℤ z → (pos k *ℤ z) ≤ℤ (pos m *ℤ z)
fewer k m (pos z) h p = let e = mul-le-mul_left z h in omega (arith, ints)
fewer k m (negsuc z) h p = absurd (omega (arith, ints))

-- all turns are one and the further ones
all_turns : (k : ℕ) (g : ℤ) → (pos k *ℤ g) ≡ (g +ℤ (g *ℤ (pos k -ℤ pos 1)))
all_turns k g =
    let d = mul-sub g (pos k) (pos 1) in
    let c : g *ℤ pos k ≡ pos k *ℤ g = omega (arith, ints) in
    let o : g *ℤ pos 1 ≡ g = omega (arith, ints) in omega (arith, ints)

further_turns : (k m : ℕ) (g : ℤ) → k ≤ m → pos 0 ≤ℤ g → ((pos k -ℤ pos 1) *ℤ g) ≤ℤ (g *ℤ (pos m -ℤ pos 1))
further_turns k m g h p =
    let f = fewer k m g h p in
    let a = all_turns k g in
    let b = all_turns m g in
    let c : (pos k -ℤ pos 1) *ℤ g ≡ g *ℤ (pos k -ℤ pos 1) = omega (arith, ints) in omega (arith, ints)

-- a way that is paid makes a longer one
pays_further : (c : ℤ) (o p : Option ℤ) → WayAtMost (further (pos 0) c o) p → PaysFurther c o p
pays_further c None p h = tt
pays_further c (Some t) None h = absurd h
pays_further c (Some t) (Some u) h = let l = larger_right (pos 0) (c +ℤ t) in omega (arith, ints)

-- what is beneath a worth

at_most : (c v most : ℤ) (o : Option ℤ) (price : ℤ) → price ≤ℤ c → v ≤ℤ most → IsBeneath c o v → IsAtMost o price most
at_most c v most None price p le h = tt
at_most c v most (Some t) price p le h = let h1 = h.1 in omega (arith, ints)

gain_at_most : (price : ℤ) (o : Option ℤ) → IsAtMost o price (gain_by (pos 0) price o)
gain_at_most price None = tt
gain_at_most price (Some t) = larger_right (pos 0) (t +ℤ price)

-- the gain of all turns
gains_at_most : (price w v : ℤ) (k : ℕ) (o : Option ℤ) → pos 0 ≤ℤ price → pos 0 ≤ℤ v → w ≡ gain_by (pos 0) price o *ℤ (pos k -ℤ pos 1) → IsBeneath (price +ℤ w) o v → (pos k *ℤ gain_by (pos 0) price o) ≤ℤ v
gains_at_most price w v k None p pv is h = let z : pos k *ℤ pos 0 ≡ pos 0 = omega (arith, ints) in omega (arith, ints)
gains_at_most price w v k (Some t) p pv is h =
    let h0 = h.0 in let h1 = h.1 in
    let e = larger-zero (t +ℤ price) (omega (arith, ints)) in
    let a = all_turns k (larger (pos 0) (t +ℤ price)) in
    let x : larger (pos 0) (t +ℤ price) *ℤ (pos k -ℤ pos 1) ≡ w = sym is in
    omega (arith, ints)

module _ (low most : ℤ) (n : ℕ) (ms : List Step) (ks : List Step) (v : Level) (js : List Loop) (walk : IsLooseWalk n ks v js) (bound : (a : ℕ) → worth_at (loose_level ks v js).worths a ≤ℤ most) where
  -- steps
  step_pays : (m : Step) → HasLoose low ks m → PaysLoosely low (loose_of (loose_level ks v js)) m
  step_pays m h = record {
    price = h.step.price;
    near = h.price;
    positive = (let p = each_contains (λ k. pos 0 ≤ℤ k.price) ks h.step walk.prices h.among in let w = weights_positive n ks v js walk m.at in omega (arith, ints));
    paid = subst (λ a. ((h.step.price +ℤ worth_at (loose_level ks v js).weights a) +ℤ worth_at (loose_level ks v js).worths m.on) ≤ℤ worth_at (loose_level ks v js).worths a) h.at
        (subst (λ b. ((h.step.price +ℤ worth_at (loose_level ks v js).weights h.step.at) +ℤ worth_at (loose_level ks v js).worths b) ≤ℤ worth_at (loose_level ks v js).worths h.step.at) h.on
        (each_contains (Pays (loose_level ks v js).weights (loose_level ks v js).worths) ks h.step (relaxed_pays (loose_level ks v js).weights (backed v.worths js) n ks (start_long n ks v js walk) walk.steps) h.among));
  }

  -- the steps of a turn
  turn_pays : (j : Loop) (weights : List ℤ) → IsLoopOf n ks j → Each (PaysTurn (pos 0) weights j.header (turn_ways (pos 0) weights j ks)) (range_steps j ks)
  turn_pays j weights fits = turned_pays (pos 0) weights j.header n (turn_start j) (range_steps j ks) (between_steps n j.head j.rest ks walk.steps)
      (subst (λ k. Each (IsInRange j.header k) (range_steps j ks)) (sym (turn_start-long j)) (range_in n ks j fits))

  module _ (l j : Loop) (weights : List ℤ) (fits : IsLoopOf n ks j) (same_header : j.header ≡ l.header) (positive : (a : ℕ) → pos 0 ≤ℤ worth_at weights a) (none : worth_at weights j.header ≡ pos 0)
      (same : (a : ℕ) → j.header < a → worth_at (loose_level ks v js).weights a ≡ worth_at weights a) where
    own_weight : (a : ℕ) → j.header ≤ a → turn_weight (loose_of (loose_level ks v js)) l a ≡ worth_at weights a
    own_weight a from = elim (eqb_tells a l.header) [
      | inl k ↦ let q = k.0 in rw q (sym (ap (λ b. worth_at weights b) (k.1 ∙ sym same_header) ∙ none))
      | inr k ↦ let q = k.0 in let d = k.1 in rw q (same a (omega (arith, from, d, same_header)))
    ]

    one_turn : (m : Step) → HasLoose low (range_steps j ks) m → TurnsLoosely low (loose_of (loose_level ks v js)) l (loose_turn ks weights j) m
    one_turn m h = record {
      price = h.step.price;
      near = h.price;
      positive = (let p = each_contains (λ k. pos 0 ≤ℤ k.price) (range_steps j ks) h.step (each_between (λ k. pos 0 ≤ℤ k.price) j.head j.rest ks walk.prices) h.among in let w = positive m.at in let e = weight_is_own in omega (arith, ints));
      further = λ inside. subst (λ (z : ℤ). PaysFurther (h.step.price +ℤ z) (way_at (turn_ways (pos 0) weights j ks) (m.on - j.header)) (way_at (turn_ways (pos 0) weights j ks) (m.at - j.header))) (sym weight_is_own)
          (subst (λ a. PaysFurther (h.step.price +ℤ worth_at weights a) (way_at (turn_ways (pos 0) weights j ks) (m.on - j.header)) (way_at (turn_ways (pos 0) weights j ks) (a - j.header))) h.at
          (subst (λ b. PaysFurther (h.step.price +ℤ worth_at weights h.step.at) (way_at (turn_ways (pos 0) weights j ks) (b - j.header)) (way_at (turn_ways (pos 0) weights j ks) (h.step.at - j.header))) h.on paid));
    }
      where
        weight_is_own : turn_weight (loose_of (loose_level ks v js)) l m.at ≡ worth_at weights m.at
        weight_is_own = own_weight m.at (let r = each_contains (IsInRange j.header (j.end - j.header)) (range_steps j ks) h.step (range_in n ks j fits) h.among in let r0 = r.0 in let e = h.at in omega (arith, r0, e))

        paid : PaysFurther (cost weights h.step) (way_at (turn_ways (pos 0) weights j ks) (h.step.on - j.header)) (way_at (turn_ways (pos 0) weights j ks) (h.step.at - j.header))
        paid = pays_further (cost weights h.step) (way_at (turn_ways (pos 0) weights j ks) (h.step.on - j.header)) (way_at (turn_ways (pos 0) weights j ks) (h.step.at - j.header))
            (each_contains (PaysTurn (pos 0) weights j.header (turn_ways (pos 0) weights j ks)) (range_steps j ks) h.step (turn_pays j weights fits) h.among)

    way_there : (b : ℕ) → l.back ≡ Some b → ((b : ℕ) → l.back ≡ Some b → j.back ≡ Some b) → IsThere (way_at (turn_ways (pos 0) weights j ks) (b - j.header))
    way_there b is back =
        let i = back_in n ks j fits b (back b is) in
        let e = turned_other (pos 0) weights j.header (j.end - j.header) (turn_start j) (range_steps j ks) b i.0 (range_in n ks j fits) (each_between (λ m. m.at ≢ b) j.head j.rest ks i.2)
        ∙ turn_start_back j b (back b is) i.0 i.1 in
        rw e (omega (arith, ints))

    is_turn : IsBesideLoop low ms ks l j → MayTurn j → ((b : ℕ) → j.back ≡ Some b → back_price j b ≤ℤ worth_at (loose_level ks v js).worths b) → worth_at (loose_level ks v js).weights j.header ≡ first_weight (pos 0) j (gain (pos 0) weights j ks) →
        AreFar j weights (worth_at (loose_level ks v js).weights) (worth_at (loose_level ks v js).worths) (turn_ways (pos 0) weights j ks) → IsLooseTurn low most (loose_of (loose_level ks v js)) ms l (loose_turn ks weights j)
    is_turn beside turn backs header far = record {
      back = λ b is. way_there b is beside.back;
      steps = each_map (HasLoose low (range_steps j ks)) (TurnsLoosely low (loose_of (loose_level ks v js)) l (loose_turn ks weights j)) (range_steps l ms) one_turn beside.steps;
      price = beside.price;
      costs = turn.positive;
      positive = gained;
      turn = subst (λ i. IsAtMost (way_at (turn_ways (pos 0) weights j ks) i) j.price (gain (pos 0) weights j ks)) first (gain_at_most j.price (way_at (turn_ways (pos 0) weights j ks) 0));
      far = λ a. at_most (j.price +ℤ own j weights (worth_at (loose_level ks v js).weights) (worth_at (loose_level ks v js).worths) (j.header + (a - j.header))) (worth_at (loose_level ks v js).worths (j.header + (a - j.header))) most
          (way_at (turn_ways (pos 0) weights j ks) (a - j.header)) j.price (let o = own_positive (j.header + (a - j.header)) in omega (arith, ints)) (bound (j.header + (a - j.header))) (far (a - j.header));
      small = (price_small j.back refl, gain_small);
      turns = (let f = fewer l.max j.max (gain (pos 0) weights j ks) beside.max gained in let t = all_gains in omega (arith, ints));
      weight = subst (λ (z : ℤ). ((pos l.max -ℤ pos 1) *ℤ gain (pos 0) weights j ks) ≤ℤ z) (sym (ap (λ a. worth_at (loose_level ks v js).weights a) (sym same_header) ∙ header_weight)) (further_turns l.max j.max (gain (pos 0) weights j ks) beside.max gained);
      bounds = beside.bounds;
    }
      where
        gained : pos 0 ≤ℤ gain (pos 0) weights j ks
        gained = gain_positive j.price (way_at (turn_ways (pos 0) weights j ks) 0)

        header_weight : worth_at (loose_level ks v js).weights j.header ≡ gain (pos 0) weights j ks *ℤ (pos j.max -ℤ pos 1)
        header_weight = header ∙ weight_is j (gain (pos 0) weights j ks) gained

        first : 0 ≡ l.header - j.header
        first = omega (arith, same_header)

        own_positive : (a : ℕ) → pos 0 ≤ℤ own j weights (worth_at (loose_level ks v js).weights) (worth_at (loose_level ks v js).worths) a
        own_positive a = by_test (a == j.header)
          where
            by_test : (t : Bool) → pos 0 ≤ℤ cond t (worth_at (loose_level ks v js).weights a) (pos 0)
            by_test true = weights_positive n ks v js walk a
            by_test false = omega (arith, ints)

        all_gains : (pos j.max *ℤ gain (pos 0) weights j ks) ≤ℤ most
        all_gains =
            let z : j.header + 0 ≡ j.header = omega arith in
            let q : own j weights (worth_at (loose_level ks v js).weights) (worth_at (loose_level ks v js).worths) j.header ≡ worth_at (loose_level ks v js).weights j.header = own_header in
            let f : IsBeneath (j.price +ℤ worth_at (loose_level ks v js).weights j.header) (way_at (turn_ways (pos 0) weights j ks) 0) (worth_at (loose_level ks v js).worths j.header) =
            subst (λ (y : ℤ). IsBeneath (j.price +ℤ y) (way_at (turn_ways (pos 0) weights j ks) 0) (worth_at (loose_level ks v js).worths j.header)) q
            (subst (λ a. IsBeneath (j.price +ℤ own j weights (worth_at (loose_level ks v js).weights) (worth_at (loose_level ks v js).worths) a) (way_at (turn_ways (pos 0) weights j ks) 0) (worth_at (loose_level ks v js).worths a)) z (far 0)) in
            let g = gains_at_most j.price (worth_at (loose_level ks v js).weights j.header) (worth_at (loose_level ks v js).worths j.header) j.max (way_at (turn_ways (pos 0) weights j ks) 0) turn.positive (worths_positive n ks v js walk j.header) header_weight f in
            let b = bound j.header in omega (arith, ints)
          where
            own_header : own j weights (worth_at (loose_level ks v js).weights) (worth_at (loose_level ks v js).worths) j.header ≡ worth_at (loose_level ks v js).weights j.header
            own_header = elim (eqb_tells j.header j.header) [ inl k ↦ (let q = k.0 in rw q refl) | inr k ↦ absurd (k.1 refl) ]

        gain_small : gain (pos 0) weights j ks ≤ℤ most
        gain_small = let f = fewer 1 j.max (gain (pos 0) weights j ks) turn.often gained in let o : pos 1 *ℤ gain (pos 0) weights j ks ≡ gain (pos 0) weights j ks = omega (arith, ints) in let t = all_gains in omega (arith, ints)

        price_small : (o : Option ℕ) → j.back ≡ o → j.price ≤ℤ most
        price_small None is = let e = turn.idle is in let w = worths_positive n ks v js walk j.header in let b = bound j.header in omega (arith, ints)
        price_small (Some b) is =
            let p = backs b is in
            let q = back_dear (b == j.header) in
            let k = bound b in omega (arith, ints)
          where
            back_dear : (t : Bool) → j.price ≤ℤ cond t (pos j.max *ℤ j.price) j.price
            back_dear true = let f = fewer 1 j.max j.price turn.often turn.positive in let o : pos 1 *ℤ j.price ≡ j.price = omega (arith, ints) in omega (arith, ints)
            back_dear false = omega (arith, ints)

  -- all loops
  are_turns : (ls : List Loop) (rs : List Loop) → AreLoops n ks rs → AllMayTurn rs → HaveNone v.weights rs → AreBacked (worth_at (loose_level ks v js).worths) rs →
      AreAllFar ks v.weights (worth_at (loose_level ks v js).weights) (worth_at (loose_level ks v js).worths) rs →
      ((a : ℕ) → From a rs → worth_at (loose_level ks v js).weights a ≡ worth_at (weighed (pos 0) ks v.weights rs) a) → AreBesideLoops low ms ks ls rs → AreLooseTurns low most (loose_of (loose_level ks v js)) ms ls (loose_turns ks v.weights rs)
  are_turns [] rs loops turns none backs far same beside = tt
  are_turns (l ∷ ls) [] loops turns none backs far same beside = absurd beside
  are_turns (l ∷ ls) (j ∷ rs) loops turns none backs far same beside = (
    is_turn l j (weighed (pos 0) ks v.weights rs) loops.0 beside.0.range.0 (weighed_positive n ks ks v.weights rs walk.blank.weights_long loops.2 turns.1 walk.weights)
        (weighed_before (pos 0) ks v.weights rs j.header loops.1 ∙ none.0) later beside.0 turns.0 backs.0 far.1 far.0,
    are_turns ls rs loops.2 turns.1 none.1 backs.1 far.2 (λ a f. later a (from_above a j.header rs loops.1 f)) beside.1,
  )
    where
      later : (a : ℕ) → j.header < a → worth_at (loose_level ks v js).weights a ≡ worth_at (weighed (pos 0) ks v.weights rs) a
      later a lt = same a (omega (arith, lt)) ∙ set_other (weighed (pos 0) ks v.weights rs) j.header a (first_weight (pos 0) j (gain (pos 0) (weighed (pos 0) ks v.weights rs) j ks)) (λ e. absurd (omega (arith, e, lt)))

  paid : Each (λ m. ((m.price +ℤ worth_at (loose_level ks v js).weights m.at) +ℤ worth_at (loose_level ks v js).worths m.on) ≤ℤ worth_at (loose_level ks v js).worths m.at) ks
  paid = relaxed_pays (loose_level ks v js).weights (backed v.worths js) n ks (start_long n ks v js walk) walk.steps

  pub code_pays : (ls : List Loop) → Each (HasLoose low ks) ms → AreBesideLoops low ms ks ls js → Each (PaysLoosely low (loose_of (loose_level ks v js))) ms × AreLooseTurns low most (loose_of (loose_level ks v js)) ms ls (loose_turns ks v.weights js)
  code_pays ls steps beside = (
    each_map (HasLoose low ks) (PaysLoosely low (loose_of (loose_level ks v js))) ms step_pays steps,
    are_turns ls js walk.loops walk.turns walk.blank.none (backs_are n ks v js walk)
        (all_far n ks v.weights (worth_at (loose_level ks v js).weights) (worth_at (loose_level ks v js).worths) walk.blank.weights_long walk.prices (steps_are n ks walk.steps) walk.weights paid js walk.loops walk.turns walk.blank.none (backs_are n ks v js walk) (λ a f. refl))
        (λ a f. refl) beside,
  )

pub walk_pays : LooseWalkPays
walk_pays low most n ms ls ks v js walk steps beside bound = code_pays low most n ms ks v js walk bound ls steps beside
