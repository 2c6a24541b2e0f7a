-- A loop is settled: all steps stay paid, and its jump back is. Then all loops are.
use Rattle.std.proofs.Common.{◌≡◌, ◌≢◌, ℕ, ◌-◌, ◌≤◌, ◌<◌, ℤ, pos, ◌+ℤ◌, ◌-ℤ◌, ◌*ℤ◌, ◌≤ℤ◌, arith, refl, sym, ap, ◌∙◌, subst, List, [], ◌∷◌, length, take, drop, Bool, true, false, cond, Option, Some, None, inl, inr, ◌⊎◌, get_or-set_other}
use Rattle.std.specs.Prelude.{◌==◌, slice_set}
use Rattle.std.proofs.lemmas.Int.{ints}
use Rattle.std.proofs.lemmas.Grind.{get_or-set_at}
use Rattle.std.proofs.lemmas.Bool.Decides.{eqb_tells}
use Rattle.std.proofs.Math.ListN.{length-set}
use Rattle.frac128.proofs.SignedLemmas.{mul-sub}
use Rattle.loop_walks.specs.declared.step.Step.{Step}
use Rattle.loop_walks.specs.declared.step.Loop.{Loop}
use Rattle.loop_walks.specs.declared.step.Pair.{Pair}
use Rattle.loop_walks.specs.Walks.{larger, worth_at, cost, relaxed, head_steps, body_steps, range_steps}
use Rattle.loop_walks.specs.Turns.{further, way_at, turn_start, turn_ways, gain_by, gain}
use Rattle.loop_walks.specs.Multipliers.{first_weight, pair_of, weight_of, back_worth}
use Rattle.loop_walks.specs.Levels.{weighed, gains, onward, Level, level_pair, raised, level_by, levels, level_pairs, ground, settled, settled_pairs}
use Rattle.loop_walks.specs.Rows.{IsStep, AreSteps, Each, KeepsOut, IsBack, IsLoopOf, HeadersAbove, AreLoops, ArePaid, PaysBack, IsSettled, AreSettled, HaveNone}
use Rattle.loop_walks.proofs.LargerLemmas.{larger_left, larger_right, WayAtMost, Beneath, beneath_left, beneath_larger}
use Rattle.loop_walks.proofs.EachLemmas.{each_map, each_both, each_take, each_drop, each_between, each_beside, each_apart, each_whole, between_steps, steps_are}
use Rattle.loop_walks.proofs.WalkLemmas.{Pays, PaysBy, PaysWay, AllBeneath, relaxed-long, relaxed_grows, relaxed_other, relaxed_pays, relaxed_beneath}
use Rattle.loop_walks.proofs.TurnLemmas.{IsInRange, PaysTurn, turned_pays, turned_other, turn_start-long, turn_start_back}
use Rattle.loop_walks.proofs.PairLemmas.{Covers, pair_covers, first_to_last}

set_at : (ws : List ℤ) (a : ℕ) (z : ℤ) → a < length ws → worth_at (slice_set ws a z) a ≡ z
set_at ws a z h = get_or-set_at ws a a z (pos 0) refl h

pub set_other : (ws : List ℤ) (a b : ℕ) (z : ℤ) → b ≢ a → worth_at (slice_set ws a z) b ≡ worth_at ws b
set_other ws a b z d = get_or-set_other ws a b z (pos 0) d

-- ---- the jump back's worth is raised

pub raised-long : (ws : List ℤ) (l : Loop) (o : Option ℕ) (z : ℤ) → length (raised ws l o z) ≡ length ws
raised-long ws l None z = refl
raised-long ws l (Some b) z = by_test (b == l.header)
  where
    by_test : (t : Bool) → length (cond t ws (slice_set ws b (larger (worth_at ws b) z))) ≡ length ws
    by_test true = refl
    by_test false = length-set ws b (larger (worth_at ws b) z)

-- raised worths are beneath those before and the way to the jump back
raised_beneath : (ws : List ℤ) (l : Loop) (o : Option ℕ) (z : ℤ) (ts : ℕ → Option ℤ) → ((b : ℕ) → o ≡ Some b → (b < length ws) × (ts b ≡ Some (pos 0))) → AllBeneath (raised ws l o z) (worth_at ws) ts z
raised_beneath ws l None z ts h a = beneath_left (worth_at ws a) (worth_at ws a) (ts a) z (omega (arith, ints))
raised_beneath ws l (Some b) z ts h a = by_test (b == l.header)
  where
    at_back : a ≡ b → Beneath (worth_at (slice_set ws b (larger (worth_at ws b) z)) a) (worth_at ws a) (ts a) z
    at_back k = subst (λ c. Beneath (worth_at (slice_set ws b (larger (worth_at ws b) z)) c) (worth_at ws c) (ts c) z) (sym k)
        (let s = set_at ws b (larger (worth_at ws b) z) (h b refl).0 in
        let t = (h b refl).1 in
        rw (s, t) (beneath_larger (worth_at ws b) z (worth_at ws b) (Some (pos 0)) z (inl (omega (arith, ints))) (inr (omega (arith, ints)))))

    by_test : (t : Bool) → Beneath (worth_at (cond t ws (slice_set ws b (larger (worth_at ws b) z))) a) (worth_at ws a) (ts a) z
    by_test true = beneath_left (worth_at ws a) (worth_at ws a) (ts a) z (omega (arith, ints))
    by_test false = elim (eqb_tells a b) [
      | inl k ↦ at_back k.1
      | inr k ↦ let e = set_other ws b a (larger (worth_at ws b) z) k.1 in rw e (beneath_left (worth_at ws a) (worth_at ws a) (ts a) z (omega (arith, ints)))
    ]

-- a place keeps its worth, where it isn't the jump back
raised_other : (ws : List ℤ) (l : Loop) (o : Option ℕ) (z : ℤ) (a : ℕ) → ((b : ℕ) → o ≡ Some b → (a ≡ l.header) ⊎ (a ≢ b)) → worth_at (raised ws l o z) a ≡ worth_at ws a
raised_other ws l None z a h = refl
raised_other ws l (Some b) z a h = elim (eqb_tells b l.header) [
  | inl k ↦ rw k.0 refl
  | inr k ↦ rw k.0 (set_other ws b a (larger (worth_at ws b) z) (elim (h b refl) [ inl e ↦ (λ q. k.1 (sym q ∙ e)) | inr d ↦ d ]))
]

raised_grows : (ws : List ℤ) (l : Loop) (o : Option ℕ) (z : ℤ) (a : ℕ) → ((b : ℕ) → o ≡ Some b → b < length ws) → worth_at ws a ≤ℤ worth_at (raised ws l o z) a
raised_grows ws l None z a h = omega (arith, ints)
raised_grows ws l (Some b) z a h = by_test (b == l.header)
  where
    at_back : a ≡ b → worth_at ws a ≤ℤ worth_at (slice_set ws b (larger (worth_at ws b) z)) a
    at_back k = subst (λ c. worth_at ws c ≤ℤ worth_at (slice_set ws b (larger (worth_at ws b) z)) c) (sym k)
        (let s = set_at ws b (larger (worth_at ws b) z) (h b refl) in rw s (larger_left _ _))

    by_test : (t : Bool) → worth_at ws a ≤ℤ worth_at (cond t ws (slice_set ws b (larger (worth_at ws b) z))) a
    by_test true = omega (arith, ints)
    by_test false = elim (eqb_tells a b) [
      | inl k ↦ at_back k.1
      | inr k ↦ let e = set_other ws b a (larger (worth_at ws b) z) k.1 in rw e (omega (arith, ints))
    ]

-- ---- one loop

-- the ways of a turn, by places
abbrev pub ways_of : ℤ → List ℤ → Loop → List Step → ℕ → Option ℤ
ways_of low turn_weights l ms a = way_at (turn_ways low turn_weights l ms) (a - l.header)

module _ (low : ℤ) (n : ℕ) (ms : List Step) (l : Loop) (steps : AreSteps n ms) (fits : IsLoopOf n ms l) where
  range_in : Each (IsInRange l.header (l.end - l.header)) (range_steps l ms)
  range_in =
      let o = fits.order in let r0 = fits.range.0 in
      each_beside (IsInRange l.header (l.end - l.header)) l.head l.body l.rest ms fits.order.0 fits.order.1
      (each_map (λ m. m.at ≡ l.header) (IsInRange l.header (l.end - l.header)) (head_steps l ms) (λ m e. (omega (arith, e), omega (arith, e, r0))) fits.heads)
      (each_map (λ m. (l.header < m.at) × (m.at < l.end)) (IsInRange l.header (l.end - l.header)) (body_steps l ms) (λ m h. (omega (arith, h.0), omega (arith, h.0, h.1))) fits.body)

  range_long : (turn_weights : List ℤ) → Each (IsInRange l.header (length (turn_start l))) (range_steps l ms)
  range_long turn_weights = subst (λ k. Each (IsInRange l.header k) (range_steps l ms)) (sym (turn_start-long l)) range_in

  turns_pay : (turn_weights : List ℤ) → Each (PaysTurn low turn_weights l.header (turn_ways low turn_weights l ms)) (range_steps l ms)
  turns_pay turn_weights = turned_pays low turn_weights l.header n (turn_start l) (range_steps l ms) (between_steps n l.head l.rest ms steps) (range_long turn_weights)

  -- from the jump back there is a way that costs nothing
  back_way : (turn_weights : List ℤ) (b : ℕ) → l.back ≡ Some b → ways_of low turn_weights l ms b ≡ Some (pos 0)
  back_way turn_weights b is =
      let k : IsBack l ms (Some b) = subst (λ o. IsBack l ms o) is fits.back in
      turned_other low turn_weights l.header (l.end - l.header) (turn_start l) (range_steps l ms) b k.0 range_in (each_between (λ m. m.at ≢ b) l.head l.rest ms k.2)
      ∙ turn_start_back l b is k.0 k.1

-- one of the header's steps, with the multipliers' weight: on a way on as before, or on a turn
head_paid : (low price back w x e h z : ℤ) (o t : Option ℤ) (l : Loop) (p : Pair) → Covers (gain_by low back t) p → w ≡ weight_of l p → z ≡ ((back +ℤ h) +ℤ (p.least *ℤ pos l.min)) -ℤ (p.most *ℤ pos l.max) →
    Beneath x e o z → WayAtMost (further low price o) t → ((price +ℤ e) +ℤ w) ≤ℤ h → ((price +ℤ w) +ℤ x) ≤ℤ h
head_paid low price back w x e h z None t l p covers is bz under way paid = omega (arith, ints)
head_paid low price back w x e h z (Some y) None l p covers is bz under way paid = absurd way
head_paid low price back w x e h z (Some y) (Some t) l p covers is bz under way paid =
    let a = larger_right low (price +ℤ y) in
    let b = larger_right low (t +ℤ back) in
    let c = covers.turn in
    let e1 = mul-sub p.most (pos l.max) (pos 1) in
    let e2 = mul-sub p.least (pos l.min) (pos 1) in
    elim under [ inl i ↦ omega (arith, ints) | inr i ↦ omega (arith, ints) ]

-- what is known before a loop is settled, by these multipliers
pub record Before (low : ℤ) (n : ℕ) (ms : List Step) (v : Level) (l : Loop) (turn_weights : List ℤ) (p : Pair) : Type 0 where
  pub long_worths : n < length v.worths
  pub long_weights : n < length v.weights
  pub paid : ArePaid v ms
  pub same : (a : ℕ) → l.header < a → worth_at turn_weights a ≡ worth_at v.weights a
  pub none : worth_at turn_weights l.header ≡ pos 0
  pub covers : Covers (gain low turn_weights l ms) p
  pub heads : Each (λ m. ((m.price +ℤ worth_at v.worths m.on) +ℤ weight_of l p) ≤ℤ worth_at v.worths l.header) (head_steps l ms)

module _ (low : ℤ) (n : ℕ) (ms : List Step) (l : Loop) (steps : AreSteps n ms) (fits : IsLoopOf n ms l) (v : Level) (turn_weights : List ℤ) (p : Pair) (k : Before low n ms v l turn_weights p) where
  abbrev pub weights' : List ℤ
  weights' = slice_set v.weights l.header (weight_of l p)

  abbrev pub back' : ℤ
  back' = back_worth l (worth_at v.worths l.header) p

  abbrev pub start' : List ℤ
  start' = raised v.worths l l.back back'

  abbrev pub worths' : List ℤ
  worths' = relaxed weights' start' (body_steps l ms)

  long_start : n < length start'
  long_start = let e = raised-long v.worths l l.back back' in let h = k.long_worths in omega (arith, e, h)

  back_in : (b : ℕ) → l.back ≡ Some b → (l.header ≤ b) × (b < l.end)
  back_in b is = let i : IsBack l ms (Some b) = subst (λ o. IsBack l ms o) is fits.back in (i.0, i.1)

  back_long : (b : ℕ) → l.back ≡ Some b → b < length v.worths
  back_long b is = let i = back_in b is in let i1 = i.1 in let r = fits.range.1 in let h = k.long_worths in omega (arith, i1, r, h)

  body_are : Each (IsStep n) (body_steps l ms)
  body_are = each_between (IsStep n) l.body l.rest ms (steps_are n ms steps)

  worths_grow : (a : ℕ) → worth_at v.worths a ≤ℤ worth_at worths' a
  worths_grow a =
      let r = raised_grows v.worths l l.back back' a back_long in
      let s = relaxed_grows weights' start' n (body_steps l ms) a long_start body_are in omega (arith, ints)

  outside : (a : ℕ) → (a ≤ l.header) ⊎ (l.end ≤ a) → worth_at worths' a ≡ worth_at v.worths a
  outside a out =
      relaxed_other weights' start' (body_steps l ms) a
      (each_map (λ m. (l.header < m.at) × (m.at < l.end)) (λ m. m.at ≢ a) (body_steps l ms) (λ m h e. elim out [ inl o ↦ absurd (omega (arith, h.0, e, o)) | inr o ↦ absurd (omega (arith, h.1, e, o)) ]) fits.body)
      ∙ raised_other v.worths l l.back back' a (λ b is. elim out [ inl o ↦ near b is o | inr o ↦ inr (λ e. let i1 = (back_in b is).1 in absurd (omega (arith, i1, e, o))) ])
    where
      near : (b : ℕ) → l.back ≡ Some b → a ≤ l.header → (a ≡ l.header) ⊎ (a ≢ b)
      near b is o = elim (eqb_tells a l.header) [ inl q ↦ inl q.1 | inr q ↦ inr (λ e. let i0 = (back_in b is).0 in q.1 (omega (arith, i0, e, o))) ]

  same_cost : (m : Step) → m.at ≢ l.header → cost weights' m ≡ cost v.weights m
  same_cost m d = ap (λ (z : ℤ). m.price +ℤ z) (set_other v.weights l.header m.at (weight_of l p) d)

  -- a step outside is paid as before
  far_paid : (m : Step) → Pays v.weights v.worths m → (KeepsOut l m) × (m.at ≢ l.header) → Pays weights' worths' m
  far_paid m h o =
      let c = same_cost m o.1 in
      let e = outside m.on o.0 in
      let g = worths_grow m.at in
      let h' = h in rw (c, e) (omega (arith, ints))

  -- the step that is not before the header costs as in the turn walk, but for the header's weight
  body_cost : (m : Step) → l.header < m.at → cost turn_weights m ≡ cost weights' m
  body_cost m h = ap (λ (z : ℤ). m.price +ℤ z) (k.same m.at h ∙ sym (set_other v.weights l.header m.at (weight_of l p) (λ e. absurd (omega (arith, e, h)))))

  turn_parts : Each (PaysTurn low turn_weights l.header (turn_ways low turn_weights l ms)) (head_steps l ms) × Each (PaysTurn low turn_weights l.header (turn_ways low turn_weights l ms)) (body_steps l ms)
  turn_parts = each_apart (PaysTurn low turn_weights l.header (turn_ways low turn_weights l ms)) l.head l.body l.rest ms fits.order.0 fits.order.1 (turns_pay low n ms l steps fits turn_weights)

  pub beneath : AllBeneath worths' (worth_at v.worths) (ways_of low turn_weights l ms) back'
  beneath = relaxed_beneath low weights' start' n (worth_at v.worths) (ways_of low turn_weights l ms) back' (body_steps l ms) long_start body_are
      (each_both (λ m. (l.header < m.at) × (m.at < l.end)) (Pays v.weights v.worths) (PaysBy weights' (worth_at v.worths)) (body_steps l ms)
      (λ m h paid. let c = same_cost m (λ e. absurd (omega (arith, h.0, e))) in rw c paid) fits.body (each_between (Pays v.weights v.worths) l.body l.rest ms k.paid))
      (each_both (λ m. (l.header < m.at) × (m.at < l.end)) (PaysTurn low turn_weights l.header (turn_ways low turn_weights l ms)) (PaysWay low weights' (ways_of low turn_weights l ms)) (body_steps l ms)
      (λ m h way. subst (λ (c : ℤ). WayAtMost (further low c (ways_of low turn_weights l ms m.on)) (ways_of low turn_weights l ms m.at)) (body_cost m h.0) way) fits.body turn_parts.1)
      (raised_beneath v.worths l l.back back' (ways_of low turn_weights l ms) (λ b is. (back_long b is, back_way low n ms l steps fits turn_weights b is)))

  body_paid : Each (Pays weights' worths') (body_steps l ms)
  body_paid = relaxed_pays weights' start' n (body_steps l ms) long_start (between_steps n l.body l.rest ms steps)

  header_long : l.header < length v.weights
  header_long = let r = fits.range.0 in let r1 = fits.range.1 in let h = k.long_weights in omega (arith, r, r1, h)

  header_weight : worth_at weights' l.header ≡ weight_of l p
  header_weight = set_at v.weights l.header (weight_of l p) header_long

  header_worth : worth_at worths' l.header ≡ worth_at v.worths l.header
  header_worth = outside l.header (inl (omega arith))

  -- a step of the header
  abbrev OnHead : Step → Type 0
  OnHead m = ((m.price +ℤ worth_at v.worths m.on) +ℤ weight_of l p) ≤ℤ worth_at v.worths l.header

  one_head : (m : Step) → (m.at ≡ l.header) × OnHead m → PaysTurn low turn_weights l.header (turn_ways low turn_weights l ms) m → Pays weights' worths' m
  one_head m h way =
      subst (λ a. ((m.price +ℤ worth_at weights' a) +ℤ worth_at worths' m.on) ≤ℤ worth_at worths' a) (sym h.0)
      (subst (λ (z : ℤ). ((m.price +ℤ worth_at weights' l.header) +ℤ worth_at worths' m.on) ≤ℤ z) (sym header_worth)
      (head_paid low m.price l.price (worth_at weights' l.header) (worth_at worths' m.on) (worth_at v.worths m.on) (worth_at v.worths l.header) back' (ways_of low turn_weights l ms m.on) (way_at (turn_ways low turn_weights l ms) 0) l p
      k.covers header_weight refl (beneath m.on) first_way
      (subst (λ (w : ℤ). ((m.price +ℤ worth_at v.worths m.on) +ℤ w) ≤ℤ worth_at v.worths l.header) (sym header_weight) h.1)))
    where
      no_weight : cost turn_weights m ≡ m.price
      no_weight = let e : worth_at turn_weights m.at ≡ pos 0 = subst (λ a. worth_at turn_weights a ≡ pos 0) (sym h.0) k.none in omega (arith, ints, e)

      first : m.at - l.header ≡ 0
      first = let e = h.0 in omega (arith, e)

      first_way : WayAtMost (further low m.price (ways_of low turn_weights l ms m.on)) (way_at (turn_ways low turn_weights l ms) 0)
      first_way = subst (λ i. WayAtMost (further low m.price (ways_of low turn_weights l ms m.on)) (way_at (turn_ways low turn_weights l ms) i)) first
          (subst (λ (c : ℤ). WayAtMost (further low c (ways_of low turn_weights l ms m.on)) (way_at (turn_ways low turn_weights l ms) (m.at - l.header))) no_weight way)

  -- all steps stay paid
  pub level_paid : ArePaid (level_by ms v l p) ms
  level_paid = each_whole (Pays weights' worths') l.head l.rest ms (let o0 = fits.order.0 in let o1 = fits.order.1 in omega (arith, o0, o1))
      (each_both (Pays v.weights v.worths) (λ m. (KeepsOut l m) × (m.at ≢ l.header)) (Pays weights' worths') (take l.head ms) far_paid (each_take (Pays v.weights v.worths) l.head ms k.paid)
      (each_both (KeepsOut l) (λ m. m.at ≢ l.header) (λ m. (KeepsOut l m) × (m.at ≢ l.header)) (take l.head ms) (λ m a b. (a, b)) fits.before fits.others.0))
      (each_beside (Pays weights' worths') l.head l.body l.rest ms fits.order.0 fits.order.1
      (each_both (λ m. (m.at ≡ l.header) × OnHead m) (PaysTurn low turn_weights l.header (turn_ways low turn_weights l ms)) (Pays weights' worths') (head_steps l ms) one_head
      (each_both (λ m. m.at ≡ l.header) OnHead (λ m. (m.at ≡ l.header) × OnHead m) (head_steps l ms) (λ m a b. (a, b)) fits.heads k.heads) turn_parts.0)
      body_paid)
      (each_both (Pays v.weights v.worths) (λ m. (KeepsOut l m) × (m.at ≢ l.header)) (Pays weights' worths') (drop l.rest ms) far_paid (each_drop (Pays v.weights v.worths) l.rest ms k.paid)
      (each_both (KeepsOut l) (λ m. m.at ≢ l.header) (λ m. (KeepsOut l m) × (m.at ≢ l.header)) (drop l.rest ms) (λ m a b. (a, b)) fits.behind fits.others.1))

  -- the loop is settled
  level_settled : IsSettled (level_by ms v l p) l p
  level_settled = record { least = k.covers.least; most = k.covers.most; weight = header_weight; back = pays l.back refl }
    where
      alone : (b : ℕ) → l.back ≡ Some b → b ≡ l.header → l.price ≤ℤ (p.most -ℤ p.least)
      alone b is e =
          let i : b - l.header ≡ 0 = omega (arith, e) in
          let w : way_at (turn_ways low turn_weights l ms) 0 ≡ Some (pos 0) = subst (λ j. way_at (turn_ways low turn_weights l ms) j ≡ Some (pos 0)) i (back_way low n ms l steps fits turn_weights b is) in
          let c = k.covers.turn in
          let g : gain low turn_weights l ms ≡ larger low (pos 0 +ℤ l.price) = ap (λ (o : Option ℤ). gain_by low l.price o) w in
          let r = larger_right low (pos 0 +ℤ l.price) in omega (arith, ints)

      behind : (b : ℕ) → l.back ≡ Some b → b ≢ l.header → back_worth l (worth_at worths' l.header) p ≤ℤ worth_at worths' b
      behind b is d =
          let e = header_worth in
          let s : worth_at start' b ≡ larger (worth_at v.worths b) back' = ap (λ o. worth_at (raised v.worths l o back') b) is ∙ at_back b d (back_long b is) in
          let r = larger_right (worth_at v.worths b) back' in
          let g = relaxed_grows weights' start' n (body_steps l ms) b long_start body_are in
          rw e (omega (arith, ints))
        where
          at_back : (b : ℕ) → b ≢ l.header → b < length v.worths → worth_at (raised v.worths l (Some b) back') b ≡ larger (worth_at v.worths b) back'
          at_back b d h = elim (eqb_tells b l.header) [
            | inl q ↦ absurd (d q.1)
            | inr q ↦ rw q.0 (set_at v.worths b (larger (worth_at v.worths b) back') h)
          ]

      pays : (o : Option ℕ) → l.back ≡ o → PaysBack worths' l p o
      pays None is = tt
      pays (Some b) is = (alone b is, behind b is)

-- ---- all loops

pub weighed-long : (low : ℤ) (ms : List Step) (weights : List ℤ) (ls : List Loop) → length (weighed low ms weights ls) ≡ length weights
weighed-long low ms weights [] = refl
weighed-long low ms weights (l ∷ ls) =
    let r = weighed-long low ms weights ls in
    length-set (weighed low ms weights ls) l.header (first_weight low l (gain low (weighed low ms weights ls) l ms)) ∙ r

weighed_other : (low : ℤ) (ms : List Step) (weights : List ℤ) (ls : List Loop) (a : ℕ) → HeadersAbove a ls → worth_at (weighed low ms weights ls) a ≡ worth_at weights a
weighed_other low ms weights [] a h = refl
weighed_other low ms weights (l ∷ ls) a h =
    set_other (weighed low ms weights ls) l.header a (first_weight low l (gain low (weighed low ms weights ls) l ms)) (λ e. let h0 = h.0 in absurd (omega (arith, h0, e)))
    ∙ weighed_other low ms weights ls a h.1

-- the place is the first header or behind it
abbrev pub From : ℕ → List Loop → Type 0
From a [] = ⊥
From a (l ∷ ls) = l.header ≤ a

pub from_above : (a b : ℕ) (ls : List Loop) → HeadersAbove b ls → From a ls → b < a
from_above a b [] h f = absurd f
from_above a b (l ∷ ls) h f = let h0 = h.0 in omega (arith, h0, f)

onward_most : (low : ℤ) (ws : List ℤ) (ms : List Step) → Each (λ m. (m.price +ℤ worth_at ws m.on) ≤ℤ onward low ws ms) ms
onward_most low ws [] = tt
onward_most low ws (m ∷ ms) =
    let x = m.price +ℤ worth_at ws m.on in (
      larger_left _ _,
      each_map (λ k. (k.price +ℤ worth_at ws k.on) ≤ℤ onward low ws ms) (λ k. (k.price +ℤ worth_at ws k.on) ≤ℤ onward low ws (m ∷ ms)) ms
          (λ k h. let r = larger_right (m.price +ℤ worth_at ws m.on) (onward low ws ms) in omega (arith, ints)) (onward_most low ws ms),
    )

-- the loops are settled, all steps are paid, and places before the loops keep what they had
pub record Held (low : ℤ) (ms : List Step) (v w : Level) (ls : List Loop) (ps : List Pair) : Type 0 where
  pub paid : ArePaid w ms
  pub settled : AreSettled w ls ps
  pub keeps : (a : ℕ) → HeadersAbove a ls → (worth_at w.worths a ≡ worth_at v.worths a) × (worth_at w.weights a ≡ worth_at v.weights a)
  pub grows : (a : ℕ) → worth_at v.worths a ≤ℤ worth_at w.worths a
  pub long_worths : length w.worths ≡ length v.worths
  pub long_weights : length w.weights ≡ length v.weights

-- a loop that is settled stays so
still_settled : (v w : Level) (l : Loop) (p : Pair) → worth_at w.worths l.header ≡ worth_at v.worths l.header → worth_at w.weights l.header ≡ worth_at v.weights l.header → ((a : ℕ) → worth_at v.worths a ≤ℤ worth_at w.worths a) → IsSettled v l p → IsSettled w l p
still_settled v w l p e f grows s = record { least = s.least; most = s.most; weight = f ∙ s.weight; back = pays l.back s.back }
  where
    pays : (o : Option ℕ) → PaysBack v.worths l p o → PaysBack w.worths l p o
    pays None h = tt
    pays (Some b) h = (h.0, λ d. let x = h.1 d in let g = grows b in rw e (omega (arith, ints)))

module _ (low : ℤ) (n : ℕ) (ms : List Step) (weights : List ℤ) (steps : AreSteps n ms) where
  pub level_before : (v : Level) (l : Loop) (ls : List Loop) → IsLoopOf n ms l → HeadersAbove l.header ls → n < length weights → n < length v.worths → n < length v.weights → ArePaid v ms → HaveNone weights (l ∷ ls) →
      ((a : ℕ) → l.header ≤ a → worth_at v.weights a ≡ worth_at (weighed low ms weights (l ∷ ls)) a) →
      Before low n ms v l (weighed low ms weights ls) (level_pair low ms v.worths l (gain low (weighed low ms weights ls) l ms))
  level_before v l ls fits above long long_worths long_weights paid none same = record {
    long_worths = long_worths;
    long_weights = long_weights;
    paid = paid;
    same = λ a h. sym (same a (omega (arith, h)) ∙ set_other (weighed low ms weights ls) l.header a (first_weight low l (gain low (weighed low ms weights ls) l ms)) (λ e. absurd (omega (arith, h, e))));
    none = weighed_other low ms weights ls l.header above ∙ none.0;
    covers = pair_covers l (gain low (weighed low ms weights ls) l ms) (onward low v.worths (head_steps l ms)) (worth_at v.worths l.header);
    heads = each_both (λ m. (m.at ≡ l.header) × ((m.price +ℤ worth_at v.worths m.on) ≤ℤ onward low v.worths (head_steps l ms))) (Pays v.weights v.worths) (λ m. ((m.price +ℤ worth_at v.worths m.on) +ℤ weight_of l (pair_of l (gain low (weighed low ms weights ls) l ms) (onward low v.worths (head_steps l ms)) (worth_at v.worths l.header))) ≤ℤ worth_at v.worths l.header) (head_steps l ms) one
        (each_both (λ m. m.at ≡ l.header) (λ m. (m.price +ℤ worth_at v.worths m.on) ≤ℤ onward low v.worths (head_steps l ms)) (λ m. (m.at ≡ l.header) × ((m.price +ℤ worth_at v.worths m.on) ≤ℤ onward low v.worths (head_steps l ms))) (head_steps l ms) (λ m a b. (a, b)) fits.heads (onward_most low v.worths (head_steps l ms)))
        (each_between (Pays v.weights v.worths) l.head l.body ms paid);
  }
    where
      header_weight : worth_at v.weights l.header ≡ first_weight low l (gain low (weighed low ms weights ls) l ms)
      header_weight = same l.header (omega arith) ∙ set_at (weighed low ms weights ls) l.header (first_weight low l (gain low (weighed low ms weights ls) l ms))
          (let r = weighed-long low ms weights ls in let a = fits.range.0 in let b = fits.range.1 in omega (arith, r, a, b, long))

      one : (m : Step) → (m.at ≡ l.header) × ((m.price +ℤ worth_at v.worths m.on) ≤ℤ onward low v.worths (head_steps l ms)) → Pays v.weights v.worths m →
          ((m.price +ℤ worth_at v.worths m.on) +ℤ weight_of l (pair_of l (gain low (weighed low ms weights ls) l ms) (onward low v.worths (head_steps l ms)) (worth_at v.worths l.header))) ≤ℤ worth_at v.worths l.header
      one m at pays =
          let at0 = at.0 in
          let w : worth_at v.weights m.at ≡ first_weight low l (gain low (weighed low ms weights ls) l ms) = ap (λ a. worth_at v.weights a) at0 ∙ header_weight in
          let x : worth_at v.worths m.at ≡ worth_at v.worths l.header = ap (λ a. worth_at v.worths a) at0 in
          first_to_last low l (gain low (weighed low ms weights ls) l ms) (onward low v.worths (head_steps l ms)) (worth_at v.worths l.header) (m.price +ℤ worth_at v.worths m.on) at.1 (omega (arith, ints))

  levels_hold : (v : Level) (ls : List Loop) → AreLoops n ms ls → n < length weights → n < length v.worths → n < length v.weights → ArePaid v ms → HaveNone weights ls →
      ((a : ℕ) → From a ls → worth_at v.weights a ≡ worth_at (weighed low ms weights ls) a) →
      Held low ms v (levels low ms v ls (gains low ms weights ls)) ls (level_pairs low ms v ls (gains low ms weights ls))
  levels_hold v [] loops long long_worths long_weights paid none same = record {
    paid = paid;
    settled = tt;
    keeps = λ a h. (refl, refl);
    grows = λ a. omega (arith, ints);
    long_worths = refl;
    long_weights = refl;
  }
  levels_hold v (l ∷ ls) loops long long_worths long_weights paid none same =
      let turn_weights = weighed low ms weights ls in
      let g = gain low (weighed low ms weights ls) l ms in
      let k = level_before v l ls loops.0 loops.1 long long_worths long_weights paid none same in
      next (level_pair low ms v.worths l (gain low (weighed low ms weights ls) l ms)) k
      (levels_hold (level_by ms v l (level_pair low ms v.worths l (gain low (weighed low ms weights ls) l ms))) ls loops.2 long (worths_long (level_pair low ms v.worths l (gain low (weighed low ms weights ls) l ms))) (weights_long (level_pair low ms v.worths l (gain low (weighed low ms weights ls) l ms)))
      (level_paid low n ms l steps loops.0 v (weighed low ms weights ls) (level_pair low ms v.worths l (gain low (weighed low ms weights ls) l ms)) k) none.1
      (λ a f. let b = from_above a l.header ls loops.1 f in
      set_other v.weights l.header a (weight_of l (level_pair low ms v.worths l (gain low (weighed low ms weights ls) l ms))) (λ e. absurd (omega (arith, b, e)))
      ∙ (same a (omega (arith, b)) ∙ set_other (weighed low ms weights ls) l.header a (first_weight low l (gain low (weighed low ms weights ls) l ms)) (λ e. absurd (omega (arith, b, e))))))
    where
      length_of_worths : (p : Pair) → length (level_by ms v l p).worths ≡ length v.worths
      length_of_worths p = relaxed-long (slice_set v.weights l.header (weight_of l p)) (raised v.worths l l.back (back_worth l (worth_at v.worths l.header) p)) (body_steps l ms) ∙ raised-long v.worths l l.back (back_worth l (worth_at v.worths l.header) p)

      length_of_weights : (p : Pair) → length (level_by ms v l p).weights ≡ length v.weights
      length_of_weights p = length-set v.weights l.header (weight_of l p)

      worths_long : (p : Pair) → n < length (level_by ms v l p).worths
      worths_long p = let e = length_of_worths p in omega (arith, e, long_worths)

      weights_long : (p : Pair) → n < length (level_by ms v l p).weights
      weights_long p = let e = length_of_weights p in omega (arith, e, long_weights)

      next : (p : Pair) → Before low n ms v l (weighed low ms weights ls) p → Held low ms (level_by ms v l p) (levels low ms (level_by ms v l p) ls (gains low ms weights ls)) ls (level_pairs low ms (level_by ms v l p) ls (gains low ms weights ls)) →
          Held low ms v (levels low ms (level_by ms v l p) ls (gains low ms weights ls)) (l ∷ ls) (p ∷ level_pairs low ms (level_by ms v l p) ls (gains low ms weights ls))
      next p k r = record {
        paid = r.paid;
        settled = (still_settled (level_by ms v l p) (levels low ms (level_by ms v l p) ls (gains low ms weights ls)) l p (r.keeps l.header loops.1).0 (r.keeps l.header loops.1).1 r.grows (level_settled low n ms l steps loops.0 v (weighed low ms weights ls) p k), r.settled);
        keeps = λ a h. (
          (r.keeps a h.1).0 ∙ outside low n ms l steps loops.0 v (weighed low ms weights ls) p k a (inl (let h0 = h.0 in omega (arith, h0))),
          (r.keeps a h.1).1 ∙ set_other v.weights l.header a (weight_of l p) (λ e. let h0 = h.0 in absurd (omega (arith, h0, e))),
        );
        grows = λ a. let x = worths_grow low n ms l steps loops.0 v (weighed low ms weights ls) p k a in let y = r.grows a in omega (arith, ints);
        long_worths = r.long_worths ∙ length_of_worths p;
        long_weights = r.long_weights ∙ length_of_weights p;
      }

-- a function is settled: all its steps are paid, and its loops are settled
pub settled_holds : (low : ℤ) (n : ℕ) (ms : List Step) (v : Level) (ls : List Loop) → n < length v.worths → n < length v.weights → AreSteps n ms → AreLoops n ms ls → HaveNone v.weights ls →
    Held low ms (ground low ms v ls) (settled low ms v ls) ls (settled_pairs low ms v ls)
settled_holds low n ms v ls long_worths long_weights steps loops none =
    levels_hold low n ms v.weights steps (ground low ms v ls) ls loops long_weights
    (let e = relaxed-long (weighed low ms v.weights ls) v.worths ms in omega (arith, e, long_worths))
    (let e = weighed-long low ms v.weights ls in omega (arith, e, long_weights))
    (relaxed_pays (weighed low ms v.weights ls) v.worths n ms long_worths steps) none (λ a f. refl)
