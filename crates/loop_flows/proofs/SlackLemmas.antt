-- Steps that are made cost all that the last worths fall: those worths are squeezed to those of each pass where it goes.
use Rattle.std.proofs.Common.{◌≡◌, ◌≢◌, ℕ, zero, suc, ◌+◌, ◌-◌, ◌≤◌, ◌<◌, ℤ, pos, ◌+ℤ◌, ◌-ℤ◌, ◌*ℤ◌, ◌≤ℤ◌, ◌<ℤ◌, arith, refl, sym, ap, ◌∙◌, subst, neg_ℤ, List, [], ◌∷◌, length, inl, inr, ◌⊎◌, Bool, true, false, cond, Option, Some, None, get_or-set_other}
use Rattle.std.specs.Prelude.{◌==◌, nat_le, min, unsigned_abs, slice_set}
use Rattle.std.specs.Int.RustNames.{int_lt}
use Rattle.std.proofs.lemmas.Int.{ints}
use Rattle.std.proofs.lemmas.Grind.{get_or-set_at}
use Rattle.std.proofs.Math.ListN.{length-set, replicate}
use Rattle.std.proofs.lemmas.Bool.Decides.{eqb_tells, nat_tests}
use lib.IntN.{negsuc}
use Rattle.frac128.proofs.SignedLemmas.{neg-mul, mul-sub, mul-le-mul_right, le_of_mul-le}
use Rattle.loop_walks.specs.declared.step.Step.{Step}
use Rattle.loop_walks.specs.declared.step.Loop.{Loop}
use Rattle.loop_walks.specs.declared.step.Pair.{Pair}
use Rattle.loop_walks.specs.Walks.{larger, worth_at, cost, range_steps, head_steps, body_steps}
use Rattle.loop_walks.specs.Turns.{further, way_at, with_back as start_back, turn_start, turn_ways, gain}
use Rattle.loop_walks.specs.Multipliers.{first_weight, whole, over, least_of, pair_of, weight_of, back_worth}
use Rattle.loop_walks.specs.Levels.{weighed, gains, onward, Level, level_pair, level_by, levels, level_pairs}
use Rattle.loop_walks.specs.Rows.{IsStep, AreSteps, Each, IsBack, IsLoopOf, HeadersAbove, AreLoops, IsPaid, PaysBack, IsSettled, AreSettled, HaveNone}
use Rattle.loop_walks.proofs.EachLemmas.{each_map, each_both, each_beside, each_between, between_steps, steps_are}
use Rattle.loop_walks.proofs.TurnLemmas.{IsInRange, turned_other, turn_start-long, turn_start_back}
use Rattle.loop_walks.proofs.LevelLemmas.{set_other, weighed-long, From, from_above}
use Rattle.loop_flows.specs.Passes.{amount_at, made, handed, spread, remains, departed}
use Rattle.loop_flows.specs.Hands.{StandsOpen}
use Rattle.loop_flows.specs.Flows.{Turning, only_at, together, turns_of, turn_counts, counts_of, backs_of, backs_to}
use Rattle.loop_flows.proofs.SpreadLemmas.{handed-long}
use Rattle.loop_flows.proofs.TotalLemmas.{only-long, only_elsewhere, only_there, all_at_target}
use Rattle.loop_flows.specs.Turns.{is_tight, is_way, in_range, is_turn, turns_from, further_turns, turning_of, with_way, with_back, turnings}
use Rattle.loop_flows.specs.Opens.{HasOpenParts, HasOpenWay, TurnsOpenly, TurnAllOpenly, EachMade}
use Rattle.loop_flows.proofs.TurnLemmas.{HasStep, GoesWay, turned_from, both_first, can_turn, turnings_behind}
use Rattle.loop_flows.proofs.OpenLemmas.{GoesOpenly, hand_stands, spread_made, together_made, departed_made, is_le, larger_open, way_open, is_loss, Turns, weight_turns, may_turn, positive_product, turn_made}
use Rattle.loop_flows.proofs.CountLemmas.{backs_none, two_at_least}
use Rattle.loop_flows.specs.Slack.{IsEven, ArePairs, AreBacksTight}

-- what remains of a pass is at open places
pub remains_stand : (chosen : Step → Bool) (n : ℕ) (us : List ℕ) (ms : List Step) (Open : ℕ → Type 0) (P : Step → Type 0) → n < length us → Each (IsStep n) ms → Each (GoesOpenly chosen Open P) ms → StandsOpen us Open → StandsOpen (remains chosen us ms) Open
remains_stand chosen n us [] Open P long i goes stands = stands
remains_stand chosen n us (m ∷ ms) Open P long i goes stands =
    let l = handed-long (chosen m) us m in
    let k = hand_stands (chosen m) chosen n us m Open P refl i.0 long goes.0 stands in
    remains_stand chosen n (handed (chosen m) us m) ms Open P (omega (arith, l, long)) i.1 goes.1 k.1

-- ---- open weights don't fall

zero_times : (z : ℤ) → pos 0 *ℤ z ≡ pos 0
zero_times z = omega (arith, ints)

-- the multipliers add no less to a header than its first weight, if that is open
weight_least : (least low : ℤ) (l : Loop) (g e h : ℤ) → low <ℤ least → least ≤ℤ first_weight low l g → first_weight low l g ≤ℤ weight_of l (pair_of l g e h)
weight_least least low l g e h above wide = by_gain (int_lt g (pos 0)) refl wide
  where
    losing : g <ℤ pos 0 → (t : Bool) → nat_le l.min 1 ≡ t → (n : ℕ) → pos n ≤ℤ neg_ℤ g → least ≤ℤ cond t (pos 0) (larger low (g *ℤ (pos l.min -ℤ pos 1))) →
        cond t (pos 0) (larger low (g *ℤ (pos l.min -ℤ pos 1))) ≤ℤ weight_of l (record { least = pos (cond t 0 n); most = pos 0 })
    losing neg true t n small wide = let a = zero_times (pos l.max -ℤ pos 1) in let b = zero_times (pos l.min -ℤ pos 1) in omega (arith, ints)
    losing neg false t n small wide =
        let two = two_at_least l.min t in
        let a = zero_times (pos l.max -ℤ pos 1) in
        let b = larger_open low least (g *ℤ (pos l.min -ℤ pos 1)) above wide in
        let b0 = b.0 in
        let c = mul-le-mul_right (pos n) (neg_ℤ g) (pos l.min -ℤ pos 1) (omega (arith, ints)) small in
        let d = neg-mul g (pos l.min -ℤ pos 1) in omega (arith, ints)

    least_small : int_lt g (pos 0) ≡ true → pos (min (unsigned_abs g) (over (whole (e -ℤ h)) (l.min - 2))) ≤ℤ neg_ℤ g
    least_small t = sized g t (min (unsigned_abs g) (over (whole (e -ℤ h)) (l.min - 2))) (least_of_two (unsigned_abs g) (over (whole (e -ℤ h)) (l.min - 2)))
      where
        least_of_two : (a b : ℕ) → min a b ≤ a
        least_of_two a b = omega arith

        sized : (g : ℤ) → int_lt g (pos 0) ≡ true → (n : ℕ) → n ≤ unsigned_abs g → pos n ≤ℤ neg_ℤ g
        sized (pos g) t n le = absurd (let l = is_loss (pos g) t in omega (arith, ints))
        sized (negsuc g) t n le = omega (arith, ints)

    by_gain : (t : Bool) → int_lt g (pos 0) ≡ t → least ≤ℤ cond t (cond (nat_le l.min 1) (pos 0) (larger low (g *ℤ (pos l.min -ℤ pos 1)))) (g *ℤ (pos l.max -ℤ pos 1)) →
        cond t (cond (nat_le l.min 1) (pos 0) (larger low (g *ℤ (pos l.min -ℤ pos 1)))) (g *ℤ (pos l.max -ℤ pos 1)) ≤ℤ weight_of l (cond {A = Pair} t (record { least = pos (least_of l g e h); most = pos 0 }) (record { least = pos 0; most = g }))
    by_gain false t wide = let b = zero_times (pos l.min -ℤ pos 1) in omega (arith, ints)
    by_gain true t wide = losing (is_loss g t) (nat_le l.min 1) refl (min (unsigned_abs g) (over (whole (e -ℤ h)) (l.min - 2))) (least_small t) wide

-- where a loop that may turn has kept its first weight, its multipliers add up to what a turn gains
pair_adds : (least low : ℤ) (l : Loop) (g e h : ℤ) → low <ℤ least → least ≤ℤ first_weight low l g → (pos 0 ≤ℤ g) ⊎ (2 ≤ l.min) → first_weight low l g ≡ weight_of l (pair_of l g e h) → (pair_of l g e h).most -ℤ (pair_of l g e h).least ≡ g
pair_adds least low l g e h above wide why kept = by_gain (int_lt g (pos 0)) refl wide kept
  where
    losing : g <ℤ pos 0 → (t : Bool) → nat_le l.min 1 ≡ t → (n : ℕ) → least ≤ℤ cond t (pos 0) (larger low (g *ℤ (pos l.min -ℤ pos 1))) →
        cond t (pos 0) (larger low (g *ℤ (pos l.min -ℤ pos 1))) ≡ weight_of l (record { least = pos (cond t 0 n); most = pos 0 }) → pos 0 -ℤ pos (cond t 0 n) ≡ g
    losing neg true t n wide kept = elim why [
      | inl p ↦ absurd (omega (arith, ints))
      | inr two ↦ absurd (let one = at_most_one l.min t in omega (arith, two, one))
    ]
      where
        at_most_one : (m : ℕ) → nat_le m 1 ≡ true → m ≤ 1
        at_most_one m t = grind (arith, nat_tests)
    losing neg false t n wide kept =
        let two = two_at_least l.min t in
        let a = zero_times (pos l.max -ℤ pos 1) in
        let b = larger_open low least (g *ℤ (pos l.min -ℤ pos 1)) above wide in
        let b0 = b.0 in
        let d = neg-mul (pos n) (pos l.min -ℤ pos 1) in
        let c : g ≤ℤ neg_ℤ (pos n) = le_of_mul-le g (neg_ℤ (pos n)) (pos l.min -ℤ pos 1) (omega (arith, ints)) (omega (arith, ints)) in
        let f : neg_ℤ (pos n) ≤ℤ g = le_of_mul-le (neg_ℤ (pos n)) g (pos l.min -ℤ pos 1) (omega (arith, ints)) (omega (arith, ints)) in
        omega (arith, ints)

    by_gain : (t : Bool) → int_lt g (pos 0) ≡ t → least ≤ℤ cond t (cond (nat_le l.min 1) (pos 0) (larger low (g *ℤ (pos l.min -ℤ pos 1)))) (g *ℤ (pos l.max -ℤ pos 1)) →
        cond t (cond (nat_le l.min 1) (pos 0) (larger low (g *ℤ (pos l.min -ℤ pos 1)))) (g *ℤ (pos l.max -ℤ pos 1)) ≡ weight_of l (cond {A = Pair} t (record { least = pos (least_of l g e h); most = pos 0 }) (record { least = pos 0; most = g })) →
        (cond {A = Pair} t (record { least = pos (least_of l g e h); most = pos 0 }) (record { least = pos 0; most = g })).most -ℤ (cond {A = Pair} t (record { least = pos (least_of l g e h); most = pos 0 }) (record { least = pos 0; most = g })).least ≡ g
    by_gain false t wide kept = omega (arith, ints)
    by_gain true t wide kept = losing (is_loss g t) (nat_le l.min 1) refl (min (unsigned_abs g) (over (whole (e -ℤ h)) (l.min - 2))) wide kept

-- what the multipliers add at the header and at the jump back
turn_sum : (l : Loop) (h : ℤ) (k : Pair) → weight_of l k +ℤ back_worth l h k ≡ ((l.price +ℤ h) +ℤ k.least) -ℤ k.most
turn_sum l h k =
    let a = mul-sub k.most (pos l.max) (pos 1) in
    let b = mul-sub k.least (pos l.min) (pos 1) in omega (arith, ints)

-- the loops' headers have their first weights
abbrev pub HaveFirst : ℤ → List Step → List ℤ → List ℤ → List Loop → Type 0
HaveFirst low ms weights ws [] = Unit {0}
HaveFirst low ms weights ws (l ∷ ls) = (worth_at ws l.header ≡ first_weight low l (gain low (weighed low ms weights ls) l ms)) × HaveFirst low ms weights ws ls

pub first_later : (low : ℤ) (ms : List Step) (weights ws : List ℤ) (h : ℕ) (z : ℤ) (ls : List Loop) → HeadersAbove h ls → HaveFirst low ms weights ws ls → HaveFirst low ms weights (slice_set ws h z) ls
first_later low ms weights ws h z [] above f = tt
first_later low ms weights ws h z (l ∷ ls) above f = (set_other ws h l.header z (λ e. let a = above.0 in absurd (omega (arith, a, e))) ∙ f.0, first_later low ms weights ws h z ls above.1 f.1)

module _ (least low : ℤ) (n : ℕ) (ms : List Step) (weights : List ℤ) (above : low <ℤ least) where
  -- an open weight becomes no less when the loops are settled
  pub levels_weight : (v : Level) (ls : List Loop) → AreLoops n ms ls → n < length v.weights → HaveFirst low ms weights v.weights ls → (a : ℕ) → least ≤ℤ worth_at v.weights a →
      worth_at v.weights a ≤ℤ worth_at (levels low ms v ls (gains low ms weights ls)).weights a
  levels_weight v [] loops long first a wide = omega (arith, ints)
  levels_weight v (l ∷ ls) loops long first a wide =
      let r = levels_weight (level_by ms v l (level_pair low ms v.worths l (gain low (weighed low ms weights ls) l ms))) ls loops.2 (let e = length-set v.weights l.header (weight_of l (level_pair low ms v.worths l (gain low (weighed low ms weights ls) l ms))) in omega (arith, e, long))
      (first_later low ms weights v.weights l.header (weight_of l (level_pair low ms v.worths l (gain low (weighed low ms weights ls) l ms))) ls loops.1 first.1) a (let m = more in omega (arith, ints)) in
      let m = more in omega (arith, ints)
    where
      more : worth_at v.weights a ≤ℤ worth_at (slice_set v.weights l.header (weight_of l (level_pair low ms v.worths l (gain low (weighed low ms weights ls) l ms)))) a
      more = elim (eqb_tells a l.header) [
        | inl e ↦
            let f : worth_at v.weights a ≡ first_weight low l (gain low (weighed low ms weights ls) l ms) = ap (λ b. worth_at v.weights b) e.1 ∙ first.0 in
            let x = weight_least least low l (gain low (weighed low ms weights ls) l ms) (onward low v.worths (head_steps l ms)) (worth_at v.worths l.header) above (subst (λ (z : ℤ). least ≤ℤ z) f wide) in
            let y = get_or-set_at v.weights l.header a (weight_of l (level_pair low ms v.worths l (gain low (weighed low ms weights ls) l ms))) (pos 0) e.1 (let r = loops.0.range in let r0 = r.0 in let r1 = r.1 in omega (arith, r0, r1, long)) in
            omega (arith, ints)
        | inr e ↦ let f = set_other v.weights l.header a (weight_of l (level_pair low ms v.worths l (gain low (weighed low ms weights ls) l ms))) e.1 in omega (arith, ints)
      ]

pub pairs_are : (low : ℤ) (ms : List Step) (weights : List ℤ) (v : Level) (ls : List Loop) → ArePairs low ms weights ls (level_pairs low ms v ls (gains low ms weights ls))
pairs_are low ms weights v [] = tt
pairs_are low ms weights v (l ∷ ls) = ((onward low v.worths (head_steps l ms), worth_at v.worths l.header, refl), pairs_are low ms weights (level_by ms v l (level_pair low ms v.worths l (gain low (weighed low ms weights ls) l ms))) ls)

unlike : (a b : ℕ) → (a == b) ≡ false → a ≢ b
unlike a b h e = elim (eqb_tells a b) [ inl k ↦ differ (a == b) k.0 h | inr k ↦ k.1 e ]
  where
    differ : (t : Bool) → t ≡ true → t ≡ false → ⊥
    differ true e f = cc
    differ false e f = cc

-- a step of a list, with what holds of each
step_with : (P R : Step → Type 0) (ms : List Step) → Each R ms → HasStep P ms → (m : Step) × P m × R m
step_with P R [] r h = absurd h
step_with P R (m ∷ ms) r h = elim h [ inl p ↦ (m, p, r.0) | inr k ↦ step_with P R ms r.1 k ]

some_same : {u v : ℤ} → Some u ≡ Some v → u ≡ v
some_same e = cc

module _ (least low : ℤ) (calls : Step → Type 0) (n : ℕ) (ms : List Step) (steps : AreSteps n ms) (weights gw : List ℤ) (long : n < length weights) (above : low <ℤ least) (nothing : least ≤ℤ pos 0) (w : Level) (paid : Each (IsPaid w) ms)
    (more : (a : ℕ) → least ≤ℤ worth_at gw a → worth_at gw a ≤ℤ worth_at w.weights a) where
  -- ---- the pass to the ends

  -- an open place whose last worth is that of the pass
  abbrev pub IsSqueezed : List ℤ → ℕ → Type 0
  IsSqueezed ws a = (least ≤ℤ worth_at ws a) × (worth_at w.worths a ≡ worth_at ws a)

  end_goes : (ws : List ℤ) (m : Step) → HasOpenParts least calls gw ws m → ((cost gw m +ℤ worth_at ws m.on) ≤ℤ worth_at ws m.at) → IsPaid w m → ((a : ℕ) → worth_at ws a ≤ℤ worth_at w.worths a) → GoesOpenly (is_tight (record { worths = ws; weights = gw })) (IsSqueezed ws) (IsEven gw w) m
  end_goes ws m parts pays paid grows at chosen =
      let le = is_le (worth_at ws m.at) (cost gw m +ℤ worth_at ws m.on) chosen in
      let a0 = at.0 in let a1 = at.1 in
      let p = parts (omega (arith, ints)) in
      let s = more m.at p.0 in
      let g = grows m.on in
      ((omega (arith, ints), omega (arith, ints)), (p.2, omega (arith, ints)))

  pub ends_tight : (ws : List ℤ) (us : List ℕ) → n < length us → Each (HasOpenParts least calls gw ws) ms → Each (λ m. (cost gw m +ℤ worth_at ws m.on) ≤ℤ worth_at ws m.at) ms → ((a : ℕ) → worth_at ws a ≤ℤ worth_at w.worths a) → StandsOpen us (IsSqueezed ws) →
      EachMade (IsEven gw w) ms (spread (is_tight (record { worths = ws; weights = gw })) us ms)
  ends_tight ws us long_us parts pays grows stands =
      spread_made (is_tight (record { worths = ws; weights = gw })) n us ms (IsSqueezed ws) (IsEven gw w) long_us (steps_are n ms steps)
      (each_both (HasOpenParts least calls gw ws) (λ m. ((cost gw m +ℤ worth_at ws m.on) ≤ℤ worth_at ws m.at) × IsPaid w m) (GoesOpenly (is_tight (record { worths = ws; weights = gw })) (IsSqueezed ws) (IsEven gw w)) ms (λ m p h. end_goes ws m p h.0 h.1 grows) parts
      (each_both (λ m. (cost gw m +ℤ worth_at ws m.on) ≤ℤ worth_at ws m.at) (IsPaid w) (λ m. ((cost gw m +ℤ worth_at ws m.on) ≤ℤ worth_at ws m.at) × IsPaid w m) ms (λ m x y. (x, y)) pays paid)) stands

  -- ---- the turns of one loop

  module _ (l : Loop) (ls : List Loop) (fits : IsLoopOf n ms l) (k : Pair) (settled : IsSettled w l k) (turns : TurnsOpenly least calls low (weighed low ms weights ls) ms l) (b : ℕ) (is : l.back ≡ Some b) (apart : b ≢ l.header)
      (inner : (a : ℕ) → l.header < a → worth_at gw a ≡ worth_at (weighed low ms weights ls) a) (none : worth_at (weighed low ms weights ls) l.header ≡ pos 0)
      (first : worth_at gw l.header ≡ first_weight low l (gain low (weighed low ms weights ls) l ms)) (pair : (e : ℤ) × (h : ℤ) × (k ≡ pair_of l (gain low (weighed low ms weights ls) l ms) e h)) where
    abbrev tw : List ℤ
    tw = weighed low ms weights ls

    abbrev ways : List (Option ℤ)
    ways = turn_ways low (weighed low ms weights ls) l ms

    -- what the jump back is worth, by the multipliers
    abbrev z : ℤ
    z = back_worth l (worth_at w.worths l.header) k

    back_in : (l.header ≤ b) × (b < l.end)
    back_in = let i : IsBack l ms (Some b) = subst (λ o. IsBack l ms o) is fits.back in (i.0, i.1)

    back_paid : back_worth l (worth_at w.worths l.header) k ≤ℤ worth_at w.worths b
    back_paid = let p : PaysBack w.worths l k (Some b) = subst (λ o. PaysBack w.worths l k o) is settled.back in p.1 apart

    range_is : Each (IsInRange l.header (l.end - l.header)) (range_steps l ms)
    range_is =
        let r0 = fits.range.0 in
        each_beside (IsInRange l.header (l.end - l.header)) l.head l.body l.rest ms fits.order.0 fits.order.1
        (each_map (λ m. m.at ≡ l.header) (IsInRange l.header (l.end - l.header)) (head_steps l ms) (λ m e. (omega (arith, e), omega (arith, e, r0))) fits.heads)
        (each_map (λ m. (l.header < m.at) × (m.at < l.end)) (IsInRange l.header (l.end - l.header)) (body_steps l ms) (λ m h. (omega (arith, h.0), omega (arith, h.0, h.1))) fits.body)

    range_long : Each (IsInRange l.header (length (turn_start l))) (range_steps l ms)
    range_long = subst (λ j. Each (IsInRange l.header j) (range_steps l ms)) (sym (turn_start-long l)) range_is

    abbrev Known : Step → Type 0
    Known m = IsInRange l.header (l.end - l.header) m × IsStep n m × IsPaid w m × HasOpenWay least calls (weighed low ms weights ls) l.header (turn_ways low (weighed low ms weights ls) l ms) m

    known : Each Known (range_steps l ms)
    known = each_both (IsInRange l.header (l.end - l.header)) (λ m. IsStep n m × IsPaid w m × HasOpenWay least calls (weighed low ms weights ls) l.header (turn_ways low (weighed low ms weights ls) l ms) m) Known (range_steps l ms) (λ m x y. (x, y.0, y.1, y.2)) range_is
        (each_between (λ m. IsStep n m × IsPaid w m × HasOpenWay least calls (weighed low ms weights ls) l.header (turn_ways low (weighed low ms weights ls) l ms) m) l.head l.rest ms
        (each_both (IsStep n) (λ m. IsPaid w m × HasOpenWay least calls (weighed low ms weights ls) l.header (turn_ways low (weighed low ms weights ls) l ms) m) (λ m. IsStep n m × IsPaid w m × HasOpenWay least calls (weighed low ms weights ls) l.header (turn_ways low (weighed low ms weights ls) l ms) m) ms (λ m x y. (x, y.0, y.1)) (steps_are n ms steps)
        (each_both (IsPaid w) (HasOpenWay least calls (weighed low ms weights ls) l.header (turn_ways low (weighed low ms weights ls) l ms)) (λ m. IsPaid w m × HasOpenWay least calls (weighed low ms weights ls) l.header (turn_ways low (weighed low ms weights ls) l ms) m) ms (λ m x y. (x, y)) paid turns.steps)))

    -- a step behind the header with an open weight costs no more than in the end
    cost_less : (m : Step) → l.header < m.at → least ≤ℤ worth_at (weighed low ms weights ls) m.at → cost (weighed low ms weights ls) m ≤ℤ cost w.weights m
    cost_less m lt wide =
        let i = inner m.at lt in
        let s = more m.at (subst (λ (y : ℤ). least ≤ℤ y) (sym i) wide) in omega (arith, ints)

    -- the beginning has a way at the jump back alone, and it costs nothing
    start_is : (i : ℕ) (y : ℤ) → way_at (turn_start l) i ≡ Some y → (i ≡ b - l.header) × (y ≡ pos 0)
    start_is i y h = elim (eqb_tells i (b - l.header)) [
      | inl e ↦
          let at = turn_start_back l b is back_in.0 back_in.1 in
          (e.1, some_same (sym h ∙ (ap (λ j. way_at (turn_start l) j) e.1 ∙ at)))
      | inr e ↦ absurd (none_in (l.end - l.header) i y (sym (get_or-set_other (replicate (l.end - l.header) None) (b - l.header) i (Some (pos 0)) None e.1) ∙ (ap (λ o. way_at (start_back o l.header (replicate (l.end - l.header) None)) i) (sym is) ∙ h)))
    ]
      where
        some_same : {u v : ℤ} → Some u ≡ Some v → u ≡ v
        some_same e = cc

        none_in : (j i : ℕ) (y : ℤ) → way_at (replicate j None) i ≡ Some y → ⊥
        none_in zero zero y h = cc
        none_in zero (suc i) y h = cc
        none_in (suc j) zero y h = cc
        none_in (suc j) (suc i) y h = none_in j i y h

    -- a step with an open way goes on to an open way
    onward_way : (m : Step) (y : ℤ) → Known m → further low (cost (weighed low ms weights ls) m) (way_at (turn_ways low (weighed low ms weights ls) l ms) (m.on - l.header)) ≡ Some y → least ≤ℤ y →
        (x : ℤ) × (way_at (turn_ways low (weighed low ms weights ls) l ms) (m.on - l.header) ≡ Some x) × (y ≡ cost (weighed low ms weights ls) m +ℤ x) × (least ≤ℤ worth_at (weighed low ms weights ls) m.at) × (least ≤ℤ x)
    onward_way m y kn e wide = by_way (way_at (turn_ways low (weighed low ms weights ls) l ms) (m.on - l.header)) refl e
      where
        by_way : (o : Option ℤ) → way_at (turn_ways low (weighed low ms weights ls) l ms) (m.on - l.header) ≡ o → further low (cost (weighed low ms weights ls) m) o ≡ Some y →
            (x : ℤ) × (way_at (turn_ways low (weighed low ms weights ls) l ms) (m.on - l.header) ≡ Some x) × (y ≡ cost (weighed low ms weights ls) m +ℤ x) × (least ≤ℤ worth_at (weighed low ms weights ls) m.at) × (least ≤ℤ x)
        by_way None at e = cc
        by_way (Some x) at e =
            let f : larger low (cost (weighed low ms weights ls) m +ℤ x) ≡ y = some_same e in
            let o = larger_open low least (cost (weighed low ms weights ls) m +ℤ x) above (subst (λ (v : ℤ). least ≤ℤ v) (sym f) wide) in
            let p = kn.3 x at o.1 in
            (x, at, sym f ∙ o.0, p.0, p.2)
          where
            some_same : {u v : ℤ} → Some u ≡ Some v → u ≡ v
            some_same e = cc

    -- behind the header, an open way and what the jump back is worth are no more than the worth
    abbrev IsBelow : ℕ → Type 0
    IsBelow a = l.header < a → (y : ℤ) → way_at (turn_ways low (weighed low ms weights ls) l ms) (a - l.header) ≡ Some y → least ≤ℤ y → (y +ℤ back_worth l (worth_at w.worths l.header) k) ≤ℤ worth_at w.worths a

    below_step : (a : ℕ) → ((c : ℕ) → a < c → c ≤ n → IsBelow c) → IsBelow a
    below_step a later lt y way wide =
        elim (turned_from low (weighed low ms weights ls) l.header n (turn_start l) (range_steps l ms) (between_steps n l.head l.rest ms steps) range_long (a - l.header) y way) [
          | inl s ↦
              let e = start_is (a - l.header) y s in
              let e0 = e.0 in let e1 = e.1 in let r = back_in.0 in
              let at : a ≡ b = omega (arith, e0, lt, r) in
              subst (λ c. (y +ℤ back_worth l (worth_at w.worths l.header) k) ≤ℤ worth_at w.worths c) (sym at) (let p = back_paid in omega (arith, ints))
          | inr s ↦
              let m = step_with (GoesWay low (weighed low ms weights ls) l.header (turn_ways low (weighed low ms weights ls) l ms) (a - l.header) y) Known (range_steps l ms) known s in
              let r0 = m.2.0.0 in
              let g0 = m.1.0 in
              let at : m.0.at ≡ a = omega (arith, r0, g0, lt) in
              let s0 = m.2.1.0 in let s1 = m.2.1.1 in
              let o = onward_way m.0 y m.2 m.1.1 wide in
              let c = cost_less m.0 (omega (arith, at, lt)) o.3 in
              let i = later m.0.on (omega (arith, at, s0)) s1 (omega (arith, at, s0, lt)) o.0 o.1 o.4 in
              let p = m.2.2 in
              let e = o.2 in
              let f = ap (λ d. worth_at w.worths d) at in omega (arith, ints)
        ]

    below_from : (j a : ℕ) → n < a + j → a ≤ n → IsBelow a
    below_from zero a fuel le = absurd (omega (arith, fuel, le))
    below_from (suc j) a fuel le = below_step a (λ c lt cn. below_from j c (omega (arith, fuel, lt)) cn)

    below : (a : ℕ) → a ≤ n → IsBelow a
    below a le = below_from (suc n) a (omega arith) le

    -- ---- along chosen steps

    abbrev IsOnTurn : ℕ → Type 0
    IsOnTurn a = (l.header ≤ a) × (y : ℤ) × (way_at (turn_ways low (weighed low ms weights ls) l ms) (a - l.header) ≡ Some y) × (least ≤ℤ y) × ((a ≡ l.header) ⊎ ((l.header < a) × (worth_at w.worths a ≡ (y +ℤ back_worth l (worth_at w.worths l.header) k))))

    -- a loop that turns: its header is open and has kept its weight, and its multipliers add up to what a turn gains
    record IsTurning : Type 0 where
      header_wide : least ≤ℤ worth_at gw l.header
      turn : Turns least low (weighed low ms weights ls) ms l
      kept : worth_at gw l.header ≡ worth_at w.weights l.header
      adds : k.most -ℤ k.least ≡ gain low (weighed low ms weights ls) l ms

    turn_goes_tight : IsTurning → (m : Step) → IsStep n m → IsPaid w m → HasOpenWay least calls (weighed low ms weights ls) l.header (turn_ways low (weighed low ms weights ls) l ms) m →
        GoesOpenly (is_turn low (weighed low ms weights ls) l (turn_ways low (weighed low ms weights ls) l ms)) IsOnTurn (IsEven gw w) m
    turn_goes_tight t m step pays parts at chosen =
        let c = both_first (in_range l m.at) (is_way (way_at (turn_ways low (weighed low ms weights ls) l ms) (m.at - l.header)) (further low (cost (weighed low ms weights ls) m) (way_at (turn_ways low (weighed low ms weights ls) l ms) (m.on - l.header)))) chosen in
        let o = way_open low least (cost (weighed low ms weights ls) m) (way_at (turn_ways low (weighed low ms weights ls) l ms) (m.at - l.header)) (way_at (turn_ways low (weighed low ms weights ls) l ms) (m.on - l.header)) at.1 above at.2 at.3 c.1 in
        let p = parts o.0 o.1 o.2 in
        let s0 = step.0 in let s1 = step.1 in let from = at.0 in
        let i = below m.on s1 (omega (arith, s0, from)) o.0 o.1 p.2 in
        let o3 = o.3 in
        elim at.4 [
          | inl e ↦
              let cw : cost (weighed low ms weights ls) m ≡ m.price = (let x : worth_at (weighed low ms weights ls) m.at ≡ pos 0 = ap (λ a. worth_at (weighed low ms weights ls) a) e ∙ none in omega (arith, ints)) in
              let fw : worth_at w.weights m.at ≡ weight_of l k = ap (λ a. worth_at w.weights a) e ∙ settled.weight in
              let y : at.1 ≡ t.turn.way = some_same (sym at.2 ∙ (ap (λ a. way_at (turn_ways low (weighed low ms weights ls) l ms) (a - l.header)) e ∙ (ap (λ j. way_at (turn_ways low (weighed low ms weights ls) l ms) j) no_way_off ∙ t.turn.is))) in
              let g = t.turn.gain_is in
              let h = ap (λ a. worth_at w.worths a) e in
              let bw = turn_sum l (worth_at w.worths l.header) k in
              let ad = t.adds in
              let eq : worth_at w.worths m.on ≡ (o.0 +ℤ back_worth l (worth_at w.worths l.header) k) = omega (arith, ints) in
              ((omega (arith, ints), ap (λ a. worth_at gw a) e ∙ (t.kept ∙ ap (λ a. worth_at w.weights a) (sym e))), (omega (arith, s0, from), o.0, o.1, p.2, inr (omega (arith, s0, from), eq)))
          | inr e ↦
              let e0 = e.0 in
              let c1 = cost_less m e.0 p.0 in
              let j = inner m.at e.0 in
              let e1 = e.1 in
              let eq : worth_at w.worths m.on ≡ (o.0 +ℤ back_worth l (worth_at w.worths l.header) k) = omega (arith, ints) in
              ((omega (arith, ints), omega (arith, ints)), (omega (arith, s0, from), o.0, o.1, p.2, inr (omega (arith, s0, from), eq)))
        ]
      where
        no_way_off : l.header - l.header ≡ 0
        no_way_off = omega arith

    abbrev turning : Turning
    turning = turning_of low (weighed low ms weights ls) l ms (turn_ways low (weighed low ms weights ls) l ms) b

    long_only : (u : ℕ) → n < length (only_at n l.header u)
    long_only u = let e = only-long n l.header u in omega (arith, e)

    header_in : l.header ≤ n
    header_in = let r = fits.range in let r0 = r.0 in let r1 = r.1 in omega (arith, r0, r1)

    only_stands : (u : ℕ) (Open : ℕ → Type 0) → (0 < u → Open l.header) → StandsOpen (only_at n l.header u) Open
    only_stands u Open f a h = elim (eqb_tells a l.header) [
      | inl e ↦ let z = only_there n l.header u header_in in let y = ap (λ c. amount_at (only_at n l.header u) c) e.1 in subst Open (sym e.1) (f (omega (arith, h, z, y)))
      | inr e ↦ let z = only_elsewhere n l.header u a e.1 in absurd (omega (arith, h, z))
    ]

    -- a loop that is left turns along open ways
    turns_open : (counts : List ℕ) → EachMade (λ m. (least ≤ℤ worth_at gw m.at) × calls m) ms counts → EachMade (IsEven gw w) ms counts → 0 < turns_of ms counts turning → IsTurning
    turns_open counts made even h =
        let p = positive_product (further_turns l (gain low (weighed low ms weights ls) l ms)) (departed ms counts l.header) h in
        let d = departed_made (λ m. (least ≤ℤ worth_at gw m.at) × calls m) ms counts l.header made p.1 in
        let e = departed_made (IsEven gw w) ms counts l.header even p.1 in
        let wide : least ≤ℤ worth_at gw l.header = subst (λ a. least ≤ℤ worth_at gw a) d.1 d.2.0 in
        let kept : worth_at gw l.header ≡ worth_at w.weights l.header = subst (λ a. worth_at gw a ≡ worth_at w.weights a) e.1 e.2.1 in
        let open_first : least ≤ℤ first_weight low l (gain low (weighed low ms weights ls) l ms) = subst (λ (y : ℤ). least ≤ℤ y) first wide in
        let why = may_turn l (gain low (weighed low ms weights ls) l ms) p.0 in
        record {
          header_wide = wide;
          turn = weight_turns least calls low (weighed low ms weights ls) ms l above nothing turns open_first why;
          kept = kept;
          adds = subst (λ (x : Pair). x.most -ℤ x.least ≡ gain low (weighed low ms weights ls) l ms) (sym pair.2)
              (pair_adds least low l (gain low (weighed low ms weights ls) l ms) pair.0 pair.1 above open_first why (sym first ∙ (kept ∙ (settled.weight ∙ ap (λ (x : Pair). weight_of l x) pair.2))));
        }

    goes_tight : IsTurning → Each (GoesOpenly (is_turn low (weighed low ms weights ls) l (turn_ways low (weighed low ms weights ls) l ms)) IsOnTurn (IsEven gw w)) ms
    goes_tight t = each_both (IsStep n) (λ m. IsPaid w m × HasOpenWay least calls (weighed low ms weights ls) l.header (turn_ways low (weighed low ms weights ls) l ms) m) (GoesOpenly (is_turn low (weighed low ms weights ls) l (turn_ways low (weighed low ms weights ls) l ms)) IsOnTurn (IsEven gw w)) ms
        (λ m i h. turn_goes_tight t m i h.0 h.1) (steps_are n ms steps)
        (each_both (IsPaid w) (HasOpenWay least calls (weighed low ms weights ls) l.header (turn_ways low (weighed low ms weights ls) l ms)) (λ m. IsPaid w m × HasOpenWay least calls (weighed low ms weights ls) l.header (turn_ways low (weighed low ms weights ls) l ms) m) ms (λ m x y. (x, y)) paid turns.steps)

    header_on : Turns least low (weighed low ms weights ls) ms l → IsOnTurn l.header
    header_on t = let zero_off : l.header - l.header ≡ 0 = omega arith in (omega arith, t.way, ap (λ j. way_at (turn_ways low (weighed low ms weights ls) l ms) j) zero_off ∙ t.is, t.wide, inl refl)

    pub turn_tight : (counts : List ℕ) → EachMade (λ m. (least ≤ℤ worth_at gw m.at) × calls m) ms counts → EachMade (IsEven gw w) ms counts → EachMade (IsEven gw w) ms (turn_counts n ms counts turning)
    turn_tight counts made even = by_turns (turns_of ms counts turning) refl
      where
        by_turns : (u : ℕ) → turns_of ms counts turning ≡ u → EachMade (IsEven gw w) ms (spread (is_turn low (weighed low ms weights ls) l (turn_ways low (weighed low ms weights ls) l ms)) (only_at n l.header u) ms)
        by_turns zero e = spread_made (is_turn low (weighed low ms weights ls) l (turn_ways low (weighed low ms weights ls) l ms)) n (only_at n l.header 0) ms (λ a. ⊥) (IsEven gw w) (long_only 0) (steps_are n ms steps)
            (each_map (IsStep n) (GoesOpenly (is_turn low (weighed low ms weights ls) l (turn_ways low (weighed low ms weights ls) l ms)) (λ a. ⊥) (IsEven gw w)) ms (λ m i a. absurd a) (steps_are n ms steps)) (only_stands 0 (λ a. ⊥) (λ h. absurd (omega (arith, h))))
        by_turns (suc u) e =
            let t = turns_open counts made even (omega (arith, e)) in
            spread_made (is_turn low (weighed low ms weights ls) l (turn_ways low (weighed low ms weights ls) l ms)) n (only_at n l.header (suc u)) ms IsOnTurn (IsEven gw w) (long_only (suc u)) (steps_are n ms steps) (goes_tight t) (only_stands (suc u) IsOnTurn (λ h. header_on t.turn))

    -- and the jump back is worth what the multipliers make it
    pub turn_back_tight : (counts : List ℕ) → EachMade (λ m. (least ≤ℤ worth_at gw m.at) × calls m) ms counts → EachMade (IsEven gw w) ms counts → 0 < turns_of ms counts turning → (worth_at w.worths b ≡ back_worth l (worth_at w.worths l.header) k) × (least ≤ℤ l.price)
    turn_back_tight counts made even h =
        let t = turns_open counts made even h in
        let can = can_turn low n ms steps l fits (weighed low ms weights ls) b is apart t.turn.way t.turn.is in
        let u = turns_of ms counts turning in
        let all = all_at_target (is_turn low (weighed low ms weights ls) l (turn_ways low (weighed low ms weights ls) l ms)) n ms (λ a. turns_from l (turn_ways low (weighed low ms weights ls) l ms) a ≡ true) b l.header (turns_of ms counts turning) header_in steps can.leads can.starts in
        let on = remains_stand (is_turn low (weighed low ms weights ls) l (turn_ways low (weighed low ms weights ls) l ms)) n (only_at n l.header (turns_of ms counts turning)) ms IsOnTurn (IsEven gw w) (long_only (turns_of ms counts turning)) (steps_are n ms steps) (goes_tight t) (only_stands (turns_of ms counts turning) IsOnTurn (λ j. header_on t.turn)) b (omega (arith, h, all)) in
        let i : IsBack l ms (Some b) = subst (λ o. IsBack l ms o) is fits.back in
        let way : way_at (turn_ways low (weighed low ms weights ls) l ms) (b - l.header) ≡ Some (pos 0) = turned_other low (weighed low ms weights ls) l.header (l.end - l.header) (turn_start l) (range_steps l ms) b back_in.0 range_is (each_between (λ m. m.at ≢ b) l.head l.rest ms i.2) ∙ turn_start_back l b is back_in.0 back_in.1 in
        let y : on.1 ≡ pos 0 = some_same (sym on.2 ∙ way) in
        elim on.4 [ inl e ↦ absurd (apart e) | inr e ↦ let e1 = e.1 in (omega (arith, ints), t.turn.back) ]

  -- ---- all loops

  lift : (t : Turning) (c : ℕ) (ts : List Turning) (bs : List ℕ) (ls : List Loop) (ks : List Pair) → HeadersAbove t.header ls → AreBacksTight least w ts bs ls ks → AreBacksTight least w (t ∷ ts) (c ∷ bs) ls ks
  lift t c ts bs [] ks above h = tt
  lift t c ts bs (l ∷ ls) [] above h = absurd h
  lift t c ts bs (l ∷ ls) (k ∷ ks) above h = (
    (λ lt. h.0 (elim (eqb_tells t.header l.header) [ inl e ↦ let a = above.0 in let e1 = e.1 in absurd (omega (arith, a, e1)) | inr e ↦ rest (t.header == l.header) e.0 lt ])),
    lift t c ts bs ls ks above.1 h.1,
  )
    where
      rest : (x : Bool) → x ≡ false → 0 < cond x c 0 + backs_to ts bs l.header → 0 < backs_to ts bs l.header
      rest true e h = cc
      rest false e h = omega (arith, h)

  abbrev IsOpenStep : Step → Type 0
  IsOpenStep m = (least ≤ℤ worth_at gw m.at) × calls m

  pub all_tight : (ls : List Loop) (ks : List Pair) (counts : List ℕ) → AreLoops n ms ls → TurnAllOpenly least calls low weights ms ls → HaveNone weights ls → AreSettled w ls ks → ArePairs low ms weights ls ks → ((a : ℕ) → From a ls → worth_at gw a ≡ worth_at (weighed low ms weights ls) a) →
      EachMade IsOpenStep ms counts → EachMade (IsEven gw w) ms counts → EachMade (IsEven gw w) ms (counts_of n ms counts (turnings low ms weights ls)) × AreBacksTight least w (turnings low ms weights ls) (backs_of n ms counts (turnings low ms weights ls)) ls ks
  all_tight [] ks counts loops turns none settled pairs gws made tight = (tight, tt)
  all_tight (l ∷ ls) [] counts loops turns none settled pairs gws made tight = absurd settled
  all_tight (l ∷ ls) (k ∷ ks) counts loops turns none settled pairs gws made tight =
      by_back l.back refl (λ cs m t. all_tight ls ks cs loops.2 turns.1 none.1 settled.1 pairs.1 later m t)
    where
      later : (a : ℕ) → From a ls → worth_at gw a ≡ worth_at (weighed low ms weights ls) a
      later a f =
          let b = from_above a l.header ls loops.1 f in
          gws a (omega (arith, b)) ∙ set_other (weighed low ms weights ls) l.header a (first_weight low l (gain low (weighed low ms weights ls) l ms)) (λ e. absurd (omega (arith, e, b)))

      inner : (a : ℕ) → l.header < a → worth_at gw a ≡ worth_at (weighed low ms weights ls) a
      inner a lt = gws a (omega (arith, lt)) ∙ set_other (weighed low ms weights ls) l.header a (first_weight low l (gain low (weighed low ms weights ls) l ms)) (λ e. absurd (omega (arith, e, lt)))

      first : worth_at gw l.header ≡ first_weight low l (gain low (weighed low ms weights ls) l ms)
      first = gws l.header (omega arith) ∙ get_or-set_at (weighed low ms weights ls) l.header l.header (first_weight low l (gain low (weighed low ms weights ls) l ms)) (pos 0) refl
          (let e = weighed-long low ms weights ls in let r = loops.0.range in let r0 = r.0 in let r1 = r.1 in omega (arith, e, r0, r1, long))

      unweighed : worth_at (weighed low ms weights ls) l.header ≡ pos 0
      unweighed = weighed_before ls loops.1 ∙ none.0
        where
          weighed_before : (ks : List Loop) → HeadersAbove l.header ks → worth_at (weighed low ms weights ks) l.header ≡ worth_at weights l.header
          weighed_before [] h = refl
          weighed_before (x ∷ ks) h = set_other (weighed low ms weights ks) x.header l.header (first_weight low x (gain low (weighed low ms weights ks) x ms)) (λ e. let h0 = h.0 in absurd (omega (arith, e, h0))) ∙ weighed_before ks h.1

      -- without a turning
      alone : (bs : List ℕ) → 0 < backs_to (turnings low ms weights ls) bs l.header → (b : ℕ) × (l.back ≡ Some b) × (b ≢ l.header) × (worth_at w.worths b ≡ back_worth l (worth_at w.worths l.header) k) × (least ≤ℤ l.price)
      alone bs h = let z = backs_none (turnings low ms weights ls) bs l.header (turnings_behind low ms weights ls l.header loops.1) in absurd (omega (arith, h, z))

      by_back : (o : Option ℕ) → l.back ≡ o →
          ((cs : List ℕ) → EachMade IsOpenStep ms cs → EachMade (IsEven gw w) ms cs → EachMade (IsEven gw w) ms (counts_of n ms cs (turnings low ms weights ls)) × AreBacksTight least w (turnings low ms weights ls) (backs_of n ms cs (turnings low ms weights ls)) ls ks) →
          EachMade (IsEven gw w) ms (counts_of n ms counts (with_back low (weighed low ms weights ls) l ms o (turnings low ms weights ls))) × AreBacksTight least w (with_back low (weighed low ms weights ls) l ms o (turnings low ms weights ls)) (backs_of n ms counts (with_back low (weighed low ms weights ls) l ms o (turnings low ms weights ls))) (l ∷ ls) (k ∷ ks)
      by_back None is next = let r = next counts made tight in (r.0, (alone (backs_of n ms counts (turnings low ms weights ls)), r.1))
      by_back (Some b) is next = by_test (b == l.header) refl
        where
          by_way : b ≢ l.header → (o : Option ℤ) → EachMade (IsEven gw w) ms (counts_of n ms counts (with_way o (turning_of low (weighed low ms weights ls) l ms (turn_ways low (weighed low ms weights ls) l ms) b) (turnings low ms weights ls))) ×
              AreBacksTight least w (with_way o (turning_of low (weighed low ms weights ls) l ms (turn_ways low (weighed low ms weights ls) l ms) b) (turnings low ms weights ls))
              (backs_of n ms counts (with_way o (turning_of low (weighed low ms weights ls) l ms (turn_ways low (weighed low ms weights ls) l ms) b) (turnings low ms weights ls))) (l ∷ ls) (k ∷ ks)
          by_way apart None = let r = next counts made tight in (r.0, (alone (backs_of n ms counts (turnings low ms weights ls)), r.1))
          by_way apart (Some x) =
              let t = turning_of low (weighed low ms weights ls) l ms (turn_ways low (weighed low ms weights ls) l ms) b in
              let m1 = turn_made least calls low n ms steps weights gw long above nothing l ls loops.0 turns.0 first inner b counts made in
              let t1 = turn_tight l ls loops.0 k settled.0 turns.0 b is apart inner unweighed first pairs.0 counts made tight in
              let r = next (together counts (turn_counts n ms counts (turning_of low (weighed low ms weights ls) l ms (turn_ways low (weighed low ms weights ls) l ms) b)))
              (together_made IsOpenStep ms counts (turn_counts n ms counts (turning_of low (weighed low ms weights ls) l ms (turn_ways low (weighed low ms weights ls) l ms) b)) made m1)
              (together_made (IsEven gw w) ms counts (turn_counts n ms counts (turning_of low (weighed low ms weights ls) l ms (turn_ways low (weighed low ms weights ls) l ms) b)) tight t1) in (
                r.0,
                (
                  (λ h. let r = turn_back_tight l ls loops.0 k settled.0 turns.0 b is apart inner unweighed first pairs.0 counts made tight (own_turns h) in (b, is, apart, r.0, r.1)),
                  lift (turning_of low (weighed low ms weights ls) l ms (turn_ways low (weighed low ms weights ls) l ms) b) (turns_of ms counts (turning_of low (weighed low ms weights ls) l ms (turn_ways low (weighed low ms weights ls) l ms) b)) (turnings low ms weights ls)
                      (backs_of n ms (together counts (turn_counts n ms counts (turning_of low (weighed low ms weights ls) l ms (turn_ways low (weighed low ms weights ls) l ms) b))) (turnings low ms weights ls)) ls ks loops.1 r.1,
                ),
              )
            where
              own_turns : 0 < cond (l.header == l.header) (turns_of ms counts (turning_of low (weighed low ms weights ls) l ms (turn_ways low (weighed low ms weights ls) l ms) b)) 0
                  + backs_to (turnings low ms weights ls) (backs_of n ms (together counts (turn_counts n ms counts (turning_of low (weighed low ms weights ls) l ms (turn_ways low (weighed low ms weights ls) l ms) b))) (turnings low ms weights ls)) l.header →
                  0 < turns_of ms counts (turning_of low (weighed low ms weights ls) l ms (turn_ways low (weighed low ms weights ls) l ms) b)
              own_turns h =
                  let z = backs_none (turnings low ms weights ls) (backs_of n ms (together counts (turn_counts n ms counts (turning_of low (weighed low ms weights ls) l ms (turn_ways low (weighed low ms weights ls) l ms) b))) (turnings low ms weights ls)) l.header (turnings_behind low ms weights ls l.header loops.1) in
                  own (l.header == l.header) h z
                where
                  own : (x : Bool) → 0 < cond x (turns_of ms counts (turning_of low (weighed low ms weights ls) l ms (turn_ways low (weighed low ms weights ls) l ms) b)) 0
                      + backs_to (turnings low ms weights ls) (backs_of n ms (together counts (turn_counts n ms counts (turning_of low (weighed low ms weights ls) l ms (turn_ways low (weighed low ms weights ls) l ms) b))) (turnings low ms weights ls)) l.header →
                      backs_to (turnings low ms weights ls) (backs_of n ms (together counts (turn_counts n ms counts (turning_of low (weighed low ms weights ls) l ms (turn_ways low (weighed low ms weights ls) l ms) b))) (turnings low ms weights ls)) l.header ≡ 0 →
                      0 < turns_of ms counts (turning_of low (weighed low ms weights ls) l ms (turn_ways low (weighed low ms weights ls) l ms) b)
                  own true h z = omega (arith, h, z)
                  own false h z = absurd (omega (arith, h, z))

          by_test : (x : Bool) → (b == l.header) ≡ x → EachMade (IsEven gw w) ms (counts_of n ms counts (cond x (turnings low ms weights ls) (with_way (way_at (turn_ways low (weighed low ms weights ls) l ms) 0) (turning_of low (weighed low ms weights ls) l ms (turn_ways low (weighed low ms weights ls) l ms) b) (turnings low ms weights ls)))) ×
              AreBacksTight least w (cond x (turnings low ms weights ls) (with_way (way_at (turn_ways low (weighed low ms weights ls) l ms) 0) (turning_of low (weighed low ms weights ls) l ms (turn_ways low (weighed low ms weights ls) l ms) b) (turnings low ms weights ls))) (backs_of n ms counts (cond x (turnings low ms weights ls) (with_way (way_at (turn_ways low (weighed low ms weights ls) l ms) 0) (turning_of low (weighed low ms weights ls) l ms (turn_ways low (weighed low ms weights ls) l ms) b) (turnings low ms weights ls)))) (l ∷ ls) (k ∷ ks)
          by_test true e = let r = next counts made tight in (r.0, (alone (backs_of n ms counts (turnings low ms weights ls)), r.1))
          by_test false e = by_way (unlike b l.header e) (way_at (turn_ways low (weighed low ms weights ls) l ms) 0)
