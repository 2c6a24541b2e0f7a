-- A loop without a step at its header doesn't turn, and has no multipliers, unless its header is its own jump back.
use Rattle.std.proofs.Common.{◌≡◌, ◌≢◌, ℕ, zero, suc, ◌-◌, ◌≤◌, ◌<◌, ℤ, pos, ◌-ℤ◌, ◌≤ℤ◌, arith, refl, sym, ap, ◌∙◌, subst, List, [], ◌∷◌, length, Bool, true, false, cond, Option, Some, None, inl, inr, get_or-set_other}
use lib.IntN.{negsuc}
use Rattle.std.specs.Prelude.{◌==◌, slice_set, nat_le, min, unsigned_abs}
use Rattle.std.specs.Int.RustNames.{int_lt}
use Rattle.std.proofs.lemmas.Int.{ints}
use Rattle.std.proofs.lemmas.Grind.{get_or-set_at}
use Rattle.std.proofs.lemmas.Bool.Decides.{nat_tests, eqb_tells}
use Rattle.std.proofs.Math.ListN.{replicate}
use Rattle.std.proofs.Math.Nat.{div-eq_of_lt}
use Rattle.loop_walks.specs.declared.step.Step.{Step}
use Rattle.loop_walks.specs.declared.step.Loop.{Loop}
use Rattle.loop_walks.specs.declared.step.Pair.{Pair}
use Rattle.loop_walks.specs.Walks.{larger, worth_at, head_steps, body_steps, range_steps}
use Rattle.loop_walks.specs.Turns.{way_at, with_back, turn_start, turn_ways, gain_by, gain}
use Rattle.loop_walks.specs.Multipliers.{whole, over, least_of, pair_of, weight_of, back_worth}
use Rattle.loop_walks.specs.Levels.{weighed, gains, onward, Level, level_pair, raised, level_by, levels, level_pairs, ground, settled, settled_pairs}
use Rattle.loop_walks.specs.Rows.{IsStep, AreSteps, Each, IsBack, IsLoopOf, AreLoops}
use Rattle.loop_walks.proofs.LargerLemmas.{larger_left}
use Rattle.loop_walks.proofs.EachLemmas.{each_map, each_beside, each_between, steps_are}
use Rattle.loop_walks.proofs.WalkLemmas.{relaxed-long, relaxed_grows}
use Rattle.loop_walks.proofs.TurnLemmas.{IsInRange, turned_other}
use Rattle.loop_walks.proofs.LevelLemmas.{raised-long}

-- both multipliers are 0
abbrev pub IsNothing : Pair → Type 0
IsNothing p = (p.least ≡ pos 0) × (p.most ≡ pos 0)

-- no multipliers, where no step begins at the header and another place is the jump back
abbrev pub Blocked : List Step → Loop → Pair → Type 0
Blocked ms l p = Each (λ m. m.at ≢ l.header) ms → ((b : ℕ) → l.back ≡ Some b → b ≢ l.header) → IsNothing p

abbrev pub AreBlocked : List Step → List Loop → List Pair → Type 0
AreBlocked ms [] ps = Unit {0}
AreBlocked ms (l ∷ ls) [] = ⊥
AreBlocked ms (l ∷ ls) (p ∷ ps) = Blocked ms l p × AreBlocked ms ls ps

-- no place of n has a worth below that of a block
abbrev pub AllAbove : ℤ → ℕ → List ℤ → Type 0
AllAbove low n ws = (a : ℕ) → a < n → low ≤ℤ worth_at ws a

-- ---- the multipliers of a turn that there isn't

over_none : (k : ℕ) → over 0 k ≡ 0
over_none k = div-eq_of_lt (omega arith)

whole_none : (z : ℤ) → z ≤ℤ pos 0 → whole z ≡ 0
whole_none (pos n) h = omega (arith, ints)
whole_none (negsuc n) h = refl

min_none : (a : ℕ) → min a 0 ≡ 0
min_none a = omega arith

least_none : (l : Loop) (low h : ℤ) → low ≤ℤ h → least_of l low low h ≡ 0
least_none l low h le = by_test (nat_le l.min 1)
  where
    by_test : (t : Bool) → cond t 0 (min (unsigned_abs low) (over (whole (low -ℤ h)) (l.min - 2))) ≡ 0
    by_test true = refl
    by_test false = let w = whole_none (low -ℤ h) (omega (arith, ints)) in rw w (let o = over_none (l.min - 2) in rw o (min_none (unsigned_abs low)))

none_gained : (l : Loop) (low h : ℤ) → low ≤ℤ pos 0 → low ≤ℤ h → IsNothing (pair_of l low low h)
none_gained l low h negative le = by_test (int_lt low (pos 0)) refl
  where
    at_zero : int_lt low (pos 0) ≡ false → low ≡ pos 0
    at_zero t = let k : pos 0 ≤ℤ low = grind (arith, ints, nat_tests) in omega (arith, ints)

    by_test : (t : Bool) → int_lt low (pos 0) ≡ t → IsNothing (cond t (record { least = pos (least_of l low low h); most = pos 0 }) (record { least = pos 0; most = low }))
    by_test true t = (ap pos (least_none l low h le), refl)
    by_test false t = (refl, at_zero t)

-- ---- there is no turn

none_at : (k a : ℕ) → way_at (replicate k None) a ≡ None
none_at zero zero = refl
none_at zero (suc a) = refl
none_at (suc k) zero = refl
none_at (suc k) (suc a) = none_at k a

start_none : (l : Loop) → ((b : ℕ) → l.back ≡ Some b → (l.header ≤ b) × (b ≢ l.header)) → way_at (turn_start l) 0 ≡ None
start_none l h = by_back l.back h
  where
    by_back : (o : Option ℕ) → ((b : ℕ) → o ≡ Some b → (l.header ≤ b) × (b ≢ l.header)) → way_at (with_back o l.header (replicate (l.end - l.header) None)) 0 ≡ None
    by_back None h = none_at (l.end - l.header) 0
    by_back (Some b) h =
        let k = h b refl in let k0 = k.0 in let k1 = k.1 in
        get_or-set_other (replicate (l.end - l.header) None) (b - l.header) 0 (Some (pos 0)) None (λ e. k1 (omega (arith, e, k0))) ∙ none_at (l.end - l.header) 0

onward_none : (low : ℤ) (ws : List ℤ) (a : ℕ) (ms : List Step) → Each (λ m. m.at ≡ a) ms → Each (λ m. m.at ≢ a) ms → onward low ws ms ≡ low
onward_none low ws a [] h k = refl
onward_none low ws a (m ∷ ms) h k = absurd (k.0 h.0)

module _ (low : ℤ) (n : ℕ) (ms : List Step) (steps : AreSteps n ms) (negative : low ≤ℤ pos 0) where
  back_behind : (l : Loop) → IsLoopOf n ms l → (b : ℕ) → l.back ≡ Some b → (l.header ≤ b) × (b < l.end)
  back_behind l fits b is = let i : IsBack l ms (Some b) = subst (λ o. IsBack l ms o) is fits.back in (i.0, i.1)

  range_in : (l : Loop) → IsLoopOf n ms l → Each (IsInRange l.header (l.end - l.header)) (range_steps l ms)
  range_in l fits =
      let r0 = fits.range.0 in
      each_beside (IsInRange l.header (l.end - l.header)) l.head l.body l.rest ms fits.order.0 fits.order.1
      (each_map (λ m. m.at ≡ l.header) (IsInRange l.header (l.end - l.header)) (head_steps l ms) (λ m e. (omega (arith, e), omega (arith, e, r0))) fits.heads)
      (each_map (λ m. (l.header < m.at) × (m.at < l.end)) (IsInRange l.header (l.end - l.header)) (body_steps l ms) (λ m h. (omega (arith, h.0), omega (arith, h.0, h.1))) fits.body)

  no_gain : (l : Loop) (weights : List ℤ) → IsLoopOf n ms l → Each (λ m. m.at ≢ l.header) ms → ((b : ℕ) → l.back ≡ Some b → b ≢ l.header) → gain low weights l ms ≡ low
  no_gain l weights fits none apart =
      let z : l.header - l.header ≡ 0 = omega arith in
      let t = turned_other low weights l.header (l.end - l.header) (turn_start l) (range_steps l ms) l.header (omega arith) (range_in l fits) (each_between (λ m. m.at ≢ l.header) l.head l.rest ms none) in
      let u : way_at (turn_ways low weights l ms) 0 ≡ way_at (turn_start l) 0 = subst (λ i. way_at (turn_ways low weights l ms) i ≡ way_at (turn_start l) i) z t in
      ap (gain_by low l.price) (u ∙ start_none l (λ b is. ((back_behind l fits b is).0, apart b is)))

  blocked_one : (l : Loop) (weights ws : List ℤ) → IsLoopOf n ms l → low ≤ℤ worth_at ws l.header → Blocked ms l (level_pair low ms ws l (gain low weights l ms))
  blocked_one l weights ws fits above none apart =
      let g = no_gain l weights fits none apart in
      let e = onward_none low ws l.header (head_steps l ms) fits.heads (each_between (λ m. m.at ≢ l.header) l.head l.body ms none) in
      rw (g, e) (none_gained l low (worth_at ws l.header) negative above)

  -- ---- worths don't fall when loops are settled

  raised_up : (ws : List ℤ) (l : Loop) (o : Option ℕ) (z : ℤ) (a : ℕ) → ((b : ℕ) → o ≡ Some b → b < length ws) → worth_at ws a ≤ℤ worth_at (raised ws l o z) a
  raised_up ws l None z a h = omega (arith, ints)
  raised_up ws l (Some b) z a h = by_test (b == l.header)
    where
      at_back : a ≡ b → worth_at ws a ≤ℤ worth_at (slice_set ws b (larger (worth_at ws b) z)) a
      at_back k = subst (λ c. worth_at ws c ≤ℤ worth_at (slice_set ws b (larger (worth_at ws b) z)) c) (sym k)
          (let s = get_or-set_at ws b b (larger (worth_at ws b) z) (pos 0) refl (h b refl) in rw s (larger_left _ _))

      by_test : (t : Bool) → worth_at ws a ≤ℤ worth_at (cond t ws (slice_set ws b (larger (worth_at ws b) z))) a
      by_test true = omega (arith, ints)
      by_test false = elim (eqb_tells a b) [
        | inl k ↦ at_back k.1
        | inr k ↦ let e = get_or-set_other ws b a (larger (worth_at ws b) z) (pos 0) k.1 in rw e (omega (arith, ints))
      ]

  level_long : (v : Level) (l : Loop) (p : Pair) → length (level_by ms v l p).worths ≡ length v.worths
  level_long v l p = relaxed-long (slice_set v.weights l.header (weight_of l p)) (raised v.worths l l.back (back_worth l (worth_at v.worths l.header) p)) (body_steps l ms) ∙ raised-long v.worths l l.back (back_worth l (worth_at v.worths l.header) p)

  level_grows : (v : Level) (l : Loop) (p : Pair) → IsLoopOf n ms l → n < length v.worths → (a : ℕ) → worth_at v.worths a ≤ℤ worth_at (level_by ms v l p).worths a
  level_grows v l p fits long a =
      let r = raised_up v.worths l l.back (back_worth l (worth_at v.worths l.header) p) a (λ b is. let i = (back_behind l fits b is).1 in let e = fits.range.1 in omega (arith, i, e, long)) in
      let s = relaxed_grows (slice_set v.weights l.header (weight_of l p)) (raised v.worths l l.back (back_worth l (worth_at v.worths l.header) p)) n (body_steps l ms) a
      (let e = raised-long v.worths l l.back (back_worth l (worth_at v.worths l.header) p) in omega (arith, e, long)) (each_between (IsStep n) l.body l.rest ms (steps_are n ms steps)) in
      omega (arith, ints)

  levels_grow : (v : Level) (ls : List Loop) (gs : List ℤ) → AreLoops n ms ls → n < length v.worths → (a : ℕ) → worth_at v.worths a ≤ℤ worth_at (levels low ms v ls gs).worths a
  levels_grow v [] gs loops long a = omega (arith, ints)
  levels_grow v (l ∷ ls) [] loops long a = omega (arith, ints)
  levels_grow v (l ∷ ls) (g ∷ gs) loops long a =
      let e = level_long v l (level_pair low ms v.worths l g) in
      let x = level_grows v l (level_pair low ms v.worths l g) loops.0 long a in
      let y = levels_grow (level_by ms v l (level_pair low ms v.worths l g)) ls gs loops.2 (omega (arith, e, long)) a in omega (arith, ints)

  levels_long : (v : Level) (ls : List Loop) (gs : List ℤ) → length (levels low ms v ls gs).worths ≡ length v.worths
  levels_long v [] gs = refl
  levels_long v (l ∷ ls) [] = refl
  levels_long v (l ∷ ls) (g ∷ gs) = levels_long (level_by ms v l (level_pair low ms v.worths l g)) ls gs ∙ level_long v l (level_pair low ms v.worths l g)

  levels_block : (weights : List ℤ) (v : Level) (ls : List Loop) → AreLoops n ms ls → n < length v.worths → AllAbove low n v.worths → AreBlocked ms ls (level_pairs low ms v ls (gains low ms weights ls))
  levels_block weights v [] loops long above = tt
  levels_block weights v (l ∷ ls) loops long above =
      let r = loops.0.range in let r0 = r.0 in let r1 = r.1 in (
        blocked_one l (weighed low ms weights ls) v.worths loops.0 (above l.header (omega (arith, r0, r1))),
        levels_block weights (level_by ms v l (level_pair low ms v.worths l (gain low (weighed low ms weights ls) l ms))) ls loops.2
            (let e = level_long v l (level_pair low ms v.worths l (gain low (weighed low ms weights ls) l ms)) in omega (arith, e, long))
            (λ a lt. let x = above a lt in let y = level_grows v l (level_pair low ms v.worths l (gain low (weighed low ms weights ls) l ms)) loops.0 long a in omega (arith, ints)),
      )

  -- ---- a function

  pub settled_long : (v : Level) (ls : List Loop) → length (settled low ms v ls).worths ≡ length v.worths
  settled_long v ls = levels_long (ground low ms v ls) ls (gains low ms v.weights ls) ∙ relaxed-long (weighed low ms v.weights ls) v.worths ms

  pub settled_grows : (v : Level) (ls : List Loop) → AreLoops n ms ls → n < length v.worths → (a : ℕ) → worth_at v.worths a ≤ℤ worth_at (settled low ms v ls).worths a
  settled_grows v ls loops long a =
      let x = relaxed_grows (weighed low ms v.weights ls) v.worths n ms a long (steps_are n ms steps) in
      let e = relaxed-long (weighed low ms v.weights ls) v.worths ms in
      let y = levels_grow (ground low ms v ls) ls (gains low ms v.weights ls) loops (omega (arith, e, long)) a in omega (arith, ints)

  pub settled_blocks : (v : Level) (ls : List Loop) → AreLoops n ms ls → n < length v.worths → AllAbove low n v.worths → AreBlocked ms ls (settled_pairs low ms v ls)
  settled_blocks v ls loops long above =
      let e = relaxed-long (weighed low ms v.weights ls) v.worths ms in
      levels_block v.weights (ground low ms v ls) ls loops (omega (arith, e, long))
      (λ a lt. let x = above a lt in let y = relaxed_grows (weighed low ms v.weights ls) v.worths n ms a long (steps_are n ms steps) in omega (arith, ints))
