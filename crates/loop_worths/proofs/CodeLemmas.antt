-- What the loops of the code keep: walks from the end of a list, and what is left to settle.
use Rattle.std.proofs.Common.{◌≡◌, ℕ, zero, suc, ◌+◌, ◌-◌, ◌≤◌, ◌<◌, ℤ, pos, arith, refl, sym, ap, ◌∙◌, subst, List, [], ◌∷◌, ◌++◌, length, drop, get_or, set, Option, Some, None, IfSome, All, append_assoc, append-nil}
use Rattle.std.specs.Prelude.{slice_set}
use Rattle.std.proofs.Math.Seq.{drop-cons}
use Rattle.std.proofs.Math.ListN.{length-set}
use Rattle.std.proofs.lemmas.List.{drop_all, drop-set}
use Rattle.std.proofs.lemmas.List.Elements.{All-cons, All-nil}
use Rattle.loop_walks.specs.declared.step.Step.{Step}
use Rattle.loop_walks.specs.declared.step.Loop.{Loop}
use Rattle.loop_walks.specs.declared.step.Pair.{Pair}
use Rattle.loop_walks.specs.Walks.{larger, taken, relaxed, head_steps, body_steps, range_steps}
use Rattle.loop_walks.specs.Turns.{way_at, turn_taken, turned, turn_ways, gain_by, gain}
use Rattle.loop_walks.specs.Multipliers.{first_weight}
use Rattle.loop_walks.specs.Levels.{weighed, gains, onward_by, onward, Level, level_of, level_pair, level_by, level_in, levels, level_pairs, ground, settled, settled_pairs}
use Rattle.loop_walks.specs.Rows.{IsStep, AreSteps, Each, IsLoopOf, IsBack, AreLoops}
use Rattle.loop_worths.specs.Rings.{IsWalkStep, IsTurnStep, IsBackIn, IsRing}
use Rattle.loop_worths.specs.Sizes.{IsSmall, IsSmallTurn, AreSmallTurns, IsSmallLevel, AreSmallLevels, StaysSmall}
use Rattle.loop_worths.specs.Outcomes.{AreLevels}
use Rattle.loop_walks.proofs.EachLemmas.{steps_are, between_steps, each_between, each_map, each_both, each_beside}

-- a step and a loop for places that aren't there

abbrev pub no_step : Step
no_step = record { at = 0; on = 0; price = pos 0 }

abbrev pub no_loop : Loop
no_loop = record { header = 0; end = 0; back = None; price = pos 0; head = 0; body = 0; rest = 0; min = 0; max = 0 }

-- one more element from the end
pub back_step : {X : Type 0} (xs : List X) (k : ℕ) (d : X) → k < length xs → drop (length xs - (k + 1)) xs ≡ get_or xs (length xs - 1 - k) d ∷ drop (length xs - k) xs
back_step xs k d h =
    let e : length xs - (k + 1) ≡ length xs - 1 - k = omega arith in
    let f : suc (length xs - 1 - k) ≡ length xs - k = omega arith in
    ap (λ n. drop n xs) e ∙ (drop-cons xs (length xs - 1 - k) d (omega arith) ∙ ap (λ n. get_or xs (length xs - 1 - k) d ∷ drop n xs) f)

pub walk_on : (weights vs ws ws' : List ℤ) (ms : List Step) (k : ℕ) (d : Step) → k < length ms → ws ≡ relaxed weights vs (drop (length ms - k) ms) → ws' ≡ taken weights ws (get_or ms (length ms - 1 - k) d) → ws' ≡ relaxed weights vs (drop (length ms - (k + 1)) ms)
walk_on weights vs ws ws' ms k d h e f = f ∙ (ap (λ (x : List ℤ). taken weights x (get_or ms (length ms - 1 - k) d)) e ∙ sym (ap (λ ks. relaxed weights vs ks) (back_step ms k d h)))

pub turn_on : (low : ℤ) (weights : List ℤ) (first : ℕ) (us ts ts' : List (Option ℤ)) (ms : List Step) (k : ℕ) (d : Step) → k < length ms → ts ≡ turned low weights first us (drop (length ms - k) ms) → ts' ≡ turn_taken low weights first ts (get_or ms (length ms - 1 - k) d) → ts' ≡ turned low weights first us (drop (length ms - (k + 1)) ms)
turn_on low weights first us ts ts' ms k d h e f = f ∙ (ap (λ (x : List (Option ℤ)). turn_taken low weights first x (get_or ms (length ms - 1 - k) d)) e ∙ sym (ap (λ ks. turned low weights first us ks) (back_step ms k d h)))

pub onward_on : (low : ℤ) (ws : List ℤ) (ms : List Step) (k : ℕ) (d : Step) (best best' : ℤ) → k < length ms → best ≡ onward low ws (drop (length ms - k) ms) → best' ≡ larger (onward_by ws (get_or ms (length ms - 1 - k) d)) best → best' ≡ onward low ws (drop (length ms - (k + 1)) ms)
onward_on low ws ms k d best best' h e f = f ∙ (ap (λ (x : ℤ). larger (onward_by ws (get_or ms (length ms - 1 - k) d)) x) e ∙ sym (ap (λ ks. onward low ws ks) (back_step ms k d h)))

-- the way of a turn is small, with all ways
pub small_way : (low : ℤ) (weights : List ℤ) (l : Loop) (ms : List Step) (ts : List (Option ℤ)) → ts ≡ turn_ways low weights l ms → IsSmallTurn low weights ms l → IfSome (way_at ts 0) IsSmall
small_way low weights l ms ts e s = subst (λ (x : List (Option ℤ)). IfSome (way_at x 0) IsSmall) (sym e) (s.turns.ways 0 0)

-- what a turn gains, low and low', price' and the loop's price being one number in two forms
pub gain_from : (weights : List ℤ) (l : Loop) (ms : List Step) (low low' price' r r' : ℤ) (way : Option ℤ) → r' ≡ r → r ≡ gain_by low' price' way → low' ≡ low → price' ≡ l.price → way ≡ way_at (turn_ways low' weights l ms) 0 → r' ≡ gain low weights l ms
gain_from weights l ms low low' price' r r' way e f same price is =
    e ∙ (f ∙ (ap (λ (o : Option ℤ). gain_by low' price' o) is ∙ (ap (λ (z : ℤ). gain_by low' z (way_at (turn_ways low' weights l ms) 0)) price ∙ ap (λ (z : ℤ). gain z weights l ms) same)))

-- the last k loops are weighed
pub record Weighs (low : ℤ) (ms : List Step) (weights ws gs : List ℤ) (ls : List Loop) (k : ℕ) : Type 0 where
  pub weights_are : ws ≡ weighed low ms weights (drop (length ls - k) ls)
  pub gains_are : drop (length ls - k) gs ≡ gains low ms weights (drop (length ls - k) ls)
  pub long : length gs ≡ length ls
  pub weights_long : length ws ≡ length weights

pub weigh_on : (low : ℤ) (ms : List Step) (weights ws ws' gs gs' : List ℤ) (ls : List Loop) (k : ℕ) (d : Loop) (g : ℤ) → k < length ls → Weighs low ms weights ws gs ls k →
    g ≡ gain low ws (get_or ls (length ls - 1 - k) d) ms → ws' ≡ slice_set ws (get_or ls (length ls - 1 - k) d).header (first_weight low (get_or ls (length ls - 1 - k) d) g) → gs' ≡ set gs (length ls - 1 - k) g → Weighs low ms weights ws' gs' ls (k + 1)
weigh_on low ms weights ws ws' gs gs' ls k d g h w is ew eg = record {
  weights_are = ew ∙ (ap (λ (z : ℤ). slice_set ws (get_or ls (length ls - 1 - k) d).header (first_weight low (get_or ls (length ls - 1 - k) d) z)) is ∙ (ap (λ (x : List ℤ). slice_set x (get_or ls (length ls - 1 - k) d).header (first_weight low (get_or ls (length ls - 1 - k) d) (gain low x (get_or ls (length ls - 1 - k) d) ms))) w.weights_are ∙ sym (ap (λ ks. weighed low ms weights ks) (back_step ls k d h))));
  gains_are =
      let i : length ls - 1 - k < length gs = let e = w.long in omega (arith, e, h) in
      let n : length ls - 1 - k + 1 ≡ length ls - k = omega arith in
      let m : length ls - (k + 1) ≡ length ls - 1 - k = omega arith in
      ap (λ (x : List ℤ). drop (length ls - (k + 1)) x) eg ∙ (ap (λ j. drop j (set gs (length ls - 1 - k) g)) m ∙ (drop-set gs (length ls - 1 - k) g i
      ∙ (ap (λ j. g ∷ drop j gs) n ∙ (ap (λ (x : List ℤ). g ∷ x) w.gains_are ∙ (ap (λ (z : ℤ). z ∷ gains low ms weights (drop (length ls - k) ls)) (is ∙ ap (λ (x : List ℤ). gain low x (get_or ls (length ls - 1 - k) d) ms) w.weights_are)
      ∙ sym (ap (λ ks. gains low ms weights ks) (back_step ls k d h)))))));
  long = ap length eg ∙ (length-set gs (length ls - 1 - k) g ∙ w.long);
  weights_long = ap length ew ∙ (length-set ws (get_or ls (length ls - 1 - k) d).header (first_weight low (get_or ls (length ls - 1 - k) d) g) ∙ w.weights_long);
}

pub gains-long : (low : ℤ) (ms : List Step) (weights : List ℤ) (ls : List Loop) → length (gains low ms weights ls) ≡ length ls
gains-long low ms weights [] = refl
gains-long low ms weights (l ∷ ls) = ap suc (gains-long low ms weights ls)

pub small_turn_at : (low : ℤ) (ms : List Step) (weights : List ℤ) (ls : List Loop) (i : ℕ) (d : Loop) → i < length ls → AreSmallTurns low ms weights ls → IsSmallTurn low (weighed low ms weights (drop (suc i) ls)) ms (get_or ls i d)
small_turn_at low ms weights [] i d h s = absurd (omega arith)
small_turn_at low ms weights (l ∷ ls) zero d h s = s.0
small_turn_at low ms weights (l ∷ ls) (suc i) d h s = small_turn_at low ms weights ls i d (omega (arith, h)) s.1

-- the turn numbers of the loop that is next
pub small_next : (low : ℤ) (ms : List Step) (weights ws gs : List ℤ) (ls : List Loop) (k : ℕ) (d : Loop) → k < length ls → AreSmallTurns low ms weights ls → Weighs low ms weights ws gs ls k → IsSmallTurn low ws ms (get_or ls (length ls - 1 - k) d)
small_next low ms weights ws gs ls k d h s w =
    let n : suc (length ls - 1 - k) ≡ length ls - k = omega arith in
    subst (λ x. IsSmallTurn low x ms (get_or ls (length ls - 1 - k) d)) (sym w.weights_are)
    (subst (λ j. IsSmallTurn low (weighed low ms weights (drop j ls)) ms (get_or ls (length ls - 1 - k) d)) n
    (small_turn_at low ms weights ls (length ls - 1 - k) d (omega (arith, h)) s))

next : (i : ℕ) → suc i ≡ i + 1
next i = omega arith

-- what is left to settle
pub record Settles (low : ℤ) (ms : List Step) (v : Level) (gs : List ℤ) (ps : List Pair) (ls : List Loop) (i : ℕ) (whole : Level) (all : List Pair) : Type 0 where
  pub level : levels low ms v (drop i ls) (drop i gs) ≡ whole
  pub pairs : ps ++ level_pairs low ms v (drop i ls) (drop i gs) ≡ all
  pub small : AreSmallLevels low ms v (drop i ls) (drop i gs)

pub settle_on : (low : ℤ) (ms : List Step) (v w : Level) (gs : List ℤ) (ps qs : List Pair) (ls : List Loop) (i : ℕ) (d : Loop) (p : Pair) (whole : Level) (all : List Pair) → i < length ls → length gs ≡ length ls → Settles low ms v gs ps ls i whole all →
    p ≡ level_pair low ms v.worths (get_or ls i d) (get_or gs i (pos 0)) → w ≡ level_by ms v (get_or ls i d) p → qs ≡ ps ++ p ∷ [] → Settles low ms w gs qs ls (i + 1) whole all
settle_on low ms v w gs ps qs ls i d p whole all h long s is ew eq =
    let a : drop i ls ≡ get_or ls i d ∷ drop (i + 1) ls = drop-cons ls i d h ∙ ap (λ j. get_or ls i d ∷ drop j ls) (next i) in
    let b : drop i gs ≡ get_or gs i (pos 0) ∷ drop (i + 1) gs = drop-cons gs i (pos 0) (omega (arith, h, long)) ∙ ap (λ j. get_or gs i (pos 0) ∷ drop j gs) (next i) in
    let e : w ≡ level_in low ms v (get_or ls i d) (get_or gs i (pos 0)) = ew ∙ ap (λ x. level_by ms v (get_or ls i d) x) is in
    record {
      level = ap (λ x. levels low ms x (drop (i + 1) ls) (drop (i + 1) gs)) e ∙ (sym (ap (λ ks. levels low ms v ks (get_or gs i (pos 0) ∷ drop (i + 1) gs)) a) ∙ (sym (ap (λ hs. levels low ms v (drop i ls) hs) b) ∙ s.level));
      pairs = ap (λ xs. xs ++ level_pairs low ms w (drop (i + 1) ls) (drop (i + 1) gs)) eq ∙ (append_assoc ps (p ∷ []) (level_pairs low ms w (drop (i + 1) ls) (drop (i + 1) gs))
          ∙ (ap (λ x. ps ++ p ∷ level_pairs low ms x (drop (i + 1) ls) (drop (i + 1) gs)) e ∙ (ap (λ x. ps ++ x ∷ level_pairs low ms (level_in low ms v (get_or ls i d) (get_or gs i (pos 0))) (drop (i + 1) ls) (drop (i + 1) gs)) is
          ∙ (sym (ap (λ ks. ps ++ level_pairs low ms v ks (get_or gs i (pos 0) ∷ drop (i + 1) gs)) a) ∙ (sym (ap (λ hs. ps ++ level_pairs low ms v (drop i ls) hs) b) ∙ s.pairs)))));
      small = subst (λ x. AreSmallLevels low ms x (drop (i + 1) ls) (drop (i + 1) gs)) (sym e)
          (subst (λ ks. AreSmallLevels low ms v ks (get_or gs i (pos 0) ∷ drop (i + 1) gs)) a (subst (λ hs. AreSmallLevels low ms v (drop i ls) hs) b s.small)).2;
    }

-- the numbers of the loop that is next
pub small_level : (low : ℤ) (ms : List Step) (v : Level) (gs : List ℤ) (ps : List Pair) (ls : List Loop) (i : ℕ) (d : Loop) (whole : Level) (all : List Pair) → i < length ls → length gs ≡ length ls → Settles low ms v gs ps ls i whole all →
    IsSmall (get_or gs i (pos 0)) × IsSmallLevel ms v (get_or ls i d) (level_pair low ms v.worths (get_or ls i d) (get_or gs i (pos 0)))
small_level low ms v gs ps ls i d whole all h long s =
    let a : drop i ls ≡ get_or ls i d ∷ drop (i + 1) ls = drop-cons ls i d h ∙ ap (λ j. get_or ls i d ∷ drop j ls) (next i) in
    let b : drop i gs ≡ get_or gs i (pos 0) ∷ drop (i + 1) gs = drop-cons gs i (pos 0) (omega (arith, h, long)) ∙ ap (λ j. get_or gs i (pos 0) ∷ drop j gs) (next i) in
    let k = subst (λ ks. AreSmallLevels low ms v ks (get_or gs i (pos 0) ∷ drop (i + 1) gs)) a (subst (λ hs. AreSmallLevels low ms v (drop i ls) hs) b s.small) in
    (k.0, k.1)

-- steps and loops that fit are what the code asks for

all_of : (P : Step → Type 0) (ms : List Step) → Each P ms → All P ms
all_of P [] h = All-nil P
all_of P (m ∷ ms) h = All-cons P m ms h.0 (all_of P ms h.1)

pub walk_steps : (n long : ℕ) (ms : List Step) → n < long → AreSteps n ms → All (IsWalkStep long) ms
walk_steps n long ms h s = all_of (IsWalkStep long) ms (each_map (IsStep n) (IsWalkStep long) ms (λ m k. (k.0, let k1 = k.1 in omega (arith, h, k1))) (steps_are n ms s))

-- loops that fit are what the code asks for
ring_of : (n long : ℕ) (ms : List Step) (l : Loop) → n < long → AreSteps n ms → IsLoopOf n ms l → IsRing long ms l
ring_of n long ms l h steps fits = record {
  header = (let a = fits.range.0 in let b = fits.range.1 in omega (arith, a, b, h), fits.range.0);
  order = fits.order;
  back = by_back l.back fits.back;
  turn = all_of (IsTurnStep l.header (l.end - l.header) long) (range_steps l ms) (each_beside (IsTurnStep l.header (l.end - l.header) long) l.head l.body l.rest ms fits.order.0 fits.order.1
      (each_both (λ m. m.at ≡ l.header) (IsStep n) (IsTurnStep l.header (l.end - l.header) long) (head_steps l ms) at_header fits.heads (each_between (IsStep n) l.head l.body ms (steps_are n ms steps)))
      (each_both (λ m. (l.header < m.at) × (m.at < l.end)) (IsStep n) (IsTurnStep l.header (l.end - l.header) long) (body_steps l ms) in_body fits.body (each_between (IsStep n) l.body l.rest ms (steps_are n ms steps))));
  heads = walk_steps n long (head_steps l ms) h (between_steps n l.head l.body ms steps);
  body = walk_steps n long (body_steps l ms) h (between_steps n l.body l.rest ms steps);
}
  where
    by_back : (o : Option ℕ) → IsBack l ms o → IfSome o (IsBackIn l long)
    by_back None k = tt
    by_back (Some b) k = let k1 = k.1 in let e = fits.range.1 in (k.0, k.1, omega (arith, k1, e, h))

    at_header : (m : Step) → m.at ≡ l.header → IsStep n m → IsTurnStep l.header (l.end - l.header) long m
    at_header m e i = let r = fits.range.0 in let r1 = fits.range.1 in record { from = omega (arith, e); within = omega (arith, e, r); on = i.0; weight = omega (arith, e, r, r1, h) }

    in_body : (m : Step) → (l.header < m.at) × (m.at < l.end) → IsStep n m → IsTurnStep l.header (l.end - l.header) long m
    in_body m e i = let e0 = e.0 in let e1 = e.1 in let r1 = fits.range.1 in record { from = omega (arith, e0); within = omega (arith, e0, e1); on = i.0; weight = omega (arith, e1, r1, h) }

pub rings : (n long : ℕ) (ms : List Step) (ls : List Loop) → n < long → AreSteps n ms → AreLoops n ms ls → All (IsRing long ms) ls
rings n long ms [] h steps loops = All-nil (IsRing long ms)
rings n long ms (l ∷ ls) h steps loops = All-cons (IsRing long ms) l ls (ring_of n long ms l h steps loops.0) (rings n long ms ls h steps loops.2)

-- how the loops of the code begin and end

pub weighs_start : (low : ℤ) (ms : List Step) (weights gs : List ℤ) (ls : List Loop) → length gs ≡ length ls → Weighs low ms weights weights gs ls 0
weighs_start low ms weights gs ls long =
    let a : drop (length ls - 0) ls ≡ [] = drop_all (length ls - 0) ls (omega arith) in
    let b : drop (length ls - 0) gs ≡ [] = drop_all (length ls - 0) gs (omega (arith, long)) in
    record {
      weights_are = sym (ap (λ ks. weighed low ms weights ks) a);
      gains_are = b ∙ sym (ap (λ ks. gains low ms weights ks) a);
      long = long;
      weights_long = refl;
    }

pub weighs_end : (low : ℤ) (ms : List Step) (weights ws gs : List ℤ) (ls : List Loop) (k : ℕ) → length ls ≤ k → Weighs low ms weights ws gs ls k → (gs ≡ gains low ms weights ls) × (ws ≡ weighed low ms weights ls)
weighs_end low ms weights ws gs ls k h w =
    let e : length ls - k ≡ 0 = omega arith in (
      ap (λ j. drop j gs) (sym e) ∙ (w.gains_are ∙ ap (λ j. gains low ms weights (drop j ls)) e),
      w.weights_are ∙ ap (λ j. weighed low ms weights (drop j ls)) e,
    )

pub settles_start : (low : ℤ) (ms : List Step) (v : Level) (gs : List ℤ) (ps : List Pair) (ls : List Loop) → ps ≡ [] → AreSmallLevels low ms v ls gs → Settles low ms v gs ps ls 0 (levels low ms v ls gs) (level_pairs low ms v ls gs)
settles_start low ms v gs ps ls e small = record { level = refl; pairs = ap (λ xs. xs ++ level_pairs low ms v ls gs) e; small = small }

pub settles_end : (low : ℤ) (ms : List Step) (v : Level) (gs : List ℤ) (ps : List Pair) (ls : List Loop) (i : ℕ) (whole : Level) (all : List Pair) → length ls ≤ i → Settles low ms v gs ps ls i whole all → (v ≡ whole) × (ps ≡ all)
settles_end low ms v gs ps ls i whole all h s =
    let a : drop i ls ≡ [] = drop_all i ls h in (
      sym (ap (λ ks. levels low ms v ks (drop i gs)) a) ∙ s.level,
      sym (append-nil ps) ∙ (sym (ap (λ ks. ps ++ level_pairs low ms v ks (drop i gs)) a) ∙ s.pairs),
    )

-- the walks of a function, one after the other, settle it

ground_by : (low : ℤ) (ms : List Step) (v : Level) (worths weights : List ℤ) (ls : List Loop) → weights ≡ weighed low ms v.weights ls → worths ≡ relaxed weights v.worths ms → level_of worths weights ≡ ground low ms v ls
ground_by low ms v worths weights ls e f = ap (λ (x : List ℤ). level_of x weights) f ∙ ap (λ (x : List ℤ). level_of (relaxed x v.worths ms) x) e

pub worths_by : (low : ℤ) (ms : List Step) (v : Level) (worths weights : List ℤ) (ls : List Loop) → weights ≡ (ground low ms v ls).weights → worths ≡ (ground low ms v ls).worths → worths ≡ relaxed weights v.worths ms
worths_by low ms v worths weights ls e f = f ∙ sym (ap (λ (x : List ℤ). relaxed x v.worths ms) e)

-- low and low' being one number in two forms
pub settled_by : (low low' : ℤ) (ms : List Step) (v : Level) (worths weights gs : List ℤ) (ls : List Loop) (w : Level) (ps : List Pair) → low' ≡ low → weights ≡ weighed low' ms v.weights ls → worths ≡ relaxed weights v.worths ms → gs ≡ gains low' ms v.weights ls →
    AreLevels low' ms (level_of worths weights) ls gs w ps → (w ≡ settled low ms v ls) × (ps ≡ settled_pairs low ms v ls)
settled_by low low' ms v worths weights gs ls w ps same e f g a =
    let k = ground_by low' ms v worths weights ls e f in (
      a.level ∙ (ap (λ x. levels low' ms x ls gs) k ∙ (ap (λ hs. levels low' ms (ground low' ms v ls) ls hs) g ∙ ap (λ (z : ℤ). settled z ms v ls) same)),
      a.pairs ∙ (ap (λ x. level_pairs low' ms x ls gs) k ∙ (ap (λ hs. level_pairs low' ms (ground low' ms v ls) ls hs) g ∙ ap (λ (z : ℤ). settled_pairs z ms v ls) same)),
    )

pub small_levels : (low : ℤ) (ms : List Step) (v : Level) (worths weights gs : List ℤ) (ls : List Loop) → weights ≡ weighed low ms v.weights ls → worths ≡ relaxed weights v.worths ms → gs ≡ gains low ms v.weights ls →
    StaysSmall low ms v ls → AreSmallLevels low ms (level_of worths weights) ls gs
small_levels low ms v worths weights gs ls e f g s = subst (λ x. AreSmallLevels low ms x ls gs) (sym (ground_by low ms v worths weights ls e f)) (subst (λ hs. AreSmallLevels low ms (ground low ms v ls) ls hs) (sym g) s.levels_are)
