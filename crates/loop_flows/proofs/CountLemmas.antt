-- Loops keep their bounds: a loop whose header is left has an open weight, and so it turns along open ways or needn't turn.
use Rattle.std.proofs.Common.{◌≡◌, ◌≢◌, ℕ, zero, suc, ◌+◌, ◌-◌, ◌*◌, ◌≤◌, ◌<◌, ℤ, pos, ◌-ℤ◌, ◌≤ℤ◌, ◌<ℤ◌, arith, refl, sym, ap, ◌∙◌, subst, List, [], ◌∷◌, length, inl, inr, ◌⊎◌, Bool, true, false, cond, Option, Some, None}
use Rattle.std.specs.Prelude.{◌==◌, nat_le, min, unsigned_abs}
use Rattle.std.specs.Int.RustNames.{int_lt}
use Rattle.std.proofs.lemmas.Grind.{get_or-set_at}
use Rattle.std.proofs.lemmas.Bool.Decides.{eqb_tells, nat_tests}
use Rattle.std.proofs.Math.Nat.{suc-mul, mul-le-mul_right}
use Rattle.std.proofs.Math.ListN.{replicate}
use Rattle.loop_walks.specs.declared.step.Step.{Step}
use Rattle.loop_walks.specs.declared.step.Loop.{Loop}
use Rattle.loop_walks.specs.declared.step.Pair.{Pair}
use Rattle.loop_walks.specs.Walks.{worth_at, head_steps, body_steps, range_steps}
use Rattle.loop_walks.specs.Turns.{way_at, turned, with_back as start_back, turn_start, turn_ways, gain}
use Rattle.loop_walks.specs.Multipliers.{first_weight, whole, over, least_of, pair_of}
use Rattle.loop_walks.specs.Levels.{weighed, gains, onward, Level, level_pair, level_by, level_pairs}
use Rattle.loop_walks.specs.Rows.{AreSteps, Each, IsBack, IsLoopOf, HeadersAbove, AreLoops}
use Rattle.loop_walks.proofs.EachLemmas.{each_map, each_beside}
use Rattle.loop_walks.proofs.TurnLemmas.{IsInRange, turn_at, turn_other, turned-long, turn_start-long}
use Rattle.loop_walks.proofs.LevelLemmas.{set_other, weighed-long, From, from_above}
use Rattle.loop_flows.specs.Passes.{departed}
use Rattle.loop_flows.specs.Flows.{Turning, backs_to, HeadersBehind, AreTurned}
use Rattle.loop_flows.specs.Turns.{further_turns, turning_of, with_way, with_back, turnings}
use Rattle.loop_flows.specs.Opens.{TurnsOpenly, TurnAllOpenly, EachMade}
use Rattle.loop_flows.proofs.TurnLemmas.{turnings_behind}
use Rattle.loop_flows.proofs.OpenLemmas.{departed_made, is_loss, is_no_loss, weight_turns}
use Rattle.loop_flows.specs.Counts.{KeepsBounds, IsCounted, AreCounted, AreBounded}

-- ---- without a jump back there is no way

ways_none : (low : ℤ) (weights : List ℤ) (first : ℕ) (ts : List (Option ℤ)) (ms : List Step) → Each (IsInRange first (length ts)) ms → ((i : ℕ) → way_at ts i ≡ None) → (i : ℕ) → way_at (turned low weights first ts ms) i ≡ None
ways_none low weights first ts [] r none i = none i
ways_none low weights first ts (m ∷ ms) r none i = elim (eqb_tells i (m.at - first)) [
  | inl e ↦
      let x = ways_none low weights first ts ms r.1 none i in
      let y = ways_none low weights first ts ms r.1 none (m.on - first) in
      turn_at low weights first (turned low weights first ts ms) m i (let l = turned-long low weights first ts ms in let r1 = r.0.1 in omega (arith, l, r1)) e.1 ∙ rw (x, y) refl
  | inr e ↦ turn_other low weights first (turned low weights first ts ms) m i e.1 ∙ ways_none low weights first ts ms r.1 none i
]

none_at : (k i : ℕ) → way_at (replicate k None) i ≡ None
none_at zero zero = refl
none_at zero (suc i) = refl
none_at (suc k) zero = refl
none_at (suc k) (suc i) = none_at k i

no_way : (low : ℤ) (weights : List ℤ) (n : ℕ) (ms : List Step) (l : Loop) → IsLoopOf n ms l → l.back ≡ None → way_at (turn_ways low weights l ms) 0 ≡ None
no_way low weights n ms l fits is = ways_none low weights l.header (turn_start l) (range_steps l ms) (subst (λ k. Each (IsInRange l.header k) (range_steps l ms)) (sym (turn_start-long l)) range_is)
    (λ i. ap (λ o. way_at (start_back o l.header (replicate (l.end - l.header) None)) i) is ∙ none_at (l.end - l.header) i) 0
  where
    range_is : Each (IsInRange l.header (l.end - l.header)) (range_steps l ms)
    range_is =
        let r0 = fits.range.0 in
        each_beside (IsInRange l.header (l.end - l.header)) l.head l.body l.rest ms fits.order.0 fits.order.1
        (each_map (λ m. m.at ≡ l.header) (IsInRange l.header (l.end - l.header)) (head_steps l ms) (λ m e. (omega (arith, e), omega (arith, e, r0))) fits.heads)
        (each_map (λ m. (l.header < m.at) × (m.at < l.end)) (IsInRange l.header (l.end - l.header)) (body_steps l ms) (λ m h. (omega (arith, h.0), omega (arith, h.0, h.1))) fits.body)

-- where no step begins, nothing leaves
pub none_leave : (ms : List Step) (us : List ℕ) (a : ℕ) → Each (λ m. m.at ≢ a) ms → departed ms us a ≡ 0
none_leave [] us a h = refl
none_leave (m ∷ ms) [] a h = refl
none_leave (m ∷ ms) (u ∷ us) a h = let r = none_leave ms us a h.1 in elim (eqb_tells m.at a) [ inl e ↦ absurd (h.0 e.1) | inr e ↦ rw e.0 (omega (arith, r)) ]

-- no turning is of that header
pub backs_none : (ts : List Turning) (bs : List ℕ) (a : ℕ) → HeadersBehind a ts → backs_to ts bs a ≡ 0
backs_none [] bs a h = refl
backs_none (t ∷ ts) [] a h = refl
backs_none (t ∷ ts) (b ∷ bs) a h =
    let r = backs_none ts bs a h.1 in let h0 = h.0 in
    elim (eqb_tells t.header a) [ inl e ↦ let e1 = e.1 in absurd (omega (arith, h0, e1)) | inr e ↦ rw e.0 (omega (arith, r)) ]

-- all turns of a loop that may turn
all_turns : (m u : ℕ) → 0 < m → u + (m - 1) * u ≡ m * u
all_turns zero u h = absurd (omega (arith, h))
all_turns (suc m) u h = let e = suc-mul m u in let z : suc m - 1 ≡ m = omega arith in rw z (omega (arith, e))

once : (m u : ℕ) → m ≤ 1 → m * u ≤ u
once zero u h = omega arith
once (suc zero) u h = let e = suc-mul 0 u in omega (arith, e)
once (suc (suc m)) u h = absurd (omega (arith, h))

at_least_once : (m u : ℕ) → 0 < m → u ≤ m * u
at_least_once zero u h = absurd (omega (arith, h))
at_least_once (suc m) u h = let e = suc-mul m u in omega (arith, e)

pub two_at_least : (m : ℕ) → nat_le m 1 ≡ false → 2 ≤ m
two_at_least m h = grind (arith, nat_tests)

eq_of : (a b : ℕ) → (a == b) ≡ true → a ≡ b
eq_of a b h = elim (eqb_tells a b) [ inl k ↦ k.1 | inr k ↦ differ (a == b) h k.0 ]
  where
    differ : (t : Bool) → t ≡ true → t ≡ false → a ≡ b
    differ true e f = cc
    differ false e f = cc

-- why a loop has no turning
abbrev HasNoTurn : ℤ → List ℤ → List Step → Loop → Type 0
HasNoTurn low weights ms l = (way_at (turn_ways low weights l ms) 0 ≡ None) ⊎ Each (λ m. m.at ≢ l.header) ms

module _ (least low : ℤ) (calls : Step → Type 0) (n : ℕ) (ms : List Step) (steps : AreSteps n ms) (weights gw : List ℤ) (long : n < length weights) (above : low <ℤ least) (nothing : least ≤ℤ pos 0) where
  -- a loop that starts and turns again as it should, or has no turn
  bounds_one : (l : Loop) (ws : List ℤ) (e h : ℤ) (u j : ℕ) → TurnsOpenly least calls low ws ms l → least ≤ℤ first_weight low l (gain low ws l ms) → 0 < l.max → l.min ≤ l.max →
      (j ≡ further_turns l (gain low ws l ms) * u) ⊎ ((j ≡ 0) × (way_at (turn_ways low ws l ms) 0 ≡ None)) → KeepsBounds l (pair_of l (gain low ws l ms) e h) u j
  bounds_one l ws e h u j turns wide positive fits how = by_gain (int_lt (gain low ws l ms) (pos 0)) refl how
    where
      has_way : (pos 0 ≤ℤ gain low ws l ms) ⊎ (2 ≤ l.min) → way_at (turn_ways low ws l ms) 0 ≡ None → ⊥
      has_way why none = let t = weight_turns least calls low ws ms l above nothing turns wide why in some_none (sym t.is ∙ none)
        where
          some_none : {x : ℤ} → Some x ≡ None → ⊥
          some_none e = cc

      gaining : pos 0 ≤ℤ gain low ws l ms → (j ≡ (l.max - 1) * u) ⊎ ((j ≡ 0) × (way_at (turn_ways low ws l ms) 0 ≡ None)) → KeepsBounds l (record { least = pos 0; most = gain low ws l ms }) u j
      gaining p how = elim how [
        | inl e ↦
            let a = all_turns l.max u positive in
            let b = mul-le-mul_right u fits in
            record { least = omega (arith, e, a, b); most = omega (arith, e, a); no_least = inl refl; exact = inr (omega (arith, e, a)) }
        | inr e ↦ absurd (has_way (inl p) e.1)
      ]

      -- a loop that loses needn't turn again, or turns just as often as it has to
      losing : gain low ws l ms <ℤ pos 0 → (t : Bool) → nat_le l.min 1 ≡ t → (n : ℕ) → (j ≡ cond t 0 (l.min - 1) * u) ⊎ ((j ≡ 0) × (way_at (turn_ways low ws l ms) 0 ≡ None)) → KeepsBounds l (record { least = pos (cond t 0 n); most = pos 0 }) u j
      losing neg true t n how =
          let one : l.min ≤ 1 = grind (arith, nat_tests) in
          let z : j ≡ 0 = elim how [ inl e ↦ omega (arith, e) | inr e ↦ e.0 ] in
          let a = once l.min u one in
          let b = at_least_once l.max u positive in
          record { least = omega (arith, z, a); most = omega (arith, z, b); no_least = inl refl; exact = inl refl }
      losing neg false t n how =
          let two = two_at_least l.min t in
          elim how [
            | inl e ↦
                let a = all_turns l.min u (omega (arith, two)) in
                let b = mul-le-mul_right u fits in
                record { least = omega (arith, e, a); most = omega (arith, e, a, b); no_least = inr (omega (arith, e, a)); exact = inl refl }
            | inr e ↦ absurd (has_way (inr two) e.1)
          ]

      by_gain : (t : Bool) → int_lt (gain low ws l ms) (pos 0) ≡ t → (j ≡ cond t (cond (nat_le l.min 1) 0 (l.min - 1)) (l.max - 1) * u) ⊎ ((j ≡ 0) × (way_at (turn_ways low ws l ms) 0 ≡ None)) →
          KeepsBounds l (cond {A = Pair} t (record { least = pos (least_of l (gain low ws l ms) e h); most = pos 0 }) (record { least = pos 0; most = gain low ws l ms })) u j
      by_gain false t how = gaining (is_no_loss (gain low ws l ms) t) how
      by_gain true t how = losing (is_loss (gain low ws l ms) t) (nat_le l.min 1) refl (min (unsigned_abs (gain low ws l ms)) (over (whole (e -ℤ h)) (l.min - 2))) how

  header_first : (l : Loop) (ls : List Loop) → l.header < length weights → worth_at (weighed low ms weights (l ∷ ls)) l.header ≡ first_weight low l (gain low (weighed low ms weights ls) l ms)
  header_first l ls lt = get_or-set_at (weighed low ms weights ls) l.header l.header (first_weight low l (gain low (weighed low ms weights ls) l ms)) (pos 0) refl (let e = weighed-long low ms weights ls in omega (arith, e, lt))

  -- one loop, by how often its header is left
  counted_one : (l : Loop) (ls : List Loop) (e h : ℤ) (counts : List ℕ) (ts : List Turning) (bs : List ℕ) (u : ℕ) → IsLoopOf n ms l → TurnsOpenly least calls low (weighed low ms weights ls) ms l → ((0 < l.max) × (l.min ≤ l.max)) ⊎ Each (λ m. m.at ≢ l.header) ms →
      worth_at gw l.header ≡ first_weight low l (gain low (weighed low ms weights ls) l ms) → EachMade (λ m. least ≤ℤ worth_at gw m.at) ms counts → departed ms counts l.header ≡ u + backs_to ts bs l.header →
      (backs_to ts bs l.header ≡ further_turns l (gain low (weighed low ms weights ls) l ms) * u) ⊎ ((backs_to ts bs l.header ≡ 0) × HasNoTurn low (weighed low ms weights ls) ms l) → IsCounted ms counts ts bs l (pair_of l (gain low (weighed low ms weights ls) l ms) e h)
  counted_one l ls e h counts ts bs u fits turns bounds first made visits how = record {
    starts = u;
    visits = visits;
    none = λ z. elim how [ inl k ↦ k ∙ nothing_more u z | inr k ↦ k.0 ];
    keeps = λ lt.
        let left : 0 < departed ms counts l.header = omega (arith, lt, visits) in
        let d = departed_made (λ m. least ≤ℤ worth_at gw m.at) ms counts l.header made left in
        let wide : least ≤ℤ first_weight low l (gain low (weighed low ms weights ls) l ms) = subst (λ (z : ℤ). least ≤ℤ z) first (subst (λ a. least ≤ℤ worth_at gw a) d.1 d.2) in
        elim bounds [
          | inl b ↦ bounds_one l (weighed low ms weights ls) e h u (backs_to ts bs l.header) turns wide b.0 b.1 (elim how [
            | inl k ↦ inl k
            | inr k ↦ elim k.1 [ inl w ↦ inr (k.0, w) | inr w ↦ absurd (let z = none_leave ms counts l.header w in omega (arith, z, left)) ]
          ])
          | inr b ↦ absurd (let z = none_leave ms counts l.header b in omega (arith, z, left))
        ];
  }
    where
      nothing_more : (u : ℕ) → u ≡ 0 → further_turns l (gain low (weighed low ms weights ls) l ms) * u ≡ 0
      nothing_more zero z = by_mul (further_turns l (gain low (weighed low ms weights ls) l ms))
        where
          by_mul : (k : ℕ) → k * 0 ≡ 0
          by_mul k = omega arith
      nothing_more (suc u) z = absurd (omega (arith, z))

  -- a turning of an earlier header is no matter
  lift : (t : Turning) (b : ℕ) (ts : List Turning) (bs : List ℕ) (counts : List ℕ) (ls : List Loop) (ks : List Pair) → HeadersAbove t.header ls → AreCounted ms counts ts bs ls ks → AreCounted ms counts (t ∷ ts) (b ∷ bs) ls ks
  lift t b ts bs counts [] ks above h = tt
  lift t b ts bs counts (l ∷ ls) [] above h = absurd h
  lift t b ts bs counts (l ∷ ls) (k ∷ ks) above h = (one h.0, lift t b ts bs counts ls ks above.1 h.1)
    where
      same : backs_to ts bs l.header ≡ backs_to (t ∷ ts) (b ∷ bs) l.header
      same = elim (eqb_tells t.header l.header) [ inl e ↦ let a = above.0 in let e1 = e.1 in absurd (omega (arith, a, e1)) | inr e ↦ rw e.0 (omega arith) ]

      one : IsCounted ms counts ts bs l k → IsCounted ms counts (t ∷ ts) (b ∷ bs) l k
      one c = record {
        starts = c.starts;
        visits = c.visits ∙ ap (λ j. c.starts + j) same;
        none = λ z. sym same ∙ c.none z;
        keeps = λ lt. subst (λ j. KeepsBounds l k c.starts j) same (c.keeps lt);
      }

  pub all_counted : (v : Level) (ls : List Loop) (counts backs : List ℕ) → AreLoops n ms ls → TurnAllOpenly least calls low weights ms ls → AreBounded ms ls → ((a : ℕ) → From a ls → worth_at gw a ≡ worth_at (weighed low ms weights ls) a) → EachMade (λ m. least ≤ℤ worth_at gw m.at) ms counts →
      AreTurned ms counts (turnings low ms weights ls) backs → AreCounted ms counts (turnings low ms weights ls) backs ls (level_pairs low ms v ls (gains low ms weights ls))
  all_counted v [] counts backs loops turns bounds same made turned = tt
  all_counted v (l ∷ ls) counts backs loops turns bounds same made turned =
      by_back l.back refl backs (λ bs. all_counted (level_by ms v l (level_pair low ms v.worths l (gain low (weighed low ms weights ls) l ms))) ls counts bs loops.2 turns.1 bounds.1 later made) turned
    where
      later : (a : ℕ) → From a ls → worth_at gw a ≡ worth_at (weighed low ms weights ls) a
      later a f =
          let b = from_above a l.header ls loops.1 f in
          same a (omega (arith, b)) ∙ set_other (weighed low ms weights ls) l.header a (first_weight low l (gain low (weighed low ms weights ls) l ms)) (λ e. absurd (omega (arith, e, b)))

      first : worth_at gw l.header ≡ first_weight low l (gain low (weighed low ms weights ls) l ms)
      first = same l.header (omega arith) ∙ header_first l ls (let r = loops.0.range in let r0 = r.0 in let r1 = r.1 in omega (arith, r0, r1, long))

      behind : HeadersBehind l.header (turnings low ms weights ls)
      behind = turnings_behind low ms weights ls l.header loops.1

      -- without a turning
      alone : (bs : List ℕ) → HasNoTurn low (weighed low ms weights ls) ms l → IsCounted ms counts (turnings low ms weights ls) bs l (level_pair low ms v.worths l (gain low (weighed low ms weights ls) l ms))
      alone bs why =
          let z = backs_none (turnings low ms weights ls) bs l.header behind in
          counted_one l ls (onward low v.worths (head_steps l ms)) (worth_at v.worths l.header) counts (turnings low ms weights ls) bs (departed ms counts l.header) loops.0 turns.0 bounds.0 first made (omega (arith, z)) (inr (z, why))

      by_back : (o : Option ℕ) → l.back ≡ o → (bs : List ℕ) →
          ((bs : List ℕ) → AreTurned ms counts (turnings low ms weights ls) bs → AreCounted ms counts (turnings low ms weights ls) bs ls (level_pairs low ms (level_by ms v l (level_pair low ms v.worths l (gain low (weighed low ms weights ls) l ms))) ls (gains low ms weights ls))) →
          AreTurned ms counts (with_back low (weighed low ms weights ls) l ms o (turnings low ms weights ls)) bs → AreCounted ms counts (with_back low (weighed low ms weights ls) l ms o (turnings low ms weights ls)) bs (l ∷ ls)
          (level_pair low ms v.worths l (gain low (weighed low ms weights ls) l ms) ∷ level_pairs low ms (level_by ms v l (level_pair low ms v.worths l (gain low (weighed low ms weights ls) l ms))) ls (gains low ms weights ls))
      by_back None is bs next turned = (alone bs (inl (no_way low (weighed low ms weights ls) n ms l loops.0 is)), next bs turned)
      by_back (Some b) is bs next turned = by_test (b == l.header) refl turned
        where
          no_step : (b == l.header) ≡ true → Each (λ m. m.at ≢ l.header) ms
          no_step e = let i : IsBack l ms (Some b) = subst (λ o. IsBack l ms o) is loops.0.back in subst (λ a. Each (λ m. m.at ≢ a) ms) (eq_of b l.header e) i.2

          header_backs : (c : ℕ) (bs : List ℕ) → backs_to (turning_of low (weighed low ms weights ls) l ms (turn_ways low (weighed low ms weights ls) l ms) b ∷ turnings low ms weights ls) (c ∷ bs) l.header ≡ c
          header_backs c bs = let z = backs_none (turnings low ms weights ls) bs l.header behind in elim (eqb_tells l.header l.header) [ inl e ↦ rw e.0 (omega (arith, z)) | inr e ↦ absurd (e.1 refl) ]

          by_way : (w : Option ℤ) → way_at (turn_ways low (weighed low ms weights ls) l ms) 0 ≡ w → (bs : List ℕ) →
              ((bs : List ℕ) → AreTurned ms counts (turnings low ms weights ls) bs → AreCounted ms counts (turnings low ms weights ls) bs ls (level_pairs low ms (level_by ms v l (level_pair low ms v.worths l (gain low (weighed low ms weights ls) l ms))) ls (gains low ms weights ls))) →
              AreTurned ms counts (with_way w (turning_of low (weighed low ms weights ls) l ms (turn_ways low (weighed low ms weights ls) l ms) b) (turnings low ms weights ls)) bs →
              AreCounted ms counts (with_way w (turning_of low (weighed low ms weights ls) l ms (turn_ways low (weighed low ms weights ls) l ms) b) (turnings low ms weights ls)) bs (l ∷ ls)
              (level_pair low ms v.worths l (gain low (weighed low ms weights ls) l ms) ∷ level_pairs low ms (level_by ms v l (level_pair low ms v.worths l (gain low (weighed low ms weights ls) l ms))) ls (gains low ms weights ls))
          by_way None w bs next turned = (alone bs (inl w), next bs turned)
          by_way (Some x) w [] next turned = absurd turned
          by_way (Some x) w (c ∷ bs) next turned = (
            counted_one l ls (onward low v.worths (head_steps l ms)) (worth_at v.worths l.header) counts (turning_of low (weighed low ms weights ls) l ms (turn_ways low (weighed low ms weights ls) l ms) b ∷ turnings low ms weights ls) (c ∷ bs) turned.0.0 loops.0 turns.0 bounds.0 first made
                (let k = header_backs c bs in let h = turned.0.1 in omega (arith, k, h)) (inl (header_backs c bs ∙ turned.0.2)),
            lift (turning_of low (weighed low ms weights ls) l ms (turn_ways low (weighed low ms weights ls) l ms) b) c (turnings low ms weights ls) bs counts ls (level_pairs low ms (level_by ms v l (level_pair low ms v.worths l (gain low (weighed low ms weights ls) l ms))) ls (gains low ms weights ls)) loops.1 (next bs turned.1),
          )

          by_test : (t : Bool) → (b == l.header) ≡ t → AreTurned ms counts (cond t (turnings low ms weights ls) (with_way (way_at (turn_ways low (weighed low ms weights ls) l ms) 0) (turning_of low (weighed low ms weights ls) l ms (turn_ways low (weighed low ms weights ls) l ms) b) (turnings low ms weights ls))) bs →
              AreCounted ms counts (cond t (turnings low ms weights ls) (with_way (way_at (turn_ways low (weighed low ms weights ls) l ms) 0) (turning_of low (weighed low ms weights ls) l ms (turn_ways low (weighed low ms weights ls) l ms) b) (turnings low ms weights ls))) bs (l ∷ ls)
              (level_pair low ms v.worths l (gain low (weighed low ms weights ls) l ms) ∷ level_pairs low ms (level_by ms v l (level_pair low ms v.worths l (gain low (weighed low ms weights ls) l ms))) ls (gains low ms weights ls))
          by_test true e turned = (alone bs (inr (no_step e)), next bs turned)
          by_test false e turned = by_way (way_at (turn_ways low (weighed low ms weights ls) l ms) 0) refl bs next turned
