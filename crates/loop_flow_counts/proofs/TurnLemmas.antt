-- The turns of one loop, and those of all.
use Rattle.std.proofs.Common.{◌≡◌, ◌≢◌, ℕ, zero, suc, ◌+◌, ◌-◌, ◌<◌, ◌≤◌, ℤ, pos, arith, refl, sym, ap, ◌∙◌, subst, List, [], ◌∷◌, ◌++◌, length, take, drop, get_or, inl, inr, Bool, true, false, cond, Option, Some, None, append_assoc, append-nil}
use Rattle.std.specs.Prelude.{slice_set, ◌&&◌, ◌==◌, nat_le, nat_lt}
use Rattle.std.proofs.Math.Seq.{drop-cons}
use Rattle.std.proofs.Math.ListN.{replicate}
use Rattle.std.proofs.lemmas.Bool.Decides.{eqb_tells, nat_tests}
use Rattle.std.proofs.lemmas.List.{drop_all, length-drop, get_or_past}
use Rattle.loop_walks.specs.declared.step.Step.{Step}
use Rattle.loop_walks.specs.declared.step.Loop.{Loop}
use Rattle.loop_walks.specs.Walks.{worth_at, cost, between, body_steps}
use Rattle.loop_walks.specs.Turns.{further, way_at, turn_ways, turn_start, gain}
use Rattle.loop_walks.specs.Multipliers.{first_weight}
use Rattle.loop_walks.specs.Levels.{weighed}
use Rattle.loop_walks.specs.Rows.{IsStep, AreSteps, Each, KeepsOut, IsLoopOf, HeadersAbove, AreLoops, HaveNone}
use Rattle.loop_walks.proofs.EachLemmas.{each_map, each_both, each_take, each_drop, each_join, steps_are}
use Rattle.loop_walks.proofs.TurnLemmas.{turned-long, turn_start-long}
use Rattle.loop_walks.proofs.LevelLemmas.{set_other as weight_other}
use Rattle.loop_worths.specs.Sizes.{IsSmallTurn, AreSmallTurns}
use Rattle.loop_worths.proofs.CodeLemmas.{small_turn_at}
use Rattle.loop_flows.specs.Passes.{amount_at, spread, departed}
use Rattle.loop_flows.specs.Flows.{Turning, only_at, together, turns_of, turn_counts, counts_of, backs_of}
use Rattle.loop_flows.proofs.SpreadLemmas.{set_at, set_other, here, elsewhere}
use Rattle.loop_flows.proofs.TotalLemmas.{only-long, only_there, only_elsewhere}
use Rattle.loop_flows.specs.Turns.{is_way, in_range, is_turn, turning_of, with_way, with_back, turnings}
use Rattle.loop_flows.proofs.TurnLemmas.{both_first, le_of}
use Rattle.loop_flow_counts.specs.declared.back.Back.{Back}
use Rattle.loop_flow_counts.specs.Wraps.{wrapped, all_wrapped, SameCounts, AgreeIn}
use Rattle.loop_flow_counts.specs.Made.{total, backs_by, bared, HasTurned, NotChosen}
use Rattle.loop_flow_counts.proofs.WrapLemmas.{set_same, together_same, same-long, twice}
use Rattle.loop_flow_counts.proofs.SpreadLemmas.{BeginsIn, spread_agrees, spread_same, counts_same, backs_same, counts_append, backs_append}

next : (i : ℕ) → suc i ≡ i + 1
next i = omega arith

-- ---- where a loop's turns begin

-- so much is at the header, and nothing at the other places of the loop
pub begins_by : (us us' : List ℕ) (n h e u : ℕ) → h ≤ n → h < length us → ((a : ℕ) → h ≤ a → a < e → amount_at us a ≡ 0) → us' ≡ slice_set us h u → AgreeIn h e us' (only_at n h u)
begins_by us us' n h e u le lt none is a ge below = ap (λ xs. wrapped (amount_at xs a)) is ∙ ap wrapped here_or_not
  where
    here_or_not : amount_at (slice_set us h u) a ≡ amount_at (only_at n h u) a
    here_or_not = elim (eqb_tells a h) [
      | inl i ↦ ap (λ b. amount_at (slice_set us h u) b) i.1 ∙ (set_at us h u lt ∙ (sym (only_there n h u le) ∙ ap (λ b. amount_at (only_at n h u) b) (sym i.1)))
      | inr d ↦ set_other us h a u d.1 ∙ (none a ge below ∙ sym (only_elsewhere n h u a d.1))
    ]

-- ---- steps that a turn doesn't go along

no_way : (o : Option ℤ) → is_way o None ≡ false
no_way None = refl
no_way (Some x) = refl

and_false : (t u : Bool) → u ≡ false → t && u ≡ false
and_false true u e = e
and_false false u e = refl

false_and : (t u v : Bool) → t ≡ false → (t && u) && v ≡ false
false_and true u v e = cc
false_and false u v e = refl

not_le : (a b : ℕ) → b < a → nat_le a b ≡ false
not_le a b h = grind (arith, nat_tests)

ways-long : (low : ℤ) (weights : List ℤ) (l : Loop) (ms : List Step) → length (turn_ways low weights l ms) ≡ l.end - l.header
ways-long low weights l ms = turned-long low weights l.header (turn_start l) (between l.head l.rest ms) ∙ turn_start-long l

shut : (low : ℤ) (weights : List ℤ) (l : Loop) (ways : List (Option ℤ)) (n : ℕ) → length ways ≡ l.end - l.header → l.header < l.end → (m : Step) → KeepsOut l m → IsStep n m → NotChosen (is_turn low weights l ways) m
shut low weights l ways n long range m out step = elim out [
  | inl before ↦ false_and (nat_le l.header m.at) (nat_lt m.at l.end) (is_way (way_at ways (m.at - l.header)) (further low (cost weights m) (way_at ways (m.on - l.header)))) (not_le l.header m.at (let s = step.0 in omega (arith, before, s)))
  | inr behind ↦ and_false (in_range l m.at) (is_way (way_at ways (m.at - l.header)) (further low (cost weights m) (way_at ways (m.on - l.header))))
      (ap (λ o. is_way (way_at ways (m.at - l.header)) (further low (cost weights m) o)) (get_or_past ways (m.on - l.header) None (omega (arith, behind, long, range))) ∙ no_way (way_at ways (m.at - l.header)))
]

module _ (low : ℤ) (weights : List ℤ) (l : Loop) (n : ℕ) (ms : List Step) (steps : AreSteps n ms) (fits : IsLoopOf n ms l) where
  abbrev ways : List (Option ℤ)
  ways = turn_ways low weights l ms

  abbrev chosen : Step → Bool
  chosen = is_turn low weights l (turn_ways low weights l ms)

  pub before_shut : Each (NotChosen (is_turn low weights l (turn_ways low weights l ms))) (take l.head ms)
  before_shut = each_both (KeepsOut l) (IsStep n) (NotChosen chosen) (take l.head ms) (shut low weights l ways n (ways-long low weights l ms) fits.range.0) fits.before (each_take (IsStep n) l.head ms (steps_are n ms steps))

  pub behind_shut : Each (NotChosen (is_turn low weights l (turn_ways low weights l ms))) (drop l.rest ms)
  behind_shut = each_both (KeepsOut l) (IsStep n) (NotChosen chosen) (drop l.rest ms) (shut low weights l ways n (ways-long low weights l ms) fits.range.0) fits.behind (each_drop (IsStep n) l.rest ms (steps_are n ms steps))

  -- chosen steps begin in the loop
  begin_in : Each (BeginsIn chosen l.header l.end (n + 1)) ms
  begin_in = each_map (IsStep n) (BeginsIn chosen l.header l.end (n + 1)) ms within (steps_are n ms steps)
    where
      lt_of : (a b : ℕ) → nat_lt a b ≡ true → a < b
      lt_of a b h = grind (arith, nat_tests)

      within : (m : Step) → IsStep n m → BeginsIn chosen l.header l.end (n + 1) m
      within m s c =
          let r = both_first (in_range l m.at) (is_way (way_at ways (m.at - l.header)) (further low (cost weights m) (way_at ways (m.on - l.header)))) c in
          let b = both_first (nat_le l.header m.at) (nat_lt m.at l.end) r.0 in
          let s1 = s.1 in
          (le_of l.header m.at b.0, lt_of m.at l.end b.1, s.0, omega (arith, s1))

  -- the pass of the turns, from amounts that agree in the loop
  pub pass_by : (us counts counts' : List ℕ) (u : ℕ) → length us ≡ n + 1 → AgreeIn l.header l.end us (only_at n l.header u) →
      SameCounts counts' (together counts (spread (is_turn low weights l (turn_ways low weights l ms)) us ms)) → SameCounts counts' (together counts (spread (is_turn low weights l (turn_ways low weights l ms)) (only_at n l.header u) ms))
  pass_by us counts counts' u long agree h =
      let only = only-long n l.header u in
      h ∙ together_same counts counts (spread chosen us ms) (spread chosen (only_at n l.header u) ms) refl
      (spread_agrees chosen l.header l.end us (only_at n l.header u) ms (omega (arith, long, only)) (subst (λ k. Each (BeginsIn chosen l.header l.end k) ms) (sym long) begin_in) agree)

-- ---- how often the header is visited

departed_none : (ms : List Step) (us : List ℕ) (a : ℕ) → Each (λ m. m.at ≢ a) ms → departed ms us a ≡ 0
departed_none [] us a h = refl
departed_none (m ∷ ms) [] a h = refl
departed_none (m ∷ ms) (u ∷ us) a h = let e = elsewhere a m.at u (λ q. h.0 (sym q)) in let r = departed_none ms us a h.1 in omega (arith, e, r)

departed_heads : (k : ℕ) (ms : List Step) (us : List ℕ) (a : ℕ) → length us ≡ length ms → k ≤ length ms → Each (λ m. m.at ≡ a) (take k ms) → Each (λ m. m.at ≢ a) (drop k ms) → departed ms us a ≡ total (take k us)
departed_heads zero ms us a long le h o = departed_none ms us a o
departed_heads (suc k) [] us a long le h o = absurd (omega arith)
departed_heads (suc k) (m ∷ ms) [] a long le h o = absurd (omega (arith, long))
departed_heads (suc k) (m ∷ ms) (u ∷ us) a long le h o = let e = here a m.at u h.0 in let r = departed_heads k ms us a (omega (arith, long)) (omega (arith, le)) h.1 o in omega (arith, e, r)

departed_skip : (k : ℕ) (ms : List Step) (us : List ℕ) (a : ℕ) → length us ≡ length ms → Each (λ m. m.at ≢ a) (take k ms) → departed ms us a ≡ departed (drop k ms) (drop k us) a
departed_skip zero ms us a long h = refl
departed_skip (suc k) [] [] a long h = refl
departed_skip (suc k) [] (u ∷ us) a long h = absurd (omega (arith, long))
departed_skip (suc k) (m ∷ ms) [] a long h = absurd (omega (arith, long))
departed_skip (suc k) (m ∷ ms) (u ∷ us) a long h = let e = elsewhere a m.at u (λ q. h.0 (sym q)) in let r = departed_skip k ms us a (omega (arith, long)) h.1 in omega (arith, e, r)

drop_drop : (j k : ℕ) (ms : List Step) → drop j (drop k ms) ≡ drop (k + j) ms
drop_drop j zero ms = let e : 0 + j ≡ j = omega arith in rw e refl
drop_drop j (suc k) [] = let e : suc k + j ≡ suc (k + j) = omega arith in rw e (none j)
  where
    none : (j : ℕ) → drop {A = Step} j [] ≡ []
    none zero = refl
    none (suc j) = refl
drop_drop j (suc k) (m ∷ ms) = let e : suc k + j ≡ suc (k + j) = omega arith in rw e (drop_drop j k ms)

pub departed_header : (n : ℕ) (ms : List Step) (l : Loop) (us : List ℕ) → IsLoopOf n ms l → length us ≡ length ms → departed ms us l.header ≡ total (take (l.body - l.head) (drop l.head us))
departed_header n ms l us fits long =
    let o0 = fits.order.0 in let o1 = fits.order.1 in let o2 = fits.order.2 in
    let p = length-drop l.head us in let q = length-drop l.head ms in
    departed_skip l.head ms us l.header long fits.others.0
    ∙ departed_heads (l.body - l.head) (drop l.head ms) (drop l.head us) l.header (omega (arith, p, q, long)) (omega (arith, q, o0, o1, o2)) fits.heads (subst (Each (λ m. m.at ≢ l.header)) (sym behind_heads) behind)
  where
    behind_heads : drop (l.body - l.head) (drop l.head ms) ≡ drop l.body ms
    behind_heads = let o0 = fits.order.0 in let e : l.head + (l.body - l.head) ≡ l.body = omega (arith, o0) in drop_drop (l.body - l.head) l.head ms ∙ ap (λ k. drop k ms) e

    apart : (m : Step) → (l.header < m.at) × (m.at < l.end) → m.at ≢ l.header
    apart m h e = let h0 = h.0 in absurd (omega (arith, h0, e))

    behind : Each (λ m. m.at ≢ l.header) (drop l.body ms)
    behind =
        let o1 = fits.order.1 in
        let e : l.body + (l.rest - l.body) ≡ l.rest = omega (arith, o1) in
        each_join (λ m. m.at ≢ l.header) (l.rest - l.body) (drop l.body ms) (each_map (λ m. (l.header < m.at) × (m.at < l.end)) (λ m. m.at ≢ l.header) (body_steps l ms) apart fits.body)
        (subst (Each (λ m. m.at ≢ l.header)) (sym (drop_drop (l.rest - l.body) l.body ms ∙ ap (λ k. drop k ms) e)) fits.others.1)

-- ---- a loop has turned

pub has_turned : (n : ℕ) (ms : List Step) (old new : List ℕ) (t : Turning) (count : ℕ) → count ≡ wrapped (turns_of ms old t) → SameCounts new (together old (spread t.chosen (only_at n t.header count) ms)) → HasTurned n ms old (t ∷ []) new (record { place = t.back; count = count } ∷ [])
has_turned n ms old new t count e h = record {
  counts = h ∙ together_same old old (spread t.chosen (only_at n t.header count) ms) (turn_counts n ms old t) refl
      (spread_same t.chosen (only_at n t.header count) (only_at n t.header (turns_of ms old t)) ms (set_same (replicate (n + 1) 0) (replicate (n + 1) 0) t.header count (turns_of ms old t) refl (ap wrapped e ∙ twice (turns_of ms old t))));
  backs = ap (λ (x : ℕ). record { place = t.back; count = x } ∷ []) e;
}

pub none_turned : (n : ℕ) (ms : List Step) (old new : List ℕ) → new ≡ old → HasTurned n ms old [] new []
none_turned n ms old new e = record { counts = ap all_wrapped e; backs = refl }

pub turned_from : (n : ℕ) (ms : List Step) (old old' new : List ℕ) (ts : List Turning) (bs : List Back) → SameCounts old old' → HasTurned n ms old ts new bs → HasTurned n ms old' ts new bs
turned_from n ms old old' new ts bs e h = record { counts = h.counts ∙ counts_same n ms old old' ts e; backs = h.backs ∙ backs_same n ms old old' ts e }

-- ---- all loops turn, one after the other

-- the turnings of the loop that is next, before those of the others
next_turnings : (low : ℤ) (weights : List ℤ) (l : Loop) (ms : List Step) (ts : List Turning) → with_back low weights l ms l.back ts ≡ with_back low weights l ms l.back [] ++ ts
next_turnings low weights l ms ts = by_back l.back
  where
    by_way : (o : Option ℤ) (t : Turning) → with_way o t ts ≡ with_way o t [] ++ ts
    by_way None t = refl
    by_way (Some x) t = refl

    by_test : (u : Bool) (o : Option ℤ) (t : Turning) → cond u ts (with_way o t ts) ≡ cond u [] (with_way o t []) ++ ts
    by_test true o t = refl
    by_test false o t = by_way o t

    by_back : (b : Option ℕ) → with_back low weights l ms b ts ≡ with_back low weights l ms b [] ++ ts
    by_back None = refl
    by_back (Some b) = by_test (b == l.header) (way_at (turn_ways low weights l ms) 0) (turning_of low weights l ms (turn_ways low weights l ms) b)

-- a number is put back
set_again : (ws : List ℤ) (a : ℕ) (z : ℤ) → worth_at ws a ≡ pos 0 → slice_set (slice_set ws a z) a (pos 0) ≡ ws
set_again [] zero z h = refl
set_again [] (suc a) z h = refl
set_again (w ∷ ws) zero z h = ap (λ (x : ℤ). x ∷ ws) (sym h)
set_again (w ∷ ws) (suc a) z h = ap (λ xs. w ∷ xs) (set_again ws a z h)

-- the weights of loops behind a place don't change that of the place
none_behind : (low : ℤ) (ms : List Step) (bare : List ℤ) (ks : List Loop) (a : ℕ) → HeadersAbove a ks → worth_at (weighed low ms bare ks) a ≡ worth_at bare a
none_behind low ms bare [] a f = refl
none_behind low ms bare (k ∷ ks) a f = let f0 = f.0 in weight_other (weighed low ms bare ks) k.header a (first_weight low k (gain low (weighed low ms bare ks) k ms)) (λ e. absurd (omega (arith, e, f0))) ∙ none_behind low ms bare ks a f.1

-- the loops from i on are still to turn
pub record Turns (low : ℤ) (n : ℕ) (ms : List Step) (bare : List ℤ) (ls : List Loop) (first : List ℕ) (weights : List ℤ) (counts : List ℕ) (backs : List Back) (i : ℕ) : Type 0 where
  pub weights_are : weights ≡ weighed low ms bare (drop i ls)
  pub counts_are : SameCounts (counts_of n ms counts (turnings low ms bare (drop i ls))) (counts_of n ms first (turnings low ms bare ls))
  pub backs_are : backs ++ backs_by (turnings low ms bare (drop i ls)) (backs_of n ms counts (turnings low ms bare (drop i ls))) ≡ backs_by (turnings low ms bare ls) (backs_of n ms first (turnings low ms bare ls))
  pub long : length counts ≡ length ms

pub turns_start : (low : ℤ) (n : ℕ) (ms : List Step) (bare : List ℤ) (ls : List Loop) (first : List ℕ) (weights : List ℤ) (counts : List ℕ) (backs : List Back) → weights ≡ weighed low ms bare ls → SameCounts counts first → length first ≡ length ms → backs ≡ [] → Turns low n ms bare ls first weights counts backs 0
turns_start low n ms bare ls first weights counts backs e f g h = record {
  weights_are = e;
  counts_are = counts_same n ms counts first (turnings low ms bare ls) f;
  backs_are = ap (λ bs. bs ++ backs_by (turnings low ms bare ls) (backs_of n ms counts (turnings low ms bare ls))) h ∙ backs_same n ms counts first (turnings low ms bare ls) f;
  long = same-long counts first f ∙ g;
}

pub turns_end : (low : ℤ) (n : ℕ) (ms : List Step) (bare : List ℤ) (ls : List Loop) (first : List ℕ) (weights : List ℤ) (counts : List ℕ) (backs : List Back) (i : ℕ) → length ls ≤ i → Turns low n ms bare ls first weights counts backs i →
    (weights ≡ bare) × HasTurned n ms first (turnings low ms bare ls) counts backs
turns_end low n ms bare ls first weights counts backs i le t =
    let e : drop i ls ≡ [] = drop_all i ls le in (
      t.weights_are ∙ ap (λ ks. weighed low ms bare ks) e,
      record {
        counts = sym (ap (λ ks. all_wrapped (counts_of n ms counts (turnings low ms bare ks))) e) ∙ t.counts_are;
        backs = sym (append-nil backs) ∙ (sym (ap (λ ks. backs ++ backs_by (turnings low ms bare ks) (backs_of n ms counts (turnings low ms bare ks))) e) ∙ t.backs_are);
      },
    )

module _ (low : ℤ) (n : ℕ) (ms : List Step) (bare : List ℤ) (ls : List Loop) (first : List ℕ) (weights : List ℤ) (counts : List ℕ) (backs : List Back) (i : ℕ) (d : Loop) (lt : i < length ls) (t : Turns low n ms bare ls first weights counts backs i) where
  abbrev l : Loop
  l = get_or ls i d

  abbrev later : List Loop
  later = drop (i + 1) ls

  cut : drop i ls ≡ get_or ls i d ∷ drop (i + 1) ls
  cut = drop-cons ls i d lt ∙ ap (λ j. get_or ls i d ∷ drop j ls) (next i)

  -- the weight of its header is taken away
  pub weight_next : (n' : ℕ) → AreLoops n' ms ls → HaveNone bare ls → (weights' : List ℤ) → weights' ≡ slice_set weights (get_or ls i d).header (pos 0) → weights' ≡ weighed low ms bare (drop (i + 1) ls)
  weight_next n' fits none weights' e =
      e ∙ (ap (λ ws. slice_set ws l.header (pos 0)) (t.weights_are ∙ ap (weighed low ms bare) cut)
      ∙ set_again (weighed low ms bare later) l.header (first_weight low l (gain low (weighed low ms bare later) l ms)) (none_behind low ms bare later l.header (above_drop ls i fits lt) ∙ none_drop ls i none lt))
    where
      above_drop : (ks : List Loop) (j : ℕ) → AreLoops n' ms ks → j < length ks → HeadersAbove (get_or ks j d).header (drop (j + 1) ks)
      above_drop [] j f h = absurd (omega arith)
      above_drop (k ∷ ks) zero f h = f.1
      above_drop (k ∷ ks) (suc j) f h = let e : suc (j + 1) ≡ suc j + 1 = omega arith in subst (λ x. HeadersAbove (get_or ks j d).header (drop x (k ∷ ks))) e (above_drop ks j f.2 (omega (arith, h)))

      none_drop : (ks : List Loop) (j : ℕ) → HaveNone bare ks → j < length ks → worth_at bare (get_or ks j d).header ≡ pos 0
      none_drop [] j f h = absurd (omega arith)
      none_drop (k ∷ ks) zero f h = f.0
      none_drop (k ∷ ks) (suc j) f h = none_drop ks j f.1 (omega (arith, h))

  -- its numbers are small then
  pub small_again : AreLoops n ms ls → HaveNone bare ls → AreSmallTurns low ms bare ls → IsSmallTurn low (slice_set weights (get_or ls i d).header (pos 0)) ms (get_or ls i d)
  small_again fits none small =
      subst (λ ws. IsSmallTurn low ws ms l) (sym (weight_next n fits none (slice_set weights l.header (pos 0)) refl))
      (subst (λ k. IsSmallTurn low (weighed low ms bare (drop k ls)) ms l) (next i) (small_turn_at low ms bare ls i d lt small))

  -- and it turns
  pub turns_next : (weights' : List ℤ) (counts' : List ℕ) (backs' bs : List Back) → weights' ≡ weighed low ms bare (drop (i + 1) ls) → HasTurned n ms counts (with_back low weights' (get_or ls i d) ms (get_or ls i d).back []) counts' bs → length counts' ≡ length counts → backs' ≡ backs ++ bs →
      Turns low n ms bare ls first weights' counts' backs' (i + 1)
  turns_next weights' counts' backs' bs e h same f =
      let ts = turnings low ms bare later in
      let us = with_back low (weighed low ms bare later) l ms l.back [] in
      let split : turnings low ms bare (drop i ls) ≡ us ++ ts = ap (turnings low ms bare) cut ∙ next_turnings low (weighed low ms bare later) l ms ts in
      let turned : HasTurned n ms counts us counts' bs = subst (λ ws. HasTurned n ms counts (with_back low ws l ms l.back []) counts' bs) e h in
      let same_backs = backs_same n ms counts' (counts_of n ms counts us) ts turned.counts in
      record {
        weights_are = e;
        counts_are =
            counts_same n ms counts' (counts_of n ms counts us) ts turned.counts
            ∙ (sym (ap all_wrapped (counts_append n ms counts us ts)) ∙ (sym (ap (λ xs. all_wrapped (counts_of n ms counts xs)) split) ∙ t.counts_are));
        backs_are =
            ap (λ xs. xs ++ backs_by ts (backs_of n ms counts' ts)) f
            ∙ (append_assoc backs bs (backs_by ts (backs_of n ms counts' ts))
            ∙ (ap (λ xs. backs ++ (xs ++ backs_by ts (backs_of n ms counts' ts))) turned.backs
            ∙ (ap (λ xs. backs ++ (backs_by us (backs_of n ms counts us) ++ xs)) same_backs
            ∙ (sym (ap (λ xs. backs ++ xs) (backs_append n ms counts us ts)) ∙ (sym (ap (λ xs. backs ++ backs_by xs (backs_of n ms counts xs)) split) ∙ t.backs_are)))));
        long = same ∙ t.long;
      }

-- the weights of the headers are taken away
pub bared_weighed : (low : ℤ) (n : ℕ) (ms : List Step) (bare : List ℤ) (ls : List Loop) → AreLoops n ms ls → HaveNone bare ls → bared (weighed low ms bare ls) ls ≡ bare
bared_weighed low n ms bare [] fits none = refl
bared_weighed low n ms bare (l ∷ ls) fits none =
    ap (λ ws. bared ws ls) (set_again (weighed low ms bare ls) l.header (first_weight low l (gain low (weighed low ms bare ls) l ms)) (none_behind low ms bare ls l.header fits.1 ∙ none.0)) ∙ bared_weighed low n ms bare ls fits.2 none.1

pub loop_at : (n : ℕ) (ms : List Step) (ls : List Loop) (i : ℕ) (d : Loop) → AreLoops n ms ls → i < length ls → IsLoopOf n ms (get_or ls i d)
loop_at n ms [] i d fits lt = absurd (omega arith)
loop_at n ms (l ∷ ls) zero d fits lt = fits.0
loop_at n ms (l ∷ ls) (suc i) d fits lt = loop_at n ms ls i d fits.2 (omega (arith, lt))
