-- Each move that is made is tight, and so the total of the flow is the worth of the entry.
use Rattle.std.proofs.Common.{◌≡◌, ◌≢◌, ℕ, zero, suc, ◌+◌, ◌≤◌, ◌<◌, ℤ, pos, ◌+ℤ◌, ◌-ℤ◌, ◌*ℤ◌, ◌≤ℤ◌, ◌<ℤ◌, arith, refl, sym, ap, ◌∙◌, subst, List, [], ◌∷◌, ◌++◌, length, Contains, All, inl, inr, ◌⊎◌, Bool, true, false, cond, Some, None, length-append}
use Rattle.std.specs.Prelude.{◌==◌, ◌||◌, not, slice_set}
use Rattle.std.proofs.lemmas.Int.{ints}
use Rattle.std.proofs.Math.ListN.{replicate}
use Rattle.std.proofs.lemmas.List.{length-replicate}
use Rattle.std.proofs.lemmas.Bool.Decides.{eqb_tells, nat_tests}
use Rattle.std.proofs.lemmas.List.Elements.{All-contains}
use Rattle.frac128.specs.Terms.{int_sum_by, coefficient}
use Rattle.rv_core.specs.Instructions.{Instruction}
use Rattle.rv_core.specs.declared.regions.Region.TheVariants.{Flash, Spm, Ram}
use Rattle.rv_core.specs.Machine.{behind}
use Rattle.rv_core.specs.Regions.{lies_in}
use Rattle.code_flow_system.specs.declared.claims.LoopClaim.{LoopClaim}
use Rattle.code_flow_system.specs.declared.moves.Move.{Move}
use Rattle.code_flow_system.specs.declared.moves.Way.{Way}
use Rattle.code_flow_system.specs.declared.moves.Way.TheVariants.{Next, Branches, Jumps, Calls, Ends, Strays}
use Rattle.code_flow_system.specs.declared.shapes.LoopShape.{LoopShape}
use Rattle.code_flow_system.specs.declared.shapes.Span.{Span}
use Rattle.code_flow_system.specs.Claims.{is_listed}
use Rattle.code_flow_system.specs.Moves.{destinations, way_of, moves_on}
use Rattle.code_flow_system.specs.Systems.{System, has_moves, moves_from, AreOfInstruction, IsPlaced}
use Rattle.code_flow_system.specs.Shapes.{IsInLoop, IsLoop, onward, is_back, IsInSpan, AreAllApart, IsInOne, StaysIn, CallsEarlier}
use Rattle.code_flow_system.specs.Counts.{Amounts, amount, total}
use Rattle.code_flow_system.specs.Certificates.{loop_limits, held, fall, listed}
use Rattle.code_flow_system.specs.Bounds.{IsTight, IsSlackless}
use Rattle.code_flow_system.proofs.DualityLemmas.{reaches_potential}
use Rattle.loop_walks.specs.declared.step.Step.{Step}
use Rattle.loop_walks.specs.declared.step.Loop.{Loop}
use Rattle.loop_walks.specs.declared.step.Pair.{Pair}
use Rattle.loop_walks.specs.Walks.{larger, worth_at}
use Rattle.loop_walks.specs.Multipliers.{back_worth}
use Rattle.loop_walks.specs.Levels.{Level, ground}
use Rattle.loop_walks.proofs.LargerLemmas.{larger_left, larger_right, larger_least}
use Rattle.loop_walks.proofs.WalkLemmas.{relaxed-long}
use Rattle.loop_walks.proofs.LevelLemmas.{Held, weighed-long}
use Rattle.loop_flows.specs.Passes.{amount_at, departed}
use Rattle.loop_flows.specs.Flows.{Turning, backs_from, backs_to}
use Rattle.loop_flows.specs.Opens.{EachMade}
use Rattle.loop_flows.proofs.OpenLemmas.{larger_open}
use Rattle.loop_flows.specs.Counts.{AreCounted}
use Rattle.loop_flows.specs.Slack.{Tight, AreBacksTight}
use Rattle.path_places.specs.Places.{place_of, on_place, step_of, is_never, is_shut, is_stop, is_walked, steps_of, dearest_from, loop_of}
use Rattle.path_places.specs.PlaceLaws.{function_steps, IsReachedWhole}
use Rattle.path_places.proofs.RankLemmas.{rank_stays, rank_earlier, apart_one}
use Rattle.path_places.proofs.HeaderLemmas.{reached_behind}
use Rattle.path_places.proofs.PlaceLemmas.{place_below}
use Rattle.path_places.proofs.LoopLemmas.{has_of, onward_arrives, first_or}
use Rattle.path_places.proofs.FunctionLemmas.{differ, back_inside, walked_in, is_back_at}
use Rattle.path_places.specs.Driver.{Prices, blank, function_loops, function_level, function_pairs, functions_level}
use Rattle.path_places.proofs.DriverLemmas.{IsElsewhere, functions_leave, function_leaves, function_holds, elsewhere_all, elsewhere_end, elsewhere_before, IsFresh, Numbered, numbered, closed, same_call, zero_at}
use Rattle.path_places.specs.Duals.{potentials_of, both_of, final_level, final_pairs, values_of, owe_of, dual_of}
use Rattle.path_places.proofs.PotentialLemmas.{all_of}
use Rattle.path_places.proofs.HoldLemmas.{hold, hold_back, never_none, loops_same}
use Rattle.path_places.proofs.DealLemmas.{AreDealt, AreAll, Stands, dealt_stands, Found, IsDone as IsDealt, AllFunctions, all_dealt}
use Rattle.path_places.proofs.PriceLemmas.{IsPriced, dearest_most}
use Rattle.path_places.proofs.RowLemmas.{arrives_worth, out_worth, owe_least, plain_weight, leads, final_priced, back_held, forward_held, not_back, held_parts, potential_place, goes_back, first_of}
use Rattle.path_flows.specs.Flows.{Flowing, counted, turned_back, amounts_of, parts_of, first_flow, flow_from, function_turnings, function_counts, function_backs}
use Rattle.path_flows.specs.Opens.{AreOpenFunctions}
use Rattle.path_flows.proofs.SumLemmas.{sum_if, begins_at, At, EachTurn, each_turn, AreAmounts}
use Rattle.path_flows.proofs.AtLemmas.{target_reached, one_destination, IsBackMove, back_reached, back_moves, EachLoop, loops_each}
use Rattle.path_flows.proofs.SystemLemmas.{AreDone, IsGoing, ready, flow_goes}
use Rattle.path_flows.proofs.ConservedLemmas.{listed_amounts, no_sum, all_conserved}
use Rattle.path_flows.specs.CountLaws.{IsOpenSystem}
use Rattle.path_flows.proofs.ClaimLemmas.{IsClaimed, function_counted, back_count}
use Rattle.path_flows.proofs.KeepLemmas.{goes, up, stopped, covered, exact, counted as visits_are}
use Rattle.path_cert.specs.SlackLaws.{FlowsAreSlackless, ValuesAreReached}
use Rattle.path_cert.proofs.FunctionLemmas.{function_tight}

-- ---- what holds of each move that is made

abbrev EachAmount : (Move → Type 0) → List Move → List ℕ → Type 0
EachAmount P [] us = Unit {0}
EachAmount P (m ∷ ms) [] = Unit {0}
EachAmount P (m ∷ ms) (u ∷ us) = (0 < u → P m) × EachAmount P ms us

made_none : (P : Step → Type 0) (ks : List Step) → EachMade P ks []
made_none P [] = tt
made_none P (k ∷ ks) = tt

positive : (u : ℕ) → u ≢ 0 → 0 < u
positive zero d = absurd (d refl)
positive (suc u) d = omega arith

counted_each : (P : Step → Type 0) (Q : Move → Type 0) (price : Move → ℤ) (all : List Move) (ws : List ℤ) (walked : ℕ → Bool) (ms : List Move) (us cs : List ℕ) → EachAmount Q ms us → EachMade P (steps_of price all ws walked ms) cs →
    ((m : Move) → Contains ms m → walked m.at ≡ true → P (step_of price all ws m) → Q m) → EachAmount Q ms (counted walked ms us cs)
counted_each P Q price all ws walked [] us cs each made f = tt
counted_each P Q price all ws walked (m ∷ ms) [] cs each made f = tt
counted_each P Q price all ws walked (m ∷ ms) (u ∷ us) [] each made f = (each.0, counted_each P Q price all ws walked ms us [] each.1 (made_none P (steps_of price all ws walked ms)) (λ k i. f k (suc i.0, omega (arith, i.1), i.2)))
counted_each P Q price all ws walked (m ∷ ms) (u ∷ us) (c ∷ cs) each made f =
    by_walked (walked m.at) refl made (λ h. counted_each P Q price all ws walked ms us cs each.1 h (λ k i. f k (suc i.0, omega (arith, i.1), i.2))) (λ h. counted_each P Q price all ws walked ms us (c ∷ cs) each.1 h (λ k i. f k (suc i.0, omega (arith, i.1), i.2)))
  where
    by_walked : (t : Bool) → walked m.at ≡ t → EachMade P (cond t (step_of price all ws m ∷ steps_of price all ws walked ms) (steps_of price all ws walked ms)) (c ∷ cs) →
        (EachMade P (steps_of price all ws walked ms) cs → EachAmount Q ms (counted walked ms us cs)) → (EachMade P (steps_of price all ws walked ms) (c ∷ cs) → EachAmount Q ms (counted walked ms us (c ∷ cs))) →
        EachAmount Q (m ∷ ms) (cond t ((u + c) ∷ counted walked ms us cs) (u ∷ counted walked ms us (c ∷ cs)))
    by_walked true t made next skip = (
      (λ lt. elim (eqb_tells c 0) [ inl e ↦ let e1 = e.1 in each.0 (omega (arith, lt, e1)) | inr e ↦ f m (zero, omega arith, refl) t (made.0 (positive c e.1)) ]),
      next made.1,
    )
    by_walked false t made next skip = (each.0, skip made)

set_each : (Q : Move → Type 0) (ms : List Move) (us : List ℕ) (i z : ℕ) (m : Move) → At ms i m → Q m → EachAmount Q ms us → EachAmount Q ms (slice_set us i z)
set_each Q [] us i z m at h each = tt
set_each Q (x ∷ ms) [] i z m at h each = by_place i
  where
    by_place : (i : ℕ) → EachAmount Q (x ∷ ms) (slice_set [] i z)
    by_place zero = tt
    by_place (suc i) = tt
set_each Q (x ∷ ms) (u ∷ us) zero z m at h each = ((λ lt. subst Q (sym at) h), each.1)
set_each Q (x ∷ ms) (u ∷ us) (suc i) z m at h each = (each.0, set_each Q ms us i z m at h each.1)

turned_each : (Q : Move → Type 0) (ms : List Move) (us : List ℕ) (ts : List Turning) (bs : List ℕ) → EachAmount Q ms us → EachTurn (λ x. (m : Move) × At ms x.back m × Q m) ts → EachAmount Q ms (turned_back us ts bs)
turned_each Q ms us [] bs each h = each
turned_each Q ms us (x ∷ ts) [] each h = each
turned_each Q ms us (x ∷ ts) (b ∷ bs) each h = turned_each Q ms (slice_set us x.back (amount_at us x.back + b)) ts bs (set_each Q ms us x.back (amount_at us x.back + b) h.0.0 h.0.1 h.0.2 each) h.1

none_each : (Q : Move → Type 0) (ms : List Move) (k : ℕ) → EachAmount Q ms (replicate k 0)
none_each Q [] k = tt
none_each Q (m ∷ ms) zero = tt
none_each Q (m ∷ ms) (suc k) = ((λ lt. absurd (omega (arith, lt))), none_each Q ms k)

each_at : (Q : Move → Type 0) (x : Amounts) (ms : List Move) (us : List ℕ) (m : Move) → EachAmount Q ms us → AreAmounts x ms us → Contains ms m → 0 < x m.at m.number → Q m
each_at Q x [] us m each are (i, lt, e) h = absurd (omega (arith, lt))
each_at Q x (y ∷ ms) [] m each are i h = absurd are
each_at Q x (y ∷ ms) (u ∷ us) m each are (zero, lt, e) h =
    let a : x m.at m.number ≡ u = ap (λ (z : Move). x z.at z.number) (sym e) ∙ are.0 in subst Q e (each.0 (omega (arith, h, a)))
each_at Q x (y ∷ ms) (u ∷ us) m each are (suc i, lt, e) h = each_at Q x ms us m each.1 are.1 (i, omega (arith, lt), e) h

sum_at_least : (x : Amounts) (ms : List Move) (us : List ℕ) (m : Move) → AreAmounts x ms us → Contains ms m → x m.at m.number ≤ sum_if (begins_at m.at) ms us
sum_at_least x [] us m are (i, lt, e) = absurd (omega (arith, lt))
sum_at_least x (y ∷ ms) [] m are i = absurd are
sum_at_least x (y ∷ ms) (u ∷ us) m are (zero, lt, e) =
    let a : x m.at m.number ≡ u = ap (λ (z : Move). x z.at z.number) (sym e) ∙ are.0 in
    let b : y.at ≡ m.at = ap (λ (z : Move). z.at) e in
    elim (eqb_tells y.at m.at) [ inl k ↦ rw k.0 (omega (arith, a)) | inr k ↦ absurd (k.1 b) ]
sum_at_least x (y ∷ ms) (u ∷ us) m are (suc i, lt, e) = let r = sum_at_least x ms us m are.1 (i, omega (arith, lt), e) in more (y.at == m.at) r
  where
    more : (t : Bool) → x m.at m.number ≤ sum_if (begins_at m.at) ms us → x m.at m.number ≤ cond t u 0 + sum_if (begins_at m.at) ms us
    more true r = omega (arith, r)
    more false r = omega (arith, r)

-- ---- a jump back is one move

contains_from : (ms : List Move) (a : ℕ) (m : Move) → Contains ms m → m.at ≡ a → Contains (moves_from ms a) m
contains_from [] a m (i, lt, e) at = absurd (omega (arith, lt))
contains_from (x ∷ ms) a m (zero, lt, e) at = elim (eqb_tells x.at a) [
  | inl k ↦ rw k.0 (zero, omega arith, e)
  | inr k ↦ absurd (k.1 (ap (λ (y : Move). y.at) e ∙ at))
]
contains_from (x ∷ ms) a m (suc i, lt, e) at = later (x.at == a) (contains_from ms a m (i, omega (arith, lt), e) at)
  where
    later : (t : Bool) → Contains (moves_from ms a) m → Contains (cond t (x ∷ moves_from ms a) (moves_from ms a)) m
    later true h = (suc h.0, (let lt = h.1 in omega (arith, lt)), h.2)
    later false h = h

from_parts : (ms : List Move) (a : ℕ) (m : Move) → Contains (moves_from ms a) m → Contains ms m × (m.at ≡ a)
from_parts [] a m (i, lt, e) = absurd (omega (arith, lt))
from_parts (x ∷ ms) a m i = elim (eqb_tells x.at a) [
  | inl k ↦ here (x.at == a) k.0 k.1 (λ j. from_parts ms a m j) i
  | inr k ↦ later (from_parts ms a m (rest (x.at == a) k.0 i))
]
  where
    later : Contains ms m × (m.at ≡ a) → Contains (x ∷ ms) m × (m.at ≡ a)
    later r = ((suc r.0.0, (let lt = r.0.1 in omega (arith, lt)), r.0.2), r.1)

    rest : (t : Bool) → t ≡ false → Contains (cond t (x ∷ moves_from ms a) (moves_from ms a)) m → Contains (moves_from ms a) m
    rest true e h = cc
    rest false e h = h

    here : (t : Bool) → t ≡ true → x.at ≡ a → (Contains (moves_from ms a) m → Contains ms m × (m.at ≡ a)) → Contains (cond t (x ∷ moves_from ms a) (moves_from ms a)) m → Contains (x ∷ ms) m × (m.at ≡ a)
    here true t e next (zero, lt, f) = ((zero, omega arith, f), ap (λ (y : Move). y.at) (sym f) ∙ e)
    here true t e next (suc j, lt, f) = later (next (j, omega (arith, lt), f))
    here false t e next h = cc

only_one : (x m k : Move) → Contains (x ∷ []) m → Contains (x ∷ []) k → m ≡ k
only_one x m k (zero, lt, e) (zero, lt', e') = sym e ∙ e'
only_one x m k (suc i, lt, e) j = absurd (omega (arith, lt))
only_one x m k (zero, lt, e) (suc j, lt', e') = absurd (omega (arith, lt'))

first_is : (x y : ℕ) (xs ys : List ℕ) → x ∷ xs ≡ y ∷ ys → x ≡ y
first_is x y xs ys e = ap first_number e
  where
    first_number : List ℕ → ℕ
    first_number [] = 0
    first_number (x ∷ xs) = x

-- instructions stand below RAM
placed_small : (a : ℕ) → IsPlaced a → a < 0x2000_0000
placed_small a placed = by_tests (lies_in Flash a) refl (lies_in Spm a) refl (lies_in Ram a) placed.region
  where
    by_tests : (t : Bool) → lies_in Flash a ≡ t → (u : Bool) → lies_in Spm a ≡ u → (x : Bool) → (cond t (Some Flash) (cond u (Some Spm) (cond x (Some Ram) None)) ≡ Some Flash) ⊎ (cond t (Some Flash) (cond u (Some Spm) (cond x (Some Ram) None)) ≡ Some Spm) → a < 0x2000_0000
    by_tests true e u f x r = grind (arith, nat_tests)
    by_tests false e true f x r = grind (arith, nat_tests)
    by_tests false e false f true r = absurd (elim r [ inl k ↦ cc | inr k ↦ cc ])
    by_tests false e false f false r = absurd (elim r [ inl k ↦ cc | inr k ↦ cc ])

-- the moves of an instruction that all go to one address that isn't behind it are one
one_on : (w : Way) (a : ℕ) (i : Instruction) (h : ℕ) → h ≤ a → a < 0x2000_0000 → ((m : Move) → Contains (moves_on w a i) m → destinations m ≡ h ∷ []) → (m k : Move) → Contains (moves_on w a i) m → Contains (moves_on w a i) k → m ≡ k
one_on Next a i h le small all m k im ik = only_one _ m k im ik
one_on (Branches t) a i h le small all m k im ik =
    let e : behind a ≡ h = first_is (behind a) h [] [] (all _ (zero, omega arith, refl)) in absurd (omega (arith, e, le, small))
one_on (Jumps t) a i h le small all m k im ik = only_one _ m k im ik
one_on (Calls t) a i h le small all m k im ik = only_one _ m k im ik
one_on Ends a i h le small all m k im ik = only_one _ m k im ik
one_on Strays a i h le small all m k (j, lt, e) ik = absurd (omega (arith, lt))

dearest_least : (price : Move → ℤ) (ms : List Move) (a : ℕ) (z most : ℤ) → z ≤ℤ most → ((m : Move) → Contains ms m → m.at ≡ a → price m ≤ℤ most) → dearest_from price ms a z ≤ℤ most
dearest_least price [] a z most h f = h
dearest_least price (x ∷ ms) a z most h f = elim (eqb_tells x.at a) [
  | inl k ↦ rw k.0 (larger_least (price x) (dearest_from price ms a z) most (f x (zero, omega arith, refl) k.1) (dearest_least price ms a z most h (λ m i. f m (suc i.0, omega (arith, i.1), i.2))))
  | inr k ↦ rw k.0 (dearest_least price ms a z most h (λ m i. f m (suc i.0, omega (arith, i.1), i.2)))
]

module _ (s : System) (ls : List LoopShape) (ps : List Span) (whole : IsReachedWhole s ls ps) (q : Prices) (least : ℤ) where
  -- ---- walked moves

  abbrev IsTightMove : Level → Move → Type 0
  IsTightMove w m = is_back ls m.at ≡ false → Tight w (step_of q.of s.moves w.worths m)

  -- a move that is tight in its function stays so when later functions are settled
  still_tight : (k : ℕ) (v : Level) (r : Span) (rs : List Span) → Numbered s ls ps whole q k (r ∷ rs) → ((p : Span) → Contains (r ∷ rs) p → Contains ps p) → AreAllApart (r ∷ rs) → (m : Move) → Contains s.moves m → IsInSpan r m.at →
      Tight (function_level s ls q v r) (step_of q.of s.moves v.worths m) → Tight (functions_level s ls q v (r ∷ rs)) (step_of q.of s.moves (functions_level s ls q v (r ∷ rs)).worths m)
  still_tight k v r rs numbered sub apart m im inside tight =
      let at = functions_leave s ls ps whole q (function_level s ls q v r) rs (place_of s.moves m.at) rest (elsewhere_all s ls ps whole q r rs m.at (has_of s.moves m im) inside apart.0) in
      let at0 = at.0 in let at1 = at.1 in
      let on = on_same (first_or (onward m)) in
      let call = same_call s ls ps whole q (functions_level s ls q v (r ∷ rs)).worths v.worths m.to m.behind called in
      omega (arith, ints)
    where
      rest : (p : Span) → Contains rs p → Contains ps p
      rest p h = sub p (suc h.0, omega (arith, h.1), h.2)

      ir : Contains ps r
      ir = sub r (zero, omega arith, refl)

      on_same : (onward m ≡ []) ⊎ ((d : ℕ) × (es : List ℕ) × (onward m ≡ d ∷ es)) → worth_at (functions_level s ls q v (r ∷ rs)).worths (on_place s.moves (onward m)) ≡ worth_at (function_level s ls q v r).worths (on_place s.moves (onward m))
      on_same o = elim o [
        | inl e ↦ (functions_leave s ls ps whole q (function_level s ls q v r) rs (on_place s.moves (onward m)) rest (subst (λ a. All (λ p. IsElsewhere s p a) rs) (sym (ap (on_place s.moves) e)) (elsewhere_end s ls ps whole q rs))).0
        | inr h ↦
            let id : Contains (onward m) h.0 = subst (λ ds. Contains ds h.0) (sym h.2) (zero, omega arith, refl) in
            let there = closed s ls ps whole q m h.0 im (onward_arrives m.to m.behind h.0 id) in
            let stays = All-contains (IsInSpan r) (onward m) h.0 (All-contains (StaysIn m) ps r (All-contains (λ (x : Move). All (StaysIn x) ps) s.moves m whole.fits.stays im) ir inside) id in
            (functions_leave s ls ps whole q (function_level s ls q v r) rs (on_place s.moves (onward m)) rest (subst (λ a. All (λ p. IsElsewhere s p a) rs) (sym (ap (on_place s.moves) h.2)) (elsewhere_all s ls ps whole q r rs h.0 there stays apart.0))).0
      ]

      called : (t b : ℕ) → m.to ≡ Some t → m.behind ≡ Some b → worth_at (functions_level s ls q v (r ∷ rs)).worths (place_of s.moves t) ≡ worth_at v.worths (place_of s.moves t)
      called t b e f =
          let there = target_reached s ls ps whole q m im t b e f in
          let lt = rank_earlier ps t m.at whole.filled whole.fits.apart (All-contains (CallsEarlier ps) s.moves m whole.fits.calls im t b e f) in
          let own = numbered.0 m.at inside in
          (functions_leave s ls ps whole q v (r ∷ rs) (place_of s.moves t) sub (elsewhere_before s ls ps whole q k (r ∷ rs) t there (omega (arith, lt, own)) numbered)).0

  tight_from : (k : ℕ) (v : Level) (rs : List Span) → Numbered s ls ps whole q k rs → ((p : Span) → Contains rs p → Contains ps p) → AreAllApart rs → IsFresh s ls ps whole q v rs → ((x : ℕ) → has_moves s.moves x ≡ true → IsInOne rs x → worth_at v.worths (place_of s.moves x) ≡ q.low) →
      length s.moves < length v.worths → length s.moves < length v.weights → AreOpenFunctions least s ls q v rs → least ≤ℤ worth_at (functions_level s ls q v rs).worths (place_of s.moves s.entry) → EachAmount (IsTightMove (functions_level s ls q v rs)) s.moves (flow_from s ls q v rs (first_flow s)).amounts
  tight_from k v [] numbered sub apart fresh blank long_worths long_weights code entry = none_each (IsTightMove (functions_level s ls q v [])) s.moves (length s.moves)
  tight_from k v (r ∷ rs) numbered sub apart fresh blank long_worths long_weights code entry =
      added (tight_from (k + 1) (function_level s ls q v r) rs numbered.1 rest apart.1 fresh' blank' long_worths' long_weights' code.1 entry)
    where
      ir : Contains ps r
      ir = sub r (zero, omega arith, refl)

      rest : (p : Span) → Contains rs p → Contains ps p
      rest p h = sub p (suc h.0, omega (arith, h.1), h.2)

      held : Held q.low (function_steps s ls q.of v.worths r) (ground q.low (function_steps s ls q.of v.worths r) v (function_loops s ls q v.worths r)) (function_level s ls q v r) (function_loops s ls q v.worths r) (function_pairs s ls q v r)
      held = function_holds s ls ps whole q v r ir long_worths long_weights (λ x h o. fresh x h (inl o))

      fresh' : IsFresh s ls ps whole q (function_level s ls q v r) rs
      fresh' x h o = (function_leaves s ls ps whole q v r (place_of s.moves x) ir (inl (x, h, apart_one r rs x apart.0 o, refl))).1 ∙ fresh x h (inr o)

      blank' : (x : ℕ) → has_moves s.moves x ≡ true → IsInOne rs x → worth_at (function_level s ls q v r).worths (place_of s.moves x) ≡ q.low
      blank' x h o = (function_leaves s ls ps whole q v r (place_of s.moves x) ir (inl (x, h, apart_one r rs x apart.0 o, refl))).0 ∙ blank x h (inr o)

      long_worths' : length s.moves < length (function_level s ls q v r).worths
      long_worths' = let e = held.long_worths in let f = relaxed-long (ground q.low (function_steps s ls q.of v.worths r) v (function_loops s ls q v.worths r)).weights v.worths (function_steps s ls q.of v.worths r) in omega (arith, e, f, long_worths)

      long_weights' : length s.moves < length (function_level s ls q v r).weights
      long_weights' = let e = held.long_weights in let f = weighed-long q.low (function_steps s ls q.of v.worths r) v.weights (function_loops s ls q v.worths r) in omega (arith, e, f, long_weights)

      f : Flowing
      f = flow_from s ls q (function_level s ls q v r) rs (first_flow s)

      going : IsGoing s ls ps whole q least (function_level s ls q v r) rs (functions_level s ls q (function_level s ls q v r) rs) (flow_from s ls q (function_level s ls q v r) rs (first_flow s))
      going = flow_goes s ls ps whole q least (k + 1) (function_level s ls q v r) rs numbered.1 rest apart.1 fresh' blank' long_worths' long_weights' code.1 entry

      slack : EachMade (Tight (function_level s ls q v r)) (function_steps s ls q.of v.worths r) (function_counts s ls q v r (flow_from s ls q (function_level s ls q v r) rs (first_flow s)).starts)
      slack = (function_tight s ls ps whole q least v r ir (flow_from s ls q (function_level s ls q v r) rs (first_flow s)).starts
          (ready s ls ps whole q least k v r rs numbered sub apart blank fresh long_worths long_weights code.0 (flow_from s ls q (function_level s ls q v r) rs (first_flow s)) going)).0

      added : EachAmount (IsTightMove (functions_level s ls q v (r ∷ rs))) s.moves (flow_from s ls q (function_level s ls q v r) rs (first_flow s)).amounts → EachAmount (IsTightMove (functions_level s ls q v (r ∷ rs))) s.moves (flow_from s ls q v (r ∷ rs) (first_flow s)).amounts
      added each = turned_each (IsTightMove (functions_level s ls q v (r ∷ rs))) s.moves (counted (is_walked s.claims ls r) s.moves (flow_from s ls q (function_level s ls q v r) rs (first_flow s)).amounts (function_counts s ls q v r (flow_from s ls q (function_level s ls q v r) rs (first_flow s)).starts))
          (function_turnings s ls q v r) (function_backs s ls q v r (flow_from s ls q (function_level s ls q v r) rs (first_flow s)).starts)
          (counted_each (Tight (function_level s ls q v r)) (IsTightMove (functions_level s ls q v (r ∷ rs))) q.of s.moves v.worths (is_walked s.claims ls r) s.moves (flow_from s ls q (function_level s ls q v r) rs (first_flow s)).amounts
          (function_counts s ls q v r (flow_from s ls q (function_level s ls q v r) rs (first_flow s)).starts) each slack
          (λ m im w t nb. still_tight k v r rs numbered sub apart m im (walked_in r (not (is_stop s.claims m.at || is_back ls m.at)) m.at w) t))
          (each_turn (λ x. IsBackMove s ls ps whole q r x.back x.header) (λ x. (m : Move) × At s.moves x.back m × IsTightMove (functions_level s ls q v (r ∷ rs)) m)
          (λ x b. (b.move, b.at, λ nb. absurd (differ (is_back ls b.move.at) (subst (λ a. is_back ls a ≡ true) b.shape_back (is_back_at ls b.shape b.is_shape)) nb))) (function_turnings s ls q v r) (back_moves s ls ps whole q r ir (function_steps s ls q.of v.worths r) v.weights))

module _ (s : System) (ls : List LoopShape) (ps : List Span) (whole : IsReachedWhole s ls ps) (q : Prices) (least : ℤ) (is : IsOpenSystem s ls ps q least) (above : q.low <ℤ least) where
  abbrev us : List ℕ
  us = amounts_of s ls ps q

  abbrev w : Level
  w = final_level s ls ps q

  abbrev x : Amounts
  x = listed (parts_of s.moves (amounts_of s ls ps q))

  are : AreAmounts x s.moves us
  are = listed_amounts s.moves us (goes s ls ps whole q least is).long_amounts whole.system.ascending

  -- ---- jumps back

  abbrev Claimed : Span → List Step → Loop → Pair → Type 0
  Claimed = IsClaimed s ls ps whole q least (amounts_of s ls ps q) (up s ls ps whole q least is) is.bounds

  -- where a loop's jump back is made, it is worth what the multipliers make it
  pub record IsSlackLoop (u : Level) (p : Span) (ms : List Step) (l : Loop) (k : Pair) : Type 0 where
    pub claimed : Claimed p ms l k
    pub tight : 0 < backs_to claimed.turns claimed.backs l.header → (b : ℕ) × (l.back ≡ Some b) × (b ≢ l.header) × (worth_at u.worths b ≡ back_worth l (worth_at u.worths l.header) k) × (least ≤ℤ l.price)

  slack_all : (u : Level) (p : Span) (ms : List Step) (counts : List ℕ) (turns : List Turning) (backs : List ℕ) → Contains ps p →
      ((a : ℕ) → has_moves s.moves a ≡ true → IsInSpan p a → sum_if (begins_at a) s.moves us ≡ departed ms counts (place_of s.moves a) + backs_from turns backs (place_of s.moves a)) →
      EachTurn (λ y. IsBackMove s ls ps whole q p y.back y.header) turns → (los : List Loop) (ks : List Pair) → AreCounted ms counts turns backs los ks → AreBacksTight least u turns backs los ks → AreAll (IsSlackLoop u p ms) los ks
  slack_all u p ms counts turns backs ip sums back [] ks h t = tt
  slack_all u p ms counts turns backs ip sums back (l ∷ los) [] h t = absurd h
  slack_all u p ms counts turns backs ip sums back (l ∷ los) (k ∷ ks) h t = (
    record { claimed = record { counts = counts; turns = turns; backs = backs; inside = ip; counted = h.0; sums = sums; moves_back = back }; tight = t.0 },
    slack_all u p ms counts turns backs ip sums back los ks h.1 t.1,
  )

  -- places of a function keep their worths
  abbrev IsLeft : Level → Level → Loop → Type 0
  IsLeft u v l = (worth_at u.worths l.header ≡ worth_at v.worths l.header) × ((b : ℕ) → l.back ≡ Some b → worth_at u.worths b ≡ worth_at v.worths b)

  backs_later : (u v : Level) (ts : List Turning) (bs : List ℕ) (los : List Loop) (ks : List Pair) → EachLoop (IsLeft u v) los → AreBacksTight least v ts bs los ks → AreBacksTight least u ts bs los ks
  backs_later u v ts bs [] ks e h = tt
  backs_later u v ts bs (l ∷ los) [] e h = absurd h
  backs_later u v ts bs (l ∷ los) (k ∷ ks) e h = (
    (λ lt. let r = h.0 lt in (r.0, r.1, r.2, e.0.1 r.0 r.1 ∙ (r.3 ∙ ap (λ (z : ℤ). back_worth l z k) (sym e.0.0)), r.4)),
    backs_later u v ts bs los ks e.1 h.1,
  )

  abbrev Any' : Pair → Type 0
  Any' k = Unit {0}

  any' : (u : Level) (p : Span) (ms : List Step) (l : Loop) (k : Pair) → IsSlackLoop u p ms l k → Any' k
  any' u p ms l k h = tt

  slack_functions : (v : Level) (rs : List Span) → ((r : Span) → Contains rs r → Contains ps r) → AreAllApart rs → AreDone s ls ps whole q least us v rs → AllFunctions s ls q Any' (IsSlackLoop (functions_level s ls q v rs)) (any' (functions_level s ls q v rs)) v rs
  slack_functions v [] sub apart done = tt
  slack_functions v (r ∷ rs) sub apart done = (
    slack_all (functions_level s ls q v (r ∷ rs)) r (function_steps s ls q.of v.worths r) (function_counts s ls q v r done.0.starts) (function_turnings s ls q v r) (function_backs s ls q v r done.0.starts) ir done.0.counts
        (back_moves s ls ps whole q r ir (function_steps s ls q.of v.worths r) v.weights) (function_loops s ls q v.worths r) (function_pairs s ls q v r)
        (function_counted s ls ps whole q least us (up s ls ps whole q least is) is.bounds v r ir done.0)
        (backs_later (functions_level s ls q v (r ∷ rs)) (function_level s ls q v r) (function_turnings s ls q v r) (function_backs s ls q v r done.0.starts) (function_loops s ls q v.worths r) (function_pairs s ls q v r)
        (loops_each s ls ps whole q (IsLeft (functions_level s ls q v (r ∷ rs)) (function_level s ls q v r)) r (function_steps s ls q.of v.worths r) s.claims.loops ls
        (λ c l il inside there. (
          left l.header there inside,
          λ b e. let t = back_reached s ls ps whole q l b e in subst (λ a. worth_at (functions_level s ls q v (r ∷ rs)).worths a ≡ worth_at (function_level s ls q v r).worths a) t.1
              (left l.back t.0 (back_inside s ls ps whole.fits whole.filled whole.reached whole.system.ascending q.of q.low [] r ir l il inside t.0)),
        )))
        (function_tight s ls ps whole q least v r ir done.0.starts done.0.ready).1),
    slack_functions (function_level s ls q v r) rs rest apart.1 done.1,
  )
    where
      ir : Contains ps r
      ir = sub r (zero, omega arith, refl)

      rest : (p : Span) → Contains rs p → Contains ps p
      rest p h = sub p (suc h.0, omega (arith, h.1), h.2)

      left : (a : ℕ) → has_moves s.moves a ≡ true → IsInSpan r a → worth_at (functions_level s ls q v (r ∷ rs)).worths (place_of s.moves a) ≡ worth_at (function_level s ls q v r).worths (place_of s.moves a)
      left a there inside = (functions_leave s ls ps whole q (function_level s ls q v r) rs (place_of s.moves a) rest (elsewhere_all s ls ps whole q r rs a there inside apart.0)).0

  abbrev IsSlackBack : LoopClaim → LoopShape → Pair → Type 0
  IsSlackBack c l k = 0 < sum_if (begins_at l.back) s.moves us → (l.back ≢ l.header) × (worth_at w.worths (place_of s.moves l.back) ≡ (((dearest_from q.of s.moves l.back q.low +ℤ worth_at w.worths (place_of s.moves l.header)) +ℤ (k.least *ℤ pos c.min)) -ℤ (k.most *ℤ pos c.max))) × (least ≤ℤ dearest_from q.of s.moves l.back q.low)

  not_reached : (a : ℕ) → has_moves s.moves a ≡ false → sum_if (begins_at a) s.moves us ≡ 0
  not_reached a h = no_sum (begins_at a) s.moves us (λ m im. not_equal m.at a (λ e. differ (has_moves s.moves a) (subst (λ b. has_moves s.moves b ≡ true) e (has_of s.moves m im)) h))
    where
      not_equal : (a b : ℕ) → a ≢ b → (a == b) ≡ false
      not_equal a b d = elim (eqb_tells a b) [ inl k ↦ absurd (d k.1) | inr k ↦ k.0 ]

  slack_backs : (cs : List LoopClaim) (ks : List LoopShape) (pairs : List Pair) → ((l : LoopShape) → Contains ks l → Contains ls l) → AreDealt (IsPriced s ls ps whole q w) cs ks pairs → AreDealt (IsDealt s ls q Any' (IsSlackLoop w) (any' w) (IsInOne ps)) cs ks pairs → AreDealt IsSlackBack cs ks pairs
  slack_backs [] [] pairs sub priced dealt = tt
  slack_backs [] (l ∷ ks) pairs sub priced dealt = absurd priced
  slack_backs (c ∷ cs) [] pairs sub priced dealt = absurd priced
  slack_backs (c ∷ cs) (l ∷ ks) [] sub priced dealt = absurd priced
  slack_backs (c ∷ cs) (l ∷ ks) (k ∷ pairs) sub priced dealt = (
    by_has (has_moves s.moves l.header) refl priced.0 dealt.0.1,
    slack_backs cs ks pairs (λ d i. sub d (suc i.0, omega (arith, i.1), i.2)) priced.1 dealt.1,
  )
    where
      il : Contains ls l
      il = sub l (zero, omega arith, refl)

      by_has : (t : Bool) → has_moves s.moves l.header ≡ t → IsPriced s ls ps whole q w c l k → (has_moves s.moves l.header ≡ true → IsInOne ps l.header → Found s ls q Any' (IsSlackLoop w) (any' w) c l k) → IsSlackBack c l k
      by_has true h priced found lt =
          let g = found h (covered s ls ps whole q least is l.header h) in
          let bc = back_count s ls ps whole q least us (up s ls ps whole q least is) is.bounds g.0 (function_steps s ls q.of g.1 g.0) l il h g.2 (loop_of q.of q.low s.moves s.claims g.0 (function_steps s ls q.of g.1 g.0) c l) k refl g.3.claimed g.1 refl in
          let t = g.3.tight (omega (arith, lt, bc)) in
          let r = back_reached s ls ps whole q l t.0 t.1 in
          ((λ e. t.2 (sym r.1 ∙ ap (place_of s.moves) e)), ap (λ a. worth_at w.worths a) r.1 ∙ t.3, t.4)
      by_has false h priced found lt = by_back (has_moves s.moves l.back) refl
        where
          by_back : (t : Bool) → has_moves s.moves l.back ≡ t → (l.back ≢ l.header) × (worth_at w.worths (place_of s.moves l.back) ≡ (((dearest_from q.of s.moves l.back q.low +ℤ worth_at w.worths (place_of s.moves l.header)) +ℤ (k.least *ℤ pos c.min)) -ℤ (k.most *ℤ pos c.max))) × (least ≤ℤ dearest_from q.of s.moves l.back q.low)
          by_back true b = absurd (differ (has_moves s.moves l.header) (subst (λ a. has_moves s.moves a ≡ true) (sym priced.header) (leads s ls ps whole q c l il priced.back priced.header (subst (λ a. has_moves s.moves a ≡ true) priced.back b))) h)
          by_back false b = let z = not_reached l.back b in absurd (omega (arith, lt, z))

  all_slack : AreDealt IsSlackBack s.claims.loops ls (final_pairs s ls ps q)
  all_slack = slack_backs s.claims.loops ls (final_pairs s ls ps q) (λ l i. i) (final_priced s ls ps whole q is.negative)
      (all_dealt s ls q Any' (IsSlackLoop w) (any' w) tt (blank (length s.moves) q.low) ps whole.fits.shapes (slack_functions (blank (length s.moves) q.low) ps (λ r i. i) whole.fits.apart (goes s ls ps whole q least is).functions))

  -- ---- rows

  abbrev p : ℕ → ℤ
  p = coefficient (potentials_of s.moves (final_level s ls ps q).worths s.moves)

  not_or : (a b : Bool) → a || b ≡ false → (a ≡ false) × (b ≡ false)
  not_or true b h = cc
  not_or false b h = (refl, h)

  -- where an address may be visited, all limits hold what the loops' multipliers do
  held_same : (a : ℕ) → is_stop s.claims a ≡ false → held (dual_of s q.of (values_of s ls ps q)).limits a ≡ held (loop_limits s.claims.loops (both_of (final_pairs s ls ps q))) a
  held_same a free =
      let n = not_or (is_never s.claims.nevers a) (is_shut s.claims.loops a) free in
      let e = held_parts s ls ps whole q a in
      let f = never_none (owe_of s q.of (values_of s ls ps q)) (owe_least s ls ps whole q) s.claims.nevers a n.0 in
      let g = loops_same (owe_of s q.of (values_of s ls ps q)) (owe_least s ls ps whole q) s.claims.loops (final_pairs s ls ps q) a n.1 in
      omega (arith, ints)

  walked_row : (m : Move) → Contains s.moves m → is_stop s.claims m.at ≡ false → is_back ls m.at ≡ false → Tight w (step_of q.of s.moves w.worths m) → q.of m ≡ fall p m +ℤ held (dual_of s q.of (values_of s ls ps q)).limits m.at
  walked_row m im free nb tight =
      let here = has_of s.moves m im in
      let h = forward_held s ls ps whole q s.claims.loops ls (final_pairs s ls ps q) m.at (final_priced s ls ps whole q is.negative) (up s ls ps whole q least is) here (not_back s ls ps whole q m.at nb) (plain_weight s ls ps whole q m.at here) in
      let a = potential_place s ls ps whole q m.at here in
      let d = arrives_worth s.moves w.worths p m.to m.behind (out_worth s ls ps whole q) (λ y j. potential_place s ls ps whole q y (closed s ls ps whole q m y im j)) in
      let e = held_same m.at free in
      omega (arith, ints)

  -- the header of a jump back isn't behind it
  header_before : (l : LoopShape) → Contains ls l → (m : Move) → Contains s.moves m → m.at ≡ l.back → l.header ≤ l.back
  header_before l il m im at =
      let r = whole.reached m im in
      let b = reached_behind s ls ps whole.fits whole.filled r.0 m.at r.1 l il (subst (λ a. IsInLoop l a) (sym at) (All-contains (IsLoop s) ls l whole.fits.loops il).back) in
      let d = one_destination m.to m.behind l.header (goes_back s ls ps whole q l il m im at) in
      let on : Contains (onward m) l.header = subst (λ ds. Contains ds l.header) (sym d.0) (zero, omega arith, refl) in
      let e = rank_stays ps m l.header whole.fits.apart (All-contains (λ (y : Move). IsInOne ps y.at) s.moves m whole.fits.covered im) (All-contains (λ (y : Move). All (StaysIn y) ps) s.moves m whole.fits.stays im) on in
      elim b [ inl k ↦ absurd (omega (arith, k, e)) | inr k ↦ let k1 = k.1 in omega (arith, k1, at) ]

  -- where the price of a jump back is open, it is that of its move
  one_price : (l : LoopShape) → Contains ls l → (m : Move) → Contains s.moves m → m.at ≡ l.back → least ≤ℤ dearest_from q.of s.moves l.back q.low → dearest_from q.of s.moves l.back q.low ≡ q.of m
  one_price l il m im at wide =
      let a = dearest_most q.of s.moves l.back q.low m im at in
      let b = dearest_least q.of s.moves l.back q.low (larger q.low (q.of m)) (larger_left q.low (q.of m)) (λ k ik e. let f = ap q.of (same k ik e) in let r = larger_right q.low (q.of m) in omega (arith, ints)) in
      let c = larger_open q.low least (q.of m) above (omega (arith, ints)) in
      let c0 = c.0 in omega (arith, ints)
    where
      here : has_moves s.moves l.back ≡ true
      here = subst (λ b. has_moves s.moves b ≡ true) at (has_of s.moves m im)

      own : AreOfInstruction s.claims.exits s.moves l.back
      own = whole.system.own l.back here

      from_is : (k : Move) → Contains (moves_from s.moves l.back) k → Contains s.moves k × (k.at ≡ l.back)
      from_is k i = from_parts s.moves l.back k i

      same : (k : Move) → Contains s.moves k → k.at ≡ l.back → k ≡ m
      same k ik e = one_on (way_of (is_listed s.claims.exits l.back) own.before l.back own.instr) l.back own.instr l.header (header_before l il m im at)
          (placed_small l.back (subst IsPlaced at (All-contains (λ (y : Move). IsPlaced y.at) s.moves m whole.system.placed im)))
          (λ y i. let f = from_is y (subst (λ ms. Contains ms y) (sym own.are) i) in goes_back s ls ps whole q l il y f.0 f.1) k m
          (subst (λ ms. Contains ms k) own.are (contains_from s.moves l.back k ik e)) (subst (λ ms. Contains ms m) own.are (contains_from s.moves l.back m im at))

  back_row : (m : Move) → Contains s.moves m → is_stop s.claims m.at ≡ false → is_back ls m.at ≡ true → 0 < sum_if (begins_at m.at) s.moves us → q.of m ≡ fall p m +ℤ held (dual_of s q.of (values_of s ls ps q)).limits m.at
  back_row m im free nb lt =
      let here = has_of s.moves m im in
      let b = back_held s ls ps whole q s.claims.loops ls (final_pairs s ls ps q) m.at (first_of s ls ps whole q (destinations m)) (final_priced s ls ps whole q is.negative) (up s ls ps whole q least is) here nb nb (λ l il e. sym (ap (first_of s ls ps whole q) (goes_back s ls ps whole q l il m im (sym e)))) in
      row b.0 b.1 b.2 b.3 b.4 b.5 b.6 b.7 here
    where
      row : (c : LoopClaim) (l : LoopShape) (u : Pair) → IsPriced s ls ps whole q w c l u → Contains ls l → c.back ≡ m.at → held (loop_limits s.claims.loops (both_of (final_pairs s ls ps q))) m.at ≡ hold c u m.at → Stands s.claims.loops ls (final_pairs s ls ps q) c l u → has_moves s.moves m.at ≡ true →
          q.of m ≡ fall p m +ℤ held (dual_of s q.of (values_of s ls ps q)).limits m.at
      row c l u k il at e st here =
          let lb : l.back ≡ m.at = k.back ∙ at in
          let t = dealt_stands IsSlackBack s.claims.loops ls (final_pairs s ls ps q) c l u all_slack st (subst (λ a. 0 < sum_if (begins_at a) s.moves us) (sym lb) lt) in
          let goes : destinations m ≡ l.header ∷ [] = goes_back s ls ps whole q l il m im (sym lb) in
          let sum : int_sum_by p (destinations m) ≡ p l.header +ℤ pos 0 = ap (int_sum_by p) goes in
          let there : has_moves s.moves l.header ≡ true = subst (λ a. has_moves s.moves a ≡ true) (sym k.header) (leads s ls ps whole q c l il k.back k.header (subst (λ a. has_moves s.moves a ≡ true) (sym at) here)) in
          let y = hold_back c u m.at (λ g. t.0 (lb ∙ (sym g ∙ sym k.header))) at in
          let z = one_price l il m im (sym lb) t.2 in
          let v : p m.at ≡ worth_at w.worths (place_of s.moves l.back) = potential_place s ls ps whole q m.at here ∙ ap (λ a. worth_at w.worths (place_of s.moves a)) (sym lb) in
          let j = potential_place s ls ps whole q l.header there in
          let h = held_same m.at free in
          let t1 = t.1 in omega (arith, ints)

  -- ---- all moves

  tight_moves : EachAmount (IsTightMove s ls ps whole q least w) s.moves us
  tight_moves = tight_from s ls ps whole q least 0 (blank (length s.moves) q.low) ps (numbered s ls ps whole q 0 ps whole.fits.apart (λ y i. omega arith)) (λ r h. h) whole.fits.apart
      (λ y h o. zero_at (length s.moves + 1) (place_of s.moves y))
      (λ y h o. low_at (length s.moves) q.low (place_of s.moves y) (place_below s.moves y h))
      (let a = length-append (replicate (length s.moves) q.low) (pos 0 ∷ []) in let b = length-replicate (length s.moves) q.low in omega (arith, a, b))
      (let b = length-replicate (length s.moves + 1) (pos 0) in omega (arith, b)) is.code is.entry
    where
      low_at : (n : ℕ) (low : ℤ) (a : ℕ) → a < n → worth_at (replicate n low ++ pos 0 ∷ []) a ≡ low
      low_at zero low a lt = absurd (omega (arith, lt))
      low_at (suc n) low zero lt = refl
      low_at (suc n) low (suc a) lt = low_at n low a (omega (arith, lt))

  move_row : (m : Move) → Contains s.moves m → 0 < x m.at m.number → q.of m ≡ fall p m +ℤ held (dual_of s q.of (values_of s ls ps q)).limits m.at
  move_row m im lt = by_place (is_stop s.claims m.at) refl (is_back ls m.at) refl
    where
      made : 0 < sum_if (begins_at m.at) s.moves us
      made = let a = sum_at_least x s.moves us m are im in omega (arith, lt, a)

      by_place : (t : Bool) → is_stop s.claims m.at ≡ t → (u : Bool) → is_back ls m.at ≡ u → q.of m ≡ fall p m +ℤ held (dual_of s q.of (values_of s ls ps q)).limits m.at
      by_place true t u e =
          let a = stopped s ls ps whole q least is m.at t in
          let b = visits_are s ls ps whole q least is m.at in
          let c = made in absurd (omega (arith, ints))
      by_place false t true e = back_row m im t e made
      by_place false t false e = walked_row m im t e (each_at (IsTightMove s ls ps whole q least w) x s.moves us m tight_moves are im lt e)

  zero_times : (z : ℤ) → pos 0 *ℤ z ≡ pos 0
  zero_times z = omega (arith, ints)

  is_tight : (m : Move) → Contains s.moves m → IsTight (dual_of s q.of (values_of s ls ps q)) x m
  is_tight m im = elim (eqb_tells (x m.at m.number) 0) [
    | inl e ↦
        let a : amount x m ≡ pos 0 = ap pos e.1 in
        (ap (λ (z : ℤ). z *ℤ q.of m) a ∙ zero_times (q.of m)) ∙ sym (ap (λ (z : ℤ). z *ℤ (fall p m +ℤ held (dual_of s q.of (values_of s ls ps q)).limits m.at)) a ∙ zero_times (fall p m +ℤ held (dual_of s q.of (values_of s ls ps q)).limits m.at))
    | inr e ↦ ap (λ (z : ℤ). amount x m *ℤ z) (move_row m im (positive (x m.at m.number) e.1))
  ]

  pub slackless : IsSlackless s (dual_of s q.of (values_of s ls ps q)) 1 (listed (parts_of s.moves (amounts_of s ls ps q)))
  slackless = record {
    conserved = all_conserved s ls ps whole q least is.code is.entry;
    tight = all_of (IsTight (dual_of s q.of (values_of s ls ps q)) x) s.moves is_tight;
    exact = exact s ls ps whole q least is;
  }

  pub reached : total q.of (listed (parts_of s.moves (amounts_of s ls ps q))) s.moves ≡ worth_at (final_level s ls ps q).worths (place_of s.moves s.entry)
  reached =
      let a = reaches_potential s (dual_of s q.of (values_of s ls ps q)) 1 (listed (parts_of s.moves (amounts_of s ls ps q))) slackless in
      let b = potential_place s ls ps whole q s.entry whole.system.entry in
      let c : pos 1 *ℤ p s.entry ≡ p s.entry = one_times (p s.entry) in a ∙ (c ∙ b)
    where
      one_times : (z : ℤ) → pos 1 *ℤ z ≡ z
      one_times z = omega (arith, ints)

-- a block is below what is open
low_below : (s : System) (ls : List LoopShape) (q : Prices) (least : ℤ) (v : Level) (ps : List Span) (a : ℕ) → AreOpenFunctions least s ls q v ps → IsInOne ps a → q.low <ℤ least
low_below s ls q least v [] a code one = absurd one
low_below s ls q least v (p ∷ ps) a code one = code.0.above

-- at any prices
pub all_slackless : (s : System) (ls : List LoopShape) (ps : List Span) → IsReachedWhole s ls ps → FlowsAreSlackless s ls ps
all_slackless s ls ps whole q least is = slackless s ls ps whole q least is (low_below s ls q least (blank (length s.moves) q.low) ps s.entry is.code (covered s ls ps whole q least is s.entry whole.system.entry))

pub all_reached : (s : System) (ls : List LoopShape) (ps : List Span) → IsReachedWhole s ls ps → ValuesAreReached s ls ps
all_reached s ls ps whole q least is = reached s ls ps whole q least is (low_below s ls q least (blank (length s.moves) q.low) ps s.entry is.code (covered s ls ps whole q least is s.entry whole.system.entry))
