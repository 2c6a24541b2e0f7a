-- The flow of a system: its functions one after the other, a caller before those that it calls.
use Rattle.std.proofs.Common.{◌≡◌, ◌≢◌, ℕ, zero, suc, ◌+◌, ◌≤◌, ◌<◌, ℤ, ◌≤ℤ◌, arith, refl, sym, ap, ◌∙◌, subst, List, [], ◌∷◌, length, Contains, All, inl, inr, Bool, true, false, cond, Option, Some, None}
use Rattle.std.specs.Prelude.{◌==◌, ◌||◌, not}
use Rattle.std.proofs.Math.ListN.{replicate}
use Rattle.std.proofs.lemmas.List.{length-replicate}
use Rattle.std.proofs.lemmas.Bool.Decides.{eqb_tells}
use Rattle.std.proofs.lemmas.List.Elements.{All-contains}
use Rattle.code_flow_system.specs.declared.moves.Move.{Move}
use Rattle.code_flow_system.specs.declared.shapes.LoopShape.{LoopShape}
use Rattle.code_flow_system.specs.declared.shapes.Span.{Span}
use Rattle.code_flow_system.specs.Systems.{System, has_moves}
use Rattle.code_flow_system.specs.Shapes.{onward, is_back, IsInSpan, AreAllApart, IsInOne, StaysIn, CallsEarlier}
use Rattle.loop_walks.specs.declared.step.Step.{Step}
use Rattle.loop_walks.specs.Walks.{worth_at}
use Rattle.loop_walks.specs.Levels.{Level, ground}
use Rattle.loop_walks.proofs.WalkLemmas.{relaxed-long}
use Rattle.loop_walks.proofs.LevelLemmas.{Held, weighed-long}
use Rattle.loop_flows.specs.Passes.{amount_at, departed, arrived}
use Rattle.loop_flows.specs.Flows.{Turning, only_at, backs_from, backs_to}
use Rattle.loop_flows.proofs.TotalLemmas.{only-long, only_there, only_elsewhere}
use Rattle.loop_flows.specs.Opens.{EachMade}
use Rattle.path_places.specs.Reached.{rank}
use Rattle.path_places.specs.Places.{place_of, call_worth, step_of, is_stop, is_walked, steps_of}
use Rattle.path_places.specs.PlaceLaws.{function_steps, IsReachedWhole}
use Rattle.path_places.proofs.RankLemmas.{rank_earlier, apart_one}
use Rattle.path_places.proofs.PlaceLemmas.{place_below, place_within}
use Rattle.path_places.proofs.LoopLemmas.{has_of, first_or}
use Rattle.path_places.proofs.FunctionLemmas.{walked_in}
use Rattle.path_places.specs.Driver.{Prices, function_loops, function_level, function_pairs, functions_level}
use Rattle.path_places.proofs.DriverLemmas.{function_leaves, functions_leave, function_holds, elsewhere_all, elsewhere_before, IsFresh, Numbered}
use Rattle.path_flows.specs.Flows.{Flowing, counted, function_ground, function_turnings, function_counts, function_backs, function_flow, flow_from, first_flow}
use Rattle.path_flows.specs.Opens.{CallsOpenly, IsOpenFunction, AreOpenFunctions}
use Rattle.path_flows.proofs.SumLemmas.{sum_if, walked_if, backs_if, begins_at, is_first, goes_to, calls_by, calls_to, begins_place, goes_place, calls_place_by, calls_place, counted-long, counted_sum, departed_walked, arrived_walked, walked_same, walked_no, At, EachTurn, turned_back-long, back_sum, backs_from-if, backs_to-if, backs_no, each_turn, called-long, called_at}
use Rattle.path_flows.proofs.AtLemmas.{same_place, place_test, goes_test, calls_test, target_reached, at_contains, IsBackMove, back_moves}
use Rattle.path_flows.proofs.StartLemmas.{IsStart, callee_starts, start_ground}
use Rattle.path_flows.proofs.PassLemmas.{IsReady, own_conserved, own_made}

-- where a walked move that passes a test is made, there is such a move
walked_made : (P : Step → Type 0) (t : Move → Bool) (price : Move → ℤ) (all : List Move) (ws : List ℤ) (walked : ℕ → Bool) (ms : List Move) (cs : List ℕ) → EachMade P (steps_of price all ws walked ms) cs → 0 < walked_if t walked ms cs →
    (m : Move) × Contains ms m × (walked m.at ≡ true) × (t m ≡ true) × P (step_of price all ws m)
walked_made P t price all ws walked [] cs made h = absurd (omega (arith, h))
walked_made P t price all ws walked (x ∷ ms) [] made h = absurd (omega (arith, h))
walked_made P t price all ws walked (x ∷ ms) (c ∷ cs) made h =
    by_walked (λ k j. walked_made P t price all ws walked ms cs k j) (λ k j. walked_made P t price all ws walked ms (c ∷ cs) k j) (walked x.at) refl made h
  where
    later : ((m : Move) × Contains ms m × (walked m.at ≡ true) × (t m ≡ true) × P (step_of price all ws m)) → (m : Move) × Contains (x ∷ ms) m × (walked m.at ≡ true) × (t m ≡ true) × P (step_of price all ws m)
    later r = (r.0, (suc r.1.0, (let lt = r.1.1 in omega (arith, lt)), r.1.2), r.2, r.3, r.4)

    here : (b : Bool) → t x ≡ b → (0 < c → P (step_of price all ws x)) → walked x.at ≡ true → 0 < cond b c 0 → (m : Move) × Contains (x ∷ ms) m × (walked m.at ≡ true) × (t m ≡ true) × P (step_of price all ws m)
    here true e p w h = (x, (zero, omega arith, refl), w, e, p h)
    here false e p w h = absurd (omega (arith, h))

    by_test : (b : Bool) → t x ≡ b → (0 < c → P (step_of price all ws x)) → walked x.at ≡ true → (0 < walked_if t walked ms cs → (m : Move) × Contains ms m × (walked m.at ≡ true) × (t m ≡ true) × P (step_of price all ws m)) → 0 < cond b c 0 + walked_if t walked ms cs →
        (m : Move) × Contains (x ∷ ms) m × (walked m.at ≡ true) × (t m ≡ true) × P (step_of price all ws m)
    by_test b e p w next h = elim (eqb_tells (walked_if t walked ms cs) 0) [
      | inl k ↦ let k1 = k.1 in here b e p w (omega (arith, h, k1))
      | inr k ↦ later (next (positive (walked_if t walked ms cs) k.1))
    ]
      where
        positive : (u : ℕ) → u ≢ 0 → 0 < u
        positive zero d = absurd (d refl)
        positive (suc u) d = omega arith

    by_walked : (EachMade P (steps_of price all ws walked ms) cs → 0 < walked_if t walked ms cs → (m : Move) × Contains ms m × (walked m.at ≡ true) × (t m ≡ true) × P (step_of price all ws m)) →
        (EachMade P (steps_of price all ws walked ms) (c ∷ cs) → 0 < walked_if t walked ms (c ∷ cs) → (m : Move) × Contains ms m × (walked m.at ≡ true) × (t m ≡ true) × P (step_of price all ws m)) →
        (w : Bool) → walked x.at ≡ w → EachMade P (cond w (step_of price all ws x ∷ steps_of price all ws walked ms) (steps_of price all ws walked ms)) (c ∷ cs) → 0 < cond w (cond (t x) c 0 + walked_if t walked ms cs) (walked_if t walked ms (c ∷ cs)) →
        (m : Move) × Contains (x ∷ ms) m × (walked m.at ≡ true) × (t m ≡ true) × P (step_of price all ws m)
    by_walked next skip true w made h = by_test (t x) refl made.0 w (next made.1) h
    by_walked next skip false w made h = later (skip made h)

calls_true : (all : List Move) (to back : Option ℕ) (k : ℕ) → calls_place_by all to back k ≡ true → (t : ℕ) × (b : ℕ) × (to ≡ Some t) × (back ≡ Some b) × (place_of all t ≡ k)
calls_true all None back k h = cc
calls_true all (Some t) None k h = cc
calls_true all (Some t) (Some b) k h = elim (eqb_tells (place_of all t) k) [ inl e ↦ (t, b, refl, refl, e.1) | inr e ↦ absurd (differ (place_of all t == k) h e.0) ]
  where
    differ : (t : Bool) → t ≡ true → t ≡ false → ⊥
    differ true e f = cc
    differ false e f = cc

not_equal : (a b : ℕ) → a ≢ b → (a == b) ≡ false
not_equal a b d = elim (eqb_tells a b) [ inl k ↦ absurd (d k.1) | inr k ↦ k.0 ]

sum_zero : (t : Move → Bool) (ms : List Move) (k : ℕ) → sum_if t ms (replicate k 0) ≡ 0
sum_zero t [] k = refl
sum_zero t (m ∷ ms) zero = refl
sum_zero t (m ∷ ms) (suc k) = let r = sum_zero t ms k in one (t m) r
  where
    one : (b : Bool) → sum_if t ms (replicate k 0) ≡ 0 → cond b 0 0 + sum_if t ms (replicate k 0) ≡ 0
    one true r = omega (arith, r)
    one false r = omega (arith, r)

module _ (s : System) (ls : List LoopShape) (ps : List Span) (whole : IsReachedWhole s ls ps) (q : Prices) (least : ℤ) where
  -- a function is done: the counts of its addresses are those of its steps and of its loops' turns
  pub record IsDone (us : List ℕ) (v : Level) (r : Span) : Type 0 where
    pub starts : List ℕ
    pub ready : IsReady s ls ps whole q least v r starts
    pub counts : (a : ℕ) → has_moves s.moves a ≡ true → IsInSpan r a → sum_if (begins_at a) s.moves us ≡ departed (function_steps s ls q.of v.worths r) (function_counts s ls q v r starts) (place_of s.moves a) + backs_from (function_turnings s ls q v r) (function_backs s ls q v r starts) (place_of s.moves a)

  abbrev pub AreDone : List ℕ → Level → List Span → Type 0
  AreDone us v [] = Unit {0}
  AreDone us v (r ∷ rs) = IsDone us v r × AreDone us (function_level s ls q v r) rs

  done_later : (us us' : List ℕ) (v : Level) (rs : List Span) → ((a : ℕ) → has_moves s.moves a ≡ true → IsInOne rs a → sum_if (begins_at a) s.moves us' ≡ sum_if (begins_at a) s.moves us) → AreDone us v rs → AreDone us' v rs
  done_later us us' v [] same h = tt
  done_later us us' v (r ∷ rs) same h = (
    record { starts = h.0.starts; ready = h.0.ready; counts = λ a there inside. same a there (inl inside) ∙ h.0.counts a there inside },
    done_later us us' (function_level s ls q v r) rs (λ a there one. same a there (inr one)) h.1,
  )

  -- functions are done: at their addresses what comes leaves, nothing is elsewhere but what calls start, and what starts is open
  pub record IsGoing (v : Level) (rs : List Span) (w : Level) (f : Flowing) : Type 0 where
    pub long_starts : length f.starts ≡ length s.moves + 1
    pub long_amounts : length f.amounts ≡ length s.moves
    pub starts : (a : ℕ) → has_moves s.moves a ≡ true → amount_at f.starts (place_of s.moves a) ≡ cond (s.entry == a) 1 0 + sum_if (calls_to a) s.moves f.amounts
    pub done : (a : ℕ) → has_moves s.moves a ≡ true → IsInOne rs a → sum_if (begins_at a) s.moves f.amounts ≡ cond (s.entry == a) 1 0 + (sum_if (goes_to a) s.moves f.amounts + sum_if (calls_to a) s.moves f.amounts)
    pub fresh : (a : ℕ) → has_moves s.moves a ≡ true → (IsInOne rs a → ⊥) → (sum_if (begins_at a) s.moves f.amounts ≡ 0) × (sum_if (goes_to a) s.moves f.amounts ≡ 0)
    pub wide : (k : ℕ) → 0 < amount_at f.starts k → (x : ℕ) × (has_moves s.moves x ≡ true) × (place_of s.moves x ≡ k) × IsStart s ls ps whole q x × (least ≤ℤ worth_at w.worths (place_of s.moves x))
    pub functions : AreDone f.amounts v rs

  later_rank : (k : ℕ) (rs : List Span) (a : ℕ) → Numbered s ls ps whole q k rs → IsInOne rs a → k ≤ rank ps a
  later_rank k [] a n one = absurd one
  later_rank k (r ∷ rs) a n one = elim one [ inl i ↦ let e = n.0 a i in omega (arith, e) | inr i ↦ let h = later_rank (k + 1) rs a n.1 i in omega (arith, h) ]

  module _ (k : ℕ) (v : Level) (r : Span) (rs : List Span) (numbered : Numbered s ls ps whole q k (r ∷ rs)) (sub : (p : Span) → Contains (r ∷ rs) p → Contains ps p) (apart : AreAllApart (r ∷ rs))
      (blank : (x : ℕ) → has_moves s.moves x ≡ true → IsInOne (r ∷ rs) x → worth_at v.worths (place_of s.moves x) ≡ q.low)
      (fresh : IsFresh s ls ps whole q v (r ∷ rs)) (long_worths : length s.moves < length v.worths) (long_weights : length s.moves < length v.weights) (code : IsOpenFunction least s ls q v r)
      (f : Flowing) (going : IsGoing (function_level s ls q v r) rs (functions_level s ls q (function_level s ls q v r) rs) f) where
    abbrev n : ℕ
    n = length s.moves

    abbrev w : Level
    w = functions_level s ls q (function_level s ls q v r) rs

    abbrev walked : ℕ → Bool
    walked = is_walked s.claims ls r

    abbrev counts : List ℕ
    counts = function_counts s ls q v r f.starts

    abbrev backs : List ℕ
    backs = function_backs s ls q v r f.starts

    abbrev turning : List Turning
    turning = function_turnings s ls q v r

    abbrev f' : Flowing
    f' = function_flow s ls q v r f

    ir : Contains ps r
    ir = sub r (zero, omega arith, refl)

    rest : (p : Span) → Contains rs p → Contains ps p
    rest p h = sub p (suc h.0, omega (arith, h.1), h.2)

    in_r : (m : Move) → walked m.at ≡ true → IsInSpan r m.at
    in_r m h = walked_in r (not (is_stop s.claims m.at || is_back ls m.at)) m.at h

    -- a function later in the list leaves this one as it is
    pub ready : IsReady s ls ps whole q least v r f.starts
    ready = record {
      code = code;
      blank = λ x h i. blank x h (inl i);
      fresh = λ x h i. fresh x h (inl i);
      long = going.long_starts;
      long_worths = long_worths;
      long_weights = long_weights;
      starts = λ k h.
          let x = going.wide k h in (
            x.0,
            x.1,
            x.2,
            λ i.
                let a = (functions_leave s ls ps whole q (function_level s ls q v r) rs (place_of s.moves x.0) rest (elsewhere_all s ls ps whole q r rs x.0 x.1 i apart.0)).0 in
                let b = start_ground s ls ps whole q v r ir x.0 i x.3 in
                (subst (λ (z : ℤ). least ≤ℤ z) (a ∙ b) x.4, b),
          );
    }

    -- what the function adds to a sum
    abbrev IsTested : (Move → Bool) → (Turning → Bool) → Turning → Type 0
    IsTested t t' x = (m : Move) × At s.moves x.back m × (t m ≡ t' x)

    adds : (t : Move → Bool) (t' : Turning → Bool) → EachTurn (IsTested t t') turning → sum_if t s.moves f'.amounts ≡ (sum_if t s.moves f.amounts + walked_if t walked s.moves counts) + backs_if t' turning backs
    adds t t' each =
        let c = counted_sum t walked s.moves f.amounts counts going.long_amounts in
        let b = back_sum t t' s.moves (counted walked s.moves f.amounts counts) turning backs (counted-long walked s.moves f.amounts counts going.long_amounts) each in
        omega (arith, c, b)

    moves_back : EachTurn (λ x. IsBackMove s ls ps whole q r x.back x.header) turning
    moves_back = back_moves s ls ps whole q r ir (function_steps s ls q.of v.worths r) v.weights

    -- ---- at an address of the function

    begins_tested : (a : ℕ) → has_moves s.moves a ≡ true → EachTurn (IsTested (begins_at a) (λ x. x.back == place_of s.moves a)) turning
    begins_tested a h = each_turn (λ x. IsBackMove s ls ps whole q r x.back x.header) (IsTested (begins_at a) (λ x. x.back == place_of s.moves a))
        (λ x b. (b.move, b.at, sym (place_test s ls ps whole q b.move.at a (has_of s.moves b.move (at_contains s.moves x.back b.move b.at)) h) ∙ ap (λ i. i == place_of s.moves a) b.place)) turning moves_back

    goes_tested : (a : ℕ) → has_moves s.moves a ≡ true → EachTurn (IsTested (goes_to a) (λ x. x.header == place_of s.moves a)) turning
    goes_tested a h = each_turn (λ x. IsBackMove s ls ps whole q r x.back x.header) (IsTested (goes_to a) (λ x. x.header == place_of s.moves a))
        (λ x b. (b.move, b.at, ap (λ ds. is_first ds a) b.goes ∙ (sym (place_test s ls ps whole q b.target a b.reached h) ∙ ap (λ i. i == place_of s.moves a) b.header_place))) turning moves_back

    calls_tested : (a : ℕ) → EachTurn (IsTested (calls_to a) (λ x. false)) turning
    calls_tested a = each_turn (λ x. IsBackMove s ls ps whole q r x.back x.header) (IsTested (calls_to a) (λ x. false)) (λ x b. (b.move, b.at, b.calls a)) turning moves_back

    no_backs : backs_if (λ x. false) turning backs ≡ 0
    no_backs = backs_no (λ x. false) turning backs (each_turn (λ x. IsBackMove s ls ps whole q r x.back x.header) (λ x. false ≡ false) (λ x b. refl) turning moves_back)

    begins_own : (a : ℕ) → has_moves s.moves a ≡ true → sum_if (begins_at a) s.moves f'.amounts ≡ (sum_if (begins_at a) s.moves f.amounts + departed (function_steps s ls q.of v.worths r) counts (place_of s.moves a)) + backs_from turning backs (place_of s.moves a)
    begins_own a h =
        let e = adds (begins_at a) (λ x. x.back == place_of s.moves a) (begins_tested a h) in
        let d = departed_walked q.of s.moves v.worths walked s.moves counts (place_of s.moves a) in
        let t = walked_same (begins_place s.moves (place_of s.moves a)) (begins_at a) walked s.moves counts (λ m im i. place_test s ls ps whole q m.at a (has_of s.moves m im) h) in
        let b = backs_from-if turning backs (place_of s.moves a) in
        omega (arith, e, d, t, b)

    goes_own : (a : ℕ) → has_moves s.moves a ≡ true → sum_if (goes_to a) s.moves f'.amounts ≡ (sum_if (goes_to a) s.moves f.amounts + arrived (function_steps s ls q.of v.worths r) counts (place_of s.moves a)) + backs_to turning backs (place_of s.moves a)
    goes_own a h =
        let e = adds (goes_to a) (λ x. x.header == place_of s.moves a) (goes_tested a h) in
        let d = arrived_walked q.of s.moves v.worths walked s.moves counts (place_of s.moves a) in
        let t = walked_same (goes_place s.moves (place_of s.moves a)) (goes_to a) walked s.moves counts (λ m im i. goes_test s ls ps whole q m a im h) in
        let b = backs_to-if turning backs (place_of s.moves a) in
        omega (arith, e, d, t, b)

    calls_all : (a : ℕ) → sum_if (calls_to a) s.moves f'.amounts ≡ sum_if (calls_to a) s.moves f.amounts + walked_if (calls_to a) walked s.moves counts
    calls_all a = let e = adds (calls_to a) (λ x. false) (calls_tested a) in let z = no_backs in omega (arith, e, z)

    -- its calls go to earlier functions
    no_calls : (a : ℕ) → IsInOne (r ∷ rs) a → walked_if (calls_to a) walked s.moves counts ≡ 0
    no_calls a one = walked_no (calls_to a) walked s.moves counts (λ m im i. not_called m im i m.to m.behind refl refl)
      where
        not_called : (m : Move) → Contains s.moves m → walked m.at ≡ true → (to back : Option ℕ) → m.to ≡ to → m.behind ≡ back → calls_by to back a ≡ false
        not_called m im i None back e g = refl
        not_called m im i (Some t) None e g = refl
        not_called m im i (Some t) (Some b) e g =
            let lt = rank_earlier ps t m.at whole.filled whole.fits.apart (All-contains (CallsEarlier ps) s.moves m whole.fits.calls im t b e g) in
            let own = numbered.0 m.at (in_r m i) in
            let ge = later_rank k (r ∷ rs) a numbered one in
            not_equal t a (λ x. let y = ap (rank ps) x in absurd (omega (arith, lt, own, ge, y)))

    -- ---- at an address of another function

    stays : (m : Move) (d : ℕ) → Contains s.moves m → IsInSpan r m.at → Contains (onward m) d → IsInSpan r d
    stays m d im i id = All-contains (IsInSpan r) (onward m) d (All-contains (StaysIn m) ps r (All-contains (λ (x : Move). All (StaysIn x) ps) s.moves m whole.fits.stays im) ir i) id

    begins_other : (a : ℕ) → (IsInSpan r a → ⊥) → sum_if (begins_at a) s.moves f'.amounts ≡ sum_if (begins_at a) s.moves f.amounts
    begins_other a out =
        let e = adds (begins_at a) (λ x. false) (each_turn (λ x. IsBackMove s ls ps whole q r x.back x.header) (IsTested (begins_at a) (λ x. false)) (λ x b. (b.move, b.at, not_equal b.move.at a (λ y. out (subst (λ c. IsInSpan r c) y b.inside)))) turning moves_back) in
        let z = no_backs in
        let t = walked_no (begins_at a) walked s.moves counts (λ m im i. not_equal m.at a (λ y. out (subst (λ c. IsInSpan r c) y (in_r m i)))) in
        omega (arith, e, z, t)

    goes_other : (a : ℕ) → (IsInSpan r a → ⊥) → sum_if (goes_to a) s.moves f'.amounts ≡ sum_if (goes_to a) s.moves f.amounts
    goes_other a out =
        let e = adds (goes_to a) (λ x. false) (each_turn (λ x. IsBackMove s ls ps whole q r x.back x.header) (IsTested (goes_to a) (λ x. false)) (λ x b. (b.move, b.at, not_there b.move (at_contains s.moves x.back b.move b.at) b.inside)) turning moves_back) in
        let z = no_backs in
        let t = walked_no (goes_to a) walked s.moves counts (λ m im i. not_there m im (in_r m i)) in
        omega (arith, e, z, t)
      where
        not_there : (m : Move) → Contains s.moves m → IsInSpan r m.at → goes_to a m ≡ false
        not_there m im i = elim (first_or (onward m)) [
          | inl e ↦ ap (λ ds. is_first ds a) e
          | inr e ↦ ap (λ ds. is_first ds a) e.2 ∙ not_equal e.0 a (λ y. out (subst (λ c. IsInSpan r c) y (stays m e.0 im i (subst (λ ds. Contains ds e.0) (sym e.2) (zero, omega arith, refl)))))
        ]

    starts_added : (j : ℕ) → amount_at f'.starts j ≡ amount_at f.starts j + walked_if (calls_place s.moves j) walked s.moves counts
    starts_added j = called_at s.moves walked s.moves counts f.starts j (λ m im t b e g. let x = place_below s.moves t (target_reached s ls ps whole q m im t b e g) in let l = going.long_starts in omega (arith, x, l))

    made : EachMade (λ j. (least ≤ℤ worth_at (function_ground s ls q v r).weights j.at) × CallsOpenly least s ls q v.worths r j) (function_steps s ls q.of v.worths r) counts
    made = own_made s ls ps whole q least v r ir f.starts ready

    -- what is called is open
    called_open : (j : ℕ) → 0 < walked_if (calls_place s.moves j) walked s.moves counts → (x : ℕ) × (has_moves s.moves x ≡ true) × (place_of s.moves x ≡ j) × IsStart s ls ps whole q x × (least ≤ℤ worth_at w.worths (place_of s.moves x))
    called_open j h =
        let m = walked_made (λ j. (least ≤ℤ worth_at (function_ground s ls q v r).weights j.at) × CallsOpenly least s ls q v.worths r j) (calls_place s.moves j) q.of s.moves v.worths walked s.moves counts made h in
        let c = calls_true s.moves m.0.to m.0.behind j m.3 in
        let there = target_reached s ls ps whole q m.0 m.1 c.0 c.1 c.2 c.3 in
        let earlier = All-contains (CallsEarlier ps) s.moves m.0 whole.fits.calls m.1 c.0 c.1 c.2 c.3 in
        let lt = rank_earlier ps c.0 m.0.at whole.filled whole.fits.apart earlier in
        let own = numbered.0 m.0.at (in_r m.0 m.2) in
        let out = elsewhere_before s ls ps whole q k (r ∷ rs) c.0 there (omega (arith, lt, own)) numbered in
        let same = (functions_leave s ls ps whole q v (r ∷ rs) (place_of s.moves c.0) sub out).0 in
        let wide = worth_of m.0 c.0 c.1 c.2 c.3 (m.4.1 m.0 m.1 m.2 refl) in
        (c.0, there, c.4, callee_starts s ls ps whole q c.0 m.0.at earlier, subst (λ (z : ℤ). least ≤ℤ z) (sym same) wide)
      where
        worth_of : (m : Move) (t b : ℕ) → m.to ≡ Some t → m.behind ≡ Some b → least ≤ℤ call_worth s.moves v.worths m.to m.behind → least ≤ℤ worth_at v.worths (place_of s.moves t)
        worth_of m t b e g h = subst (λ o. least ≤ℤ call_worth s.moves v.worths (Some t) o) g (subst (λ o. least ≤ℤ call_worth s.moves v.worths o m.behind) e h)

    pub goes_on : IsGoing v (r ∷ rs) (functions_level s ls q v (r ∷ rs)) (function_flow s ls q v r f)
    goes_on = record {
      long_starts = called-long s.moves walked s.moves counts f.starts ∙ going.long_starts;
      long_amounts = turned_back-long (counted walked s.moves f.amounts counts) turning backs ∙ counted-long walked s.moves f.amounts counts going.long_amounts;
      starts = λ a h.
          let e = starts_added (place_of s.moves a) in
          let t = walked_same (calls_place s.moves (place_of s.moves a)) (calls_to a) walked s.moves counts (λ m im i. calls_test s ls ps whole q m a im h) in
          let c = calls_all a in
          let b = going.starts a h in omega (arith, e, t, c, b);
      done = λ a h one. elim one [
        | inl i ↦
            let out = going.fresh a h (λ o. apart_one r rs a apart.0 o i) in
            let o0 = out.0 in let o1 = out.1 in
            let x = begins_own a h in
            let y = goes_own a h in
            let z = calls_all a in
            let c = no_calls a (inl i) in
            let b = going.starts a h in
            let t = own_conserved s ls ps whole q least v r ir f.starts ready a h i in
            omega (arith, o0, o1, x, y, z, c, b, t)
        | inr i ↦
            let d = going.done a h i in
            let x = begins_other a (apart_one r rs a apart.0 i) in
            let y = goes_other a (apart_one r rs a apart.0 i) in
            let z = calls_all a in
            let c = no_calls a (inr i) in omega (arith, d, x, y, z, c)
      ];
      fresh = λ a h out.
          let d = going.fresh a h (λ o. out (inr o)) in
          let d0 = d.0 in let d1 = d.1 in
          let x = begins_other a (λ o. out (inl o)) in
          let y = goes_other a (λ o. out (inl o)) in (omega (arith, d0, x), omega (arith, d1, y));
      wide = λ j h. elim (eqb_tells (amount_at f.starts j) 0) [
        | inl e ↦ let e1 = e.1 in let a = starts_added j in called_open j (omega (arith, h, a, e1))
        | inr e ↦ going.wide j (positive (amount_at f.starts j) e.1)
      ];
      functions = (
        record {
          starts = f.starts;
          ready = ready;
          counts = λ a h i.
              let x = begins_own a h in
              let out = (going.fresh a h (λ o. apart_one r rs a apart.0 o i)).0 in omega (arith, x, out);
        },
        done_later f.amounts (function_flow s ls q v r f).amounts (function_level s ls q v r) rs (λ a h one. begins_other a (apart_one r rs a apart.0 one)) going.functions,
      );
    }
      where
        positive : (u : ℕ) → u ≢ 0 → 0 < u
        positive zero d = absurd (d refl)
        positive (suc u) d = omega arith

  -- ---- all functions

  pub flow_goes : (k : ℕ) (v : Level) (rs : List Span) → Numbered s ls ps whole q k rs → ((p : Span) → Contains rs p → Contains ps p) → AreAllApart rs → IsFresh s ls ps whole q v rs → ((x : ℕ) → has_moves s.moves x ≡ true → IsInOne rs x → worth_at v.worths (place_of s.moves x) ≡ q.low) →
      length s.moves < length v.worths → length s.moves < length v.weights → AreOpenFunctions least s ls q v rs → least ≤ℤ worth_at (functions_level s ls q v rs).worths (place_of s.moves s.entry) → IsGoing v rs (functions_level s ls q v rs) (flow_from s ls q v rs (first_flow s))
  flow_goes k v [] numbered sub apart fresh blank long_worths long_weights code entry = record {
    long_starts = only-long (length s.moves) (place_of s.moves s.entry) 1;
    long_amounts = length-replicate {A = ℕ} (length s.moves) 0;
    starts = λ a h. let z = sum_zero (calls_to a) s.moves (length s.moves) in elim (eqb_tells s.entry a) [
      | inl e ↦ let y = only_there (length s.moves) (place_of s.moves s.entry) 1 (place_within s.moves s.entry) in let x = ap (λ b. amount_at (only_at (length s.moves) (place_of s.moves s.entry) 1) (place_of s.moves b)) e.1 in rw e.0 (omega (arith, x, y, z))
      | inr e ↦ let y = only_elsewhere (length s.moves) (place_of s.moves s.entry) 1 (place_of s.moves a) (λ x. e.1 (sym (same_place s ls ps whole q a s.entry h whole.system.entry x))) in rw e.0 (omega (arith, y, z))
    ];
    done = λ a h one. absurd one;
    fresh = λ a h out. (sum_zero (begins_at a) s.moves (length s.moves), sum_zero (goes_to a) s.moves (length s.moves));
    wide = λ j h. elim (eqb_tells j (place_of s.moves s.entry)) [
      | inl e ↦ (s.entry, whole.system.entry, sym e.1, inl refl, entry)
      | inr e ↦ let y = only_elsewhere (length s.moves) (place_of s.moves s.entry) 1 j e.1 in absurd (omega (arith, h, y))
    ];
    functions = tt;
  }
  flow_goes k v (r ∷ rs) numbered sub apart fresh blank long_worths long_weights code entry =
      goes_on k v r rs numbered sub apart blank fresh long_worths long_weights code.0 (flow_from s ls q (function_level s ls q v r) rs (first_flow s))
      (flow_goes (k + 1) (function_level s ls q v r) rs numbered.1 (λ p h. sub p (suc h.0, omega (arith, h.1), h.2)) apart.1
      (λ x h o. (function_leaves s ls ps whole q v r (place_of s.moves x) ir (inl (x, h, apart_one r rs x apart.0 o, refl))).1 ∙ fresh x h (inr o))
      (λ x h o. (function_leaves s ls ps whole q v r (place_of s.moves x) ir (inl (x, h, apart_one r rs x apart.0 o, refl))).0 ∙ blank x h (inr o))
      (let e = held.long_worths in let f = relaxed-long (ground q.low (function_steps s ls q.of v.worths r) v (function_loops s ls q v.worths r)).weights v.worths (function_steps s ls q.of v.worths r) in omega (arith, e, f, long_worths))
      (let e = held.long_weights in let f = weighed-long q.low (function_steps s ls q.of v.worths r) v.weights (function_loops s ls q v.worths r) in omega (arith, e, f, long_weights))
      code.1 entry)
    where
      ir : Contains ps r
      ir = sub r (zero, omega arith, refl)

      held : Held q.low (function_steps s ls q.of v.worths r) (ground q.low (function_steps s ls q.of v.worths r) v (function_loops s ls q v.worths r)) (function_level s ls q v r) (function_loops s ls q v.worths r) (function_pairs s ls q v r)
      held = function_holds s ls ps whole q v r ir long_worths long_weights (λ x h o. fresh x h (inl o))
