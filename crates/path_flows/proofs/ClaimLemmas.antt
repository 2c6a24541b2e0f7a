-- Each loop claim is kept by the counts of its header and jump back, just so where it has a multiplier.
use Rattle.std.proofs.Common.{◌≡◌, ◌≢◌, ℕ, zero, suc, ◌+◌, ◌*◌, ◌≤◌, ◌<◌, ℤ, pos, ◌≤ℤ◌, arith, refl, sym, ap, ◌∙◌, subst, List, [], ◌∷◌, length, Contains, All, inl, inr, ◌⊎◌, Bool, true, false, cond}
use Rattle.std.specs.Prelude.{◌==◌, ◌&&◌, ◌||◌, not}
use Rattle.std.proofs.lemmas.Bool.Decides.{eqb_tells}
use Rattle.std.proofs.lemmas.List.Elements.{All-head, All-tail, All-contains}
use Rattle.std.proofs.Math.Nat.{suc-mul}
use Rattle.code_flow_system.specs.declared.claims.LoopClaim.{LoopClaim}
use Rattle.code_flow_system.specs.declared.moves.Move.{Move}
use Rattle.code_flow_system.specs.declared.shapes.LoopShape.{LoopShape}
use Rattle.code_flow_system.specs.declared.shapes.Span.{Span}
use Rattle.code_flow_system.specs.Moves.{destinations}
use Rattle.code_flow_system.specs.Systems.{System, has_moves}
use Rattle.code_flow_system.specs.Shapes.{AreShapesOf, IsLoop, is_back, IsInSpan}
use Rattle.loop_walks.specs.declared.step.Step.{Step}
use Rattle.loop_walks.specs.declared.step.Loop.{Loop}
use Rattle.loop_walks.specs.declared.step.Pair.{Pair}
use Rattle.loop_walks.specs.Walks.{worth_at}
use Rattle.loop_walks.specs.Levels.{Level}
use Rattle.loop_walks.specs.Rows.{Each}
use Rattle.loop_flows.specs.Passes.{departed}
use Rattle.loop_flows.specs.Flows.{Turning, backs_from, backs_to}
use Rattle.loop_flows.specs.Opens.{EachMade}
use Rattle.loop_flows.specs.Counts.{IsCounted, AreCounted, AreBounded}
use Rattle.loop_flows.proofs.CountLemmas.{none_leave, all_counted}
use Rattle.path_places.specs.Reached.{in_span}
use Rattle.path_places.specs.Places.{place_of, is_never, is_shut, is_stop, is_walked, loop_of, loops_of}
use Rattle.path_places.specs.PlaceLaws.{function_steps, IsReachedWhole}
use Rattle.path_places.proofs.LoopLemmas.{has_of, steps_each}
use Rattle.path_places.proofs.FunctionLemmas.{ClaimsAscend, differ, is_back_at, back_inside}
use Rattle.path_places.specs.Driver.{Prices, function_loops, function_level, function_pairs}
use Rattle.path_places.proofs.DriverLemmas.{fits_function}
use Rattle.path_places.proofs.DealLemmas.{AreAll, Found, AllFunctions}
use Rattle.path_flows.specs.Flows.{function_ground, function_turnings, function_counts, function_backs}
use Rattle.path_flows.specs.Opens.{CallsOpenly}
use Rattle.path_flows.proofs.SumLemmas.{sum_if, begins_at, EachTurn, each_turn, backs_if, backs_from-if, backs_to-if, backs_no}
use Rattle.path_flows.proofs.AtLemmas.{same_place, at_contains, IsBackMove, back_moves}
use Rattle.path_flows.proofs.ConservedLemmas.{no_sum}
use Rattle.path_flows.proofs.PassLemmas.{own_turned, own_made}
use Rattle.path_flows.proofs.SystemLemmas.{IsDone, AreDone}
use Rattle.path_flows.specs.CountLaws.{HasBounds}

-- a claim of so many visits and jumps back
pub record IsKept (c : LoopClaim) (k : Pair) (visits back : ℕ) : Type 0 where
  pub starts : ℕ
  pub sum : visits ≡ starts + back
  pub least : c.min * starts ≤ visits
  pub most : visits ≤ c.max * starts
  pub no_least : (k.least ≡ pos 0) ⊎ (c.min * starts ≡ visits)
  pub exact : (k.most ≡ pos 0) ⊎ (visits ≡ c.max * starts)

times_zero : (n : ℕ) → n * 0 ≡ 0
times_zero n = omega arith

pub none_kept : (c : LoopClaim) (k : Pair) (h j : ℕ) → h ≡ 0 → j ≡ 0 → IsKept c k h j
none_kept c k h j e f =
    let a = times_zero c.min in let b = times_zero c.max in
    record { starts = 0; sum = omega (arith, e, f); least = omega (arith, e, a); most = omega (arith, e, b); no_least = inr (omega (arith, e, a)); exact = inr (omega (arith, e, b)) }

once : (m u : ℕ) → m ≤ 1 → m * u ≤ u
once zero u h = omega arith
once (suc zero) u h = let e = suc-mul 0 u in omega (arith, e)
once (suc (suc m)) u h = absurd (omega (arith, h))

at_least_once : (m u : ℕ) → 0 < m → u ≤ m * u
at_least_once zero u h = absurd (omega (arith, h))
at_least_once (suc m) u h = let e = suc-mul m u in omega (arith, e)

-- ---- shapes are told by their headers

above_shapes : (h : ℕ) (cs : List LoopClaim) (ks : List LoopShape) (l : LoopShape) → AreShapesOf cs ks → All (λ (d : LoopClaim). h < d.header) cs → Contains ks l → h < l.header
above_shapes h [] [] l are above (i, lt, e) = absurd (omega (arith, lt))
above_shapes h [] (k ∷ ks) l are above i = absurd are
above_shapes h (c ∷ cs) [] l are above i = absurd are
above_shapes h (c ∷ cs) (k ∷ ks) l are above (zero, lt, e) =
    let a = All-head (λ (d : LoopClaim). h < d.header) c cs above in let f = are.0 in let g = ap (λ (x : LoopShape). x.header) e in omega (arith, a, f, g)
above_shapes h (c ∷ cs) (k ∷ ks) l are above (suc i, lt, e) = above_shapes h cs ks l are.2 (All-tail (λ (d : LoopClaim). h < d.header) c cs above) (i, omega (arith, lt), e)

shapes_unique : (cs : List LoopClaim) (ks : List LoopShape) (k l : LoopShape) → AreShapesOf cs ks → ClaimsAscend cs → Contains ks k → Contains ks l → k.header ≡ l.header → k.back ≡ l.back
shapes_unique [] [] k l are up (i, lt, e) jl h = absurd (omega (arith, lt))
shapes_unique [] (x ∷ ks) k l are up ik jl h = absurd are
shapes_unique (c ∷ cs) [] k l are up ik jl h = absurd are
shapes_unique (c ∷ cs) (x ∷ ks) k l are up (zero, lt, e) (zero, lt', e') h = ap (λ (y : LoopShape). y.back) (sym e) ∙ ap (λ (y : LoopShape). y.back) e'
shapes_unique (c ∷ cs) (x ∷ ks) k l are up (zero, lt, e) (suc j, lt', e') h =
    let a = above_shapes c.header cs ks l are.2 up.0 (j, omega (arith, lt'), e') in
    let f = are.0 in let g = ap (λ (y : LoopShape). y.header) e in absurd (omega (arith, a, f, g, h))
shapes_unique (c ∷ cs) (x ∷ ks) k l are up (suc i, lt, e) (zero, lt', e') h =
    let a = above_shapes c.header cs ks k are.2 up.0 (i, omega (arith, lt), e) in
    let f = are.0 in let g = ap (λ (y : LoopShape). y.header) e' in absurd (omega (arith, a, f, g, h))
shapes_unique (c ∷ cs) (x ∷ ks) k l are up (suc i, lt, e) (suc j, lt', e') h = shapes_unique cs ks k l are.2 up.1 (i, omega (arith, lt), e) (j, omega (arith, lt'), e') h

eq_is : (a b : ℕ) → a ≡ b → (a == b) ≡ true
eq_is a b e = elim (eqb_tells a b) [ inl k ↦ k.0 | inr k ↦ absurd (k.1 e) ]

eq_not : (a b : ℕ) → a ≢ b → (a == b) ≡ false
eq_not a b d = elim (eqb_tells a b) [ inl k ↦ absurd (d k.1) | inr k ↦ k.0 ]

same_test : (t u : Turning → Bool) (ts : List Turning) (bs : List ℕ) → EachTurn (λ x. t x ≡ u x) ts → backs_if t ts bs ≡ backs_if u ts bs
same_test t u [] bs h = refl
same_test t u (x ∷ ts) [] h = refl
same_test t u (x ∷ ts) (b ∷ bs) h = let r = same_test t u ts bs h.1 in let e = ap (λ c. cond c b 0) h.0 in omega (arith, r, e)

-- a header of no turn is shut
shut_at : (cs : List LoopClaim) (d : LoopClaim) → Contains cs d → d.max ≡ 0 → is_shut cs d.header ≡ true
shut_at [] d (i, lt, e) z = absurd (omega (arith, lt))
shut_at (x ∷ xs) d (zero, lt, e) z =
    let a = eq_is x.header d.header (ap (λ (y : LoopClaim). y.header) e) in
    let b = eq_is x.max 0 (ap (λ (y : LoopClaim). y.max) e ∙ z) in rw (a, b) refl
shut_at (x ∷ xs) d (suc i, lt, e) z = later ((x.header == d.header) && (x.max == 0)) (shut_at xs d (i, omega (arith, lt), e) z)
  where
    later : (t : Bool) → is_shut xs d.header ≡ true → t || is_shut xs d.header ≡ true
    later true h = refl
    later false h = h

or_right : (x y : Bool) → y ≡ true → x || y ≡ true
or_right true y h = refl
or_right false y h = h

or_left : (x y : Bool) → x ≡ true → x || y ≡ true
or_left true y h = refl
or_left false y h = cc

positive : (n : ℕ) → n ≢ 0 → 0 < n
positive zero d = absurd (d refl)
positive (suc n) d = omega arith

module _ (s : System) (ls : List LoopShape) (ps : List Span) (whole : IsReachedWhole s ls ps) (q : Prices) (least : ℤ) (us : List ℕ) (up : ClaimsAscend s.claims.loops) (bounds : All HasBounds s.claims.loops) where
  -- a loop's counts, and those of its function's addresses
  pub record IsClaimed (p : Span) (ms : List Step) (l : Loop) (k : Pair) : Type 0 where
    pub counts : List ℕ
    pub turns : List Turning
    pub backs : List ℕ
    pub inside : Contains ps p
    pub counted : IsCounted ms counts turns backs l k
    pub sums : (a : ℕ) → has_moves s.moves a ≡ true → IsInSpan p a → sum_if (begins_at a) s.moves us ≡ departed ms counts (place_of s.moves a) + backs_from turns backs (place_of s.moves a)
    pub moves_back : EachTurn (λ x. IsBackMove s ls ps whole q p x.back x.header) turns

  -- no step begins at an address that isn't walked
  pub no_step : (p : Span) (ws : List ℤ) (a : ℕ) → has_moves s.moves a ≡ true → (is_stop s.claims a || is_back ls a) ≡ true → Each (λ k. k.at ≢ place_of s.moves a) (function_steps s ls q.of ws p)
  no_step p ws a h is = steps_each (λ k. k.at ≢ place_of s.moves a) q.of s.moves ws (is_walked s.claims ls p) s.moves
      (λ m im t e.
      let same = same_place s ls ps whole q m.at a (has_of s.moves m im) h e in
      not_walked (in_span p m.at) (is_stop s.claims m.at || is_back ls m.at) t (subst (λ b. (is_stop s.claims b || is_back ls b) ≡ true) (sym same) is))
    where
      not_walked : (x y : Bool) → x && not y ≡ true → y ≡ true → ⊥
      not_walked true true h e = cc
      not_walked true false h e = cc
      not_walked false y h e = cc

  bounded : (p : Span) (ws : List ℤ) (cs : List LoopClaim) (ks : List LoopShape) → AreShapesOf cs ks → ((c : LoopClaim) → Contains cs c → Contains s.claims.loops c) → AreBounded (function_steps s ls q.of ws p) (loops_of q.of q.low s.moves s.claims p (function_steps s ls q.of ws p) cs ks)
  bounded p ws [] ks are sub = tt
  bounded p ws (c ∷ cs) [] are sub = tt
  bounded p ws (c ∷ cs) (l ∷ ks) are sub = by_test (in_span p l.header) (has_moves s.moves l.header) refl (bounded p ws cs ks are.2 (λ d i. sub d (suc i.0, omega (arith, i.1), i.2)))
    where
      stops : c.max ≡ 0 → (is_stop s.claims l.header || is_back ls l.header) ≡ true
      stops z = subst (λ a. (is_stop s.claims a || is_back ls a) ≡ true) (sym are.0)
          (or_left (is_stop s.claims c.header) (is_back ls c.header) (or_right (is_never s.claims.nevers c.header) (is_shut s.claims.loops c.header) (shut_at s.claims.loops c (sub c (zero, omega arith, refl)) z)))

      one : has_moves s.moves l.header ≡ true → ((0 < c.max) × (c.min ≤ c.max)) ⊎ Each (λ m. m.at ≢ place_of s.moves l.header) (function_steps s ls q.of ws p)
      one there = elim (eqb_tells c.max 0) [
        | inl e ↦ inr (no_step p ws l.header there (stops e.1))
        | inr e ↦ elim (All-contains HasBounds s.claims.loops c bounds (sub c (zero, omega arith, refl))) [ inl le ↦ inl (positive c.max e.1, le) | inr z ↦ absurd (e.1 z) ]
      ]

      by_test : (t u : Bool) → has_moves s.moves l.header ≡ u → AreBounded (function_steps s ls q.of ws p) (loops_of q.of q.low s.moves s.claims p (function_steps s ls q.of ws p) cs ks) →
          AreBounded (function_steps s ls q.of ws p) (cond (t && u) (loop_of q.of q.low s.moves s.claims p (function_steps s ls q.of ws p) c l ∷ loops_of q.of q.low s.moves s.claims p (function_steps s ls q.of ws p) cs ks) (loops_of q.of q.low s.moves s.claims p (function_steps s ls q.of ws p) cs ks))
      by_test true true f r = (one f, r)
      by_test true false f r = r
      by_test false u f r = r

  claimed_all : (p : Span) (ms : List Step) (counts : List ℕ) (turns : List Turning) (backs : List ℕ) → Contains ps p →
      ((a : ℕ) → has_moves s.moves a ≡ true → IsInSpan p a → sum_if (begins_at a) s.moves us ≡ departed ms counts (place_of s.moves a) + backs_from turns backs (place_of s.moves a)) →
      EachTurn (λ x. IsBackMove s ls ps whole q p x.back x.header) turns → (los : List Loop) (ks : List Pair) → AreCounted ms counts turns backs los ks → AreAll (IsClaimed p ms) los ks
  claimed_all p ms counts turns backs ip sums back [] ks h = tt
  claimed_all p ms counts turns backs ip sums back (l ∷ los) [] h = absurd h
  claimed_all p ms counts turns backs ip sums back (l ∷ los) (k ∷ ks) h = (
    record { counts = counts; turns = turns; backs = backs; inside = ip; counted = h.0; sums = sums; moves_back = back },
    claimed_all p ms counts turns backs ip sums back los ks h.1,
  )

  made_weights : (P : Step → Type 0) (weights : List ℤ) (ms : List Step) (cs : List ℕ) → EachMade (λ k. (least ≤ℤ worth_at weights k.at) × P k) ms cs → EachMade (λ k. least ≤ℤ worth_at weights k.at) ms cs
  made_weights P weights [] cs h = tt
  made_weights P weights (m ∷ ms) [] h = tt
  made_weights P weights (m ∷ ms) (c ∷ cs) h = ((λ lt. (h.0 lt).0), made_weights P weights ms cs h.1)

  abbrev pub Any : Pair → Type 0
  Any k = Unit {0}

  pub any : (p : Span) (ms : List Step) (l : Loop) (k : Pair) → IsClaimed p ms l k → Any k
  any p ms l k h = tt

  -- the loops of a function that is done are counted
  pub function_counted : (v : Level) (r : Span) → Contains ps r → (done : IsDone s ls ps whole q least us v r) → AreCounted (function_steps s ls q.of v.worths r) (function_counts s ls q v r done.starts) (function_turnings s ls q v r) (function_backs s ls q v r done.starts) (function_loops s ls q v.worths r) (function_pairs s ls q v r)
  function_counted v r ir done =
      all_counted least q.low (CallsOpenly least s ls q v.worths r) (length s.moves) (function_steps s ls q.of v.worths r) (fits_function s ls ps whole q v.worths r ir).0 v.weights (function_ground s ls q v r).weights done.ready.long_weights done.ready.code.above done.ready.code.nothing
      (function_ground s ls q v r) (function_loops s ls q v.worths r) (function_counts s ls q v r done.starts) (function_backs s ls q v r done.starts) (fits_function s ls ps whole q v.worths r ir).1 done.ready.code.turns
      (bounded r v.worths s.claims.loops ls whole.fits.shapes (λ c i. i)) (λ a f. refl)
      (made_weights (CallsOpenly least s ls q v.worths r) (function_ground s ls q v r).weights (function_steps s ls q.of v.worths r) (function_counts s ls q v r done.starts) (own_made s ls ps whole q least v r ir done.starts done.ready))
      (own_turned s ls ps whole q least v r ir done.starts done.ready)

  pub claimed_functions : (v : Level) (rs : List Span) → ((r : Span) → Contains rs r → Contains ps r) → AreDone s ls ps whole q least us v rs → AllFunctions s ls q Any IsClaimed any v rs
  claimed_functions v [] sub done = tt
  claimed_functions v (r ∷ rs) sub done = (
    claimed_all r (function_steps s ls q.of v.worths r) (function_counts s ls q v r done.0.starts) (function_turnings s ls q v r) (function_backs s ls q v r done.0.starts) ir done.0.counts
        (back_moves s ls ps whole q r ir (function_steps s ls q.of v.worths r) v.weights) (function_loops s ls q v.worths r) (function_pairs s ls q v r) (function_counted v r ir done.0),
    claimed_functions (function_level s ls q v r) rs (λ p h. sub p (suc h.0, omega (arith, h.1), h.2)) done.1,
  )
    where
      ir : Contains ps r
      ir = sub r (zero, omega arith, refl)

  -- ---- one claim

  goes_back : (l : LoopShape) → Contains ls l → (m : Move) → Contains s.moves m → m.at ≡ l.back → destinations m ≡ l.header ∷ []
  goes_back l il m im e = All-contains (λ (x : Move). x.at ≡ l.back → destinations x ≡ l.header ∷ []) s.moves m (All-contains (IsLoop s) ls l whole.fits.loops il).goes_back im e

  abbrev first_of : List ℕ → ℕ
  first_of [] = 0
  first_of (x ∷ xs) = x

  module _ (p : Span) (ms : List Step) (l : LoopShape) (il : Contains ls l) (there : has_moves s.moves l.header ≡ true) (inside : IsInSpan p l.header) (lo : Loop) (k : Pair) (same_header : lo.header ≡ place_of s.moves l.header) (is : IsClaimed p ms lo k) where
    -- a turn to the header comes from its own jump back
    own_back : (back header : ℕ) (b : IsBackMove s ls ps whole q p back header) → header ≡ place_of s.moves l.header → b.move.at ≡ l.back
    own_back back header b e =
        let t : b.target ≡ l.header = same_place s ls ps whole q b.target l.header b.reached there (b.header_place ∙ e) in
        sym b.shape_back ∙ shapes_unique s.claims.loops ls b.shape l whole.fits.shapes up b.is_shape il (b.shape_header ∙ t)

    -- a turn from the jump back goes to the header
    own_header : (back header : ℕ) (b : IsBackMove s ls ps whole q p back header) → b.move.at ≡ l.back → header ≡ place_of s.moves l.header
    own_header back header b e =
        let im = at_contains s.moves back b.move b.at in
        let x = goes_back b.shape b.is_shape b.move im (sym b.shape_back) in
        let y = goes_back l il b.move im e in
        let z : b.shape.header ≡ l.header = ap first_of (sym x ∙ y) in
        sym b.header_place ∙ ap (place_of s.moves) (sym b.shape_header ∙ z)

    -- no turn begins at the header, where it may not be visited or is no jump back
    no_turn : (is_stop s.claims l.header ≡ true) ⊎ (is_back ls l.header ≡ false) → backs_from is.turns is.backs (place_of s.moves l.header) ≡ 0
    no_turn why = backs_from-if is.turns is.backs (place_of s.moves l.header)
        ∙ backs_no (λ x. x.back == place_of s.moves l.header) is.turns is.backs
        (each_turn (λ x. IsBackMove s ls ps whole q p x.back x.header) (λ x. (x.back == place_of s.moves l.header) ≡ false) (λ x b. eq_not x.back (place_of s.moves l.header) (λ e.
        let same : b.move.at ≡ l.header = same_place s ls ps whole q b.move.at l.header (has_of s.moves b.move (at_contains s.moves x.back b.move b.at)) there (b.place ∙ e) in
        elim why [
          | inl h ↦ differ (is_stop s.claims l.header) h (subst (λ a. is_stop s.claims a ≡ false) same b.free)
          | inr h ↦ differ (is_back ls l.header) (subst (λ a. is_back ls a ≡ true) (b.shape_back ∙ same) (is_back_at ls b.shape b.is_shape)) h
        ])) is.turns is.moves_back)

    -- the jump back is made as often as its loop turns again
    pub back_count : (ws : List ℤ) → ms ≡ function_steps s ls q.of ws p → sum_if (begins_at l.back) s.moves us ≡ backs_to is.turns is.backs (place_of s.moves l.header)
    back_count ws e = by_has (has_moves s.moves l.back) refl
      where
        by_has : (t : Bool) → has_moves s.moves l.back ≡ t → sum_if (begins_at l.back) s.moves us ≡ backs_to is.turns is.backs (place_of s.moves l.header)
        by_has true h =
            let in_p = back_inside s ls ps whole.fits whole.filled whole.reached whole.system.ascending q.of q.low [] p is.inside l il inside h in
            let a = is.sums l.back h in_p in
            let z = none_leave ms is.counts (place_of s.moves l.back) (subst (λ ks. Each (λ k. k.at ≢ place_of s.moves l.back) ks) (sym e) (no_step p ws l.back h (or_right (is_stop s.claims l.back) (is_back ls l.back) (is_back_at ls l il)))) in
            let b = backs_from-if is.turns is.backs (place_of s.moves l.back) in
            let c = backs_to-if is.turns is.backs (place_of s.moves l.header) in
            let d = same_test (λ x. x.back == place_of s.moves l.back) (λ x. x.header == place_of s.moves l.header) is.turns is.backs
            (each_turn (λ x. IsBackMove s ls ps whole q p x.back x.header) (λ x. (x.back == place_of s.moves l.back) ≡ (x.header == place_of s.moves l.header)) (λ x m. elim (eqb_tells x.back (place_of s.moves l.back)) [
              | inl f ↦
                  let same = same_place s ls ps whole q m.move.at l.back (has_of s.moves m.move (at_contains s.moves x.back m.move m.at)) h (m.place ∙ f.1) in
                  f.0 ∙ sym (eq_is x.header (place_of s.moves l.header) (own_header x.back x.header m same))
              | inr f ↦ f.0 ∙ sym (eq_not x.header (place_of s.moves l.header) (λ g. f.1 (sym m.place ∙ ap (place_of s.moves) (own_back x.back x.header m g))))
            ]) is.turns is.moves_back) in
            omega (arith, a, z, b, c, d)
        by_has false h =
            let a = no_sum (begins_at l.back) s.moves us (λ m im. eq_not m.at l.back (λ e. differ (has_moves s.moves l.back) (subst (λ a. has_moves s.moves a ≡ true) e (has_of s.moves m im)) h)) in
            let c = backs_to-if is.turns is.backs (place_of s.moves l.header) in
            let d = backs_no (λ x. x.header == place_of s.moves l.header) is.turns is.backs
            (each_turn (λ x. IsBackMove s ls ps whole q p x.back x.header) (λ x. (x.header == place_of s.moves l.header) ≡ false) (λ x m. eq_not x.header (place_of s.moves l.header) (λ g.
            differ (has_moves s.moves l.back) (subst (λ a. has_moves s.moves a ≡ true) (own_back x.back x.header m g) (has_of s.moves m.move (at_contains s.moves x.back m.move m.at))) h)) is.turns is.moves_back) in
            omega (arith, a, c, d)

  pub kept_one : (c : LoopClaim) (l : LoopShape) (k : Pair) → Contains s.claims.loops c → Contains ls l → l.header ≡ c.header → l.back ≡ c.back → has_moves s.moves l.header ≡ true → Found s ls q Any IsClaimed any c l k →
      (is_back ls l.header ≡ true → l.back ≢ l.header → c.min ≤ 1) → (is_back ls l.header ≡ true → l.back ≢ l.header → (k.least ≡ pos 0) × (k.most ≡ pos 0)) → IsKept c k (sum_if (begins_at l.header) s.moves us) (sum_if (begins_at l.back) s.moves us)
  kept_one c l k ic il eh eb there f free blocked = by_place (is_stop s.claims l.header) refl (is_back ls l.header) refl
    where
      p : Span
      p = f.0

      ms : List Step
      ms = function_steps s ls q.of f.1 f.0

      is : IsClaimed f.0 (function_steps s ls q.of f.1 f.0) (loop_of q.of q.low s.moves s.claims f.0 (function_steps s ls q.of f.1 f.0) c l) k
      is = f.3

      visits : sum_if (begins_at l.header) s.moves us ≡ departed (function_steps s ls q.of f.1 f.0) is.counts (place_of s.moves l.header) + backs_from is.turns is.backs (place_of s.moves l.header)
      visits = is.sums l.header there f.2

      back : sum_if (begins_at l.back) s.moves us ≡ backs_to is.turns is.backs (place_of s.moves l.header)
      back = back_count f.0 (function_steps s ls q.of f.1 f.0) l il there f.2 (loop_of q.of q.low s.moves s.claims f.0 (function_steps s ls q.of f.1 f.0) c l) k refl is f.1 refl

      nothing : ((is_stop s.claims l.header ≡ true) ⊎ (is_back ls l.header ≡ false)) → backs_from is.turns is.backs (place_of s.moves l.header) ≡ 0
      nothing = no_turn f.0 (function_steps s ls q.of f.1 f.0) l il there f.2 (loop_of q.of q.low s.moves s.claims f.0 (function_steps s ls q.of f.1 f.0) c l) k refl is

      none_left : (is_stop s.claims l.header || is_back ls l.header) ≡ true → departed (function_steps s ls q.of f.1 f.0) is.counts (place_of s.moves l.header) ≡ 0
      none_left h = none_leave (function_steps s ls q.of f.1 f.0) is.counts (place_of s.moves l.header) (no_step f.0 f.1 l.header there h)

      not_shut : is_stop s.claims l.header ≡ false → c.max ≢ 0
      not_shut h z = differ (is_stop s.claims l.header) (or_right (is_never s.claims.nevers l.header) (is_shut s.claims.loops l.header) (subst (λ a. is_shut s.claims.loops a ≡ true) (sym eh) (shut_at s.claims.loops c ic z))) h

      by_place : (t : Bool) → is_stop s.claims l.header ≡ t → (u : Bool) → is_back ls l.header ≡ u → IsKept c k (sum_if (begins_at l.header) s.moves us) (sum_if (begins_at l.back) s.moves us)
      by_place true e u g =
          let a = visits in let b = nothing (inl e) in let d = none_left (or_left (is_stop s.claims l.header) (is_back ls l.header) e) in
          let v = is.counted.visits in let j = back in
          none_kept c k (sum_if (begins_at l.header) s.moves us) (sum_if (begins_at l.back) s.moves us) (omega (arith, a, b, d)) (omega (arith, d, v, j))
      by_place false e true g =
          let d = none_left (or_right (is_stop s.claims l.header) (is_back ls l.header) g) in
          let v = is.counted.visits in let j = back in
          let z : sum_if (begins_at l.back) s.moves us ≡ 0 = omega (arith, d, v, j) in
          elim (eqb_tells l.back l.header) [
            | inl f ↦ none_kept c k (sum_if (begins_at l.header) s.moves us) (sum_if (begins_at l.back) s.moves us) (ap (λ a. sum_if (begins_at a) s.moves us) (sym f.1) ∙ z) z
            | inr f ↦
                let b = blocked g f.1 in
                let x = once c.min (sum_if (begins_at l.header) s.moves us) (free g f.1) in
                let y = at_least_once c.max (sum_if (begins_at l.header) s.moves us) (positive c.max (not_shut e)) in
                record { starts = sum_if (begins_at l.header) s.moves us; sum = omega (arith, z); least = x; most = y; no_least = inl b.0; exact = inl b.1 }
          ]
      by_place false e false g = elim (eqb_tells is.counted.starts 0) [
        | inl f ↦
            let a = visits in let b = nothing (inr g) in let v = is.counted.visits in let j = back in
            let n = is.counted.none f.1 in let f1 = f.1 in
            none_kept c k (sum_if (begins_at l.header) s.moves us) (sum_if (begins_at l.back) s.moves us) (omega (arith, a, b, v, n, f1)) (omega (arith, j, n))
        | inr f ↦
            let a = visits in let b = nothing (inr g) in let v = is.counted.visits in let j = back in
            let h : sum_if (begins_at l.header) s.moves us ≡ is.counted.starts + backs_to is.turns is.backs (place_of s.moves l.header) = omega (arith, a, b, v) in
            let kb = is.counted.keeps (positive is.counted.starts f.1) in
            let k0 = kb.least in let k1 = kb.most in
            record {
              starts = is.counted.starts;
              sum = omega (arith, h, j);
              least = omega (arith, h, k0);
              most = omega (arith, h, k1);
              no_least = elim kb.no_least [ inl z ↦ inl z | inr z ↦ inr (omega (arith, h, z)) ];
              exact = elim kb.exact [ inl z ↦ inl z | inr z ↦ inr (omega (arith, h, z)) ];
            }
      ]
