-- What a function is worth stays as it is when later functions are settled, and so its moves stay paid.
use Rattle.std.proofs.Common.{◌≡◌, ◌≢◌, ℕ, zero, suc, ◌+◌, ◌<◌, ℤ, pos, arith, refl, sym, ap, ◌∙◌, subst, List, [], ◌∷◌, ◌++◌, length, Contains, All, inl, inr, ◌⊎◌, Bool, true, false, cond, Option, Some, None, length-append}
use Rattle.std.specs.Prelude.{◌&&◌, ◌||◌, not}
use Rattle.std.specs.Option.{option_to_list}
use Rattle.std.proofs.Math.ListN.{replicate}
use Rattle.std.proofs.lemmas.List.{length-replicate}
use Rattle.std.proofs.lemmas.Int.{ints}
use Rattle.std.proofs.lemmas.List.Elements.{All-head, All-tail, All-contains, All-cons, All-nil}
use Rattle.code_flow_system.specs.declared.claims.LoopClaim.{LoopClaim}
use Rattle.code_flow_system.specs.declared.moves.Move.{Move}
use Rattle.code_flow_system.specs.declared.shapes.LoopShape.{LoopShape}
use Rattle.code_flow_system.specs.declared.shapes.Span.{Span}
use Rattle.code_flow_system.specs.Moves.{destinations, destinations_of}
use Rattle.code_flow_system.specs.Systems.{System, has_moves}
use Rattle.code_flow_system.proofs.ReachLemmas.{in_destinations}
use Rattle.code_flow_system.specs.Shapes.{onward, is_back, IsInSpan, AreApart, AreAllApart, IsInOne, StaysIn, CallsEarlier}
use Rattle.loop_walks.specs.declared.step.Step.{Step}
use Rattle.loop_walks.specs.declared.step.Loop.{Loop}
use Rattle.loop_walks.specs.declared.step.Pair.{Pair}
use Rattle.loop_walks.specs.Walks.{worth_at}
use Rattle.loop_walks.specs.Levels.{Level, ground}
use Rattle.loop_walks.specs.Rows.{Each, IsPaid, HaveNone, AreSteps, AreLoops, IsSettled, AreSettled, PaysBack}
use Rattle.loop_walks.proofs.LevelLemmas.{Held, settled_holds, weighed-long}
use Rattle.loop_walks.proofs.WalkLemmas.{relaxed-long}
use Rattle.loop_walks.proofs.UntouchedLemmas.{Avoids, settled_untouched}
use Rattle.path_places.specs.Reached.{in_span, rank}
use Rattle.path_places.specs.Places.{place_of, on_place, call_worth, step_of, is_stop, is_walked, steps_of, back_place, loop_of, loops_of}
use Rattle.path_places.specs.PlaceLaws.{function_steps, IsReachedWhole}
use Rattle.path_places.proofs.RankLemmas.{span_of, is_in_span, rank_in, rank_out, rank_earlier, apart_one}
use Rattle.path_places.proofs.PlaceLemmas.{place_below, place_tells}
use Rattle.path_places.proofs.LoopLemmas.{steps_each, has_of, onward_arrives, first_or}
use Rattle.path_places.proofs.FunctionLemmas.{back_inside, functions_are, walked_in}
use Rattle.path_places.specs.Driver.{Prices, blank, function_loops, function_level, function_pairs, functions_level}
use Rattle.path_places.specs.RowLaws.{SettlingPaysMoves, LoopsAreSettled, SettlingSettlesLoops}

-- a step of a move that is walked is among the steps
pub step_among : (P : Step → Type 0) (price : Move → ℤ) (all : List Move) (ws : List ℤ) (walked : ℕ → Bool) (ms : List Move) (m : Move) → Each P (steps_of price all ws walked ms) → Contains ms m → walked m.at ≡ true → P (step_of price all ws m)
step_among P price all ws walked [] m h (k, lt, e) w = absurd (omega (arith, lt))
step_among P price all ws walked (x ∷ ms) m h (zero, lt, e) w = here (walked x.at) (subst (λ (y : Move). walked y.at ≡ true) (sym e) w) h
  where
    here : (t : Bool) → t ≡ true → Each P (cond t (step_of price all ws x ∷ steps_of price all ws walked ms) (steps_of price all ws walked ms)) → P (step_of price all ws m)
    here true t k = subst (λ (y : Move). P (step_of price all ws y)) e k.0
    here false t k = cc
step_among P price all ws walked (x ∷ ms) m h (suc k, lt, e) w = step_among P price all ws walked ms m (rest (walked x.at) h) (k, omega (arith, lt), e) w
  where
    rest : (t : Bool) → Each P (cond t (step_of price all ws x ∷ steps_of price all ws walked ms) (steps_of price all ws walked ms)) → Each P (steps_of price all ws walked ms)
    rest true k = k.1
    rest false k = k

-- a place of another function, or the one behind all
abbrev pub IsElsewhere : System → Span → ℕ → Type 0
IsElsewhere s p a = ((x : ℕ) × (has_moves s.moves x ≡ true) × (IsInSpan p x → ⊥) × (a ≡ place_of s.moves x)) ⊎ (a ≡ length s.moves)

-- a function's own addresses are at other places
pub apart_places : (s : System) (p : Span) (a y : ℕ) → IsElsewhere s p a → has_moves s.moves y ≡ true → IsInSpan p y → place_of s.moves y ≢ a
apart_places s p a y out h i e = elim out [
  | inl o ↦
      let q : place_of s.moves y ≡ place_of s.moves o.0 = e ∙ o.3 in
      let u = place_tells s.moves y o.0 o.1 (omega (arith, q)) in
      let v = place_tells s.moves o.0 y h (omega (arith, q)) in
      absurd (o.2 (subst (λ z. IsInSpan p z) (omega (arith, u, v)) i))
  | inr o ↦ let b = place_below s.moves y h in absurd (omega (arith, b, e, o))
]

module _ (s : System) (ls : List LoopShape) (ps : List Span) (whole : IsReachedWhole s ls ps) (q : Prices) where
  pub fits_function : (ws : List ℤ) (p : Span) → Contains ps p → AreSteps (length s.moves) (function_steps s ls q.of ws p) × AreLoops (length s.moves) (function_steps s ls q.of ws p) (function_loops s ls q ws p)
  fits_function ws p ip = functions_are s ls ps whole q.of q.low ws p ip

  pub no_step : (ws : List ℤ) (p : Span) (a : ℕ) → IsElsewhere s p a → Each (λ k. k.at ≢ a) (function_steps s ls q.of ws p)
  no_step ws p a out = steps_each (λ k. k.at ≢ a) q.of s.moves ws (is_walked s.claims ls p) s.moves
      (λ m im w. apart_places s p a m.at out (has_of s.moves m im) (walked_in p (not (is_stop s.claims m.at || is_back ls m.at)) m.at w))

  pub no_loop : (p : Span) → Contains ps p → (ms : List Step) (a : ℕ) → IsElsewhere s p a → (cs : List LoopClaim) (ks : List LoopShape) → ((l : LoopShape) → Contains ks l → Contains ls l) → Avoids a (loops_of q.of q.low s.moves s.claims p ms cs ks)
  no_loop p ip ms a out [] ks i = tt
  no_loop p ip ms a out (c ∷ cs) [] i = tt
  no_loop p ip ms a out (c ∷ cs) (l ∷ ks) i = by_test (in_span p l.header) refl (has_moves s.moves l.header) refl (no_loop p ip ms a out cs ks (λ k h. i k (suc h.0, omega (arith, h.1), h.2)))
    where
      far_back : IsInSpan p l.header → (b : ℕ) → back_place s.moves s.claims l.back ≡ Some b → b ≢ a
      far_back inside b is = by_place (has_moves s.moves l.back) refl (not (is_stop s.claims l.back)) is
        where
          by_place : (t : Bool) → has_moves s.moves l.back ≡ t → (u : Bool) → cond (t && u) (Some (place_of s.moves l.back)) None ≡ Some b → b ≢ a
          by_place true h true e =
              let f : place_of s.moves l.back ≡ b = cc in
              subst (λ z. z ≢ a) f (apart_places s p a l.back out h (back_inside s ls ps whole.fits whole.filled whole.reached whole.system.ascending q.of q.low [] p ip l (i l (zero, omega arith, refl)) inside h))
          by_place true h false e = cc
          by_place false h u e = cc

      by_test : (t : Bool) → in_span p l.header ≡ t → (u : Bool) → has_moves s.moves l.header ≡ u → Avoids a (loops_of q.of q.low s.moves s.claims p ms cs ks) →
          Avoids a (cond (t && u) (loop_of q.of q.low s.moves s.claims p ms c l ∷ loops_of q.of q.low s.moves s.claims p ms cs ks) (loops_of q.of q.low s.moves s.claims p ms cs ks))
      by_test true e true f r = (apart_places s p a l.header out f (span_of p l.header e), far_back (span_of p l.header e), r)
      by_test true e false f r = r
      by_test false e u f r = r

  -- a function leaves other places as they are
  pub function_leaves : (v : Level) (p : Span) (a : ℕ) → Contains ps p → IsElsewhere s p a → (worth_at (function_level s ls q v p).worths a ≡ worth_at v.worths a) × (worth_at (function_level s ls q v p).weights a ≡ worth_at v.weights a)
  function_leaves v p a ip out = settled_untouched q.low (function_steps s ls q.of v.worths p) a (no_step v.worths p a out) v (function_loops s ls q v.worths p)
      (no_loop p ip (function_steps s ls q.of v.worths p) a out s.claims.loops ls (λ l h. h))

  pub functions_leave : (v : Level) (rs : List Span) (a : ℕ) → ((r : Span) → Contains rs r → Contains ps r) → All (λ r. IsElsewhere s r a) rs → (worth_at (functions_level s ls q v rs).worths a ≡ worth_at v.worths a) × (worth_at (functions_level s ls q v rs).weights a ≡ worth_at v.weights a)
  functions_leave v [] a i out = (refl, refl)
  functions_leave v (r ∷ rs) a i out =
      let f = function_leaves v r a (i r (zero, omega arith, refl)) (All-head (λ r. IsElsewhere s r a) r rs out) in
      let g = functions_leave (function_level s ls q v r) rs a (λ k h. i k (suc h.0, omega (arith, h.1), h.2)) (All-tail (λ r. IsElsewhere s r a) r rs out) in
      (g.0 ∙ f.0, g.1 ∙ f.1)

  -- ---- moves stay paid

  -- no header of the functions has a weight yet
  abbrev pub IsFresh : Level → List Span → Type 0
  IsFresh v rs = (x : ℕ) → has_moves s.moves x ≡ true → IsInOne rs x → worth_at v.weights (place_of s.moves x) ≡ pos 0

  pub none_yet : (v : Level) (p : Span) (ms : List Step) → ((x : ℕ) → has_moves s.moves x ≡ true → IsInSpan p x → worth_at v.weights (place_of s.moves x) ≡ pos 0) → (cs : List LoopClaim) (ks : List LoopShape) → HaveNone v.weights (loops_of q.of q.low s.moves s.claims p ms cs ks)
  none_yet v p ms fresh [] ks = tt
  none_yet v p ms fresh (c ∷ cs) [] = tt
  none_yet v p ms fresh (c ∷ cs) (l ∷ ks) = by_test (in_span p l.header) refl (has_moves s.moves l.header) refl (none_yet v p ms fresh cs ks)
    where
      by_test : (t : Bool) → in_span p l.header ≡ t → (u : Bool) → has_moves s.moves l.header ≡ u → HaveNone v.weights (loops_of q.of q.low s.moves s.claims p ms cs ks) →
          HaveNone v.weights (cond (t && u) (loop_of q.of q.low s.moves s.claims p ms c l ∷ loops_of q.of q.low s.moves s.claims p ms cs ks) (loops_of q.of q.low s.moves s.claims p ms cs ks))
      by_test true e true f r = (fresh l.header f (span_of p l.header e), r)
      by_test true e false f r = r
      by_test false e u f r = r

  pub function_holds : (v : Level) (p : Span) → Contains ps p → length s.moves < length v.worths → length s.moves < length v.weights → ((x : ℕ) → has_moves s.moves x ≡ true → IsInSpan p x → worth_at v.weights (place_of s.moves x) ≡ pos 0) →
      Held q.low (function_steps s ls q.of v.worths p) (ground q.low (function_steps s ls q.of v.worths p) v (function_loops s ls q v.worths p)) (function_level s ls q v p) (function_loops s ls q v.worths p) (function_pairs s ls q v p)
  function_holds v p ip long_worths long_weights fresh =
      let f = fits_function v.worths p ip in
      settled_holds q.low (length s.moves) (function_steps s ls q.of v.worths p) v (function_loops s ls q v.worths p) long_worths long_weights f.0 f.1 (none_yet v p (function_steps s ls q.of v.worths p) fresh s.claims.loops ls)

  -- addresses of one function are elsewhere for those apart from it
  pub elsewhere_all : (p : Span) (rs : List Span) (x : ℕ) → has_moves s.moves x ≡ true → IsInSpan p x → All (AreApart p) rs → All (λ r. IsElsewhere s r (place_of s.moves x)) rs
  elsewhere_all p [] x h i apart = All-nil (λ r. IsElsewhere s r (place_of s.moves x))
  elsewhere_all p (r ∷ rs) x h i apart = All-cons (λ r. IsElsewhere s r (place_of s.moves x)) r rs (inl (x, h, All-head (AreApart p) r rs apart x i, refl)) (elsewhere_all p rs x h i (All-tail (AreApart p) r rs apart))

  pub elsewhere_end : (rs : List Span) → All (λ r. IsElsewhere s r (length s.moves)) rs
  elsewhere_end [] = All-nil (λ r. IsElsewhere s r (length s.moves))
  elsewhere_end (r ∷ rs) = All-cons (λ r. IsElsewhere s r (length s.moves)) r rs (inr refl) (elsewhere_end rs)

  -- spans that are numbered from k on
  abbrev pub Numbered : ℕ → List Span → Type 0
  Numbered k [] = Unit {0}
  Numbered k (r ∷ rs) = ((x : ℕ) → IsInSpan r x → rank ps x ≡ k) × Numbered (k + 1) rs

  pub numbered : (k : ℕ) (rs : List Span) → AreAllApart rs → ((x : ℕ) → IsInOne rs x → rank ps x ≡ k + rank rs x) → Numbered k rs
  numbered k [] apart h = tt
  numbered k (r ∷ rs) apart h = (
    λ x i. let e = h x (inl i) in let z = rank_in r rs x i in omega (arith, e, z),
    numbered (k + 1) rs apart.1 (λ x i. let e = h x (inr i) in let z = rank_out r rs x (apart_one r rs x apart.0 i) in omega (arith, e, z)),
  )

  -- an address of a lower number is elsewhere for all of them
  pub elsewhere_before : (k : ℕ) (rs : List Span) (x : ℕ) → has_moves s.moves x ≡ true → rank ps x < k → Numbered k rs → All (λ r. IsElsewhere s r (place_of s.moves x)) rs
  elsewhere_before k [] x h lt n = All-nil (λ r. IsElsewhere s r (place_of s.moves x))
  elsewhere_before k (r ∷ rs) x h lt n = All-cons (λ r. IsElsewhere s r (place_of s.moves x)) r rs
      (inl (x, h, (λ i. let e = n.0 x i in absurd (omega (arith, e, lt))), refl)) (elsewhere_before (k + 1) rs x h (omega (arith, lt)) n.1)

  pub closed : (m : Move) (d : ℕ) → Contains s.moves m → Contains (destinations m) d → has_moves s.moves d ≡ true
  closed m d im id = All-contains (λ a. has_moves s.moves a ≡ true) (destinations_of s.moves) d whole.system.closed (in_destinations s.moves m d im id)

  pub same_call : (ws us : List ℤ) (to back : Option ℕ) → ((t b : ℕ) → to ≡ Some t → back ≡ Some b → worth_at ws (place_of s.moves t) ≡ worth_at us (place_of s.moves t)) → call_worth s.moves ws to back ≡ call_worth s.moves us to back
  same_call ws us None back h = refl
  same_call ws us (Some t) None h = refl
  same_call ws us (Some t) (Some b) h = h t b refl refl

  pub walked_here : (p : Span) (a : ℕ) → IsInSpan p a → (is_stop s.claims a || is_back ls a) ≡ false → is_walked s.claims ls p a ≡ true
  walked_here p a i free = both (in_span p a) (is_stop s.claims a || is_back ls a) (is_in_span p a i) free
    where
      both : (x y : Bool) → x ≡ true → y ≡ false → x && not y ≡ true
      both true true e f = cc
      both true false e f = refl
      both false y e f = cc

  paid_from : (k : ℕ) (v : Level) (rs : List Span) → Numbered k rs → ((r : Span) → Contains rs r → Contains ps r) → AreAllApart rs → length s.moves < length v.worths → length s.moves < length v.weights → IsFresh v rs →
      (m : Move) → Contains s.moves m → (is_stop s.claims m.at || is_back ls m.at) ≡ false → IsInOne rs m.at → IsPaid (functions_level s ls q v rs) (step_of q.of s.moves (functions_level s ls q v rs).worths m)
  paid_from k v [] n i apart long_worths long_weights fresh m im free one = absurd one
  paid_from k v (r ∷ rs) n i apart long_worths long_weights fresh m im free one = elim one [
    | inl inside ↦ here inside
    | inr later ↦ paid_from (k + 1) (function_level s ls q v r) rs n.1 (λ p h. i p (suc h.0, omega (arith, h.1), h.2)) apart.1
        (let e = held.long_worths in let f = relaxed-long (ground q.low (function_steps s ls q.of v.worths r) v (function_loops s ls q v.worths r)).weights v.worths (function_steps s ls q.of v.worths r) in omega (arith, e, f, long_worths))
        (let e = held.long_weights in let f = weighed-long q.low (function_steps s ls q.of v.worths r) v.weights (function_loops s ls q v.worths r) in omega (arith, e, f, long_weights))
        (λ x h o. (function_leaves v r (place_of s.moves x) ir (inl (x, h, apart_one r rs x apart.0 o, refl))).1 ∙ fresh x h (inr o)) m im free later
  ]
    where
      ir : Contains ps r
      ir = i r (zero, omega arith, refl)

      held : Held q.low (function_steps s ls q.of v.worths r) (ground q.low (function_steps s ls q.of v.worths r) v (function_loops s ls q v.worths r)) (function_level s ls q v r) (function_loops s ls q v.worths r) (function_pairs s ls q v r)
      held = function_holds v r ir long_worths long_weights (λ x h o. fresh x h (inl o))

      rest : (p : Span) → Contains rs p → Contains ps p
      rest p h = i p (suc h.0, omega (arith, h.1), h.2)

      here : IsInSpan r m.at → IsPaid (functions_level s ls q (function_level s ls q v r) rs) (step_of q.of s.moves (functions_level s ls q (function_level s ls q v r) rs).worths m)
      here inside =
          let paid = step_among (IsPaid (function_level s ls q v r)) q.of s.moves v.worths (is_walked s.claims ls r) s.moves m held.paid im (walked_here r m.at inside free) in
          let at = functions_leave (function_level s ls q v r) rs (place_of s.moves m.at) rest (elsewhere_all r rs m.at (has_of s.moves m im) inside apart.0) in
          let at0 = at.0 in let at1 = at.1 in
          let on = on_same (first_or (onward m)) in
          let call = same_call (functions_level s ls q (function_level s ls q v r) rs).worths v.worths m.to m.behind call_same in
          omega (arith, ints)
        where
          on_same : (onward m ≡ []) ⊎ ((d : ℕ) × (es : List ℕ) × (onward m ≡ d ∷ es)) → worth_at (functions_level s ls q (function_level s ls q v r) rs).worths (on_place s.moves (onward m)) ≡ worth_at (function_level s ls q v r).worths (on_place s.moves (onward m))
          on_same o = elim o [
            | inl e ↦ (functions_leave (function_level s ls q v r) rs (on_place s.moves (onward m)) rest (subst (λ a. All (λ p. IsElsewhere s p a) rs) (sym (ap (on_place s.moves) e)) (elsewhere_end rs))).0
            | inr h ↦
                let id : Contains (onward m) h.0 = subst (λ ds. Contains ds h.0) (sym h.2) (zero, omega arith, refl) in
                let there = closed m h.0 im (onward_arrives m.to m.behind h.0 id) in
                let stays = All-contains (IsInSpan r) (onward m) h.0 (All-contains (StaysIn m) ps r (All-contains (λ (x : Move). All (StaysIn x) ps) s.moves m whole.fits.stays im) ir inside) id in
                (functions_leave (function_level s ls q v r) rs (on_place s.moves (onward m)) rest (subst (λ a. All (λ p. IsElsewhere s p a) rs) (sym (ap (on_place s.moves) h.2)) (elsewhere_all r rs h.0 there stays apart.0))).0
          ]

          call_same : (t b : ℕ) → m.to ≡ Some t → m.behind ≡ Some b → worth_at (functions_level s ls q (function_level s ls q v r) rs).worths (place_of s.moves t) ≡ worth_at v.worths (place_of s.moves t)
          call_same t b e f =
              let there = closed m t im (subst (λ o. Contains (option_to_list o ++ option_to_list m.behind) t) (sym e) (zero, omega arith, refl)) in
              let lt = rank_earlier ps t m.at whole.filled whole.fits.apart (All-contains (CallsEarlier ps) s.moves m whole.fits.calls im t b e f) in
              let own = n.0 m.at inside in
              let out : All (λ p. IsElsewhere s p (place_of s.moves t)) (r ∷ rs) = elsewhere_before k (r ∷ rs) t there (omega (arith, lt, own)) n in
              (functions_leave (function_level s ls q v r) rs (place_of s.moves t) rest (All-tail (λ p. IsElsewhere s p (place_of s.moves t)) r rs out)).0
              ∙ (function_leaves v r (place_of s.moves t) ir (All-head (λ p. IsElsewhere s p (place_of s.moves t)) r rs out)).0

  -- ---- loops stay settled

  still_settled : (v w : Level) (l : Loop) (p : Pair) → worth_at w.worths l.header ≡ worth_at v.worths l.header → worth_at w.weights l.header ≡ worth_at v.weights l.header → ((b : ℕ) → l.back ≡ Some b → worth_at w.worths b ≡ worth_at v.worths b) → IsSettled v l p → IsSettled w l p
  still_settled v w l p e f back h = record { least = h.least; most = h.most; weight = f ∙ h.weight; back = pays l.back back h.back }
    where
      pays : (o : Option ℕ) → ((b : ℕ) → o ≡ Some b → worth_at w.worths b ≡ worth_at v.worths b) → PaysBack v.worths l p o → PaysBack w.worths l p o
      pays None same h = tt
      pays (Some b) same h = (h.0, λ d. let g = same b refl in rw (e, g) (h.1 d))

  loops_stay : (v : Level) (r : Span) (rs : List Span) → Contains ps r → ((p : Span) → Contains rs p → Contains ps p) → All (AreApart r) rs → (ms : List Step) (cs : List LoopClaim) (ks : List LoopShape) → ((l : LoopShape) → Contains ks l → Contains ls l) → (qs : List Pair) →
      AreSettled v (loops_of q.of q.low s.moves s.claims r ms cs ks) qs → AreSettled (functions_level s ls q v rs) (loops_of q.of q.low s.moves s.claims r ms cs ks) qs
  loops_stay v r rs ir rest apart ms [] ks i qs h = tt
  loops_stay v r rs ir rest apart ms (c ∷ cs) [] i qs h = tt
  loops_stay v r rs ir rest apart ms (c ∷ cs) (l ∷ ks) i qs h = by_test (in_span r l.header) refl (has_moves s.moves l.header) refl qs (λ us. loops_stay v r rs ir rest apart ms cs ks (λ k j. i k (suc j.0, omega (arith, j.1), j.2)) us) h
    where
      same : (x : ℕ) → has_moves s.moves x ≡ true → IsInSpan r x → (worth_at (functions_level s ls q v rs).worths (place_of s.moves x) ≡ worth_at v.worths (place_of s.moves x)) × (worth_at (functions_level s ls q v rs).weights (place_of s.moves x) ≡ worth_at v.weights (place_of s.moves x))
      same x there inside = functions_leave v rs (place_of s.moves x) rest (elsewhere_all r rs x there inside apart)

      back_same : IsInSpan r l.header → (b : ℕ) → back_place s.moves s.claims l.back ≡ Some b → worth_at (functions_level s ls q v rs).worths b ≡ worth_at v.worths b
      back_same inside b is = by_place (has_moves s.moves l.back) refl (not (is_stop s.claims l.back)) is
        where
          by_place : (t : Bool) → has_moves s.moves l.back ≡ t → (u : Bool) → cond (t && u) (Some (place_of s.moves l.back)) None ≡ Some b → worth_at (functions_level s ls q v rs).worths b ≡ worth_at v.worths b
          by_place true there true e =
              let f : place_of s.moves l.back ≡ b = cc in
              subst (λ z. worth_at (functions_level s ls q v rs).worths z ≡ worth_at v.worths z) f
              (same l.back there (back_inside s ls ps whole.fits whole.filled whole.reached whole.system.ascending q.of q.low [] r ir l (i l (zero, omega arith, refl)) inside there)).0
          by_place true there false e = cc
          by_place false there u e = cc

      by_test : (t : Bool) → in_span r l.header ≡ t → (u : Bool) → has_moves s.moves l.header ≡ u → (qs : List Pair) →
          ((us : List Pair) → AreSettled v (loops_of q.of q.low s.moves s.claims r ms cs ks) us → AreSettled (functions_level s ls q v rs) (loops_of q.of q.low s.moves s.claims r ms cs ks) us) →
          AreSettled v (cond (t && u) (loop_of q.of q.low s.moves s.claims r ms c l ∷ loops_of q.of q.low s.moves s.claims r ms cs ks) (loops_of q.of q.low s.moves s.claims r ms cs ks)) qs →
          AreSettled (functions_level s ls q v rs) (cond (t && u) (loop_of q.of q.low s.moves s.claims r ms c l ∷ loops_of q.of q.low s.moves s.claims r ms cs ks) (loops_of q.of q.low s.moves s.claims r ms cs ks)) qs
      by_test true e true f [] later h = absurd h
      by_test true e true f (p ∷ us) later h = (
        still_settled v (functions_level s ls q v rs) (loop_of q.of q.low s.moves s.claims r ms c l) p (same l.header f (span_of r l.header e)).0 (same l.header f (span_of r l.header e)).1 (back_same (span_of r l.header e)) h.0,
        later us h.1,
      )
      by_test true e false f us later h = later us h
      by_test false e u f us later h = later us h

  settled_from : (v : Level) (rs : List Span) → ((r : Span) → Contains rs r → Contains ps r) → AreAllApart rs → length s.moves < length v.worths → length s.moves < length v.weights → IsFresh v rs → LoopsAreSettled s ls q (functions_level s ls q v rs) v rs
  settled_from v [] i apart long_worths long_weights fresh = tt
  settled_from v (r ∷ rs) i apart long_worths long_weights fresh = (
    loops_stay (function_level s ls q v r) r rs ir (λ p h. i p (suc h.0, omega (arith, h.1), h.2)) apart.0 (function_steps s ls q.of v.worths r) s.claims.loops ls (λ l h. h) (function_pairs s ls q v r) held.settled,
    settled_from (function_level s ls q v r) rs (λ p h. i p (suc h.0, omega (arith, h.1), h.2)) apart.1
        (let e = held.long_worths in let f = relaxed-long (ground q.low (function_steps s ls q.of v.worths r) v (function_loops s ls q v.worths r)).weights v.worths (function_steps s ls q.of v.worths r) in omega (arith, e, f, long_worths))
        (let e = held.long_weights in let f = weighed-long q.low (function_steps s ls q.of v.worths r) v.weights (function_loops s ls q v.worths r) in omega (arith, e, f, long_weights))
        (λ x h o. (function_leaves v r (place_of s.moves x) ir (inl (x, h, apart_one r rs x apart.0 o, refl))).1 ∙ fresh x h (inr o)),
  )
    where
      ir : Contains ps r
      ir = i r (zero, omega arith, refl)

      held : Held q.low (function_steps s ls q.of v.worths r) (ground q.low (function_steps s ls q.of v.worths r) v (function_loops s ls q v.worths r)) (function_level s ls q v r) (function_loops s ls q v.worths r) (function_pairs s ls q v r)
      held = function_holds v r ir long_worths long_weights (λ x h o. fresh x h (inl o))

pub zero_at : (k a : ℕ) → worth_at (replicate k (pos 0)) a ≡ pos 0
zero_at zero zero = refl
zero_at zero (suc a) = refl
zero_at (suc k) zero = refl
zero_at (suc k) (suc a) = zero_at k a

-- all moves that are walked are paid
pub all_paid : (s : System) (ls : List LoopShape) (ps : List Span) → IsReachedWhole s ls ps → SettlingPaysMoves s ls ps
all_paid s ls ps whole q m im free = paid_from s ls ps whole q 0 (blank (length s.moves) q.low) ps
    (numbered s ls ps whole q 0 ps whole.fits.apart (λ x i. omega arith)) (λ r h. h) whole.fits.apart
    (let a = length-append (replicate (length s.moves) q.low) (pos 0 ∷ []) in let b = length-replicate (length s.moves) q.low in omega (arith, a, b))
    (let b = length-replicate (length s.moves + 1) (pos 0) in omega (arith, b))
    (λ x h o. zero_at (length s.moves + 1) (place_of s.moves x)) m im free (All-contains (λ (x : Move). IsInOne ps x.at) s.moves m whole.fits.covered im)

-- all loops are settled
pub all_settled : (s : System) (ls : List LoopShape) (ps : List Span) → IsReachedWhole s ls ps → SettlingSettlesLoops s ls ps
all_settled s ls ps whole q = settled_from s ls ps whole q (blank (length s.moves) q.low) ps (λ r h. h) whole.fits.apart
    (let a = length-append (replicate (length s.moves) q.low) (pos 0 ∷ []) in let b = length-replicate (length s.moves) q.low in omega (arith, a, b))
    (let b = length-replicate (length s.moves + 1) (pos 0) in omega (arith, b))
    (λ x h o. zero_at (length s.moves + 1) (place_of s.moves x))
