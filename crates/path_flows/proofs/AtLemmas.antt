-- Moves by their places, and the jumps back of turnings.
use Rattle.std.proofs.Common.{◌≡◌, ◌≢◌, ℕ, zero, suc, ◌+◌, ◌≤◌, ℤ, arith, refl, sym, ap, ◌∙◌, subst, List, [], ◌∷◌, ◌++◌, length, Contains, inl, inr, Bool, true, false, cond, Option, Some, None}
use Rattle.std.specs.Prelude.{◌==◌, ◌&&◌, not, nat_lt}
use Rattle.std.specs.Option.{option_to_list}
use Rattle.std.proofs.lemmas.Bool.Decides.{eqb_tells, nat_tests}
use Rattle.std.proofs.lemmas.List.Elements.{All-contains}
use Rattle.code_flow_system.specs.declared.claims.LoopClaim.{LoopClaim}
use Rattle.code_flow_system.specs.declared.moves.Move.{Move}
use Rattle.code_flow_system.specs.declared.shapes.LoopShape.{LoopShape}
use Rattle.code_flow_system.specs.declared.shapes.Span.{Span}
use Rattle.code_flow_system.specs.Moves.{destinations}
use Rattle.code_flow_system.specs.Systems.{System, ComesBefore, AreAscending, has_moves}
use Rattle.code_flow_system.specs.Shapes.{IsLoop, onward_by, onward, IsInSpan}
use Rattle.loop_walks.specs.declared.step.Step.{Step}
use Rattle.loop_walks.specs.declared.step.Loop.{Loop}
use Rattle.loop_walks.specs.Turns.{way_at, turn_ways}
use Rattle.loop_walks.specs.Levels.{weighed}
use Rattle.loop_flows.specs.Turns.{turning_of, with_way, with_back, turnings}
use Rattle.path_places.specs.Reached.{in_span}
use Rattle.path_places.specs.Places.{place_of, on_place, is_stop, back_place, loop_of, loops_of}
use Rattle.path_places.specs.PlaceLaws.{IsReachedWhole}
use Rattle.path_places.proofs.RankLemmas.{span_of}
use Rattle.path_places.proofs.PlaceLemmas.{place_below, place_tells}
use Rattle.path_places.proofs.LoopLemmas.{onward_arrives, first_or}
use Rattle.path_places.proofs.FunctionLemmas.{move_of, back_inside}
use Rattle.path_places.specs.Driver.{Prices}
use Rattle.path_places.proofs.DriverLemmas.{closed}
use Rattle.path_flows.proofs.SumLemmas.{is_first, goes_to, calls_by, calls_to, goes_place, calls_place_by, calls_place, At, EachTurn}

-- ---- the move at the place of an address

place_none : (ms : List Move) (a : ℕ) → ((y : Move) → Contains ms y → a ≤ y.at) → place_of ms a ≡ 0
place_none [] a h = refl
place_none (x ∷ ms) a h = by_test (nat_lt x.at a) refl (place_none ms a (λ y i. h y (suc i.0, omega (arith, i.1), i.2)))
  where
    by_test : (t : Bool) → nat_lt x.at a ≡ t → place_of ms a ≡ 0 → cond t 1 0 + place_of ms a ≡ 0
    by_test true t r = let le = h x (zero, omega arith, refl) in absurd (grind (arith, nat_tests))
    by_test false t r = omega (arith, r)

comes_at : (m k : Move) → ComesBefore m k → m.at ≤ k.at
comes_at m k h = elim h [ inl e ↦ omega (arith, e) | inr e ↦ let e0 = e.0 in omega (arith, e0) ]

pub at_place : (ms : List Move) (a : ℕ) → AreAscending ms → has_moves ms a ≡ true → (m : Move) × At ms (place_of ms a) m × (m.at ≡ a)
at_place [] a up h = cc
at_place (x ∷ ms) a up h = by_test (nat_lt x.at a) refl (λ k. at_place ms a up.1 k) h
  where
    differs : (t : Bool) → t ≡ false → cond t true (has_moves ms a) ≡ true → has_moves ms a ≡ true
    differs true e h = cc
    differs false e h = h

    by_test : (t : Bool) → nat_lt x.at a ≡ t → (has_moves ms a ≡ true → (m : Move) × At ms (place_of ms a) m × (m.at ≡ a)) → has_moves (x ∷ ms) a ≡ true → (m : Move) × At (x ∷ ms) (cond t 1 0 + place_of ms a) m × (m.at ≡ a)
    by_test true t later h = elim (eqb_tells x.at a) [
      | inl e ↦ let e1 = e.1 in absurd (grind (arith, nat_tests))
      | inr e ↦
          let r = later (differs (x.at == a) e.0 h) in
          let s : 1 + place_of ms a ≡ suc (place_of ms a) = omega arith in
          (r.0, subst (λ i. At (x ∷ ms) i r.0) (sym s) r.1, r.2)
    ]
    by_test false t later h = elim (eqb_tells x.at a) [
      | inl e ↦
          let z = place_none ms a (λ y i. let c = comes_at x y (All-contains (ComesBefore x) ms y up.0 i) in let e1 = e.1 in omega (arith, c, e1)) in
          let y : 0 + place_of ms a ≡ 0 = omega (arith, z) in
          (x, subst (λ i. At (x ∷ ms) i x) (sym y) refl, e.1)
      | inr e ↦
          let m = move_of ms a (differs (x.at == a) e.0 h) in
          let c = comes_at x m.0 (All-contains (ComesBefore x) ms m.0 up.0 m.1) in
          let m2 = m.2 in
          let ge : a ≤ x.at = grind (arith, nat_tests) in
          let e1 = e.1 in absurd (e1 (omega (arith, c, m2, ge)))
    ]

pub at_contains : (ms : List Move) (i : ℕ) (m : Move) → At ms i m → Contains ms m
at_contains [] i m h = absurd h
at_contains (x ∷ ms) zero m h = (zero, omega arith, h)
at_contains (x ∷ ms) (suc i) m h = let r = at_contains ms i m h in (suc r.0, (let r1 = r.1 in omega (arith, r1)), r.2)

eq_is : (a b : ℕ) → a ≡ b → (a == b) ≡ true
eq_is a b e = elim (eqb_tells a b) [ inl k ↦ k.0 | inr k ↦ absurd (k.1 e) ]

eq_not : (a b : ℕ) → a ≢ b → (a == b) ≡ false
eq_not a b d = elim (eqb_tells a b) [ inl k ↦ absurd (d k.1) | inr k ↦ k.0 ]

-- one destination is one that the move goes on to
pub one_destination : (to back : Option ℕ) (h : ℕ) → option_to_list to ++ option_to_list back ≡ h ∷ [] → (onward_by to back ≡ h ∷ []) × ((a : ℕ) → calls_by to back a ≡ false)
one_destination None None h e = let l = ap length e in absurd (omega (arith, l))
one_destination (Some t) None h e = (e, λ a. refl)
one_destination None (Some b) h e = (e, λ a. refl)
one_destination (Some t) (Some b) h e = let l = ap length e in absurd (omega (arith, l))

abbrev pub EachLoop : (Loop → Type 0) → List Loop → Type 0
EachLoop P [] = Unit {0}
EachLoop P (l ∷ ls) = P l × EachLoop P ls

module _ (s : System) (ls : List LoopShape) (ps : List Span) (whole : IsReachedWhole s ls ps) (q : Prices) where
  pub same_place : (a b : ℕ) → has_moves s.moves a ≡ true → has_moves s.moves b ≡ true → place_of s.moves a ≡ place_of s.moves b → a ≡ b
  same_place a b h k e = let x = place_tells s.moves a b k (omega (arith, e)) in let y = place_tells s.moves b a h (omega (arith, e)) in omega (arith, x, y)

  -- places tell addresses
  pub place_test : (a b : ℕ) → has_moves s.moves a ≡ true → has_moves s.moves b ≡ true → (place_of s.moves a == place_of s.moves b) ≡ (a == b)
  place_test a b h k = elim (eqb_tells a b) [
    | inl e ↦ eq_is (place_of s.moves a) (place_of s.moves b) (ap (place_of s.moves) e.1) ∙ sym e.0
    | inr e ↦ eq_not (place_of s.moves a) (place_of s.moves b) (λ x. e.1 (same_place a b h k x)) ∙ sym e.0
  ]

  pub goes_test : (m : Move) (a : ℕ) → Contains s.moves m → has_moves s.moves a ≡ true → goes_place s.moves (place_of s.moves a) m ≡ goes_to a m
  goes_test m a im h = elim (first_or (onward m)) [
    | inl e ↦
        let b = place_below s.moves a h in
        ap (λ ds. on_place s.moves ds == place_of s.moves a) e ∙ (eq_not (length s.moves) (place_of s.moves a) (λ x. absurd (omega (arith, b, x))) ∙ sym (ap (λ ds. is_first ds a) e))
    | inr e ↦
        let there = closed s ls ps whole q m e.0 im (onward_arrives m.to m.behind e.0 (subst (λ ds. Contains ds e.0) (sym e.2) (zero, omega arith, refl))) in
        ap (λ ds. on_place s.moves ds == place_of s.moves a) e.2 ∙ (place_test e.0 a there h ∙ sym (ap (λ ds. is_first ds a) e.2))
  ]

  calls_test_by : (to back : Option ℕ) (a : ℕ) → has_moves s.moves a ≡ true → ((t b : ℕ) → to ≡ Some t → back ≡ Some b → has_moves s.moves t ≡ true) → calls_place_by s.moves to back (place_of s.moves a) ≡ calls_by to back a
  calls_test_by None back a h k = refl
  calls_test_by (Some t) None a h k = refl
  calls_test_by (Some t) (Some b) a h k = place_test t a (k t b refl refl) h

  pub target_reached : (m : Move) → Contains s.moves m → (t b : ℕ) → m.to ≡ Some t → m.behind ≡ Some b → has_moves s.moves t ≡ true
  target_reached m im t b e f = closed s ls ps whole q m t im (subst (λ o. Contains (option_to_list o ++ option_to_list m.behind) t) (sym e) (zero, omega arith, refl))

  pub calls_test : (m : Move) (a : ℕ) → Contains s.moves m → has_moves s.moves a ≡ true → calls_place s.moves (place_of s.moves a) m ≡ calls_to a m
  calls_test m a im h = calls_test_by m.to m.behind a h (target_reached m im)

  -- ---- jumps back

  -- a jump back from one place to another, by the one move that stands there
  pub record IsBackMove (p : Span) (back header : ℕ) : Type 0 where
    pub move : Move
    pub at : At s.moves back move
    pub inside : IsInSpan p move.at
    pub place : place_of s.moves move.at ≡ back
    pub target : ℕ
    pub goes : onward move ≡ target ∷ []
    pub reached : has_moves s.moves target ≡ true
    pub header_place : place_of s.moves target ≡ header
    pub calls : (a : ℕ) → calls_to a move ≡ false
    pub free : is_stop s.claims move.at ≡ false
    pub apart : back ≢ header
    pub shape : LoopShape
    pub is_shape : Contains ls shape
    pub shape_header : shape.header ≡ target
    pub shape_back : shape.back ≡ move.at

  pub back_reached : (l : LoopShape) (b : ℕ) → back_place s.moves s.claims l.back ≡ Some b → (has_moves s.moves l.back ≡ true) × (place_of s.moves l.back ≡ b) × (is_stop s.claims l.back ≡ false)
  back_reached l b is = by_has (has_moves s.moves l.back) (is_stop s.claims l.back) is
    where
      by_has : (t u : Bool) → cond (t && not u) (Some (place_of s.moves l.back)) None ≡ Some b → (t ≡ true) × (place_of s.moves l.back ≡ b) × (u ≡ false)
      by_has true false e = (refl, cc, refl)
      by_has true true e = cc
      by_has false u e = cc

  back_move : (p : Span) → Contains ps p → (l : LoopShape) → Contains ls l → IsInSpan p l.header → has_moves s.moves l.header ≡ true → (b : ℕ) → back_place s.moves s.claims l.back ≡ Some b → b ≢ place_of s.moves l.header → IsBackMove p b (place_of s.moves l.header)
  back_move p ip l il inside there b is apart =
      let r = back_reached l b is in
      let m = at_place s.moves l.back whole.system.ascending r.0 in
      let im = at_contains s.moves (place_of s.moves l.back) m.0 m.1 in
      let goes = All-contains (λ (x : Move). x.at ≡ l.back → destinations x ≡ l.header ∷ []) s.moves m.0 (All-contains (IsLoop s) ls l whole.fits.loops il).goes_back im m.2 in
      let d = one_destination m.0.to m.0.behind l.header goes in
      record {
        move = m.0;
        at = subst (λ i. At s.moves i m.0) r.1 m.1;
        inside = subst (λ a. IsInSpan p a) (sym m.2) (back_inside s ls ps whole.fits whole.filled whole.reached whole.system.ascending q.of q.low [] p ip l il inside r.0);
        place = ap (place_of s.moves) m.2 ∙ r.1;
        target = l.header;
        goes = d.0;
        reached = there;
        header_place = refl;
        calls = d.1;
        free = subst (λ a. is_stop s.claims a ≡ false) (sym m.2) r.2;
        apart = apart;
        shape = l;
        is_shape = il;
        shape_header = refl;
        shape_back = sym m.2;
      }

  pub loops_each : (P : Loop → Type 0) (p : Span) (ms : List Step) (cs : List LoopClaim) (ks : List LoopShape) → ((c : LoopClaim) (l : LoopShape) → Contains ks l → IsInSpan p l.header → has_moves s.moves l.header ≡ true → P (loop_of q.of q.low s.moves s.claims p ms c l)) → EachLoop P (loops_of q.of q.low s.moves s.claims p ms cs ks)
  loops_each P p ms [] ks f = tt
  loops_each P p ms (c ∷ cs) [] f = tt
  loops_each P p ms (c ∷ cs) (l ∷ ks) f = by_test (in_span p l.header) refl (has_moves s.moves l.header) refl (loops_each P p ms cs ks (λ d k i. f d k (suc i.0, omega (arith, i.1), i.2)))
    where
      by_test : (t : Bool) → in_span p l.header ≡ t → (u : Bool) → has_moves s.moves l.header ≡ u → EachLoop P (loops_of q.of q.low s.moves s.claims p ms cs ks) → EachLoop P (cond (t && u) (loop_of q.of q.low s.moves s.claims p ms c l ∷ loops_of q.of q.low s.moves s.claims p ms cs ks) (loops_of q.of q.low s.moves s.claims p ms cs ks))
      by_test true e true h r = (f c l (zero, omega arith, refl) (span_of p l.header e) h, r)
      by_test true e false h r = r
      by_test false e u h r = r

  -- what holds of each loop's jump back holds of each turning's
  pub turnings_each : (P : ℕ → ℕ → Type 0) (low : ℤ) (ms : List Step) (weights : List ℤ) (los : List Loop) → EachLoop (λ l. (b : ℕ) → l.back ≡ Some b → b ≢ l.header → P b l.header) los → EachTurn (λ x. P x.back x.header) (turnings low ms weights los)
  turnings_each P low ms weights [] h = tt
  turnings_each P low ms weights (l ∷ los) h = by_back l.back h.0 (turnings_each P low ms weights los h.1)
    where
      by_back : (o : Option ℕ) → ((b : ℕ) → o ≡ Some b → b ≢ l.header → P b l.header) → EachTurn (λ x. P x.back x.header) (turnings low ms weights los) → EachTurn (λ x. P x.back x.header) (with_back low (weighed low ms weights los) l ms o (turnings low ms weights los))
      by_back None f r = r
      by_back (Some b) f r = elim (eqb_tells b l.header) [ inl e ↦ rw e.0 r | inr e ↦ rw e.0 (by_way e.1 (way_at (turn_ways low (weighed low ms weights los) l ms) 0)) ]
        where
          by_way : b ≢ l.header → (w : Option ℤ) → EachTurn (λ x. P x.back x.header) (with_way w (turning_of low (weighed low ms weights los) l ms (turn_ways low (weighed low ms weights los) l ms) b) (turnings low ms weights los))
          by_way d None = r
          by_way d (Some x) = (f b refl d, r)

  pub back_moves : (p : Span) → Contains ps p → (ms : List Step) (weights : List ℤ) → EachTurn (λ x. IsBackMove p x.back x.header) (turnings q.low ms weights (loops_of q.of q.low s.moves s.claims p ms s.claims.loops ls))
  back_moves p ip ms weights = turnings_each (IsBackMove p) q.low ms weights (loops_of q.of q.low s.moves s.claims p ms s.claims.loops ls)
      (loops_each (λ l. (b : ℕ) → l.back ≡ Some b → b ≢ l.header → IsBackMove p b l.header) p ms s.claims.loops ls (λ c l il inside there b is d. back_move p ip l il inside there b is d))
