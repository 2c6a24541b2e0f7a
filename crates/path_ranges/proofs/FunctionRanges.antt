-- A function that is next to be settled has loose numbers, those of its loose walk.
use Rattle.std.proofs.Common.{◌≡◌, ℕ, zero, suc, ◌<◌, ℤ, pos, ◌-ℤ◌, ◌≤ℤ◌, arith, refl, sym, ap, ◌∙◌, subst, List, [], ◌∷◌, length, Contains, All, inl, inr, ◌⊎◌, Bool, true, false, cond, Option, Some, None}
use Rattle.std.specs.Prelude.{◌==◌, ◌&&◌, ◌||◌, not}
use Rattle.std.proofs.lemmas.Int.{ints}
use Rattle.std.proofs.lemmas.Bool.Decides.{nat_tests, eqb_tells}
use Rattle.std.proofs.lemmas.List.Elements.{All-head, All-tail, All-contains}
use Rattle.code_flow_system.specs.declared.claims.LoopClaim.{LoopClaim}
use Rattle.code_flow_system.specs.declared.moves.Move.{Move}
use Rattle.code_flow_system.specs.declared.shapes.LoopShape.{LoopShape}
use Rattle.code_flow_system.specs.declared.shapes.Span.{Span}
use Rattle.code_flow_system.specs.Systems.{System, has_moves}
use Rattle.code_flow_system.specs.Shapes.{onward, is_back, IsInSpan, StaysIn}
use Rattle.loop_walks.specs.declared.step.Step.{Step}
use Rattle.loop_walks.specs.Walks.{worth_at}
use Rattle.loop_walks.specs.Levels.{Level, ground}
use Rattle.loop_walks.specs.Rows.{Each}
use Rattle.loop_walks.proofs.EachLemmas.{each_map}
use Rattle.loop_walks.proofs.WalkLemmas.{Pays, relaxed_pays}
use Rattle.loop_ranges.specs.Near.{IsUpTo, IsNear}
use Rattle.loop_ranges.specs.Loose.{PaysLoosely, AreLooseTurns}
use Rattle.loop_ranges.specs.Reach.{IsNearWeight, StartBelow, BacksAbove, IsLooseCode}
use Rattle.loop_ranges.proofs.NearLemmas.{near_most}
use Rattle.loop_ranges.proofs.LevelsBelow.{stay_near}
use Rattle.path_places.specs.Reached.{in_span}
use Rattle.path_places.specs.Places.{place_of, on_place, call_worth, is_stop, is_walked, loop_of, loops_of}
use Rattle.path_places.specs.PlaceLaws.{function_steps}
use Rattle.path_places.proofs.RankLemmas.{span_of, is_in_span}
use Rattle.path_places.proofs.LoopLemmas.{steps_each, has_of, onward_arrives, first_or}
use Rattle.path_places.proofs.FunctionLemmas.{move_of, walked_in}
use Rattle.path_places.specs.Driver.{Prices, function_loops}
use Rattle.path_places.proofs.DriverLemmas.{step_among, fits_function, none_yet, closed}
use Rattle.loop_ranges.specs.LooseWalk.{backed, loose_of, loose_turns, IsLooseWalk}
use Rattle.loop_ranges.proofs.LooseLemmas.{start_long, worths_positive, weights_positive}
use Rattle.loop_ranges.proofs.BesideLemmas.{walk_pays}
use Rattle.path_ranges.specs.Loosened.{loose_claims}
use Rattle.path_ranges.proofs.SystemLemmas.{none_stop}
use Rattle.path_ranges.proofs.DearestLemmas.{dearest_least}
use Rattle.path_ranges.specs.LooseDriver.{no_worths, loose_start, loose_steps, loose_loops_of, loose_function}
use Rattle.path_ranges.specs.Bounded.{StartsBelow, IsBounded}
use Rattle.path_ranges.specs.Ranges.{IsLooseFunction}
use Rattle.path_ranges.proofs.BesideFunctions.{steps_beside, loops_beside, walked_loosely}

-- a place of a span's moves

abbrev pub is_own_of : List Move → Span → ℕ → List Move → Bool
is_own_of all p a [] = false
is_own_of all p a (m ∷ ms) = (in_span p m.at && (place_of all m.at == a)) || is_own_of all p a ms

-- or the one behind all
abbrev pub is_own : List Move → Span → ℕ → Bool
is_own all p a = (a == length all) || is_own_of all p a all

pub own_move : (all : List Move) (p : Span) (ms : List Move) (m : Move) → Contains ms m → IsInSpan p m.at → is_own_of all p (place_of all m.at) ms ≡ true
own_move all p [] m (i, lt, e) h = absurd (omega (arith, lt))
own_move all p (x ∷ ms) m (zero, lt, e) h = subst (λ (y : Move). is_own_of all p (place_of all y.at) (x ∷ ms) ≡ true) e (here (in_span p x.at) (is_in_span p x.at (subst (λ (y : Move). IsInSpan p y.at) (sym e) h)) (place_of all x.at == place_of all x.at) (same (place_of all x.at)))
  where
    same : (a : ℕ) → (a == a) ≡ true
    same a = grind (arith, nat_tests)

    here : (t : Bool) → t ≡ true → (u : Bool) → u ≡ true → (t && u) || is_own_of all p (place_of all x.at) ms ≡ true
    here true e true f = refl
    here true e false f = cc
    here false e u f = cc
own_move all p (x ∷ ms) m (suc i, lt, e) h = later (in_span p x.at && (place_of all x.at == place_of all m.at)) (own_move all p ms m (i, omega (arith, lt), e) h)
  where
    later : (t : Bool) → is_own_of all p (place_of all m.at) ms ≡ true → t || is_own_of all p (place_of all m.at) ms ≡ true
    later true h = refl
    later false h = h

-- what an own place is
pub record OwnPlace (all : List Move) (p : Span) (a : ℕ) : Type 0 where
  pub move : Move
  pub among : Contains all move
  pub inside : IsInSpan p move.at
  pub place : place_of all move.at ≡ a

pub own_is : (all : List Move) (p : Span) (a : ℕ) (ms : List Move) → ((m : Move) → Contains ms m → Contains all m) → is_own_of all p a ms ≡ true → OwnPlace all p a
own_is all p a [] i h = cc
own_is all p a (m ∷ ms) i h = by_test (in_span p m.at) refl (place_of all m.at == a) refl (λ r. own_is all p a ms (λ x j. i x (suc j.0, (let k = j.1 in omega (arith, k)), j.2)) r) h
  where
    equal : (x y : ℕ) → (x == y) ≡ true → x ≡ y
    equal x y e = grind (arith, nat_tests)

    by_test : (t : Bool) → in_span p m.at ≡ t → (u : Bool) → (place_of all m.at == a) ≡ u → (is_own_of all p a ms ≡ true → OwnPlace all p a) → (t && u) || is_own_of all p a ms ≡ true → OwnPlace all p a
    by_test true e true f r h = record { move = m; among = i m (zero, omega arith, refl); inside = span_of p m.at e; place = equal (place_of all m.at) a f }
    by_test true e false f r h = r h
    by_test false e u f r h = r h

pub own_cases : (all : List Move) (p : Span) (a : ℕ) → is_own all p a ≡ true → (a ≡ length all) ⊎ OwnPlace all p a
own_cases all p a h = elim (eqb_tells a (length all)) [
  | inl k ↦ inl k.1
  | inr k ↦ inr (own_is all p a all (λ m i. i) (rest (a == length all) k.0 h))
]
  where
    rest : (t : Bool) → t ≡ false → t || is_own_of all p a all ≡ true → is_own_of all p a all ≡ true
    rest true e h = cc
    rest false e h = h

pub own_at : (all : List Move) (p : Span) (m : Move) → Contains all m → IsInSpan p m.at → is_own all p (place_of all m.at) ≡ true
own_at all p m im h = either (place_of all m.at == length all) (own_move all p all m im h)
  where
    either : (t : Bool) → is_own_of all p (place_of all m.at) all ≡ true → t || is_own_of all p (place_of all m.at) all ≡ true
    either true h = refl
    either false h = h

own_end : (all : List Move) (p : Span) → is_own all p (length all) ≡ true
own_end all p = first (length all == length all) (same (length all))
  where
    same : (a : ℕ) → (a == a) ≡ true
    same a = grind (arith, nat_tests)

    first : (t : Bool) → t ≡ true → t || is_own_of all p (length all) all ≡ true
    first true e = refl
    first false e = cc

-- no worth or weight yet
pub record IsFreshFor (s : System) (q : Prices) (v : Level) (p : Span) : Type 0 where
  pub worths : (x : ℕ) → has_moves s.moves x ≡ true → IsInSpan p x → worth_at v.worths (place_of s.moves x) ≡ q.low
  pub weights : (x : ℕ) → has_moves s.moves x ≡ true → IsInSpan p x → worth_at v.weights (place_of s.moves x) ≡ pos 0
  pub behind : worth_at v.worths (length s.moves) ≡ pos 0

module _ (s : System) (ls : List LoopShape) (ps : List Span) (q : Prices) (price : Move → ℤ) (most : ℤ) (starts : ℕ) (b : IsBounded s ls ps q price most starts) (v : Level) (p : Span) (ip : Contains ps p)
    (long_worths : length s.moves < length v.worths) (long_weights : length s.moves < length v.weights) (above : (a : ℕ) → q.low ≤ℤ worth_at v.worths a) (fresh : IsFreshFor s q v p)
    (ws : List ℤ) (walk : IsLooseWalk (length s.moves) (loose_steps s ls price ws p) (loose_start s ws) (loose_loops_of s ls price ws p)) (below : (a : ℕ) → worth_at (loose_function s ls price ws p).worths a ≤ℤ most)
    (calls : (m : Move) → Contains s.moves m → IsInSpan p m.at → (t k : ℕ) → m.to ≡ Some t → m.behind ≡ Some k → IsNear q.low (worth_at v.worths (place_of s.moves t)) (worth_at ws (place_of s.moves t))) where
  negative : q.low ≤ℤ pos 0
  negative = let a = b.apart in let p = b.positive in omega (arith, ints)

  worth_positive : (a : ℕ) → pos 0 ≤ℤ worth_at (loose_function s ls price ws p).worths a
  worth_positive = worths_positive (length s.moves) (loose_steps s ls price ws p) (loose_start s ws) (loose_loops_of s ls price ws p) walk

  weight_positive : (a : ℕ) → pos 0 ≤ℤ worth_at (loose_function s ls price ws p).weights a
  weight_positive = weights_positive (length s.moves) (loose_steps s ls price ws p) (loose_start s ws) (loose_loops_of s ls price ws p) walk

  pays : Each (PaysLoosely q.low (loose_of (loose_function s ls price ws p))) (function_steps s ls q.of v.worths p)
      × AreLooseTurns q.low most (loose_of (loose_function s ls price ws p)) (function_steps s ls q.of v.worths p) (function_loops s ls q v.worths p) (loose_turns (loose_steps s ls price ws p) (no_worths (length s.moves)) (loose_loops_of s ls price ws p))
  pays =
      let f = fits_function s ls ps b.whole q v.worths p ip in
      walk_pays q.low most (length s.moves) (function_steps s ls q.of v.worths p) (function_loops s ls q v.worths p) (loose_steps s ls price ws p) (loose_start s ws) (loose_loops_of s ls price ws p) walk
      (steps_beside s ls q price starts b.prices negative b.loops v.worths ws p calls f.0 walk.steps) (loops_beside s ls q price starts b.prices negative b.loops v.worths ws p calls f.0 walk.steps b.whole.fits.shapes f.1) below

  few_starts : (ms : List Step) (cs : List LoopClaim) (ks : List LoopShape) → All (StartsBelow starts) cs → StartBelow starts (loops_of q.of q.low s.moves s.claims p ms cs ks)
  few_starts ms [] ks h = tt
  few_starts ms (c ∷ cs) [] h = tt
  few_starts ms (c ∷ cs) (l ∷ ks) h = by_test (in_span p l.header && has_moves s.moves l.header) (few_starts ms cs ks (All-tail (StartsBelow starts) c cs h))
    where
      by_test : (t : Bool) → StartBelow starts (loops_of q.of q.low s.moves s.claims p ms cs ks) → StartBelow starts (cond t (loop_of q.of q.low s.moves s.claims p ms c l ∷ loops_of q.of q.low s.moves s.claims p ms cs ks) (loops_of q.of q.low s.moves s.claims p ms cs ks))
      by_test true r = ((All-head (StartsBelow starts) c cs h).1, r)
      by_test false r = r

  small_price : (m : Step) → PaysLoosely q.low (loose_of (loose_function s ls price ws p)) m → m.price ≤ℤ most
  small_price m h =
      let n = near_most q.low m.price h.price negative h.near in
      let paid = h.paid in
      let w = weight_positive m.at in let o = worth_positive m.on in let u = below m.at in omega (arith, ints)

  pub loose_code : IsLooseCode q.low most starts (length s.moves) (loose_of (loose_function s ls price ws p)) (function_steps s ls q.of v.worths p) v (function_loops s ls q v.worths p) (loose_turns (loose_steps s ls price ws p) (no_worths (length s.moves)) (loose_loops_of s ls price ws p))
  loose_code =
      let f = fits_function s ls ps b.whole q v.worths p ip in record {
        negative = negative;
        positive = b.positive;
        apart = b.apart;
        steps = f.0;
        loops = f.1;
        blank = record { worths_long = long_worths; weights_long = long_weights; none = none_yet s ls ps b.whole q v p (function_steps s ls q.of v.worths p) fresh.weights s.claims.loops ls };
        pays = pays.0;
        prices = each_map (PaysLoosely q.low (loose_of (loose_function s ls price ws p))) (λ m. m.price ≤ℤ most) (function_steps s ls q.of v.worths p) small_price pays.0;
        weights = steps_each (IsNearWeight q.low (loose_of (loose_function s ls price ws p)) v.weights) q.of s.moves v.worths (is_walked s.claims ls p) s.moves
            (λ m im w. let e = fresh.weights m.at (has_of s.moves m im) (walked_in p (not (is_stop s.claims m.at || is_back ls m.at)) m.at w) in let u = weight_positive (place_of s.moves m.at) in inl (omega (arith, ints), omega (arith, ints)));
        turns = pays.1;
        starts = few_starts (function_steps s ls q.of v.worths p) s.claims.loops ls b.loops;
      }

  -- steps go on to own places
  pub on_own : Each (λ m. is_own s.moves p m.on ≡ true) (function_steps s ls q.of v.worths p)
  on_own = steps_each (λ m. is_own s.moves p m.on ≡ true) q.of s.moves v.worths (is_walked s.claims ls p) s.moves
      (λ m im w. by_list m im (walked_in p (not (is_stop s.claims m.at || is_back ls m.at)) m.at w) (first_or (onward m)))
    where
      by_list : (m : Move) → Contains s.moves m → IsInSpan p m.at → (onward m ≡ []) ⊎ ((d : ℕ) × (es : List ℕ) × (onward m ≡ d ∷ es)) → is_own s.moves p (on_place s.moves (onward m)) ≡ true
      by_list m im inside o = elim o [
        | inl e ↦ subst (λ ds. is_own s.moves p (on_place s.moves ds) ≡ true) (sym e) (own_end s.moves p)
        | inr h ↦
            let id : Contains (onward m) h.0 = subst (λ ds. Contains ds h.0) (sym h.2) (zero, omega arith, refl) in
            let there = closed s ls ps b.whole q m h.0 im (onward_arrives m.to m.behind h.0 id) in
            let stays = All-contains (IsInSpan p) (onward m) h.0 (All-contains (StaysIn m) ps p (All-contains (λ (x : Move). All (StaysIn x) ps) s.moves m b.whole.fits.stays im) ip inside) id in
            let k = move_of s.moves h.0 there in
            subst (λ ds. is_own s.moves p (on_place s.moves ds) ≡ true) (sym h.2)
            (subst (λ a. is_own s.moves p (place_of s.moves a) ≡ true) k.2 (own_at s.moves p k.0 k.1 (subst (λ a. IsInSpan p a) (sym k.2) stays)))
      ]

  pub begins_near : (a : ℕ) → is_own s.moves p a ≡ true → IsNear q.low (worth_at v.worths a) (worth_at (loose_function s ls price ws p).worths a)
  begins_near a own = elim (own_cases s.moves p a own) [
    | inl e ↦
        let z : worth_at v.worths a ≡ pos 0 = ap (λ c. worth_at v.worths c) e ∙ fresh.behind in
        let w = worth_positive a in inl (omega (arith, ints), omega (arith, ints))
    | inr k ↦
        let z : worth_at v.worths a ≡ q.low = ap (λ c. worth_at v.worths c) (sym k.place) ∙ fresh.worths k.move.at (has_of s.moves k.move k.among) k.inside in
        let w = worth_positive a in inr (omega (arith, ints))
  ]

  -- the worths of own places stay near
  pub own_near : (a : ℕ) → is_own s.moves p a ≡ true → IsNear q.low (worth_at (ground q.low (function_steps s ls q.of v.worths p) v (function_loops s ls q v.worths p)).worths a) (worth_at (loose_function s ls price ws p).worths a)
  own_near a own = stay_near q.low most starts (length s.moves) (loose_of (loose_function s ls price ws p)) (function_steps s ls q.of v.worths p) v (function_loops s ls q v.worths p)
      (loose_turns (loose_steps s ls price ws p) (no_worths (length s.moves)) (loose_loops_of s ls price ws p)) loose_code (is_own s.moves p) on_own begins_near a own

  pub address_near : (x : ℕ) → has_moves s.moves x ≡ true → IsInSpan p x → IsNear q.low (worth_at (ground q.low (function_steps s ls q.of v.worths p) v (function_loops s ls q v.worths p)).worths (place_of s.moves x)) (worth_at (loose_function s ls price ws p).worths (place_of s.moves x))
  address_near x there inside =
      let k = move_of s.moves x there in
      own_near (place_of s.moves x) (subst (λ a. is_own s.moves p (place_of s.moves a) ≡ true) k.2 (own_at s.moves p k.0 k.1 (subst (λ a. IsInSpan p a) (sym k.2) inside)))

  -- no step costs less than a block and the greatest loose number

  call_above : (to back : Option ℕ) → q.low ≤ℤ call_worth s.moves v.worths to back
  call_above None back = negative
  call_above (Some t) None = negative
  call_above (Some t) (Some k) = above (place_of s.moves t)

  call_positive : (to back : Option ℕ) → pos 0 ≤ℤ call_worth s.moves ws to back
  call_positive None back = omega (arith, ints)
  call_positive (Some t) None = omega (arith, ints)
  call_positive (Some t) (Some k) = walk.worths (place_of s.moves t)

  loose_small : Each (λ m. m.price ≤ℤ most) (loose_steps s ls price ws p)
  loose_small = each_map (Pays (loose_function s ls price ws p).weights (loose_function s ls price ws p).worths) (λ m. m.price ≤ℤ most) (loose_steps s ls price ws p)
      (λ m paid. let w = weight_positive m.at in let o = worth_positive m.on in let u = below m.at in let h = paid in omega (arith, ints))
      (relaxed_pays (loose_function s ls price ws p).weights (backed ws (loose_loops_of s ls price ws p)) (length s.moves) (loose_steps s ls price ws p) (start_long (length s.moves) (loose_steps s ls price ws p) (loose_start s ws) (loose_loops_of s ls price ws p) walk) walk.steps)

  steps_above : Each (λ m. (q.low -ℤ most) ≤ℤ m.price) (function_steps s ls q.of v.worths p)
  steps_above = steps_each (λ m. (q.low -ℤ most) ≤ℤ m.price) q.of s.moves v.worths (is_walked s.claims ls p) s.moves
      (λ m im w.
      let l = step_among (λ m. m.price ≤ℤ most) price s.moves ws (is_walked (loose_claims s.claims) ls p) s.moves m loose_small im (walked_loosely (in_span p m.at) (is_stop s.claims m.at) (is_stop (loose_claims s.claims) m.at) (is_back ls m.at) w (none_stop s.claims m.at)) in
      let c = call_positive m.to m.behind in
      let d = call_above m.to m.behind in
      let u = (All-contains (λ m. IsUpTo (q.of m) (price m)) s.moves m b.prices im).0 in omega (arith, ints))

  backs_above : (ms : List Step) (cs : List LoopClaim) (ks : List LoopShape) → BacksAbove q.low (loops_of q.of q.low s.moves s.claims p ms cs ks)
  backs_above ms [] ks = tt
  backs_above ms (c ∷ cs) [] = tt
  backs_above ms (c ∷ cs) (l ∷ ks) = by_test (in_span p l.header && has_moves s.moves l.header) (backs_above ms cs ks)
    where
      by_test : (t : Bool) → BacksAbove q.low (loops_of q.of q.low s.moves s.claims p ms cs ks) → BacksAbove q.low (cond t (loop_of q.of q.low s.moves s.claims p ms c l ∷ loops_of q.of q.low s.moves s.claims p ms cs ks) (loops_of q.of q.low s.moves s.claims p ms cs ks))
      by_test true r = (dearest_least q.of s.moves l.back q.low, r)
      by_test false r = r

  pub loose_function_is : IsLooseFunction s ls q most starts v p
  loose_function_is = record {
    loose = loose_of (loose_function s ls price ws p);
    turns = loose_turns (loose_steps s ls price ws p) (no_worths (length s.moves)) (loose_loops_of s ls price ws p);
    code = loose_code;
    worths = λ a. (worth_positive a, below a);
    steps = steps_above;
    backs = backs_above (function_steps s ls q.of v.worths p) s.claims.loops ls;
    near = address_near;
  }
