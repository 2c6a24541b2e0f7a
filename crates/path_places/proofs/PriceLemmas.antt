-- The multipliers of each loop are settled at the final worths, and a header that is a jump back has none.
use Rattle.std.proofs.Common.{◌≡◌, ◌≢◌, ℕ, zero, suc, ◌<◌, ℤ, pos, ◌+ℤ◌, ◌-ℤ◌, ◌*ℤ◌, ◌≤ℤ◌, arith, refl, sym, ap, ◌∙◌, subst, List, [], ◌∷◌, ◌++◌, length, Contains, inl, inr, Bool, true, false, cond, Some, None, length-append}
use Rattle.std.specs.Prelude.{◌||◌, ◌==◌, ◌&&◌, not}
use Rattle.std.proofs.lemmas.Int.{ints}
use Rattle.std.proofs.Math.ListN.{replicate}
use Rattle.std.proofs.lemmas.List.{length-replicate}
use Rattle.std.proofs.lemmas.Bool.Decides.{eqb_tells}
use Rattle.code_flow_system.specs.declared.claims.LoopClaim.{LoopClaim}
use Rattle.code_flow_system.specs.declared.moves.Move.{Move}
use Rattle.code_flow_system.specs.declared.shapes.LoopShape.{LoopShape}
use Rattle.code_flow_system.specs.declared.shapes.Span.{Span}
use Rattle.code_flow_system.specs.Systems.{System, has_moves}
use Rattle.code_flow_system.specs.Shapes.{AreShapesOf, is_back, IsInOne}
use Rattle.loop_walks.specs.declared.step.Step.{Step}
use Rattle.loop_walks.specs.declared.step.Loop.{Loop}
use Rattle.loop_walks.specs.declared.step.Pair.{Pair}
use Rattle.loop_walks.specs.Walks.{larger, worth_at}
use Rattle.loop_walks.specs.Levels.{Level}
use Rattle.loop_walks.specs.Rows.{Each, IsSettled, AreSettled, PaysBack}
use Rattle.loop_walks.proofs.LargerLemmas.{larger_left, larger_right}
use Rattle.path_places.specs.Reached.{in_span}
use Rattle.path_places.specs.Places.{place_of, is_stop, is_walked, back_place, dearest_from, loop_of}
use Rattle.path_places.specs.PlaceLaws.{function_steps, IsReachedWhole}
use Rattle.path_places.proofs.PlaceLemmas.{place_tells}
use Rattle.path_places.proofs.LoopLemmas.{has_of, steps_each}
use Rattle.path_places.proofs.FunctionLemmas.{functions_are, walked_not, differ}
use Rattle.path_places.specs.Driver.{Prices, blank, function_loops, function_level, function_pairs}
use Rattle.path_places.specs.RowLaws.{LoopsAreSettled}
use Rattle.path_places.specs.Duals.{no_pairs, pairs_from}
use Rattle.path_places.proofs.DealLemmas.{AreDealt, AreAll, Found, IsDone, AllFunctions, all_dealt}
use Rattle.path_places.proofs.BlockedLemmas.{Blocked, AreBlocked, AllAbove, settled_long, settled_grows, settled_blocks}

module _ (s : System) (ls : List LoopShape) (ps : List Span) (whole : IsReachedWhole s ls ps) (q : Prices) (w : Level) where
  -- no multiplier is negative
  abbrev pub IsSigned : Pair → Type 0
  IsSigned k = (pos 0 ≤ℤ k.least) × (pos 0 ≤ℤ k.most)

  -- a loop of some function is settled, at the final worths
  abbrev pub IsGood : Span → List Step → Loop → Pair → Type 0
  IsGood p ms l k = IsSettled w l k × Blocked ms l k

  pub signed : (p : Span) (ms : List Step) (l : Loop) (k : Pair) → IsGood p ms l k → IsSigned k
  signed p ms l k h = (h.0.least, h.0.most)

  abbrev Good : LoopClaim → LoopShape → Pair → Type 0
  Good c l k = Found s ls q IsSigned IsGood signed c l k

  -- of functions from a level on, headers without steps have no multipliers
  abbrev AllBlocked : Level → List Span → Type 0
  AllBlocked v [] = Unit {0}
  AllBlocked v (r ∷ rs) = AreBlocked (function_steps s ls q.of v.worths r) (function_loops s ls q v.worths r) (function_pairs s ls q v r) × AllBlocked (function_level s ls q v r) rs

  all_blocked : (v : Level) (rs : List Span) → ((r : Span) → Contains rs r → Contains ps r) → length s.moves < length v.worths → AllAbove q.low (length s.moves) v.worths → q.low ≤ℤ pos 0 → AllBlocked v rs
  all_blocked v [] i long above negative = tt
  all_blocked v (r ∷ rs) i long above negative =
      let f = functions_are s ls ps whole q.of q.low v.worths r (i r (zero, omega arith, refl)) in (
        settled_blocks q.low (length s.moves) (function_steps s ls q.of v.worths r) f.0 negative v (function_loops s ls q v.worths r) f.1 long above,
        all_blocked (function_level s ls q v r) rs (λ k h. i k (suc h.0, omega (arith, h.1), h.2))
            (let e = settled_long q.low (length s.moves) (function_steps s ls q.of v.worths r) f.0 negative v (function_loops s ls q v.worths r) in omega (arith, e, long))
            (λ a lt. let x = above a lt in let y = settled_grows q.low (length s.moves) (function_steps s ls q.of v.worths r) f.0 negative v (function_loops s ls q v.worths r) f.1 long a in omega (arith, ints)) negative,
      )

  good_all : (p : Span) (ms : List Step) (los : List Loop) (ks : List Pair) → AreSettled w los ks → AreBlocked ms los ks → AreAll (IsGood p ms) los ks
  good_all p ms [] ks settled blocked = tt
  good_all p ms (l ∷ los) [] settled blocked = absurd settled
  good_all p ms (l ∷ los) (k ∷ ks) settled blocked = ((settled.0, blocked.0), good_all p ms los ks settled.1 blocked.1)

  good_functions : (v : Level) (rs : List Span) → LoopsAreSettled s ls q w v rs → AllBlocked v rs → AllFunctions s ls q IsSigned IsGood signed v rs
  good_functions v [] settled blocked = tt
  good_functions v (r ∷ rs) settled blocked = (good_all r (function_steps s ls q.of v.worths r) (function_loops s ls q v.worths r) (function_pairs s ls q v r) settled.0 blocked.0, good_functions (function_level s ls q v r) rs settled.1 blocked.1)

  -- ---- what a claim's multipliers do

  pub record IsPriced (c : LoopClaim) (l : LoopShape) (k : Pair) : Type 0 where
    pub header : l.header ≡ c.header
    pub back : l.back ≡ c.back
    pub least : pos 0 ≤ℤ k.least
    pub most : pos 0 ≤ℤ k.most
    pub weight : has_moves s.moves c.header ≡ true → worth_at w.weights (place_of s.moves c.header) ≡ (k.most *ℤ (pos c.max -ℤ pos 1)) -ℤ (k.least *ℤ (pos c.min -ℤ pos 1))
    pub alone : has_moves s.moves c.back ≡ true → is_stop s.claims c.back ≡ false → c.back ≡ c.header → dearest_from q.of s.moves c.back q.low ≤ℤ (k.most -ℤ k.least)
    pub pays : has_moves s.moves c.header ≡ true → has_moves s.moves c.back ≡ true → is_stop s.claims c.back ≡ false → c.back ≢ c.header → (((dearest_from q.of s.moves c.back q.low +ℤ worth_at w.worths (place_of s.moves c.header)) +ℤ (k.least *ℤ pos c.min)) -ℤ (k.most *ℤ pos c.max)) ≤ℤ worth_at w.worths (place_of s.moves c.back)
    pub blocked : has_moves s.moves c.header ≡ true → is_back ls c.header ≡ true → c.back ≢ c.header → (k.least ≡ pos 0) × (k.most ≡ pos 0)
    pub shut : has_moves s.moves c.header ≡ true → is_stop s.claims c.header ≡ true → (k.least ≡ pos 0) × (k.most ≡ pos 0)

  same_place : (a b : ℕ) → has_moves s.moves a ≡ true → has_moves s.moves b ≡ true → place_of s.moves a ≡ place_of s.moves b → a ≡ b
  same_place a b h k e = let x = place_tells s.moves a b k (omega (arith, e)) in let y = place_tells s.moves b a h (omega (arith, e)) in omega (arith, x, y)

  -- a jump back has no step
  no_step : (p : Span) (ws : List ℤ) (a : ℕ) → has_moves s.moves a ≡ true → is_back ls a ≡ true → Each (λ k. k.at ≢ place_of s.moves a) (function_steps s ls q.of ws p)
  no_step p ws a h is = steps_each (λ k. k.at ≢ place_of s.moves a) q.of s.moves ws (is_walked s.claims ls p) s.moves
      (λ m im t e.
      let same = same_place m.at a (has_of s.moves m im) h e in
      let n = walked_not (in_span p m.at) (is_stop s.claims m.at) (is_back ls m.at) t in
      absurd (differ (is_back ls m.at) (subst (λ b. is_back ls b ≡ true) (sym same) is) n))

  -- nor has an address that may not be visited
  no_stop : (p : Span) (ws : List ℤ) (a : ℕ) → has_moves s.moves a ≡ true → is_stop s.claims a ≡ true → Each (λ k. k.at ≢ place_of s.moves a) (function_steps s ls q.of ws p)
  no_stop p ws a h is = steps_each (λ k. k.at ≢ place_of s.moves a) q.of s.moves ws (is_walked s.claims ls p) s.moves
      (λ m im t e.
      let same = same_place m.at a (has_of s.moves m im) h e in
      let n = walked_free (in_span p m.at) (is_stop s.claims m.at) (is_back ls m.at) t in
      absurd (differ (is_stop s.claims m.at) (subst (λ b. is_stop s.claims b ≡ true) (sym same) is) n))
    where
      walked_free : (x t b : Bool) → x && not (t || b) ≡ true → t ≡ false
      walked_free true true b h = cc
      walked_free true false b h = refl
      walked_free false t b h = cc

  -- where a jump back may not be visited, it is no place
  no_back : (a b : ℕ) → is_stop s.claims a ≡ true → back_place s.moves s.claims a ≡ Some b → ⊥
  no_back a b stop is = by_has (has_moves s.moves a) (is_stop s.claims a) stop is
    where
      by_has : (t u : Bool) → u ≡ true → cond (t && not u) (Some (place_of s.moves a)) None ≡ Some b → ⊥
      by_has true true e h = cc
      by_has true false e h = cc
      by_has false u e h = cc

  back_is : (c : LoopClaim) (l : LoopShape) → l.back ≡ c.back → has_moves s.moves c.back ≡ true → is_stop s.claims c.back ≡ false → back_place s.moves s.claims l.back ≡ Some (place_of s.moves c.back)
  back_is c l e h n = ap (back_place s.moves s.claims) e ∙ there (has_moves s.moves c.back) (is_stop s.claims c.back) h n
    where
      there : (t u : Bool) → t ≡ true → u ≡ false → cond (t && not u) (Some (place_of s.moves c.back)) None ≡ Some (place_of s.moves c.back)
      there true false e f = refl
      there true true e f = cc
      there false u e f = cc

  -- where a jump back is a place, it is reached
  back_reached : (l : LoopShape) (b : ℕ) → back_place s.moves s.claims l.back ≡ Some b → (has_moves s.moves l.back ≡ true) × (place_of s.moves l.back ≡ b)
  back_reached l b is = by_has (has_moves s.moves l.back) refl (not (is_stop s.claims l.back)) is
    where
      by_has : (t : Bool) → has_moves s.moves l.back ≡ t → (u : Bool) → cond (t && u) (Some (place_of s.moves l.back)) None ≡ Some b → (t ≡ true) × (place_of s.moves l.back ≡ b)
      by_has true h true e = (refl, cc)
      by_has true h false e = cc
      by_has false h u e = cc

  priced : (c : LoopClaim) (l : LoopShape) (k : Pair) → (l.header ≡ c.header) × (l.back ≡ c.back) → (pos 0 ≤ℤ k.least) × (pos 0 ≤ℤ k.most) → (has_moves s.moves c.back ≡ true → has_moves s.moves c.header ≡ true) → (has_moves s.moves l.header ≡ true → Good c l k) → IsPriced c l k
  priced c l k are signs leads good = record {
    header = are.0;
    back = are.1;
    least = signs.0;
    most = signs.1;
    weight = λ h. let g = good (at_l h) in subst (λ a. worth_at w.weights (place_of s.moves a) ≡ (k.most *ℤ (pos c.max -ℤ pos 1)) -ℤ (k.least *ℤ (pos c.min -ℤ pos 1))) are.0 g.3.0.weight;
    alone = λ h n e. let g = good (at_l (leads h)) in
        subst (λ a. dearest_from q.of s.moves a q.low ≤ℤ (k.most -ℤ k.least)) are.1
        ((paid h n g).0 (ap (place_of s.moves) (e ∙ sym are.0)));
    pays = λ there h n d. let g = good (at_l there) in
        subst (λ a. (((dearest_from q.of s.moves a q.low +ℤ worth_at w.worths (place_of s.moves c.header)) +ℤ (k.least *ℤ pos c.min)) -ℤ (k.most *ℤ pos c.max)) ≤ℤ worth_at w.worths (place_of s.moves c.back)) are.1
        (subst (λ a. (((dearest_from q.of s.moves l.back q.low +ℤ worth_at w.worths (place_of s.moves a)) +ℤ (k.least *ℤ pos c.min)) -ℤ (k.most *ℤ pos c.max)) ≤ℤ worth_at w.worths (place_of s.moves c.back)) are.0
        ((paid h n g).1 (λ e. d (same_place c.back c.header h there (e ∙ ap (place_of s.moves) are.0)))));
    blocked = λ there is d. let g = good (at_l there) in
        g.3.1 (no_step g.0 g.1 l.header (at_l there) (subst (λ a. is_back ls a ≡ true) (sym are.0) is))
        (λ b e f. let r = back_reached l b e in
        d (sym are.1 ∙ (same_place l.back l.header r.0 (at_l there) (r.1 ∙ f) ∙ are.0)));
    shut = λ there is. let g = good (at_l there) in
        let stop = subst (λ a. is_stop s.claims a ≡ true) (sym are.0) is in
        g.3.1 (no_stop g.0 g.1 l.header (at_l there) stop)
        (λ b e f. let r = back_reached l b e in
        absurd (no_back l.back b (subst (λ a. is_stop s.claims a ≡ true) (sym (same_place l.back l.header r.0 (at_l there) (r.1 ∙ f))) stop) e));
  }
    where
      at_l : has_moves s.moves c.header ≡ true → has_moves s.moves l.header ≡ true
      at_l h = subst (λ a. has_moves s.moves a ≡ true) (sym are.0) h

      paid : has_moves s.moves c.back ≡ true → is_stop s.claims c.back ≡ false → (g : Good c l k) → PaysBack w.worths (loop_of q.of q.low s.moves s.claims g.0 (function_steps s ls q.of g.1 g.0) c l) k (Some (place_of s.moves c.back))
      paid h n g = subst (λ o. PaysBack w.worths (loop_of q.of q.low s.moves s.claims g.0 (function_steps s ls q.of g.1 g.0) c l) k o) (back_is c l are.1 h n) g.3.0.back

  -- each claim is priced
  pub all_priced : (cs : List LoopClaim) (ks : List LoopShape) (us : List Pair) → AreShapesOf cs ks → ((c : LoopClaim) (l : LoopShape) → Contains ks l → l.back ≡ c.back → l.header ≡ c.header → has_moves s.moves c.back ≡ true → has_moves s.moves c.header ≡ true) →
      AreDealt (IsDone s ls q IsSigned IsGood signed (IsInOne ps)) cs ks us → ((a : ℕ) → has_moves s.moves a ≡ true → IsInOne ps a) → AreDealt IsPriced cs ks us
  all_priced [] [] us are leads h covered = tt
  all_priced [] (l ∷ ks) us are leads h covered = absurd h
  all_priced (c ∷ cs) [] us are leads h covered = absurd h
  all_priced (c ∷ cs) (l ∷ ks) [] are leads h covered = absurd h
  all_priced (c ∷ cs) (l ∷ ks) (u ∷ us) are leads h covered = (
    priced c l u (are.0, are.1) h.0.0 (leads c l (zero, omega arith, refl) are.1 are.0) (λ there. h.0.1 there (covered l.header there)),
    all_priced cs ks us are.2 (λ d m i. leads d m (suc i.0, omega (arith, i.1), i.2)) h.1 covered,
  )

  low_at : (n : ℕ) (low : ℤ) → AllAbove low n (replicate n low ++ pos 0 ∷ [])
  low_at zero low a lt = absurd (omega (arith, lt))
  low_at (suc n) low zero lt = omega (arith, ints)
  low_at (suc n) low (suc a) lt = low_at n low a (omega (arith, lt))

  pub final_dealt : q.low ≤ℤ pos 0 → LoopsAreSettled s ls q w (blank (length s.moves) q.low) ps → AreDealt (IsDone s ls q IsSigned IsGood signed (IsInOne ps)) s.claims.loops ls (pairs_from s ls q (blank (length s.moves) q.low) ps (no_pairs ls))
  final_dealt negative settled = all_dealt s ls q IsSigned IsGood signed (omega (arith, ints), omega (arith, ints)) (blank (length s.moves) q.low) ps whole.fits.shapes
      (good_functions (blank (length s.moves) q.low) ps settled
      (all_blocked (blank (length s.moves) q.low) ps (λ r h. h)
      (let a = length-append (replicate (length s.moves) q.low) (pos 0 ∷ []) in let b = length-replicate (length s.moves) q.low in omega (arith, a, b))
      (low_at (length s.moves) q.low) negative))

-- the dearest price of an address is no less than any of its prices
pub dearest_most : (price : Move → ℤ) (ms : List Move) (a : ℕ) (z : ℤ) (m : Move) → Contains ms m → m.at ≡ a → price m ≤ℤ dearest_from price ms a z
dearest_most price [] a z m (k, lt, e) at = absurd (omega (arith, lt))
dearest_most price (x ∷ ms) a z m (zero, lt, e) at =
    let here : x.at ≡ a = ap (λ (y : Move). y.at) e ∙ at in
    elim (eqb_tells x.at a) [
      | inl k ↦ rw k.0 (subst (λ (y : Move). price y ≤ℤ larger (price x) (dearest_from price ms a z)) e (larger_left (price x) (dearest_from price ms a z)))
      | inr k ↦ absurd (k.1 here)
    ]
dearest_most price (x ∷ ms) a z m (suc k, lt, e) at =
    let r = dearest_most price ms a z m (k, omega (arith, lt), e) at in
    by_test (x.at == a) r
  where
    by_test : (t : Bool) → price m ≤ℤ dearest_from price ms a z → price m ≤ℤ cond t (larger (price x) (dearest_from price ms a z)) (dearest_from price ms a z)
    by_test true r = let g = larger_right (price x) (dearest_from price ms a z) in omega (arith, ints)
    by_test false r = r
