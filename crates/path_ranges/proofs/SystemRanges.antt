-- All functions have loose numbers when they are settled, one after the other.
use Rattle.std.proofs.Common.{◌≡◌, ℕ, zero, suc, ◌+◌, ◌≤◌, ◌<◌, ℤ, pos, ◌≤ℤ◌, arith, refl, sym, ◌∙◌, subst, List, [], ◌∷◌, ◌++◌, length, Contains, All, inl, inr, Bool, true, false, cond, Some, length-append}
use Rattle.std.specs.Prelude.{◌&&◌}
use Rattle.std.proofs.Math.ListN.{replicate}
use Rattle.std.proofs.lemmas.Int.{ints}
use Rattle.std.proofs.lemmas.List.{length-replicate}
use Rattle.std.proofs.lemmas.Bool.Decides.{eqb_tells}
use Rattle.std.proofs.lemmas.List.Elements.{All-head, All-tail, All-contains, All-cons, All-nil}
use Rattle.code_flow_system.specs.declared.claims.LoopClaim.{LoopClaim}
use Rattle.code_flow_system.specs.declared.moves.Move.{Move}
use Rattle.code_flow_system.specs.declared.shapes.LoopShape.{LoopShape}
use Rattle.code_flow_system.specs.declared.shapes.Span.{Span}
use Rattle.code_flow_system.specs.Systems.{System, has_moves}
use Rattle.code_flow_system.specs.Shapes.{IsInSpan, AreApart, AreAllApart, IsInOne, CallsEarlier}
use Rattle.loop_walks.specs.declared.step.Step.{Step}
use Rattle.loop_walks.specs.Walks.{worth_at}
use Rattle.loop_walks.specs.Levels.{weighed, Level, ground}
use Rattle.loop_walks.proofs.EachLemmas.{steps_are}
use Rattle.loop_walks.proofs.LevelLemmas.{Held, weighed-long}
use Rattle.loop_walks.proofs.WalkLemmas.{relaxed-long, relaxed_grows}
use Rattle.loop_ranges.specs.Near.{IsUpTo, IsNear}
use Rattle.loop_ranges.proofs.NearLemmas.{near_up}
use Rattle.path_places.specs.Reached.{in_span, rank}
use Rattle.path_places.specs.Places.{place_of, loop_of, loops_of}
use Rattle.path_places.specs.PlaceLaws.{function_steps}
use Rattle.path_places.proofs.RankLemmas.{span_of, apart_one, rank_inside}
use Rattle.path_places.proofs.PlaceLemmas.{place_up, place_below}
use Rattle.path_places.proofs.FunctionLemmas.{move_of}
use Rattle.path_places.specs.Driver.{Prices, blank, function_loops, function_level, function_pairs}
use Rattle.path_places.proofs.DriverLemmas.{fits_function, function_leaves, function_holds, Numbered, numbered, zero_at}
use Rattle.loop_ranges.proofs.LooseLemmas.{backed_grows, worths_grow}
use Rattle.path_ranges.specs.LooseDriver.{no_worths, loose_start, loose_steps, loose_loops_of, loose_function, AreLooseBelow}
use Rattle.path_ranges.proofs.SystemLemmas.{calls_before}
use Rattle.path_ranges.proofs.PlaceFlows.{IsFrom, target_there}
use Rattle.path_ranges.proofs.FunctionFlows.{loose_walk, function_flows, function_positive, function_long, start_flows, worths_below}
use Rattle.path_ranges.specs.Bounded.{IsBounded}
use Rattle.path_ranges.specs.Ranges.{IsLooseFunction, FunctionsAreLoose, WalksAreBounded}
use Rattle.path_ranges.proofs.KeepLemmas.{NotBehind, keeps_settled, begins_least}
use Rattle.path_ranges.proofs.FunctionRanges.{IsFreshFor, loose_function_is, address_near}

prices_positive : (f g : Move → ℤ) (ms : List Move) → All (λ m. IsUpTo (f m) (g m)) ms → All (λ m. pos 0 ≤ℤ g m) ms
prices_positive f g [] h = All-nil (λ m. pos 0 ≤ℤ g m)
prices_positive f g (m ∷ ms) h =
    let u = All-head (λ m. IsUpTo (f m) (g m)) m ms h in
    let u0 = u.0 in let u1 = u.1 in
    All-cons (λ m. pos 0 ≤ℤ g m) m ms (omega (arith, ints)) (prices_positive f g ms (All-tail (λ m. IsUpTo (f m) (g m)) m ms h))

module _ (s : System) (ls : List LoopShape) (ps : List Span) (q : Prices) (price : Move → ℤ) (most : ℤ) (starts : ℕ) (b : IsBounded s ls ps q price most starts) where
  pub prices : All (λ m. pos 0 ≤ℤ price m) s.moves
  prices = prices_positive q.of price s.moves b.prices

  -- the address is the least of its function's
  abbrev pub IsFirst : ℕ → Type 0
  IsFirst t = (x : ℕ) → has_moves s.moves x ≡ true → rank ps x ≡ rank ps t → t ≤ x

  -- before the functions from the number k on are settled
  pub record Holds (k : ℕ) (v : Level) (ws : List ℤ) (rs : List Span) : Type 0 where
    pub long_worths : length s.moves < length v.worths
    pub long_weights : length s.moves < length v.weights
    pub fresh : (x : ℕ) → has_moves s.moves x ≡ true → IsInOne rs x → (worth_at v.worths (place_of s.moves x) ≡ q.low) × (worth_at v.weights (place_of s.moves x) ≡ pos 0)
    pub behind : worth_at v.worths (length s.moves) ≡ pos 0
    pub above : (a : ℕ) → q.low ≤ℤ worth_at v.worths a
    pub long : length s.moves < length ws
    pub positive : (a : ℕ) → pos 0 ≤ℤ worth_at ws a
    pub flows : (i : ℕ) → IsFrom s ls ps b.whole price i (worth_at ws i)
    pub near : (t : ℕ) → has_moves s.moves t ≡ true → rank ps t < k → IsFirst t → IsNear q.low (worth_at v.worths (place_of s.moves t)) (worth_at ws (place_of s.moves t))

  pub in_one_of : (x : ℕ) → has_moves s.moves x ≡ true → IsInOne ps x
  in_one_of x there = let m = move_of s.moves x there in subst (λ a. IsInOne ps a) m.2 (All-contains (λ (y : Move). IsInOne ps y.at) s.moves m.0 b.whole.fits.covered m.1)

  module _ (k : ℕ) (v : Level) (ws : List ℤ) (r : Span) (rs : List Span) (h : Holds k v ws (r ∷ rs)) (ir : Contains ps r) (number : (x : ℕ) → IsInSpan r x → rank ps x ≡ k) (apart : All (AreApart r) rs)
      (below : (a : ℕ) → worth_at (loose_function s ls price ws r).worths a ≤ℤ most) where
    pub fresh_for : IsFreshFor s q v r
    fresh_for = record { worths = λ x t i. (h.fresh x t (inl i)).0; weights = λ x t i. (h.fresh x t (inl i)).1; behind = h.behind }

    pub calls_near : (m : Move) → Contains s.moves m → IsInSpan r m.at → (t j : ℕ) → m.to ≡ Some t → m.behind ≡ Some j → IsNear q.low (worth_at v.worths (place_of s.moves t)) (worth_at ws (place_of s.moves t))
    calls_near m im inside t j e f =
        let lt = calls_before s ls ps b.whole.fits b.whole.filled m im t j e f in
        let n = number m.at inside in
        h.near t (target_there s ls ps b.whole price m im t e) (omega (arith, lt, n))
        (λ x there same. begins_least ps t m.at x b.whole.filled b.whole.fits.apart (All-contains (CallsEarlier ps) s.moves m b.whole.fits.calls im t j e f) (in_one_of x there) same)

    pub one_function : IsLooseFunction s ls q most starts v r
    one_function = loose_function_is s ls ps q price most starts b v r ir h.long_worths h.long_weights h.above fresh_for ws (loose_walk s ls ps b.whole price prices ws h.long h.positive h.flows r ir) below calls_near

    held : Held q.low (function_steps s ls q.of v.worths r) (ground q.low (function_steps s ls q.of v.worths r) v (function_loops s ls q v.worths r)) (function_level s ls q v r) (function_loops s ls q v.worths r) (function_pairs s ls q v r)
    held = function_holds s ls ps b.whole q v r ir h.long_worths h.long_weights fresh_for.weights

    pub leaves_other : (x : ℕ) → has_moves s.moves x ≡ true → (IsInSpan r x → ⊥) → (worth_at (function_level s ls q v r).worths (place_of s.moves x) ≡ worth_at v.worths (place_of s.moves x)) × (worth_at (function_level s ls q v r).weights (place_of s.moves x) ≡ worth_at v.weights (place_of s.moves x))
    leaves_other x there out = function_leaves s ls ps b.whole q v r (place_of s.moves x) ir (inl (x, there, out, refl))

    -- headers of the function are not before its first address
    pub headers_behind : (t : ℕ) → has_moves s.moves t ≡ true → rank ps t ≡ k → IsFirst t → (ms : List Step) (cs : List LoopClaim) (ks : List LoopShape) → NotBehind (place_of s.moves t) (loops_of q.of q.low s.moves s.claims r ms cs ks)
    headers_behind t there rk first ms [] ks = tt
    headers_behind t there rk first ms (c ∷ cs) [] = tt
    headers_behind t there rk first ms (c ∷ cs) (l ∷ ks) = by_test (in_span r l.header) refl (has_moves s.moves l.header) refl (headers_behind t there rk first ms cs ks)
      where
        by_test : (t1 : Bool) → in_span r l.header ≡ t1 → (u : Bool) → has_moves s.moves l.header ≡ u → NotBehind (place_of s.moves t) (loops_of q.of q.low s.moves s.claims r ms cs ks) →
            NotBehind (place_of s.moves t) (cond (t1 && u) (loop_of q.of q.low s.moves s.claims r ms c l ∷ loops_of q.of q.low s.moves s.claims r ms cs ks) (loops_of q.of q.low s.moves s.claims r ms cs ks))
        by_test true e true f z = (place_up s.moves t l.header (first l.header f (number l.header (span_of r l.header e) ∙ sym rk)), z)
        by_test true e false f z = z
        by_test false e u f z = z

    loose_grows : (a : ℕ) → worth_at ws a ≤ℤ worth_at (loose_function s ls price ws r).worths a
    loose_grows a =
        let w = loose_walk s ls ps b.whole price prices ws h.long h.positive h.flows r ir in
        let g = backed_grows (length s.moves) (loose_steps s ls price ws r) ws (loose_loops_of s ls price ws r) a h.long w.loops in
        let k = worths_grow (length s.moves) (loose_steps s ls price ws r) (loose_start s ws) (loose_loops_of s ls price ws r) w a in omega (arith, ints)

    near_next : (t : ℕ) → has_moves s.moves t ≡ true → rank ps t < k + 1 → IsFirst t → IsNear q.low (worth_at (function_level s ls q v r).worths (place_of s.moves t)) (worth_at (loose_function s ls price ws r).worths (place_of s.moves t))
    near_next t there lt first = elim (eqb_tells (rank ps t) k) [
      | inl e ↦
          let f = All-contains (λ (p : Span). p.first < p.end) ps r b.whole.filled ir in
          let begin : IsInSpan r r.first = record { from = omega arith; below = f } in
          let inside = rank_inside ps r t r.first b.whole.fits.apart ir begin (in_one_of t there) (e.1 ∙ sym (number r.first begin)) in
          let loops = (fits_function s ls ps b.whole q v.worths r ir).1 in
          let keep = keeps_settled q.low (length s.moves) (function_steps s ls q.of v.worths r) v (function_loops s ls q v.worths r) (place_of s.moves t) loops (headers_behind t there e.1 first (function_steps s ls q.of v.worths r) s.claims.loops ls) in
          subst (λ (z : ℤ). IsNear q.low z (worth_at (loose_function s ls price ws r).worths (place_of s.moves t))) (sym keep)
          (address_near s ls ps q price most starts b v r ir h.long_worths h.long_weights h.above fresh_for ws (loose_walk s ls ps b.whole price prices ws h.long h.positive h.flows r ir) below calls_near t there inside)
      | inr d ↦
          let d1 = d.1 in
          let out : IsInSpan r t → ⊥ = (λ i. d.1 (number t i)) in
          let keep = (leaves_other t there out).0 in
          subst (λ (z : ℤ). IsNear q.low z (worth_at (loose_function s ls price ws r).worths (place_of s.moves t))) (sym keep)
          (near_up q.low (worth_at v.worths (place_of s.moves t)) (worth_at ws (place_of s.moves t)) (worth_at (loose_function s ls price ws r).worths (place_of s.moves t)) (loose_grows (place_of s.moves t)) (h.near t there (omega (arith, lt, d1)) first))
    ]

    pub holds_next : Holds (k + 1) (function_level s ls q v r) (loose_function s ls price ws r).worths rs
    holds_next = record {
      long_worths = (let e = held.long_worths in let f = relaxed-long (ground q.low (function_steps s ls q.of v.worths r) v (function_loops s ls q v.worths r)).weights v.worths (function_steps s ls q.of v.worths r) in let l = h.long_worths in omega (arith, e, f, l));
      long_weights = (let e = held.long_weights in let f = weighed-long q.low (function_steps s ls q.of v.worths r) v.weights (function_loops s ls q v.worths r) in let l = h.long_weights in omega (arith, e, f, l));
      fresh = λ x there o. let k = leaves_other x there (apart_one r rs x apart o) in let f = h.fresh x there (inr o) in (k.0 ∙ f.0, k.1 ∙ f.1);
      behind = (function_leaves s ls ps b.whole q v r (length s.moves) ir (inr refl)).0 ∙ h.behind;
      above = λ a.
          let g = relaxed_grows (weighed q.low (function_steps s ls q.of v.worths r) v.weights (function_loops s ls q v.worths r)) v.worths (length s.moves) (function_steps s ls q.of v.worths r) a h.long_worths (steps_are (length s.moves) (function_steps s ls q.of v.worths r) (fits_function s ls ps b.whole q v.worths r ir).0) in
          let k = held.grows a in let u = h.above a in omega (arith, ints);
      long = function_long s ls ps b.whole price prices ws h.long h.positive h.flows r ir;
      positive = function_positive s ls ps b.whole price prices ws h.long h.positive h.flows r ir;
      flows = function_flows s ls ps b.whole price prices ws h.long h.positive h.flows r ir;
      near = near_next;
    }

  walks_from : (k : ℕ) (v : Level) (ws : List ℤ) (rs : List Span) → Holds k v ws rs → ((r : Span) → Contains rs r → Contains ps r) → Numbered s ls ps b.whole q k rs → AreAllApart rs → AreLooseBelow s ls price most ws rs → FunctionsAreLoose s ls q most starts v rs
  walks_from k v ws [] h inside number apart below = tt
  walks_from k v ws (r ∷ rs) h inside number apart below =
      let ir = inside r (zero, omega arith, refl) in (
        one_function k v ws r rs h ir number.0 apart.0 below.0,
        walks_from (k + 1) (function_level s ls q v r) (loose_function s ls price ws r).worths rs (holds_next k v ws r rs h ir number.0 apart.0 below.0) (λ p i. inside p (suc i.0, (let j = i.1 in omega (arith, j)), i.2)) number.1 apart.1 below.1,
      )

-- at first

blank_low : (low : ℤ) (n a : ℕ) → a < n → worth_at (replicate n low ++ pos 0 ∷ []) a ≡ low
blank_low low zero a h = absurd (omega (arith, h))
blank_low low (suc n) zero h = refl
blank_low low (suc n) (suc a) h = blank_low low n a (omega (arith, h))

blank_end : (low : ℤ) (n : ℕ) → worth_at (replicate n low ++ pos 0 ∷ []) n ≡ pos 0
blank_end low zero = refl
blank_end low (suc n) = blank_end low n

blank_above : (low : ℤ) (n a : ℕ) → low ≤ℤ pos 0 → low ≤ℤ worth_at (replicate n low ++ pos 0 ∷ []) a
blank_above low zero zero h = h
blank_above low zero (suc a) h = h
blank_above low (suc n) zero h = omega (arith, ints)
blank_above low (suc n) (suc a) h = blank_above low n a h

pub start_holds : (s : System) (ls : List LoopShape) (ps : List Span) (q : Prices) (price : Move → ℤ) (most : ℤ) (starts : ℕ) (b : IsBounded s ls ps q price most starts) → Holds s ls ps q price most starts b 0 (blank (length s.moves) q.low) (no_worths (length s.moves)) ps
start_holds s ls ps q price most starts b = record {
  long_worths = (let a = length-append (replicate (length s.moves) q.low) (pos 0 ∷ []) in let c = length-replicate (length s.moves) q.low in omega (arith, a, c));
  long_weights = (let c = length-replicate (length s.moves + 1) (pos 0) in omega (arith, c));
  fresh = λ x there o. (blank_low q.low (length s.moves) (place_of s.moves x) (place_below s.moves x there), zero_at (length s.moves + 1) (place_of s.moves x));
  behind = blank_end q.low (length s.moves);
  above = λ a. blank_above q.low (length s.moves) a (let c = b.apart in let d = b.positive in omega (arith, ints));
  long = (let c = length-replicate (length s.moves + 1) (pos 0) in omega (arith, c));
  positive = λ a. let e = zero_at (length s.moves + 1) a in omega (arith, ints);
  flows = start_flows s ls ps b.whole price (prices s ls ps q price most starts b);
  near = λ t there lt first. absurd (omega (arith, lt));
}

pub walks_bounded : (s : System) (ls : List LoopShape) (ps : List Span) → WalksAreBounded s ls ps
walks_bounded s ls ps q price most starts b =
    walks_from s ls ps q price most starts b 0 (blank (length s.moves) q.low) (no_worths (length s.moves)) ps (start_holds s ls ps q price most starts b)
    (λ r i. i) (numbered s ls ps b.whole q 0 ps b.whole.fits.apart (λ x i. omega arith)) b.whole.fits.apart
    (worths_below s ls ps b.whole price most (prices s ls ps q price most starts b) b.positive b.totals)
