-- The listed flow keeps all claims of a system without facts, and limits with a multiplier just so.
use Rattle.std.proofs.Common.{◌≡◌, ◌≢◌, ℕ, zero, suc, ◌+◌, ◌*◌, ℤ, pos, ◌+ℤ◌, ◌-ℤ◌, ◌*ℤ◌, arith, refl, sym, ap, ◌∙◌, subst, List, [], ◌∷◌, length, Contains, All, inl, inr, Bool, true, false, cond}
use lib.IntN.{*ℤ-zero}
use Rattle.std.specs.Prelude.{◌==◌, ◌||◌}
use Rattle.std.proofs.lemmas.Int.{ints}
use Rattle.std.proofs.lemmas.Bool.Decides.{eqb_tells}
use Rattle.std.proofs.lemmas.List.Elements.{All-contains, All-cons, All-nil, All-append}
use Rattle.frac128.specs.Terms.{applied}
use Rattle.frac128.proofs.SignedLemmas.{mul-sub, sub-mul, neg-mul}
use Rattle.code_flow_system.specs.declared.claims.Never.{Never}
use Rattle.code_flow_system.specs.declared.claims.LoopClaim.{LoopClaim}
use Rattle.code_flow_system.specs.declared.moves.Move.{Move}
use Rattle.code_flow_system.specs.declared.shapes.LoopShape.{LoopShape}
use Rattle.code_flow_system.specs.declared.shapes.Span.{Span}
use Rattle.code_flow_system.specs.Systems.{System, has_moves}
use Rattle.code_flow_system.specs.Shapes.{is_back, IsInOne}
use Rattle.code_flow_system.specs.Counts.{count, KeepsNever, KeepsLoop, KeepsFact}
use Rattle.code_flow_system.specs.Flows.{IsFlow}
use Rattle.code_flow_system.specs.Certificates.{never_limits, least_terms, most_terms, least_limit, most_limit, loop_limits, listed}
use Rattle.code_flow_system.specs.Bounds.{IsExact}
use Rattle.loop_walks.specs.declared.step.Pair.{Pair}
use Rattle.loop_walks.specs.Levels.{Level}
use Rattle.path_places.specs.Places.{place_of, is_never, is_shut, is_stop}
use Rattle.path_places.specs.PlaceLaws.{function_steps, IsReachedWhole}
use Rattle.path_places.proofs.LoopLemmas.{has_of}
use Rattle.path_places.proofs.FunctionLemmas.{ClaimsAscend, move_of, differ, sound_ascend}
use Rattle.path_places.specs.Driver.{Prices, blank, function_level}
use Rattle.path_places.specs.Duals.{never_bounds, loop_bounds, final_level, final_pairs, values_of, owe_of, dual_of}
use Rattle.path_places.proofs.DealLemmas.{AreDealt, Found, IsDone as IsDealt, all_dealt}
use Rattle.path_places.proofs.PriceLemmas.{IsPriced}
use Rattle.path_places.proofs.RowLemmas.{final_priced, leads}
use Rattle.path_flows.specs.Flows.{amounts_of, parts_of, first_flow, flow_from, function_turnings, function_backs, function_counts}
use Rattle.path_flows.proofs.SumLemmas.{sum_if, begins_at, each_turn, backs_from-if, backs_no, count_sum}
use Rattle.path_flows.proofs.AtLemmas.{same_place, at_contains, IsBackMove, back_moves}
use Rattle.path_flows.proofs.SystemLemmas.{AreDone, IsGoing}
use Rattle.path_flows.proofs.ConservedLemmas.{listed_amounts, no_sum, going, all_conserved}
use Rattle.loop_flows.proofs.CountLemmas.{none_leave}
use Rattle.path_flows.specs.CountLaws.{IsOpenSystem, FlowsKeepClaims, FlowsAreExact}
use Rattle.path_flows.proofs.ClaimLemmas.{IsKept, none_kept, IsClaimed, Any, any, no_step, claimed_functions, kept_one}

eq_not : (a b : ℕ) → a ≢ b → (a == b) ≡ false
eq_not a b d = elim (eqb_tells a b) [ inl k ↦ absurd (d k.1) | inr k ↦ k.0 ]

eq_is : (a b : ℕ) → a ≡ b → (a == b) ≡ true
eq_is a b e = elim (eqb_tells a b) [ inl k ↦ k.0 | inr k ↦ absurd (k.1 e) ]

or_left : (x y : Bool) → x ≡ true → x || y ≡ true
or_left true y h = refl
or_left false y h = cc

-- the starts of a kept claim, as whole numbers
started : (h j u : ℕ) → h ≡ u + j → pos h -ℤ pos j ≡ pos u
started h j u e = omega (arith, ints)

kept_loop : (c : LoopClaim) (k : Pair) (n : ℕ → ℤ) (h j : ℕ) → n c.header ≡ pos h → n c.back ≡ pos j → IsKept c k h j → KeepsLoop n c
kept_loop c k n h j e f kept =
    let s : n c.header -ℤ n c.back ≡ pos kept.starts = (let x = started h j kept.starts kept.sum in rw (e, f) x) in
    let a : pos c.min *ℤ (n c.header -ℤ n c.back) ≡ pos (c.min * kept.starts) = ap (λ (z : ℤ). pos c.min *ℤ z) s in
    let b : pos c.max *ℤ (n c.header -ℤ n c.back) ≡ pos (c.max * kept.starts) = ap (λ (z : ℤ). pos c.max *ℤ z) s in
    let l = kept.least in let m = kept.most in
    record { least = omega (arith, ints); most = omega (arith, ints) }

-- a limit of a kept claim, by how its starts make up for its visits

least_applied : (c : LoopClaim) (n : ℕ → ℤ) → applied (least_terms c) n ≡ (pos c.min *ℤ (n c.header -ℤ n c.back)) -ℤ n c.header
least_applied c n =
    let a = sub-mul (pos c.min) (pos 1) (n c.header) in
    let b = neg-mul (pos c.min) (n c.back) in
    let d = mul-sub (pos c.min) (n c.header) (n c.back) in omega (arith, ints)

most_applied : (c : LoopClaim) (n : ℕ → ℤ) → applied (most_terms c) n ≡ n c.header -ℤ (pos c.max *ℤ (n c.header -ℤ n c.back))
most_applied c n =
    let a = sub-mul (pos 1) (pos c.max) (n c.header) in
    let d = mul-sub (pos c.max) (n c.header) (n c.back) in omega (arith, ints)

zero_times : (z : ℤ) → pos 0 *ℤ z ≡ pos 0
zero_times z = omega (arith, ints)

kept_least : (c : LoopClaim) (k : Pair) (n : ℕ → ℤ) (h j : ℕ) → n c.header ≡ pos h → n c.back ≡ pos j → IsKept c k h j → k.least *ℤ applied (least_terms c) n ≡ pos 0
kept_least c k n h j e f kept = elim kept.no_least [
  | inl z ↦ ap (λ (y : ℤ). y *ℤ applied (least_terms c) n) z ∙ zero_times (applied (least_terms c) n)
  | inr z ↦
      let s : n c.header -ℤ n c.back ≡ pos kept.starts = (let x = started h j kept.starts kept.sum in rw (e, f) x) in
      let a : pos c.min *ℤ (n c.header -ℤ n c.back) ≡ pos (c.min * kept.starts) = ap (λ (y : ℤ). pos c.min *ℤ y) s in
      let b = least_applied c n in
      let g : applied (least_terms c) n ≡ pos 0 = omega (arith, ints) in
      ap (λ (y : ℤ). k.least *ℤ y) g ∙ *ℤ-zero k.least
]

kept_most : (c : LoopClaim) (k : Pair) (w : ℤ) (n : ℕ → ℤ) (h j : ℕ) → n c.header ≡ pos h → n c.back ≡ pos j → IsKept c k h j → (c.max ≢ 0 → w ≡ k.most) → w *ℤ applied (most_terms c) n ≡ pos 0
kept_most c k w n h j e f kept more = elim (eqb_tells c.max 0) [
  | inl m ↦ exact (let l = kept.most in let x : c.max * kept.starts ≡ 0 * kept.starts = ap (λ i. i * kept.starts) m.1 in omega (arith, l, x))
  | inr m ↦ elim kept.exact [
    | inl z ↦ ap (λ (y : ℤ). y *ℤ applied (most_terms c) n) (more m.1 ∙ z) ∙ zero_times (applied (most_terms c) n)
    | inr z ↦ exact z
  ]
]
  where
    exact : h ≡ c.max * kept.starts → w *ℤ applied (most_terms c) n ≡ pos 0
    exact z =
        let s : n c.header -ℤ n c.back ≡ pos kept.starts = (let x = started h j kept.starts kept.sum in rw (e, f) x) in
        let a : pos c.max *ℤ (n c.header -ℤ n c.back) ≡ pos (c.max * kept.starts) = ap (λ (y : ℤ). pos c.max *ℤ y) s in
        let b = most_applied c n in
        let g : applied (most_terms c) n ≡ pos 0 = omega (arith, ints) in
        ap (λ (y : ℤ). w *ℤ y) g ∙ *ℤ-zero w

module _ (s : System) (ls : List LoopShape) (ps : List Span) (whole : IsReachedWhole s ls ps) (q : Prices) (least : ℤ) (is : IsOpenSystem s ls ps q least) where
  abbrev us : List ℕ
  us = amounts_of s ls ps q

  abbrev n : ℕ → ℤ
  n = count (listed (parts_of s.moves (amounts_of s ls ps q))) s.moves

  pub goes : IsGoing s ls ps whole q least (blank (length s.moves) q.low) ps (final_level s ls ps q) (flow_from s ls q (blank (length s.moves) q.low) ps (first_flow s))
  goes = going s ls ps whole q least is.code is.entry

  pub up : ClaimsAscend s.claims.loops
  up = sound_ascend s.claims whole.system.sound

  pub counted : (a : ℕ) → n a ≡ pos (sum_if (begins_at a) s.moves us)
  counted a = count_sum (listed (parts_of s.moves us)) s.moves us a (listed_amounts s.moves us goes.long_amounts whole.system.ascending)

  not_reached : (a : ℕ) → has_moves s.moves a ≡ false → sum_if (begins_at a) s.moves us ≡ 0
  not_reached a h = no_sum (begins_at a) s.moves us (λ m im. eq_not m.at a (λ e. differ (has_moves s.moves a) (subst (λ b. has_moves s.moves b ≡ true) e (has_of s.moves m im)) h))

  -- ---- addresses that may not be visited

  stop_none : (v : Level) (rs : List Span) → ((r : Span) → Contains rs r → Contains ps r) → AreDone s ls ps whole q least us v rs → (a : ℕ) → has_moves s.moves a ≡ true → is_stop s.claims a ≡ true → IsInOne rs a → sum_if (begins_at a) s.moves us ≡ 0
  stop_none v [] sub done a h stop one = absurd one
  stop_none v (r ∷ rs) sub done a h stop one = elim one [
    | inl i ↦
        let c = done.0.counts a h i in
        let z = none_leave (function_steps s ls q.of v.worths r) (function_counts s ls q v r done.0.starts) (place_of s.moves a) (no_step s ls ps whole q least us up is.bounds r v.worths a h (or_left (is_stop s.claims a) (is_back ls a) stop)) in
        let b = backs_from-if (function_turnings s ls q v r) (function_backs s ls q v r done.0.starts) (place_of s.moves a) in
        let d = backs_no (λ x. x.back == place_of s.moves a) (function_turnings s ls q v r) (function_backs s ls q v r done.0.starts)
        (each_turn (λ x. IsBackMove s ls ps whole q r x.back x.header) (λ x. (x.back == place_of s.moves a) ≡ false) (λ x m. eq_not x.back (place_of s.moves a) (λ e.
        let same = same_place s ls ps whole q m.move.at a (has_of s.moves m.move (at_contains s.moves x.back m.move m.at)) h (m.place ∙ e) in
        differ (is_stop s.claims a) stop (subst (λ y. is_stop s.claims y ≡ false) same m.free))) (function_turnings s ls q v r) (back_moves s ls ps whole q r (sub r (zero, omega arith, refl)) (function_steps s ls q.of v.worths r) v.weights)) in
        omega (arith, c, z, b, d)
    | inr i ↦ stop_none (function_level s ls q v r) rs (λ p h. sub p (suc h.0, omega (arith, h.1), h.2)) done.1 a h stop i
  ]

  pub covered : (a : ℕ) → has_moves s.moves a ≡ true → IsInOne ps a
  covered a h = let m = move_of s.moves a h in subst (λ b. IsInOne ps b) m.2 (All-contains (λ (x : Move). IsInOne ps x.at) s.moves m.0 whole.fits.covered m.1)

  pub stopped : (a : ℕ) → is_stop s.claims a ≡ true → n a ≡ pos 0
  stopped a stop = counted a ∙ ap pos (by_has (has_moves s.moves a) refl)
    where
      by_has : (t : Bool) → has_moves s.moves a ≡ t → sum_if (begins_at a) s.moves us ≡ 0
      by_has true h = stop_none (blank (length s.moves) q.low) ps (λ r i. i) goes.functions a h stop (covered a h)
      by_has false h = not_reached a h

  never_at : (cs : List Never) (c : Never) → Contains cs c → is_never cs c.at ≡ true
  never_at [] c (i, lt, e) = absurd (omega (arith, lt))
  never_at (x ∷ cs) c (zero, lt, e) = or_left (x.at == c.at) (is_never cs c.at) (eq_is x.at c.at (ap (λ (y : Never). y.at) e))
  never_at (x ∷ cs) c (suc i, lt, e) = later (x.at == c.at) (never_at cs c (i, omega (arith, lt), e))
    where
      later : (t : Bool) → is_never cs c.at ≡ true → t || is_never cs c.at ≡ true
      later true h = refl
      later false h = h

  nevers_keep : (cs : List Never) → ((c : Never) → Contains cs c → Contains s.claims.nevers c) → All (KeepsNever n) cs
  nevers_keep [] sub = All-nil (KeepsNever n)
  nevers_keep (c ∷ cs) sub = All-cons (KeepsNever n) c cs (stopped c.at (or_left (is_never s.claims.nevers c.at) (is_shut s.claims.loops c.at) (never_at s.claims.nevers c (sub c (zero, omega arith, refl))))) (nevers_keep cs (λ d i. sub d (suc i.0, omega (arith, i.1), i.2)))

  -- ---- loops

  abbrev IsHere : LoopClaim → LoopShape → Pair → Type 0
  IsHere c l k = IsKept c k (sum_if (begins_at c.header) s.moves us) (sum_if (begins_at c.back) s.moves us)

  loops_kept : (cs : List LoopClaim) (ks : List LoopShape) (pairs : List Pair) → ((c : LoopClaim) → Contains cs c → Contains s.claims.loops c) → ((l : LoopShape) → Contains ks l → Contains ls l) →
      AreDealt (IsPriced s ls ps whole q (final_level s ls ps q)) cs ks pairs → AreDealt (IsDealt s ls q (Any s ls ps whole q least us up is.bounds) (IsClaimed s ls ps whole q least us up is.bounds) (any s ls ps whole q least us up is.bounds) (IsInOne ps)) cs ks pairs → AreDealt IsHere cs ks pairs
  loops_kept [] [] pairs subc subl priced dealt = tt
  loops_kept [] (l ∷ ks) pairs subc subl priced dealt = absurd priced
  loops_kept (c ∷ cs) [] pairs subc subl priced dealt = absurd priced
  loops_kept (c ∷ cs) (l ∷ ks) [] subc subl priced dealt = absurd priced
  loops_kept (c ∷ cs) (l ∷ ks) (k ∷ pairs) subc subl priced dealt = (
    by_has (has_moves s.moves l.header) refl priced.0 dealt.0.1,
    loops_kept cs ks pairs (λ d i. subc d (suc i.0, omega (arith, i.1), i.2)) (λ d i. subl d (suc i.0, omega (arith, i.1), i.2)) priced.1 dealt.1,
  )
    where
      il : Contains ls l
      il = subl l (zero, omega arith, refl)

      ic : Contains s.claims.loops c
      ic = subc c (zero, omega arith, refl)

      by_has : (t : Bool) → has_moves s.moves l.header ≡ t → IsPriced s ls ps whole q (final_level s ls ps q) c l k →
          (has_moves s.moves l.header ≡ true → IsInOne ps l.header → Found s ls q (Any s ls ps whole q least us up is.bounds) (IsClaimed s ls ps whole q least us up is.bounds) (any s ls ps whole q least us up is.bounds) c l k) → IsHere c l k
      by_has true h priced found =
          let there = subst (λ a. has_moves s.moves a ≡ true) priced.header h in
          subst (λ a. IsKept c k (sum_if (begins_at a) s.moves us) (sum_if (begins_at c.back) s.moves us)) priced.header
          (subst (λ a. IsKept c k (sum_if (begins_at l.header) s.moves us) (sum_if (begins_at a) s.moves us)) priced.back
          (kept_one s ls ps whole q least us up is.bounds c l k ic il priced.header priced.back h (found h (covered l.header h))
          (λ b d. is.backs c ic (subst (λ a. is_back ls a ≡ true) priced.header b) (λ e. d (priced.back ∙ (e ∙ sym priced.header))))
          (λ b d. priced.blocked there (subst (λ a. is_back ls a ≡ true) priced.header b) (λ e. d (priced.back ∙ (e ∙ sym priced.header))))))
      by_has false h priced found = none_kept c k (sum_if (begins_at c.header) s.moves us) (sum_if (begins_at c.back) s.moves us)
          (not_reached c.header (subst (λ a. has_moves s.moves a ≡ false) priced.header h)) (by_back (has_moves s.moves c.back) refl)
        where
          by_back : (t : Bool) → has_moves s.moves c.back ≡ t → sum_if (begins_at c.back) s.moves us ≡ 0
          by_back true b = absurd (differ (has_moves s.moves l.header) (subst (λ a. has_moves s.moves a ≡ true) (sym priced.header) (leads s ls ps whole q c l il priced.back priced.header b)) h)
          by_back false b = not_reached c.back b

  all_kept : AreDealt IsHere s.claims.loops ls (final_pairs s ls ps q)
  all_kept = loops_kept s.claims.loops ls (final_pairs s ls ps q) (λ c i. i) (λ l i. i) (final_priced s ls ps whole q is.negative)
      (all_dealt s ls q (Any s ls ps whole q least us up is.bounds) (IsClaimed s ls ps whole q least us up is.bounds) (any s ls ps whole q least us up is.bounds) tt (blank (length s.moves) q.low) ps whole.fits.shapes
      (claimed_functions s ls ps whole q least us up is.bounds (blank (length s.moves) q.low) ps (λ r i. i) goes.functions))

  loops_keep : (cs : List LoopClaim) (ks : List LoopShape) (pairs : List Pair) → AreDealt IsHere cs ks pairs → All (KeepsLoop n) cs
  loops_keep [] [] pairs h = All-nil (KeepsLoop n)
  loops_keep [] (l ∷ ks) pairs h = absurd h
  loops_keep (c ∷ cs) [] pairs h = absurd h
  loops_keep (c ∷ cs) (l ∷ ks) [] h = absurd h
  loops_keep (c ∷ cs) (l ∷ ks) (k ∷ pairs) h = All-cons (KeepsLoop n) c cs (kept_loop c k n (sum_if (begins_at c.header) s.moves us) (sum_if (begins_at c.back) s.moves us) (counted c.header) (counted c.back) h.0) (loops_keep cs ks pairs h.1)

  pub keeps : IsFlow s 1 (listed (parts_of s.moves (amounts_of s ls ps q)))
  keeps = record {
    positive = omega arith;
    conserved = all_conserved s ls ps whole q least is.code is.entry;
    claims = record {
      nevers = nevers_keep s.claims.nevers (λ c i. i);
      loops = loops_keep s.claims.loops ls (final_pairs s ls ps q) all_kept;
      facts = subst (λ cs. All (KeepsFact n) cs) (sym is.facts) (All-nil (KeepsFact n));
    };
  }

  -- ---- limits with multipliers

  abbrev owe : ℕ → ℤ
  owe = owe_of s q.of (values_of s ls ps q)

  nevers_exact : (cs : List Never) → ((c : Never) → Contains cs c → Contains s.claims.nevers c) → All (IsExact n) (never_limits cs (never_bounds owe cs))
  nevers_exact [] sub = All-nil (IsExact n)
  nevers_exact (c ∷ cs) sub = All-cons (IsExact n) _ _ exact (nevers_exact cs (λ d i. sub d (suc i.0, omega (arith, i.1), i.2)))
    where
      exact : (owe c.at *ℤ ((pos 1 *ℤ n c.at) +ℤ pos 0)) ≡ pos 0
      exact =
          let z = stopped c.at (or_left (is_never s.claims.nevers c.at) (is_shut s.claims.loops c.at) (never_at s.claims.nevers c (sub c (zero, omega arith, refl)))) in
          let y : (pos 1 *ℤ n c.at) +ℤ pos 0 ≡ pos 0 = omega (arith, ints) in
          ap (λ (x : ℤ). owe c.at *ℤ x) y ∙ *ℤ-zero (owe c.at)

  loops_exact : (cs : List LoopClaim) (ks : List LoopShape) (pairs : List Pair) → AreDealt IsHere cs ks pairs → All (IsExact n) (loop_limits cs (loop_bounds owe cs pairs))
  loops_exact [] [] pairs h = All-nil (IsExact n)
  loops_exact [] (l ∷ ks) pairs h = absurd h
  loops_exact (c ∷ cs) [] pairs h = absurd h
  loops_exact (c ∷ cs) (l ∷ ks) [] h = absurd h
  loops_exact (c ∷ cs) (l ∷ ks) (k ∷ pairs) h =
      All-cons (IsExact n) (least_limit c k.least) (most_limit c (k.most +ℤ cond (c.max == 0) (owe c.header) (pos 0)) ∷ loop_limits cs (loop_bounds owe cs pairs))
      (kept_least c k n (sum_if (begins_at c.header) s.moves us) (sum_if (begins_at c.back) s.moves us) (counted c.header) (counted c.back) h.0)
      (All-cons (IsExact n) (most_limit c (k.most +ℤ cond (c.max == 0) (owe c.header) (pos 0))) (loop_limits cs (loop_bounds owe cs pairs))
      (kept_most c k (k.most +ℤ cond (c.max == 0) (owe c.header) (pos 0)) n (sum_if (begins_at c.header) s.moves us) (sum_if (begins_at c.back) s.moves us) (counted c.header) (counted c.back) h.0
      (λ d. let e = eq_not c.max 0 d in rw e (omega (arith, ints))))
      (loops_exact cs ks pairs h.1))

  pub exact : All (IsExact (count (listed (parts_of s.moves (amounts_of s ls ps q))) s.moves)) (dual_of s q.of (values_of s ls ps q)).limits
  exact = All-append (IsExact n) (never_limits s.claims.nevers (never_bounds owe s.claims.nevers)) (loop_limits s.claims.loops (loop_bounds owe s.claims.loops (final_pairs s ls ps q)))
      (nevers_exact s.claims.nevers (λ c i. i)) (loops_exact s.claims.loops ls (final_pairs s ls ps q) all_kept)

pub all_keep : (s : System) (ls : List LoopShape) (ps : List Span) → IsReachedWhole s ls ps → FlowsKeepClaims s ls ps
all_keep s ls ps whole q least is = keeps s ls ps whole q least is

pub all_exact : (s : System) (ls : List LoopShape) (ps : List Span) → IsReachedWhole s ls ps → FlowsAreExact s ls ps
all_exact s ls ps whole q least is = exact s ls ps whole q least is
