-- Each move is covered: a place that may not be visited pays for itself, a jump back is paid by its loop, and each other move by the worths.
use Rattle.std.proofs.Common.{◌≡◌, ◌≢◌, ℕ, zero, suc, ◌+◌, ◌<◌, ℤ, pos, neg_ℤ, ◌+ℤ◌, ◌*ℤ◌, ◌≤ℤ◌, arith, refl, sym, ap, ◌∙◌, subst, List, [], ◌∷◌, ◌++◌, length, Contains, All, inl, inr, ◌⊎◌, Bool, true, false, cond, Option, Some, None}
use Rattle.std.specs.Prelude.{◌==◌, ◌&&◌, ◌||◌}
use Rattle.std.specs.Option.{option_to_list}
use Rattle.std.proofs.lemmas.Int.{ints}
use Rattle.std.proofs.Math.ListN.{replicate}
use Rattle.std.proofs.lemmas.Bool.Decides.{eqb_tells}
use Rattle.std.proofs.lemmas.List.Elements.{All-head, All-tail, All-contains, All-cons, All-nil, All-append}
use Rattle.frac128.specs.Terms.{int_sum_by, coefficient}
use Rattle.frac128.proofs.TermsLemmas.{int_sum_by-append}
use Rattle.code_flow_system.specs.declared.claims.Never.{Never}
use Rattle.code_flow_system.specs.declared.claims.LoopClaim.{LoopClaim}
use Rattle.code_flow_system.specs.declared.moves.Move.{Move}
use Rattle.code_flow_system.specs.declared.shapes.LoopShape.{LoopShape}
use Rattle.code_flow_system.specs.declared.shapes.Span.{Span}
use Rattle.code_flow_system.specs.Moves.{destinations}
use Rattle.code_flow_system.specs.Systems.{System, has_moves}
use Rattle.code_flow_system.specs.Shapes.{IsLoop, onward_by, is_back, IsInOne}
use Rattle.code_flow_system.specs.Certificates.{Limit, never_limits, least_limit, most_limit, loop_limits, held, fall, IsSigned, IsCovered}
use Rattle.code_flow_system.specs.Bounds.{IsDual}
use Rattle.loop_walks.specs.declared.step.Step.{Step}
use Rattle.loop_walks.specs.declared.step.Pair.{Pair}
use Rattle.loop_walks.specs.Walks.{larger, worth_at}
use Rattle.loop_walks.specs.Levels.{Level}
use Rattle.loop_walks.proofs.LargerLemmas.{larger_left, larger_right}
use Rattle.path_places.specs.Reached.{in_span}
use Rattle.path_places.specs.Places.{place_of, on_place, call_worth, is_never, is_shut, is_stop, loop_of, loops_of}
use Rattle.path_places.specs.PlaceLaws.{function_steps, IsReachedWhole}
use Rattle.path_places.proofs.PlaceLemmas.{place_tells}
use Rattle.path_places.proofs.LoopLemmas.{has_of}
use Rattle.path_places.proofs.FunctionLemmas.{ClaimsAscend, move_of, differ, is_back_at, sound_ascend}
use Rattle.path_places.specs.Driver.{Prices, blank, function_loops, function_level, functions_level}
use Rattle.path_places.proofs.DriverLemmas.{all_paid, all_settled, functions_leave, elsewhere_end, closed, zero_at}
use Rattle.path_places.specs.Duals.{potentials_of, owed, most_owed, both_of, never_bounds, loop_bounds, final_level, final_pairs, values_of, owe_of, dual_of}
use Rattle.path_places.specs.DualLaws.{WalksAreDual}
use Rattle.path_places.proofs.PlainLemmas.{NoHeader, settled_plain}
use Rattle.path_places.proofs.PotentialLemmas.{all_of, potential_at}
use Rattle.path_places.proofs.HoldLemmas.{Alongside, hold, hold_none, hold_header, hold_back, hold_both, hold_free, never_pays, loops_hold, shut_pays, nevers_at_least}
use Rattle.path_places.proofs.DealLemmas.{AreDealt, Stands}
use Rattle.path_places.proofs.PriceLemmas.{IsPriced, all_priced, final_dealt, dearest_most}

-- ---- what is left at an address

owed_least : (price : Move → ℤ) (p : ℕ → ℤ) (ls : List Limit) (ms : List Move) (a : ℕ) → pos 0 ≤ℤ most_owed price p ls ms a
owed_least price p ls [] a = omega (arith, ints)
owed_least price p ls (m ∷ ms) a = by_test (m.at == a) (owed_least price p ls ms a)
  where
    by_test : (t : Bool) → pos 0 ≤ℤ most_owed price p ls ms a → pos 0 ≤ℤ cond t (larger (owed price p ls m) (most_owed price p ls ms a)) (most_owed price p ls ms a)
    by_test true r = let g = larger_right (owed price p ls m) (most_owed price p ls ms a) in omega (arith, ints)
    by_test false r = r

owed_most : (price : Move → ℤ) (p : ℕ → ℤ) (ls : List Limit) (ms : List Move) (a : ℕ) (m : Move) → Contains ms m → m.at ≡ a → owed price p ls m ≤ℤ most_owed price p ls ms a
owed_most price p ls [] a m (k, lt, e) at = absurd (omega (arith, lt))
owed_most price p ls (x ∷ ms) a m (zero, lt, e) at =
    let here : x.at ≡ a = ap (λ (y : Move). y.at) e ∙ at in
    elim (eqb_tells x.at a) [
      | inl k ↦ rw k.0 (subst (λ (y : Move). owed price p ls y ≤ℤ larger (owed price p ls x) (most_owed price p ls ms a)) e (larger_left (owed price p ls x) (most_owed price p ls ms a)))
      | inr k ↦ absurd (k.1 here)
    ]
owed_most price p ls (x ∷ ms) a m (suc k, lt, e) at = by_test (x.at == a) (owed_most price p ls ms a m (k, omega (arith, lt), e) at)
  where
    by_test : (t : Bool) → owed price p ls m ≤ℤ most_owed price p ls ms a → owed price p ls m ≤ℤ cond t (larger (owed price p ls x) (most_owed price p ls ms a)) (most_owed price p ls ms a)
    by_test true r = let g = larger_right (owed price p ls x) (most_owed price p ls ms a) in omega (arith, ints)
    by_test false r = r

-- ---- where a move arrives

pub arrives_worth : (all : List Move) (ws : List ℤ) (p : ℕ → ℤ) (to back : Option ℕ) → worth_at ws (length all) ≡ pos 0 → ((d : ℕ) → Contains (option_to_list to ++ option_to_list back) d → p d ≡ worth_at ws (place_of all d)) →
    int_sum_by p (option_to_list to ++ option_to_list back) ≡ call_worth all ws to back +ℤ worth_at ws (on_place all (onward_by to back))
arrives_worth all ws p None None out h = rw out refl
arrives_worth all ws p (Some t) None out h = let e = h t (zero, omega arith, refl) in omega (arith, ints)
arrives_worth all ws p None (Some b) out h = let e = h b (zero, omega arith, refl) in omega (arith, ints)
arrives_worth all ws p (Some t) (Some b) out h = let e = h t (zero, omega arith, refl) in let f = h b (suc zero, omega arith, refl) in omega (arith, ints)

last_at : (n : ℕ) (low : ℤ) → worth_at (replicate n low ++ pos 0 ∷ []) n ≡ pos 0
last_at zero low = refl
last_at (suc n) low = last_at n low

not_or : (x y : Bool) → x || y ≡ false → (x ≡ false) × (y ≡ false)
not_or true y h = cc
not_or false y h = (refl, h)

either_of : (x y : Bool) → x || y ≡ true → (x ≡ true) ⊎ (y ≡ true)
either_of true y h = inl refl
either_of false y h = inr h

module _ (s : System) (ls : List LoopShape) (ps : List Span) (whole : IsReachedWhole s ls ps) (q : Prices) where
  abbrev pub final : Level
  final = final_level s ls ps q

  same_place : (a b : ℕ) → has_moves s.moves a ≡ true → has_moves s.moves b ≡ true → place_of s.moves a ≡ place_of s.moves b → a ≡ b
  same_place a b h k e = let x = place_tells s.moves a b k (omega (arith, e)) in let y = place_tells s.moves b a h (omega (arith, e)) in omega (arith, x, y)

  -- the place behind all is worth nothing
  pub out_worth : worth_at (final_level s ls ps q).worths (length s.moves) ≡ pos 0
  out_worth = (functions_leave s ls ps whole q (blank (length s.moves) q.low) ps (length s.moves) (λ r h. h) (elsewhere_end s ls ps whole q ps)).0 ∙ last_at (length s.moves) q.low

  -- ---- places of no header have no weight

  abbrev pub IsPlain : ℕ → Type 0
  IsPlain a = (l : LoopShape) → Contains ls l → l.header ≢ a

  no_header : (p : Span) (ms : List Step) (a : ℕ) → has_moves s.moves a ≡ true → IsPlain a → (cs : List LoopClaim) (ks : List LoopShape) → ((l : LoopShape) → Contains ks l → Contains ls l) → NoHeader (place_of s.moves a) (loops_of q.of q.low s.moves s.claims p ms cs ks)
  no_header p ms a h plain [] ks i = tt
  no_header p ms a h plain (c ∷ cs) [] i = tt
  no_header p ms a h plain (c ∷ cs) (l ∷ ks) i = by_test (in_span p l.header) (has_moves s.moves l.header) refl (no_header p ms a h plain cs ks (λ k j. i k (suc j.0, omega (arith, j.1), j.2)))
    where
      by_test : (t u : Bool) → has_moves s.moves l.header ≡ u → NoHeader (place_of s.moves a) (loops_of q.of q.low s.moves s.claims p ms cs ks) →
          NoHeader (place_of s.moves a) (cond (t && u) (loop_of q.of q.low s.moves s.claims p ms c l ∷ loops_of q.of q.low s.moves s.claims p ms cs ks) (loops_of q.of q.low s.moves s.claims p ms cs ks))
      by_test true true f r = ((λ e. plain l (i l (zero, omega arith, refl)) (same_place l.header a f h (sym e))), r)
      by_test true false f r = r
      by_test false u f r = r

  plain_from : (v : Level) (rs : List Span) (a : ℕ) → has_moves s.moves a ≡ true → IsPlain a → worth_at (functions_level s ls q v rs).weights (place_of s.moves a) ≡ worth_at v.weights (place_of s.moves a)
  plain_from v [] a h plain = refl
  plain_from v (r ∷ rs) a h plain =
      plain_from (function_level s ls q v r) rs a h plain
      ∙ settled_plain q.low (function_steps s ls q.of v.worths r) (place_of s.moves a) v (function_loops s ls q v.worths r) (no_header r (function_steps s ls q.of v.worths r) a h plain s.claims.loops ls (λ l j. j))

  pub plain_weight : (a : ℕ) → has_moves s.moves a ≡ true → IsPlain a → worth_at (final_level s ls ps q).weights (place_of s.moves a) ≡ pos 0
  plain_weight a h plain = plain_from (blank (length s.moves) q.low) ps a h plain ∙ zero_at (length s.moves + 1) (place_of s.moves a)

  -- ---- the loops' multipliers

  -- a header has moves where its jump back has
  pub leads : (c : LoopClaim) (l : LoopShape) → Contains ls l → l.back ≡ c.back → l.header ≡ c.header → has_moves s.moves c.back ≡ true → has_moves s.moves c.header ≡ true
  leads c l il e f h =
      let m = move_of s.moves c.back h in
      let goes = All-contains (λ (x : Move). x.at ≡ l.back → destinations x ≡ l.header ∷ []) s.moves m.0 (All-contains (IsLoop s) ls l whole.fits.loops il).goes_back m.1 (m.2 ∙ sym e) in
      subst (λ a. has_moves s.moves a ≡ true) f (closed s ls ps whole q m.0 l.header m.1 (subst (λ ds. Contains ds l.header) (sym goes) (zero, omega arith, refl)))

  pub final_priced : q.low ≤ℤ pos 0 → AreDealt (IsPriced s ls ps whole q (final_level s ls ps q)) s.claims.loops ls (final_pairs s ls ps q)
  final_priced negative = all_priced s ls ps whole q (final_level s ls ps q) s.claims.loops ls (final_pairs s ls ps q) whole.fits.shapes leads
      (final_dealt s ls ps whole q (final_level s ls ps q) negative (all_settled s ls ps whole q))
      (λ a h. let m = move_of s.moves a h in subst (λ b. IsInOne ps b) m.2 (All-contains (λ (x : Move). IsInOne ps x.at) s.moves m.0 whole.fits.covered m.1))

  nothing_one : (c : LoopClaim) (l : LoopShape) (u : Pair) (a : ℕ) → IsPriced s ls ps whole q final c l u → has_moves s.moves a ≡ true → is_back ls a ≡ true → c.back ≢ a → hold c u a ≡ pos 0
  nothing_one c l u a k h is d = elim (eqb_tells c.header a) [
    | inl e ↦
        let e1 = e.1 in
        let f = k.blocked (subst (λ b. has_moves s.moves b ≡ true) (sym e1) h) (subst (λ b. is_back ls b ≡ true) (sym e1) is) (λ x. d (x ∙ e1)) in
        hold_free c u a f.0 f.1
    | inr e ↦ hold_none c u a e.1 d
  ]

  -- where no loop jumps back or begins, the loops' limits hold nothing
  nothing_all : (cs : List LoopClaim) (ks : List LoopShape) (us : List Pair) (a h0 : ℕ) → AreDealt (IsPriced s ls ps whole q final) cs ks us → has_moves s.moves a ≡ true → is_back ls a ≡ true →
      ((l : LoopShape) → Contains ks l → l.back ≡ a → l.header ≡ h0) → All (λ (d : LoopClaim). h0 < d.header) cs → held (loop_limits cs (both_of us)) a ≡ pos 0
  nothing_all [] [] us a h0 k h is heads above = refl
  nothing_all [] (l ∷ ks) us a h0 k h is heads above = absurd k
  nothing_all (c ∷ cs) [] us a h0 k h is heads above = absurd k
  nothing_all (c ∷ cs) (l ∷ ks) [] a h0 k h is heads above = absurd k
  nothing_all (c ∷ cs) (l ∷ ks) (u ∷ us) a h0 k h is heads above =
      let r = nothing_all cs ks us a h0 k.1 h is (λ x j. heads x (suc j.0, omega (arith, j.1), j.2)) (All-tail (λ (d : LoopClaim). h0 < d.header) c cs above) in
      let lt = All-head (λ (d : LoopClaim). h0 < d.header) c cs above in
      let eh = k.0.header in
      let z = nothing_one c l u a k.0 h is (λ e. let f = heads l (zero, omega arith, refl) (k.0.back ∙ e) in absurd (omega (arith, f, lt, eh))) in
      omega (arith, ints)

  -- at a jump back, they hold what its loop does
  pub back_held : (cs : List LoopClaim) (ks : List LoopShape) (us : List Pair) (a h0 : ℕ) → AreDealt (IsPriced s ls ps whole q final) cs ks us → ClaimsAscend cs → has_moves s.moves a ≡ true → is_back ls a ≡ true → is_back ks a ≡ true →
      ((l : LoopShape) → Contains ks l → l.back ≡ a → l.header ≡ h0) →
      (c : LoopClaim) × (l : LoopShape) × (u : Pair) × IsPriced s ls ps whole q final c l u × Contains ks l × (c.back ≡ a) × (held (loop_limits cs (both_of us)) a ≡ hold c u a) × Stands cs ks us c l u
  back_held [] [] us a h0 k up h is one heads = cc
  back_held [] (l ∷ ks) us a h0 k up h is one heads = absurd k
  back_held (c ∷ cs) [] us a h0 k up h is one heads = absurd k
  back_held (c ∷ cs) (l ∷ ks) [] a h0 k up h is one heads = absurd k
  back_held (c ∷ cs) (l ∷ ks) (u ∷ us) a h0 k up h is one heads = elim (eqb_tells l.back a) [
    | inl e ↦
        let eh = k.0.header in
        let f = heads l (zero, omega arith, refl) e.1 in
        let g : c.header ≡ h0 = sym eh ∙ f in
        let r = nothing_all cs ks us a h0 k.1 h is (λ x j. heads x (suc j.0, omega (arith, j.1), j.2)) (subst (λ b. All (λ (d : LoopClaim). b < d.header) cs) g up.0) in
        (c, l, u, k.0, (zero, omega arith, refl), sym k.0.back ∙ e.1, omega (arith, ints), inl (refl, refl, refl))
    | inr e ↦
        let r = back_held cs ks us a h0 k.1 up.1 h is (later (l.back == a) e.0 one) (λ x j. heads x (suc j.0, omega (arith, j.1), j.2)) in
        let z = nothing_one c l u a k.0 h is (λ f. e.1 (k.0.back ∙ f)) in
        (r.0, r.1, r.2, r.3, (suc r.4.0, (let lt = r.4.1 in omega (arith, lt)), r.4.2), r.5, (let r6 = r.6 in omega (arith, ints)), inr r.7)
  ]
    where
      later : (t : Bool) → t ≡ false → t || is_back ks a ≡ true → is_back ks a ≡ true
      later true f g = cc
      later false f g = g

  -- where no loop jumps back
  abbrev pub IsForward : List LoopShape → ℕ → Type 0
  IsForward ks a = (l : LoopShape) → Contains ks l → l.back ≢ a

  forward_one : (c : LoopClaim) (l : LoopShape) (u : Pair) (a : ℕ) → IsPriced s ls ps whole q final c l u → has_moves s.moves a ≡ true → l.back ≢ a → c.header ≡ a → hold c u a ≡ neg_ℤ (worth_at (final_level s ls ps q).weights (place_of s.moves a))
  forward_one c l u a k h d e =
      let x = hold_header c u a e (λ f. d (k.back ∙ f)) in
      let y = k.weight (subst (λ b. has_moves s.moves b ≡ true) (sym e) h) in
      x ∙ ap neg_ℤ (sym y ∙ ap (λ b. worth_at (final_level s ls ps q).weights (place_of s.moves b)) e)

  forward_none : (cs : List LoopClaim) (ks : List LoopShape) (us : List Pair) (a : ℕ) → AreDealt (IsPriced s ls ps whole q final) cs ks us → IsForward ks a → All (λ (d : LoopClaim). a < d.header) cs → held (loop_limits cs (both_of us)) a ≡ pos 0
  forward_none [] [] us a k f above = refl
  forward_none [] (l ∷ ks) us a k f above = absurd k
  forward_none (c ∷ cs) [] us a k f above = absurd k
  forward_none (c ∷ cs) (l ∷ ks) [] a k f above = absurd k
  forward_none (c ∷ cs) (l ∷ ks) (u ∷ us) a k f above =
      let lt = All-head (λ (d : LoopClaim). a < d.header) c cs above in
      let z = hold_none c u a (λ e. absurd (omega (arith, e, lt))) (λ e. f l (zero, omega arith, refl) (k.0.back ∙ e)) in
      let r = forward_none cs ks us a k.1 (λ x j. f x (suc j.0, omega (arith, j.1), j.2)) (All-tail (λ (d : LoopClaim). a < d.header) c cs above) in
      omega (arith, ints)

  -- they hold what makes up for the header's weight
  pub forward_held : (cs : List LoopClaim) (ks : List LoopShape) (us : List Pair) (a : ℕ) → AreDealt (IsPriced s ls ps whole q final) cs ks us → ClaimsAscend cs → has_moves s.moves a ≡ true → IsForward ks a →
      (((l : LoopShape) → Contains ks l → l.header ≢ a) → worth_at (final_level s ls ps q).weights (place_of s.moves a) ≡ pos 0) →
      held (loop_limits cs (both_of us)) a ≡ neg_ℤ (worth_at (final_level s ls ps q).weights (place_of s.moves a))
  forward_held [] [] us a k up h f none = let z = none (λ l j. absurd (let lt = j.1 in omega (arith, lt))) in omega (arith, ints)
  forward_held [] (l ∷ ks) us a k up h f none = absurd k
  forward_held (c ∷ cs) [] us a k up h f none = absurd k
  forward_held (c ∷ cs) (l ∷ ks) [] a k up h f none = absurd k
  forward_held (c ∷ cs) (l ∷ ks) (u ∷ us) a k up h f none = elim (eqb_tells c.header a) [
    | inl e ↦
        let x = forward_one c l u a k.0 h (f l (zero, omega arith, refl)) e.1 in
        let r = forward_none cs ks us a k.1 (λ y j. f y (suc j.0, omega (arith, j.1), j.2)) (subst (λ b. All (λ (d : LoopClaim). b < d.header) cs) e.1 up.0) in
        omega (arith, ints)
    | inr e ↦
        let x = hold_none c u a e.1 (λ g. f l (zero, omega arith, refl) (k.0.back ∙ g)) in
        let r = forward_held cs ks us a k.1 up.1 h (λ y j. f y (suc j.0, omega (arith, j.1), j.2)) (λ d. none (λ y j. first_or_later e.1 y j d)) in
        omega (arith, ints)
  ]
    where
      first_or_later : c.header ≢ a → (y : LoopShape) → Contains (l ∷ ks) y → ((z : LoopShape) → Contains ks z → z.header ≢ a) → y.header ≢ a
      first_or_later n y (zero, lt, g) d = λ x. n (sym k.0.header ∙ (ap (λ (z : LoopShape). z.header) g ∙ x))
      first_or_later n y (suc j, lt, g) d = d y (j, omega (arith, lt), g)

  -- ---- the rows

  abbrev pub owe : ℕ → ℤ
  owe = owe_of s q.of (values_of s ls ps q)

  abbrev pub p : ℕ → ℤ
  p = coefficient (potentials_of s.moves (final_level s ls ps q).worths s.moves)

  pub owe_least : (a : ℕ) → pos 0 ≤ℤ owe a
  owe_least a = owed_least q.of p (loop_limits s.claims.loops (both_of (final_pairs s ls ps q))) s.moves a

  pub alongside : (cs : List LoopClaim) (ks : List LoopShape) (us : List Pair) → AreDealt (IsPriced s ls ps whole q final) cs ks us → Alongside cs us
  alongside [] [] us k = tt
  alongside [] (l ∷ ks) us k = tt
  alongside (c ∷ cs) [] us k = absurd k
  alongside (c ∷ cs) (l ∷ ks) [] k = absurd k
  alongside (c ∷ cs) (l ∷ ks) (u ∷ us) k = alongside cs ks us k.1

  pub held_parts : (a : ℕ) → held (dual_of s q.of (values_of s ls ps q)).limits a ≡ held (never_limits s.claims.nevers (never_bounds owe s.claims.nevers)) a +ℤ held (loop_limits s.claims.loops (loop_bounds owe s.claims.loops (final_pairs s ls ps q))) a
  held_parts a = int_sum_by-append (λ l. l.by *ℤ coefficient l.terms a) (never_limits s.claims.nevers (never_bounds owe s.claims.nevers)) (loop_limits s.claims.loops (loop_bounds owe s.claims.loops (final_pairs s ls ps q)))

  -- all limits hold no less than the loops' multipliers alone
  held_more : (a : ℕ) → held (loop_limits s.claims.loops (both_of (final_pairs s ls ps q))) a ≤ℤ held (dual_of s q.of (values_of s ls ps q)).limits a
  held_more a =
      let e = held_parts a in
      let n = nevers_at_least owe owe_least s.claims.nevers a in
      let l = loops_hold owe owe_least s.claims.loops (final_pairs s ls ps q) a in omega (arith, ints)

  held_stop : q.low ≤ℤ pos 0 → (a : ℕ) → is_stop s.claims a ≡ true → (held (loop_limits s.claims.loops (both_of (final_pairs s ls ps q))) a +ℤ owe a) ≤ℤ held (dual_of s q.of (values_of s ls ps q)).limits a
  held_stop negative a h =
      let e = held_parts a in
      elim (either_of (is_never s.claims.nevers a) (is_shut s.claims.loops a) h) [
        | inl n ↦
            let x = never_pays owe owe_least s.claims.nevers a n in
            let l = loops_hold owe owe_least s.claims.loops (final_pairs s ls ps q) a in omega (arith, ints)
        | inr n ↦
            let x = nevers_at_least owe owe_least s.claims.nevers a in
            let l = shut_pays owe owe_least s.claims.loops (final_pairs s ls ps q) a (alongside s.claims.loops ls (final_pairs s ls ps q) (final_priced negative)) n in omega (arith, ints)
      ]

  pub potential_place : (a : ℕ) → has_moves s.moves a ≡ true → p a ≡ worth_at (final_level s ls ps q).worths (place_of s.moves a)
  potential_place = potential_at s whole.system (final_level s ls ps q).worths

  abbrev pub first_of : List ℕ → ℕ
  first_of [] = 0
  first_of (x ∷ xs) = x

  pub goes_back : (l : LoopShape) → Contains ls l → (m : Move) → Contains s.moves m → m.at ≡ l.back → destinations m ≡ l.header ∷ []
  goes_back l il m im e = All-contains (λ (x : Move). x.at ≡ l.back → destinations x ≡ l.header ∷ []) s.moves m (All-contains (IsLoop s) ls l whole.fits.loops il).goes_back im e

  back_covered : q.low ≤ℤ pos 0 → (m : Move) → Contains s.moves m → is_stop s.claims m.at ≡ false → is_back ls m.at ≡ true → q.of m ≤ℤ (fall p m +ℤ held (loop_limits s.claims.loops (both_of (final_pairs s ls ps q))) m.at)
  back_covered negative m im free is =
      let here = has_of s.moves m im in
      let b = back_held s.claims.loops ls (final_pairs s ls ps q) m.at (first_of (destinations m)) (final_priced negative) (sound_ascend s.claims whole.system.sound) here is is (λ l il e. sym (ap first_of (goes_back l il m im (sym e)))) in
      row b.0 b.1 b.2 b.3 b.4 b.5 b.6 here
    where
      row : (c : LoopClaim) (l : LoopShape) (u : Pair) → IsPriced s ls ps whole q final c l u → Contains ls l → c.back ≡ m.at → held (loop_limits s.claims.loops (both_of (final_pairs s ls ps q))) m.at ≡ hold c u m.at → has_moves s.moves m.at ≡ true →
          q.of m ≤ℤ (fall p m +ℤ held (loop_limits s.claims.loops (both_of (final_pairs s ls ps q))) m.at)
      row c l u k il at e here =
          let goes : destinations m ≡ c.header ∷ [] = goes_back l il m im (sym at ∙ sym k.back) ∙ ap (λ a. a ∷ []) k.header in
          let sum : int_sum_by p (destinations m) ≡ p c.header +ℤ pos 0 = ap (int_sum_by p) goes in
          let back_here : has_moves s.moves c.back ≡ true = subst (λ a. has_moves s.moves a ≡ true) (sym at) here in
          let back_free : is_stop s.claims c.back ≡ false = subst (λ a. is_stop s.claims a ≡ false) (sym at) free in
          let dear = dearest_most q.of s.moves c.back q.low m im (sym at) in
          let there = leads c l il k.back k.header back_here in
          elim (eqb_tells c.back c.header) [
            | inl f ↦
                let x = hold_both c u m.at (sym f.1 ∙ at) at in
                let y = k.alone back_here back_free f.1 in
                let z : p c.header ≡ p m.at = ap p (sym f.1 ∙ at) in omega (arith, ints)
            | inr f ↦
                let x = hold_back c u m.at (λ g. f.1 (at ∙ sym g)) at in
                let y = k.pays there back_here back_free f.1 in
                let z : p m.at ≡ worth_at (final_level s ls ps q).worths (place_of s.moves c.back) = ap p (sym at) ∙ potential_place c.back back_here in
                let w = potential_place c.header there in omega (arith, ints)
          ]

  pub not_back : (a : ℕ) → is_back ls a ≡ false → IsForward ls a
  not_back a is l il e = differ (is_back ls a) (subst (λ b. is_back ls b ≡ true) e (is_back_at ls l il)) is

  walked_covered : q.low ≤ℤ pos 0 → (m : Move) → Contains s.moves m → is_stop s.claims m.at ≡ false → is_back ls m.at ≡ false → q.of m ≤ℤ (fall p m +ℤ held (loop_limits s.claims.loops (both_of (final_pairs s ls ps q))) m.at)
  walked_covered negative m im free is =
      let here = has_of s.moves m im in
      let paid = all_paid s ls ps whole q m im (neither (is_stop s.claims m.at) (is_back ls m.at) free is) in
      let h = forward_held s.claims.loops ls (final_pairs s ls ps q) m.at (final_priced negative) (sound_ascend s.claims whole.system.sound) here (not_back m.at is) (plain_weight m.at here) in
      let a = potential_place m.at here in
      let d = arrives_worth s.moves (final_level s ls ps q).worths p m.to m.behind out_worth (λ x j. potential_place x (closed s ls ps whole q m x im j)) in
      omega (arith, ints)
    where
      neither : (x y : Bool) → x ≡ false → y ≡ false → x || y ≡ false
      neither true y e f = cc
      neither false y e f = f

  covered : q.low ≤ℤ pos 0 → (m : Move) → Contains s.moves m → IsCovered q.of p (dual_of s q.of (values_of s ls ps q)).limits m
  covered negative m im = by_place (is_stop s.claims m.at) refl (is_back ls m.at) refl
    where
      by_place : (t : Bool) → is_stop s.claims m.at ≡ t → (u : Bool) → is_back ls m.at ≡ u → IsCovered q.of p (dual_of s q.of (values_of s ls ps q)).limits m
      by_place true t u e =
          let o : owed q.of p (loop_limits s.claims.loops (both_of (final_pairs s ls ps q))) m ≤ℤ owe m.at = owed_most q.of p (loop_limits s.claims.loops (both_of (final_pairs s ls ps q))) s.moves m.at m im refl in
          let h = held_stop negative m.at t in omega (arith, ints)
      by_place false t true e = let r = back_covered negative m im t e in let h = held_more m.at in omega (arith, ints)
      by_place false t false e = let r = walked_covered negative m im t e in let h = held_more m.at in omega (arith, ints)

  nevers_signed : (cs : List Never) → All IsSigned (never_limits cs (never_bounds owe cs))
  nevers_signed [] = All-nil IsSigned
  nevers_signed (c ∷ cs) = All-cons IsSigned _ _ (owe_least c.at) (nevers_signed cs)

  loops_signed : (cs : List LoopClaim) (ks : List LoopShape) (us : List Pair) → AreDealt (IsPriced s ls ps whole q final) cs ks us → All IsSigned (loop_limits cs (loop_bounds owe cs us))
  loops_signed [] [] us k = All-nil IsSigned
  loops_signed [] (l ∷ ks) us k = All-nil IsSigned
  loops_signed (c ∷ cs) [] us k = absurd k
  loops_signed (c ∷ cs) (l ∷ ks) [] k = absurd k
  loops_signed (c ∷ cs) (l ∷ ks) (u ∷ us) k = All-cons IsSigned (least_limit c u.least) (most_limit c (u.most +ℤ cond (c.max == 0) (owe c.header) (pos 0)) ∷ loop_limits cs (loop_bounds owe cs us)) k.0.least
      (All-cons IsSigned (most_limit c (u.most +ℤ cond (c.max == 0) (owe c.header) (pos 0))) (loop_limits cs (loop_bounds owe cs us)) (more (c.max == 0)) (loops_signed cs ks us k.1))
    where
      more : (t : Bool) → pos 0 ≤ℤ (u.most +ℤ cond t (owe c.header) (pos 0))
      more true = let x = k.0.most in let y = owe_least c.header in omega (arith, ints)
      more false = let x = k.0.most in omega (arith, ints)

  is_dual : q.low ≤ℤ pos 0 → IsDual s (dual_of s q.of (values_of s ls ps q))
  is_dual negative = record {
    signs = All-append IsSigned _ _ (nevers_signed s.claims.nevers) (loops_signed s.claims.loops ls (final_pairs s ls ps q) (final_priced negative));
    rows = all_of (IsCovered q.of p (dual_of s q.of (values_of s ls ps q)).limits) s.moves (covered negative);
  }

pub walks_dual : (s : System) (ls : List LoopShape) (ps : List Span) → IsReachedWhole s ls ps → WalksAreDual s ls ps
walks_dual s ls ps whole q negative = is_dual s ls ps whole q negative
