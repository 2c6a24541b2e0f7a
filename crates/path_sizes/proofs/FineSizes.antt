-- What never claims and loops without turns pay, more finely: what is left at an address is no more than three times the size of the walks' numbers.
use Rattle.std.proofs.Common.{◌≡◌, ℕ, zero, suc, ◌+◌, ◌*◌, ◌≤◌, ◌<◌, ◌^◌, ℤ, pos, neg_ℤ, ◌+ℤ◌, ◌-ℤ◌, ◌*ℤ◌, ◌≤ℤ◌, arith, refl, sym, ap, ◌∙◌, subst, List, [], ◌∷◌, ◌++◌, length, Contains, All, inl, inr, ◌⊎◌, Bool, true, false, cond, Option, Some, None, unsigned_abs}
use lib.IntN.{negsuc, *ℤ-zero}
use Rattle.std.proofs.Math.Nat.{mul-le-mul_right}
use Rattle.std.specs.Prelude.{◌==◌, ◌&&◌, ◌||◌}
use Rattle.std.specs.Option.{option_to_list}
use Rattle.std.proofs.lemmas.Int.{ints}
use Rattle.std.proofs.lemmas.Bool.Decides.{nat_tests, eqb_tells}
use Rattle.std.proofs.lemmas.List.Elements.{All-contains, All-cons, All-nil}
use Rattle.frac128.specs.Terms.{int_sum_by, coefficient}
use Rattle.frac128.proofs.SignedLemmas.{mul-neg}
use Rattle.code_flow_system.specs.declared.claims.Never.{Never}
use Rattle.code_flow_system.specs.declared.claims.LoopClaim.{LoopClaim}
use Rattle.code_flow_system.specs.declared.moves.Move.{Move}
use Rattle.code_flow_system.specs.declared.shapes.LoopShape.{LoopShape}
use Rattle.code_flow_system.specs.declared.shapes.Span.{Span}
use Rattle.code_flow_system.specs.Moves.{destinations}
use Rattle.code_flow_system.specs.Systems.{System, has_moves}
use Rattle.code_flow_system.specs.Shapes.{IsLoop}
use Rattle.code_flow_system.specs.Certificates.{least_terms, most_terms, loop_limits, held, row_size}
use Rattle.loop_walks.specs.declared.step.Pair.{Pair}
use Rattle.loop_walks.specs.Walks.{larger}
use Rattle.loop_walks.proofs.LargerLemmas.{larger_right, larger_least}
use Rattle.loop_ranges.specs.Near.{IsUpTo}
use Rattle.loop_ranges.specs.Reach.{reach}
use Rattle.path_places.specs.Places.{place_of, is_never, is_shut, is_stop}
use Rattle.path_places.proofs.LoopLemmas.{has_of}
use Rattle.path_places.proofs.FunctionLemmas.{sound_ascend}
use Rattle.path_places.specs.Driver.{Prices}
use Rattle.path_ranges.proofs.TotalLemmas.{times, once}
use Rattle.path_ranges.proofs.PartLemmas.{least_turns, back_part, back_total}
use Rattle.path_ranges.proofs.PlaceFlows.{closed}
use Rattle.path_ranges.proofs.EntryFlows.{flow_below}
use Rattle.path_places.specs.Duals.{potentials_of, owed, most_owed, both_of, never_bounds, loop_bounds, final_level, final_pairs, values_of, owe_of, dual_of}
use Rattle.path_places.proofs.DealLemmas.{AreDealt}
use Rattle.path_places.proofs.PotentialLemmas.{potential_at}
use Rattle.path_places.proofs.PriceLemmas.{IsPriced}
use Rattle.path_places.proofs.RowLemmas.{final_priced}
use Rattle.path_ranges.specs.Bounded.{IsBounded}
use Rattle.path_ranges.specs.Ranges.{loop_step, IsEnough}
use Rattle.path_ranges.proofs.CountLemmas.{reach_least}
use Rattle.path_ranges.proofs.SystemRanges.{prices}
use Rattle.path_ranges.proofs.WorthRanges.{worths_bounded}
use Rattle.path_sizes.specs.DualRanges.{IsNarrowDual, DualsAreNarrow}
use Rattle.path_sizes.proofs.ClaimSizes.{size_within, IsSizedClaim, IsSizedDeal, touching, ending, touching-parts, one_begins}
use Rattle.path_sizes.proofs.RowSizes.{all_of, shape_for, sizes, dealt_sized, touches, potentials_small, row_small, long, pairs_small, plain_small}

-- ---- what the multipliers of loops hold at an address is not far below 0

above : (z : ℤ) (n : ℕ) → unsigned_abs z ≤ n → neg_ℤ (pos n) ≤ℤ z
above (pos z) n h = omega (arith, ints)
above (negsuc z) n h = omega (arith, ints)

under : (z : ℤ) (n : ℕ) → unsigned_abs z ≤ n → z ≤ℤ pos n
under (pos z) n h = omega (arith, ints)
under (negsuc z) n h = omega (arith, ints)

module _ (n : ℕ) (c : LoopClaim) (p : Pair) (sized : IsSizedClaim n c p) (least : pos 0 ≤ℤ p.least) (most : pos 0 ≤ℤ p.most) where
  times_max : pos 0 ≤ℤ (p.most *ℤ pos c.max)
  times_max = product p.most c.max most
    where
      product : (z : ℤ) (k : ℕ) → pos 0 ≤ℤ z → pos 0 ≤ℤ (z *ℤ pos k)
      product (pos z) k h = omega (arith, ints)
      product (negsuc z) k h = absurd (omega (arith, ints))

  held_by : (t u : Bool) → neg_ℤ (pos ((cond t 1 0 + cond u 1 0) * n)) ≤ℤ
      ((p.least *ℤ (cond t (pos c.min -ℤ pos 1) (pos 0) +ℤ (cond u (neg_ℤ (pos c.min)) (pos 0) +ℤ pos 0))) +ℤ (p.most *ℤ (cond t (pos 1 -ℤ pos c.max) (pos 0) +ℤ (cond u (pos c.max) (pos 0) +ℤ pos 0))))
  held_by true true =
      let f : ((pos c.min -ℤ pos 1) +ℤ (neg_ℤ (pos c.min) +ℤ pos 0)) ≡ neg_ℤ (pos 1) = omega (arith, ints) in
      let g : ((pos 1 -ℤ pos c.max) +ℤ (pos c.max +ℤ pos 0)) ≡ pos 1 = omega (arith, ints) in
      let a = minus_one p.least in let b = plus_one p.most in
      let l = under p.least n sized.least in rw (f, g, a, b) (omega (arith, ints))
    where
      minus_one : (z : ℤ) → z *ℤ neg_ℤ (pos 1) ≡ neg_ℤ z
      minus_one z = omega (arith, ints)

      plus_one : (z : ℤ) → z *ℤ pos 1 ≡ z
      plus_one z = omega (arith, ints)
  held_by true false =
      let f : ((pos c.min -ℤ pos 1) +ℤ (pos 0 +ℤ pos 0)) ≡ (pos c.min -ℤ pos 1) = omega (arith, ints) in
      let g : ((pos 1 -ℤ pos c.max) +ℤ (pos 0 +ℤ pos 0)) ≡ neg_ℤ (pos c.max -ℤ pos 1) = omega (arith, ints) in
      let a = mul-neg p.most (pos c.max -ℤ pos 1) in
      let w = under ((p.most *ℤ (pos c.max -ℤ pos 1)) -ℤ (p.least *ℤ (pos c.min -ℤ pos 1))) n sized.weight in rw (f, g, a) (omega (arith, ints))
  held_by false true =
      let f : (pos 0 +ℤ (neg_ℤ (pos c.min) +ℤ pos 0)) ≡ neg_ℤ (pos c.min) = omega (arith, ints) in
      let g : (pos 0 +ℤ (pos c.max +ℤ pos 0)) ≡ pos c.max = omega (arith, ints) in
      let a = mul-neg p.least (pos c.min) in
      let l = under (p.least *ℤ pos c.min) n sized.least_starts in let m = times_max in rw (f, g, a) (omega (arith, ints))
  held_by false false =
      let f : (pos 0 +ℤ (pos 0 +ℤ pos 0)) ≡ pos 0 = omega (arith, ints) in
      let a = *ℤ-zero p.least in let b = *ℤ-zero p.most in rw (f, a, b) (omega (arith, ints))

  pub claim_least : (a : ℕ) → neg_ℤ (pos ((cond (c.header == a) 1 0 + cond (c.back == a) 1 0) * n)) ≤ℤ ((p.least *ℤ coefficient (least_terms c) a) +ℤ (p.most *ℤ coefficient (most_terms c) a))
  claim_least a = held_by (c.header == a) (c.back == a)

abbrev IsSignedDeal : LoopClaim → LoopShape → Pair → Type 0
IsSignedDeal c l k = (pos 0 ≤ℤ k.least) × (pos 0 ≤ℤ k.most)

held_least : (n : ℕ) (cs : List LoopClaim) (ks : List LoopShape) (us : List Pair) (a : ℕ) → AreDealt (IsSizedDeal n) cs ks us → AreDealt IsSignedDeal cs ks us → neg_ℤ (pos (touching cs a * n)) ≤ℤ held (loop_limits cs (both_of us)) a
held_least n [] ks us a sized signed = omega (arith, ints)
held_least n (c ∷ cs) [] us a sized signed = absurd sized
held_least n (c ∷ cs) (l ∷ ks) [] a sized signed = absurd sized
held_least n (c ∷ cs) (l ∷ ks) (u ∷ us) a sized signed =
    let r = held_least n cs ks us a sized.1 signed.1 in
    let o = claim_least n c u sized.0 signed.0.0 signed.0.1 a in
    joined (cond (c.header == a) 1 0 + cond (c.back == a) 1 0) (touching cs a) (u.least *ℤ coefficient (least_terms c) a) (u.most *ℤ coefficient (most_terms c) a) (held (loop_limits cs (both_of us)) a) o r
  where
    joined : (k m : ℕ) (x y z : ℤ) → neg_ℤ (pos (k * n)) ≤ℤ (x +ℤ y) → neg_ℤ (pos (m * n)) ≤ℤ z → neg_ℤ (pos ((k + m) * n)) ≤ℤ (x +ℤ (y +ℤ z))
    joined k m x y z h g = let e : (k + m) * n ≡ k * n + m * n = omega arith in let f = ap pos e in omega (arith, ints)

-- ---- calls end no loop

none_end : (cs : List LoopClaim) (a : ℕ) → ((c : LoopClaim) → Contains cs c → c.back ≡ a → ⊥) → ending cs a ≡ 0
none_end [] a never = refl
none_end (c ∷ cs) a never = elim (eqb_tells c.back a) [
  | inl q ↦ absurd (never c (zero, omega arith, refl) q.1)
  | inr q ↦ let r = none_end cs a (λ d i. never d (suc i.0, (let j = i.1 in omega (arith, j)), i.2)) in let q0 = q.0 in rw q0 (omega (arith, r))
]

-- a loop of no turn shuts its header
shut_at : (cs : List LoopClaim) (d : LoopClaim) → Contains cs d → d.max ≡ 0 → is_shut cs d.header ≡ true
shut_at [] d (i, lt, e) z = absurd (omega (arith, lt))
shut_at (x ∷ xs) d (zero, lt, e) z =
    let a = eq_is x.header d.header (ap (λ (y : LoopClaim). y.header) e) in
    let b = eq_is x.max 0 (ap (λ (y : LoopClaim). y.max) e ∙ z) in rw (a, b) refl
  where
    eq_is : (a b : ℕ) → a ≡ b → (a == b) ≡ true
    eq_is a b e = elim (eqb_tells a b) [ inl k ↦ k.0 | inr k ↦ absurd (k.1 e) ]
shut_at (x ∷ xs) d (suc i, lt, e) z = later ((x.header == d.header) && (x.max == 0)) (shut_at xs d (i, omega (arith, lt), e) z)
  where
    later : (t : Bool) → is_shut xs d.header ≡ true → t || is_shut xs d.header ≡ true
    later true h = refl
    later false h = h

or_right : (x y : Bool) → y ≡ true → x || y ≡ true
or_right true y h = refl
or_right false y h = h

module _ (s : System) (ls : List LoopShape) (ps : List Span) (q : Prices) (price : Move → ℤ) (most : ℤ) (starts n : ℕ) (b : IsBounded s ls ps q price most starts) (enough : IsEnough s q most starts (pos n)) (fits : n < 2 ^ 124) where
  abbrev greatest : ℤ
  greatest = reach (loop_step q most starts) most (length s.claims.loops)

  abbrev p : ℕ → ℤ
  p = coefficient (potentials_of s.moves (final_level s ls ps q).worths s.moves)

  abbrev known : ℕ → ℤ
  known a = held (loop_limits s.claims.loops (both_of (final_pairs s ls ps q))) a

  negative : q.low ≤ℤ pos 0
  negative = let a = b.apart in let r = b.positive in omega (arith, ints)

  potential_between : (a : ℕ) → has_moves s.moves a ≡ true → (q.low ≤ℤ p a) × (p a ≤ℤ greatest)
  potential_between a there = subst (λ (z : ℤ). (q.low ≤ℤ z) × (z ≤ℤ greatest)) (sym (potential_at s b.whole.system (final_level s ls ps q).worths a there)) (worths_bounded s ls ps q price most starts b (place_of s.moves a))

  -- a move alone is a loose flow from its address
  pub loose_most : (m : Move) → Contains s.moves m → price m ≤ℤ most
  loose_most m im =
      let t = back_total s ps b.whole.system.ascending m im 1 price in
      let f = flow_below s ls ps b.whole price (prices s ls ps q price most starts b) most b.positive b.totals (place_of s.moves m.at) (price m) (inr (record {
        at = m.at;
        there = has_of s.moves m im;
        place = refl;
        flow = record { amounts = times 1 (once m); part = back_part s ps b.whole.system.ascending m im 1 (omega arith) (inl refl) (λ c i e. least_turns c); value = omega (arith, ints) };
      })) in omega (arith, ints)

  price_most : (m : Move) → Contains s.moves m → q.of m ≤ℤ most
  price_most m im = let u1 = (All-contains (λ m. IsUpTo (q.of m) (price m)) s.moves m b.prices im).1 in let l = loose_most m im in omega (arith, ints)

  priced : AreDealt (IsPriced s ls ps b.whole q (final_level s ls ps q)) s.claims.loops ls (final_pairs s ls ps q)
  priced = final_priced s ls ps b.whole q negative

  signed_deal : (cs : List LoopClaim) (ks : List LoopShape) (us : List Pair) → AreDealt (IsPriced s ls ps b.whole q (final_level s ls ps q)) cs ks us → AreDealt IsSignedDeal cs ks us
  signed_deal [] [] us h = tt
  signed_deal [] (l ∷ ks) us h = absurd h
  signed_deal (c ∷ cs) [] us h = absurd h
  signed_deal (c ∷ cs) (l ∷ ks) [] h = absurd h
  signed_deal (c ∷ cs) (l ∷ ks) (u ∷ us) h = ((h.0.least, h.0.most), signed_deal cs ks us h.1)

  sized : AreDealt (IsSizedDeal n) s.claims.loops ls (final_pairs s ls ps q)
  sized = dealt_sized s ls ps q price most starts n b enough fits

  -- where a move goes: to one address, or it is a call, at which no loop ends
  abbrev Arrives : Move → Type 0
  Arrives m = (int_sum_by p (destinations m) ≤ℤ greatest) ⊎ ((int_sum_by p (destinations m) ≤ℤ (greatest +ℤ greatest)) × (touching s.claims.loops m.at ≤ 1))

  greatest_positive : pos 0 ≤ℤ greatest
  greatest_positive = let w = worths_bounded s ls ps q price most starts b 0 in let z = sizes s ls ps q price most starts n b enough fits in first
    where
      first : pos 0 ≤ℤ reach (loop_step q most starts) most (length s.claims.loops)
      first =
          let r = reach_least (loop_step q most starts) most (length s.claims.loops) (let a = negative in let c = b.positive in omega (arith, ints)) in let c = b.positive in omega (arith, ints)

  arrives : (m : Move) → Contains s.moves m → Arrives m
  arrives m im = by_list m.to m.behind refl refl
    where
      there : (d : ℕ) → Contains (destinations m) d → p d ≤ℤ greatest
      there d i = (potential_between d (closed s ls ps b.whole price m d im i)).1

      one_touches : (t k : ℕ) → m.to ≡ Some t → m.behind ≡ Some k → touching s.claims.loops m.at ≤ 1
      one_touches t k e f =
          let x = touching-parts s.claims.loops m.at in
          let y = one_begins s.claims.loops m.at (sound_ascend s.claims b.whole.system.sound) in
          let z = none_end s.claims.loops m.at (λ c i g.
          let l = shape_for s.claims.loops ls c b.whole.fits.shapes i in
          let goes = All-contains (λ (x : Move). x.at ≡ l.0.back → destinations x ≡ l.0.header ∷ []) s.moves m (All-contains (IsLoop s) ls l.0 b.whole.fits.loops l.1).goes_back im (sym (l.3 ∙ g)) in
          two_one t k l.0.header (sym (ap (λ o. option_to_list o ++ option_to_list m.behind) e ∙ ap (λ o. option_to_list (Some t) ++ option_to_list o) f) ∙ goes)) in
          omega (arith, x, y, z)
        where
          two_one : (t k h : ℕ) → t ∷ k ∷ [] ≡ h ∷ [] → ⊥
          two_one t k h e = let l = ap length e in absurd (omega (arith, l))

      by_list : (to back : Option ℕ) → m.to ≡ to → m.behind ≡ back → Arrives m
      by_list None None e f = inl (rw (e, f) greatest_positive)
      by_list None (Some k) e f = inl (let h = there k (subst (λ o. Contains (option_to_list o ++ option_to_list m.behind) k) (sym e) (subst (λ o. Contains (option_to_list None ++ option_to_list o) k) (sym f) (zero, omega arith, refl))) in rw (e, f) (omega (arith, ints)))
      by_list (Some t) None e f = inl (let h = there t (subst (λ o. Contains (option_to_list o ++ option_to_list m.behind) t) (sym e) (subst (λ o. Contains (option_to_list (Some t) ++ option_to_list o) t) (sym f) (zero, omega arith, refl))) in rw (e, f) (omega (arith, ints)))
      by_list (Some t) (Some k) e f = inr (
        (let h = there t (subst (λ o. Contains (option_to_list o ++ option_to_list m.behind) t) (sym e) (subst (λ o. Contains (option_to_list (Some t) ++ option_to_list o) t) (sym f) (zero, omega arith, refl))) in
            let g = there k (subst (λ o. Contains (option_to_list o ++ option_to_list m.behind) k) (sym e) (subst (λ o. Contains (option_to_list (Some t) ++ option_to_list o) k) (sym f) (suc zero, omega arith, refl))) in rw (e, f) (omega (arith, ints))),
        one_touches t k e f,
      )

  -- what is left of a move's price is no more than three times the size
  owed_most : (m : Move) → Contains s.moves m → owed q.of p (loop_limits s.claims.loops (both_of (final_pairs s ls ps q))) m ≤ℤ pos (3 * n)
  owed_most m im =
      let pr = price_most m im in
      let at = (potential_between m.at (has_of s.moves m im)).0 in
      let he = held_least n s.claims.loops ls (final_pairs s ls ps q) m.at sized (signed_deal s.claims.loops ls (final_pairs s ls ps q) priced) in
      let e = enough in let ng = negative in let gp = greatest_positive in let mp = b.positive in
      elim (arrives m im) [
        | inl a ↦ let t = few (touching s.claims.loops m.at) 2 n (touches s ls ps q price most starts n b enough fits m im) in
            all_one (q.of m) (p m.at) (int_sum_by p (destinations m)) (known m.at) greatest (touching s.claims.loops m.at * n) pr at a he t e
        | inr a ↦ let t = few (touching s.claims.loops m.at) 1 n a.1 in
            all_two (q.of m) (p m.at) (int_sum_by p (destinations m)) (known m.at) greatest (touching s.claims.loops m.at * n) pr at a.0 he t e
      ]
    where
      few : (k m n : ℕ) → k ≤ m → k * n ≤ m * n
      few k m n h = mul-le-mul_right n h

      all_one : (c v d h g : ℤ) (k : ℕ) → c ≤ℤ most → q.low ≤ℤ v → d ≤ℤ g → neg_ℤ (pos k) ≤ℤ h → k ≤ 2 * n → (g +ℤ ((most -ℤ (q.low +ℤ q.low)) +ℤ pos starts)) ≤ℤ pos n → (c -ℤ ((v -ℤ d) +ℤ h)) ≤ℤ pos (3 * n)
      all_one c v d h g k hc hv hd hh hk e = let ng = negative in omega (arith, ints)

      all_two : (c v d h g : ℤ) (k : ℕ) → c ≤ℤ most → q.low ≤ℤ v → d ≤ℤ (g +ℤ g) → neg_ℤ (pos k) ≤ℤ h → k ≤ 1 * n → (g +ℤ ((most -ℤ (q.low +ℤ q.low)) +ℤ pos starts)) ≤ℤ pos n → (c -ℤ ((v -ℤ d) +ℤ h)) ≤ℤ pos (3 * n)
      all_two c v d h g k hc hv hd hh hk e = let ng = negative in let mp = b.positive in omega (arith, ints)

  abbrev owe : ℕ → ℤ
  owe = owe_of s q.of (values_of s ls ps q)

  owe_between : (a : ℕ) → (pos 0 ≤ℤ owe a) × (owe a ≤ℤ pos (3 * n))
  owe_between a = some s.moves (λ m i. i)
    where
      some : (ms : List Move) → ((m : Move) → Contains ms m → Contains s.moves m) → (pos 0 ≤ℤ most_owed q.of p (loop_limits s.claims.loops (both_of (final_pairs s ls ps q))) ms a) × (most_owed q.of p (loop_limits s.claims.loops (both_of (final_pairs s ls ps q))) ms a ≤ℤ pos (3 * n))
      some [] i = (omega (arith, ints), omega (arith, ints))
      some (m ∷ ms) i = by_test (m.at == a) (some ms (λ x j. i x (suc j.0, (let k = j.1 in omega (arith, k)), j.2)))
        where
          by_test : (t : Bool) → (pos 0 ≤ℤ most_owed q.of p (loop_limits s.claims.loops (both_of (final_pairs s ls ps q))) ms a) × (most_owed q.of p (loop_limits s.claims.loops (both_of (final_pairs s ls ps q))) ms a ≤ℤ pos (3 * n)) →
              (pos 0 ≤ℤ cond t (larger (owed q.of p (loop_limits s.claims.loops (both_of (final_pairs s ls ps q))) m) (most_owed q.of p (loop_limits s.claims.loops (both_of (final_pairs s ls ps q))) ms a)) (most_owed q.of p (loop_limits s.claims.loops (both_of (final_pairs s ls ps q))) ms a))
              × (cond t (larger (owed q.of p (loop_limits s.claims.loops (both_of (final_pairs s ls ps q))) m) (most_owed q.of p (loop_limits s.claims.loops (both_of (final_pairs s ls ps q))) ms a)) (most_owed q.of p (loop_limits s.claims.loops (both_of (final_pairs s ls ps q))) ms a) ≤ℤ pos (3 * n))
          by_test true r = (
            (let l = larger_right (owed q.of p (loop_limits s.claims.loops (both_of (final_pairs s ls ps q))) m) (most_owed q.of p (loop_limits s.claims.loops (both_of (final_pairs s ls ps q))) ms a) in let r0 = r.0 in omega (arith, ints)),
            larger_least (owed q.of p (loop_limits s.claims.loops (both_of (final_pairs s ls ps q))) m) (most_owed q.of p (loop_limits s.claims.loops (both_of (final_pairs s ls ps q))) ms a) (pos (3 * n)) (owed_most m (i m (zero, omega arith, refl))) r.1,
          )
          by_test false r = r

  owe_fine : (a : ℕ) → unsigned_abs (owe a) ≤ 3 * n
  owe_fine a = let w = owe_between a in let w0 = w.0 in let w1 = w.1 in size_within (3 * n) (owe a) (omega (arith, ints)) w1

  -- nothing is left where there are no moves
  owe_none : (a : ℕ) → has_moves s.moves a ≡ false → owe a ≡ pos 0
  owe_none a h = none s.moves h
    where
      none : (ms : List Move) → has_moves ms a ≡ false → most_owed q.of p (loop_limits s.claims.loops (both_of (final_pairs s ls ps q))) ms a ≡ pos 0
      none [] h = refl
      none (m ∷ ms) h = by_test (m.at == a) h (none ms)
        where
          by_test : (t : Bool) → cond t true (has_moves ms a) ≡ false → (has_moves ms a ≡ false → most_owed q.of p (loop_limits s.claims.loops (both_of (final_pairs s ls ps q))) ms a ≡ pos 0) →
              cond t (larger (owed q.of p (loop_limits s.claims.loops (both_of (final_pairs s ls ps q))) m) (most_owed q.of p (loop_limits s.claims.loops (both_of (final_pairs s ls ps q))) ms a)) (most_owed q.of p (loop_limits s.claims.loops (both_of (final_pairs s ls ps q))) ms a) ≡ pos 0
          by_test true h r = cc
          by_test false h r = r h

  nevers_fine : (cs : List Never) → All (λ w. unsigned_abs w ≤ 3 * n) (never_bounds owe cs)
  nevers_fine [] = All-nil (λ w. unsigned_abs w ≤ 3 * n)
  nevers_fine (c ∷ cs) = All-cons (λ w. unsigned_abs w ≤ 3 * n) (owe c.at) (never_bounds owe cs) (owe_fine c.at) (nevers_fine cs)

  most_fine : (c : LoopClaim) (l : LoopShape) (u : Pair) → Contains s.claims.loops c → IsSizedClaim n c u → IsPriced s ls ps b.whole q (final_level s ls ps q) c l u → unsigned_abs (u.most +ℤ cond (c.max == 0) (owe c.header) (pos 0)) ≤ 3 * n
  most_fine c l u ic z k = by_max (c.max == 0) refl
    where
      shut : c.max ≡ 0 → is_stop s.claims c.header ≡ true
      shut e = or_right (is_never s.claims.nevers c.header) (is_shut s.claims.loops c.header) (shut_at s.claims.loops c ic e)

      none : (x y : ℤ) → y ≡ pos 0 → x +ℤ y ≡ x
      none x y e = omega (arith, ints)

      none_first : (x y : ℤ) → x ≡ pos 0 → x +ℤ y ≡ y
      none_first x y e = omega (arith, ints)

      by_moves : c.max ≡ 0 → (t : Bool) → has_moves s.moves c.header ≡ t → unsigned_abs (u.most +ℤ owe c.header) ≤ 3 * n
      by_moves e true there = let f = none_first u.most (owe c.header) (k.shut there (shut e)).1 in let o = owe_fine c.header in rw f o
      by_moves e false there = let f = none u.most (owe c.header) (owe_none c.header there) in let o = z.most in rw f (omega (arith, o))

      by_max : (t : Bool) → (c.max == 0) ≡ t → unsigned_abs (u.most +ℤ cond t (owe c.header) (pos 0)) ≤ 3 * n
      by_max true e = by_moves (zero_is c.max e) (has_moves s.moves c.header) refl
        where
          zero_is : (x : ℕ) → (x == 0) ≡ true → x ≡ 0
          zero_is x e = grind (arith, nat_tests)
      by_max false e = let f = none u.most (pos 0) refl in let o = z.most in rw f (omega (arith, o))

  loops_fine : (cs : List LoopClaim) (ks : List LoopShape) (us : List Pair) → ((c : LoopClaim) → Contains cs c → Contains s.claims.loops c) → AreDealt (IsSizedDeal n) cs ks us → AreDealt (IsPriced s ls ps b.whole q (final_level s ls ps q)) cs ks us → All (λ w. (unsigned_abs w.0 ≤ n) × (unsigned_abs w.1 ≤ 3 * n)) (loop_bounds owe cs us)
  loops_fine [] ks us sub h k = All-nil (λ w. (unsigned_abs w.0 ≤ n) × (unsigned_abs w.1 ≤ 3 * n))
  loops_fine (c ∷ cs) [] us sub h k = absurd h
  loops_fine (c ∷ cs) (l ∷ ks) [] sub h k = absurd h
  loops_fine (c ∷ cs) (l ∷ ks) (u ∷ us) sub h k =
      All-cons (λ w. (unsigned_abs w.0 ≤ n) × (unsigned_abs w.1 ≤ 3 * n)) (u.least, u.most +ℤ cond (c.max == 0) (owe c.header) (pos 0)) (loop_bounds owe cs us) (h.0.least, most_fine c l u (sub c (zero, omega arith, refl)) h.0 k.0)
      (loops_fine cs ks us (λ d i. sub d (suc i.0, (let j = i.1 in omega (arith, j)), i.2)) h.1 k.1)

  pub narrow : IsNarrowDual s q.of (values_of s ls ps q) n
  narrow = record {
    potentials = potentials_small s ls ps q price most starts n b enough fits s.moves;
    nevers = nevers_fine s.claims.nevers;
    loops = loops_fine s.claims.loops ls (final_pairs s ls ps q) (λ c i. i) sized priced;
    rows = all_of (λ m. row_size q.of (coefficient (potentials_of s.moves (final_level s ls ps q).worths s.moves)) (dual_of s q.of (values_of s ls ps q)).limits m ≤ 32 * n) s.moves (row_small s ls ps q price most starts n b enough fits);
    long = long s ls ps q price most starts n b enough fits;
    pairs = pairs_small s ls ps q price most starts n b enough fits s.claims.loops ls (final_pairs s ls ps q) (long s ls ps q price most starts n b enough fits) (dealt_sized s ls ps q price most starts n b enough fits);
    plain = all_of (λ m. row_size q.of (coefficient (potentials_of s.moves (final_level s ls ps q).worths s.moves)) (loop_limits s.claims.loops (both_of (final_pairs s ls ps q))) m ≤ 32 * n) s.moves (plain_small s ls ps q price most starts n b enough fits);
  }

pub duals_narrow : (s : System) (ls : List LoopShape) (ps : List Span) → DualsAreNarrow s ls ps
duals_narrow s ls ps q price most starts n b enough fits = narrow s ls ps q price most starts n b enough fits
