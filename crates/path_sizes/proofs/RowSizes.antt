-- What is left at an address, and the terms of a row, in size.
use Rattle.std.proofs.Common.{◌≡◌, ℕ, zero, suc, ◌+◌, ◌*◌, ◌≤◌, ◌<◌, ◌^◌, ℤ, pos, neg_ℤ, ◌+ℤ◌, ◌-ℤ◌, ◌*ℤ◌, ◌≤ℤ◌, arith, refl, sym, ap, ◌∙◌, List, [], ◌∷◌, ◌++◌, length, Contains, All, inl, inr, Bool, true, false, cond, Option, Some, None, unsigned_abs}
use Rattle.std.specs.Prelude.{◌==◌, ◌&&◌, not, nat_lt}
use Rattle.std.specs.Option.{option_to_list}
use Rattle.std.specs.Int.RustNames.{int_le}
use Rattle.std.proofs.lemmas.Int.{ints}
use Rattle.std.proofs.lemmas.Bool.Decides.{nat_tests}
use Rattle.std.proofs.lemmas.List.Elements.{All-head, All-tail, All-contains, All-cons, All-nil}
use Rattle.frac128.specs.Terms.{int_sum_by, coefficient}
use Rattle.code_flow_system.specs.declared.claims.Never.{Never}
use Rattle.code_flow_system.specs.declared.claims.LoopClaim.{LoopClaim}
use Rattle.code_flow_system.specs.declared.moves.Move.{Move}
use Rattle.code_flow_system.specs.declared.shapes.LoopShape.{LoopShape}
use Rattle.code_flow_system.specs.declared.shapes.Span.{Span}
use Rattle.code_flow_system.specs.Claims.{Claims, is_aligned, exit_flaws, never_flaws, region_flaws, loop_flaws, fact_flaws, AreSound}
use Rattle.code_flow_system.specs.Moves.{destinations}
use Rattle.code_flow_system.specs.Systems.{System, has_moves}
use Rattle.code_flow_system.specs.Certificates.{Limit, never_limits, loop_limits, held, size_by, row_size}
use Rattle.code_flow_system.specs.Shapes.{AreShapesOf, IsLoop}
use Rattle.loop_walks.specs.declared.step.Pair.{Pair}
use Rattle.loop_walks.specs.Walks.{larger, worth_at}
use Rattle.loop_ranges.specs.Near.{IsUpTo}
use Rattle.path_places.specs.Places.{place_of}
use Rattle.path_places.proofs.LoopLemmas.{has_of}
use Rattle.path_places.proofs.FunctionLemmas.{sound_ascend}
use Rattle.path_places.specs.Reached.{in_span}
use Rattle.loop_walks.specs.Levels.{Level}
use Rattle.path_places.specs.Driver.{Prices, blank, function_level, function_pairs}
use Rattle.path_ranges.proofs.TotalLemmas.{times, once}
use Rattle.path_ranges.proofs.PartLemmas.{least_turns, back_part, back_total}
use Rattle.path_ranges.proofs.PlaceFlows.{closed}
use Rattle.path_ranges.proofs.EntryFlows.{flow_below}
use Rattle.path_places.specs.Duals.{dealt, no_pairs, pairs_from, values_of, potentials_of, owed, most_owed, both_of, never_bounds, loop_bounds, final_level, final_pairs, owe_of, dual_of}
use Rattle.path_places.proofs.DealLemmas.{AreDealt}
use Rattle.path_places.proofs.PotentialLemmas.{potential_at}
use Rattle.loop_ranges.specs.Reach.{reach}
use Rattle.path_ranges.specs.Bounded.{IsBounded}
use Rattle.path_ranges.specs.Ranges.{loop_step, IsEnough}
use Rattle.path_ranges.proofs.CountLemmas.{reach_least}
use Rattle.path_ranges.proofs.SystemRanges.{prices}
use Rattle.path_ranges.proofs.WorthRanges.{worths_bounded}
use Rattle.path_sizes.proofs.SystemSizes.{all_fit}
use Rattle.path_sizes.proofs.ClaimSizes.{size-neg, size-add, size_within, size-append, held_size, IsSizedDeal, touching, loops_size, pairs_size, two_touch, NeversAscend, nevers_size}
use Rattle.path_sizes.proofs.DealSizes.{all_dealt}

pub all_of : {X : Type 0} (P : X → Type 0) (xs : List X) → ((x : X) → Contains xs x → P x) → All P xs
all_of P [] h = All-nil P
all_of P (x ∷ xs) h = All-cons P x xs (h x (zero, omega arith, refl)) (all_of P xs (λ y k. h y (suc k.0, (let j = k.1 in omega (arith, j)), k.2)))

-- ---- never claims that aren't bad by themselves ascend

left_part : (xs ys : List Bool) → All (λ t. t ≡ false) (xs ++ ys) → All (λ t. t ≡ false) xs
left_part [] ys h = All-nil (λ t. t ≡ false)
left_part (x ∷ xs) ys h = All-cons (λ t. t ≡ false) x xs (All-head (λ t. t ≡ false) x (xs ++ ys) h) (left_part xs ys (All-tail (λ t. t ≡ false) x (xs ++ ys) h))

right_part : (xs ys : List Bool) → All (λ t. t ≡ false) (xs ++ ys) → All (λ t. t ≡ false) ys
right_part [] ys h = h
right_part (x ∷ xs) ys h = right_part xs ys (All-tail (λ t. t ≡ false) x (xs ++ ys) h)

above_of : (x y : ℕ) (t : Bool) → not (t && nat_lt x y) ≡ false → x < y
above_of x y t h = both t (nat_lt x y) refl h
  where
    both : (t u : Bool) → nat_lt x y ≡ u → not (t && u) ≡ false → x < y
    both true true e h = grind (arith, nat_tests)
    both true false e h = cc
    both false u e h = cc

nevers_above : (x : ℕ) (cs : List Never) → All (λ t. t ≡ false) (never_flaws (Some x) cs) → All (λ (d : Never). x < d.at) cs
nevers_above x [] h = All-nil (λ (d : Never). x < d.at)
nevers_above x (c ∷ cs) h =
    let lt = above_of x c.at (is_aligned c.at) (All-head (λ t. t ≡ false) _ (never_flaws (Some c.at) cs) h) in
    All-cons (λ (d : Never). x < d.at) c cs lt (later cs (nevers_above c.at cs (All-tail (λ t. t ≡ false) _ (never_flaws (Some c.at) cs) h)) lt)
  where
    later : (ds : List Never) → All (λ (d : Never). c.at < d.at) ds → x < c.at → All (λ (d : Never). x < d.at) ds
    later [] k lt = All-nil (λ (d : Never). x < d.at)
    later (d ∷ ds) k lt = All-cons (λ (e : Never). x < e.at) d ds (let m = All-head (λ (e : Never). c.at < e.at) d ds k in omega (arith, m, lt)) (later ds (All-tail (λ (e : Never). c.at < e.at) d ds k) lt)

nevers_ascend : (o : Option ℕ) (cs : List Never) → All (λ t. t ≡ false) (never_flaws o cs) → NeversAscend cs
nevers_ascend o [] h = tt
nevers_ascend o (c ∷ cs) h = let t = All-tail (λ t. t ≡ false) _ (never_flaws (Some c.at) cs) h in (nevers_above c.at cs t, nevers_ascend (Some c.at) cs t)

sound_nevers : (c : Claims) → AreSound c → NeversAscend c.nevers
sound_nevers c h = nevers_ascend None c.nevers (left_part (never_flaws None c.nevers) (region_flaws None c.regions ++ (loop_flaws None c.loops ++ fact_flaws c.facts))
    (right_part (exit_flaws None c.exits) (never_flaws None c.nevers ++ (region_flaws None c.regions ++ (loop_flaws None c.loops ++ fact_flaws c.facts))) h))

-- ---- shapes

pub shape_for : (cs : List LoopClaim) (ls : List LoopShape) (c : LoopClaim) → AreShapesOf cs ls → Contains cs c → (l : LoopShape) × Contains ls l × (l.header ≡ c.header) × (l.back ≡ c.back)
shape_for [] ls c h (i, lt, e) = absurd (omega (arith, lt))
shape_for (x ∷ cs) [] c h i = absurd h
shape_for (x ∷ cs) (l ∷ ls) c h (zero, lt, e) = (l, (zero, omega arith, refl), h.0 ∙ ap (λ (y : LoopClaim). y.header) e, h.1 ∙ ap (λ (y : LoopClaim). y.back) e)
shape_for (x ∷ cs) (l ∷ ls) c h (suc i, lt, e) = later (shape_for cs ls c h.2 (i, omega (arith, lt), e))
  where
    later : ((k : LoopShape) × Contains ls k × (k.header ≡ c.header) × (k.back ≡ c.back)) → (k : LoopShape) × Contains (l ∷ ls) k × (k.header ≡ c.header) × (k.back ≡ c.back)
    later r = (r.0, (suc r.1.0, (let j = r.1.1 in omega (arith, j)), r.1.2), r.2, r.3)

abbrev pub first_of : List ℕ → ℕ
first_of [] = 0
first_of (d ∷ ds) = d

size_two : (p : ℕ → ℤ) (n : ℕ) (to back : Option ℕ) → ((d : ℕ) → Contains (option_to_list to ++ option_to_list back) d → unsigned_abs (p d) ≤ n) → size_by p (option_to_list to ++ option_to_list back) ≤ n + n
size_two p n None None h = omega arith
size_two p n None (Some b) h = let k = h b (zero, omega arith, refl) in omega (arith, k)
size_two p n (Some t) None h = let k = h t (zero, omega arith, refl) in omega (arith, k)
size_two p n (Some t) (Some b) h = let k = h t (zero, omega arith, refl) in let j = h b (suc zero, omega arith, refl) in omega (arith, k, j)

sum_size : (p : ℕ → ℤ) (ds : List ℕ) → unsigned_abs (int_sum_by p ds) ≤ size_by p ds
sum_size p [] = omega arith
sum_size p (d ∷ ds) = let r = sum_size p ds in let s = size-add (p d) (int_sum_by p ds) in omega (arith, r, s)

size_larger : (n : ℕ) (x y : ℤ) → unsigned_abs x ≤ n → unsigned_abs y ≤ n → unsigned_abs (larger x y) ≤ n
size_larger n x y h k = by_test (int_le x y)
  where
    by_test : (t : Bool) → unsigned_abs (cond t y x) ≤ n
    by_test true = k
    by_test false = h

-- ---- one pair for each claim

dealt_long : (all : List Move) (p : Span) (ls : List LoopShape) (known new : List Pair) → length known ≡ length ls → length (dealt all p ls known new) ≡ length ls
dealt_long all p [] known new h = refl
dealt_long all p (l ∷ ls) [] new h = absurd (omega (arith, h))
dealt_long all p (l ∷ ls) (k ∷ known) [] h = ap suc (dealt_long all p ls known [] (omega (arith, h)))
dealt_long all p (l ∷ ls) (k ∷ known) (x ∷ new) h = by_test (in_span p l.header && has_moves all l.header) (dealt_long all p ls known new (omega (arith, h))) (dealt_long all p ls known (x ∷ new) (omega (arith, h)))
  where
    by_test : (t : Bool) → length (dealt all p ls known new) ≡ length ls → length (dealt all p ls known (x ∷ new)) ≡ length ls → length (cond t (x ∷ dealt all p ls known new) (k ∷ dealt all p ls known (x ∷ new))) ≡ suc (length ls)
    by_test true e f = ap suc e
    by_test false e f = ap suc f

pairs_long : (s : System) (ls : List LoopShape) (q : Prices) (v : Level) (ps : List Span) (known : List Pair) → length known ≡ length ls → length (pairs_from s ls q v ps known) ≡ length ls
pairs_long s ls q v [] known h = h
pairs_long s ls q v (p ∷ ps) known h = pairs_long s ls q (function_level s ls q v p) ps (dealt s.moves p ls known (function_pairs s ls q v p)) (dealt_long s.moves p ls known (function_pairs s ls q v p) h)

none_long : (ls : List LoopShape) → length (no_pairs ls) ≡ length ls
none_long [] = refl
none_long (l ∷ ls) = ap suc (none_long ls)

shapes_long : (cs : List LoopClaim) (ls : List LoopShape) → AreShapesOf cs ls → length ls ≡ length cs
shapes_long [] [] h = refl
shapes_long [] (l ∷ ls) h = absurd h
shapes_long (c ∷ cs) [] h = absurd h
shapes_long (c ∷ cs) (l ∷ ls) h = ap suc (shapes_long cs ls h.2)

module _ (s : System) (ls : List LoopShape) (ps : List Span) (q : Prices) (price : Move → ℤ) (most : ℤ) (starts n : ℕ) (b : IsBounded s ls ps q price most starts) (enough : IsEnough s q most starts (pos n)) (fits : n < 2 ^ 124) where
  negative : q.low ≤ℤ pos 0
  negative = let a = b.apart in let p = b.positive in omega (arith, ints)

  -- the size is enough for what worths reach, for a block and for the bound
  pub sizes : (reach (loop_step q most starts) most (length s.claims.loops) ≤ℤ pos n) × (neg_ℤ (pos n) ≤ℤ q.low) × (most ≤ℤ pos n)
  sizes =
      let r = reach_least (loop_step q most starts) most (length s.claims.loops) (let a = negative in let p = b.positive in omega (arith, ints)) in
      let e = enough in let p = b.positive in let a = negative in (omega (arith, ints), omega (arith, ints), omega (arith, ints))

  worth_small : (a : ℕ) → unsigned_abs (worth_at (final_level s ls ps q).worths a) ≤ n
  worth_small a =
      let w = worths_bounded s ls ps q price most starts b a in
      let w0 = w.0 in let w1 = w.1 in let z = sizes in let z0 = z.0 in let z1 = z.1 in
      size_within n (worth_at (final_level s ls ps q).worths a) (omega (arith, ints)) (omega (arith, ints))

  potential_small : (a : ℕ) → has_moves s.moves a ≡ true → unsigned_abs (coefficient (potentials_of s.moves (final_level s ls ps q).worths s.moves) a) ≤ n
  potential_small a there = let e = potential_at s b.whole.system (final_level s ls ps q).worths a there in rw e (worth_small (place_of s.moves a))

  -- a move alone is a loose flow from its address
  price_small : (m : Move) → Contains s.moves m → unsigned_abs (q.of m) ≤ n
  price_small m im =
      let u = All-contains (λ m. IsUpTo (q.of m) (price m)) s.moves m b.prices im in
      let u0 = u.0 in let u1 = u.1 in
      let t = back_total s ps b.whole.system.ascending m im 1 price in
      let o : pos 1 *ℤ price m ≡ price m = omega (arith, ints) in
      let f = flow_below s ls ps b.whole price (prices s ls ps q price most starts b) most b.positive b.totals (place_of s.moves m.at) (price m) (inr (record {
        at = m.at;
        there = has_of s.moves m im;
        place = refl;
        flow = record { amounts = times 1 (once m); part = back_part s ps b.whole.system.ascending m im 1 (omega arith) (inl refl) (λ c i e. least_turns c); value = omega (arith, ints) };
      })) in
      let z = sizes in let z2 = z.2 in
      size_within n (q.of m) (omega (arith, ints)) (omega (arith, ints))

  pub dealt_sized : AreDealt (IsSizedDeal n) s.claims.loops ls (final_pairs s ls ps q)
  dealt_sized = all_dealt s ls q n (blank (length s.moves) q.low) ps b.whole.fits.shapes (all_fit s ls ps q price most starts (pos n) b enough (let f = fits in omega (arith, ints, f))).1

  -- a move's address touches two loops at most
  pub touches : (m : Move) → Contains s.moves m → touching s.claims.loops m.at ≤ 2
  touches m im = two_touch s.claims.loops m.at (first_of (destinations m)) (sound_ascend s.claims b.whole.system.sound)
      (λ c i e.
      let k = shape_for s.claims.loops ls c b.whole.fits.shapes i in
      let goes = All-contains (λ (x : Move). x.at ≡ k.0.back → destinations x ≡ k.0.header ∷ []) s.moves m (All-contains (IsLoop s) ls k.0 b.whole.fits.loops k.1).goes_back im (sym (k.3 ∙ e)) in
      sym (ap first_of goes ∙ k.2))

  arrive_small : (m : Move) → Contains s.moves m → size_by (coefficient (potentials_of s.moves (final_level s ls ps q).worths s.moves)) (destinations m) ≤ n + n
  arrive_small m im = size_two (coefficient (potentials_of s.moves (final_level s ls ps q).worths s.moves)) n m.to m.behind (λ d i. potential_small d (closed s ls ps b.whole price m d im i))

  -- what is left of a move's price
  owed_small : (m : Move) → Contains s.moves m → unsigned_abs (owed q.of (coefficient (potentials_of s.moves (final_level s ls ps q).worths s.moves)) (loop_limits s.claims.loops (both_of (final_pairs s ls ps q))) m) ≤ 8 * n
  owed_small m im =
      let pr = price_small m im in
      let at = potential_small m.at (has_of s.moves m im) in
      let to = arrive_small m im in
      let su = sum_size (coefficient (potentials_of s.moves (final_level s ls ps q).worths s.moves)) (destinations m) in
      let he = held_size (loop_limits s.claims.loops (both_of (final_pairs s ls ps q))) m.at in
      let pa = pairs_size n s.claims.loops ls (final_pairs s ls ps q) m.at dealt_sized in
      let tw = touches m im in
      let tn = twice (touching s.claims.loops m.at) tw in
      all_parts (q.of m) (coefficient (potentials_of s.moves (final_level s ls ps q).worths s.moves) m.at) (int_sum_by (coefficient (potentials_of s.moves (final_level s ls ps q).worths s.moves)) (destinations m)) (held (loop_limits s.claims.loops (both_of (final_pairs s ls ps q))) m.at) pr at (omega (arith, su, to)) (omega (arith, he, pa, tn))
    where
      twice : (k : ℕ) → k ≤ 2 → k * (n + n) ≤ 4 * n
      twice zero h = omega arith
      twice (suc zero) h = omega arith
      twice (suc (suc zero)) h = omega arith
      twice (suc (suc (suc k))) h = absurd (omega (arith, h))

      all_parts : (x y z w : ℤ) → unsigned_abs x ≤ n → unsigned_abs y ≤ n → unsigned_abs z ≤ n + n → unsigned_abs w ≤ 4 * n → unsigned_abs (x -ℤ ((y -ℤ z) +ℤ w)) ≤ 8 * n
      all_parts x y z w hx hy hz hw =
          let e : (x -ℤ ((y -ℤ z) +ℤ w)) ≡ ((x +ℤ neg_ℤ y) +ℤ (z +ℤ neg_ℤ w)) = omega (arith, ints) in
          let a = size-add (x +ℤ neg_ℤ y) (z +ℤ neg_ℤ w) in
          let c = size-add x (neg_ℤ y) in let d = size-add z (neg_ℤ w) in
          let f = size-neg y in let g = size-neg w in
          rw e (omega (arith, a, c, d, f, g, hx, hy, hz, hw))

  owe_small : (a : ℕ) → unsigned_abs (owe_of s q.of (values_of s ls ps q) a) ≤ 8 * n
  owe_small a = some s.moves (λ m i. i)
    where
      some : (ms : List Move) → ((m : Move) → Contains ms m → Contains s.moves m) → unsigned_abs (most_owed q.of (coefficient (potentials_of s.moves (final_level s ls ps q).worths s.moves)) (loop_limits s.claims.loops (both_of (final_pairs s ls ps q))) ms a) ≤ 8 * n
      some [] i = omega arith
      some (m ∷ ms) i = by_test (m.at == a) (some ms (λ x j. i x (suc j.0, (let k = j.1 in omega (arith, k)), j.2)))
        where
          by_test : (t : Bool) → unsigned_abs (most_owed q.of (coefficient (potentials_of s.moves (final_level s ls ps q).worths s.moves)) (loop_limits s.claims.loops (both_of (final_pairs s ls ps q))) ms a) ≤ 8 * n →
              unsigned_abs (cond t (larger (owed q.of (coefficient (potentials_of s.moves (final_level s ls ps q).worths s.moves)) (loop_limits s.claims.loops (both_of (final_pairs s ls ps q))) m) (most_owed q.of (coefficient (potentials_of s.moves (final_level s ls ps q).worths s.moves)) (loop_limits s.claims.loops (both_of (final_pairs s ls ps q))) ms a)) (most_owed q.of (coefficient (potentials_of s.moves (final_level s ls ps q).worths s.moves)) (loop_limits s.claims.loops (both_of (final_pairs s ls ps q))) ms a)) ≤ 8 * n
          by_test true r = size_larger (8 * n) (owed q.of (coefficient (potentials_of s.moves (final_level s ls ps q).worths s.moves)) (loop_limits s.claims.loops (both_of (final_pairs s ls ps q))) m) (most_owed q.of (coefficient (potentials_of s.moves (final_level s ls ps q).worths s.moves)) (loop_limits s.claims.loops (both_of (final_pairs s ls ps q))) ms a) (owed_small m (i m (zero, omega arith, refl))) r
          by_test false r = r

  -- the terms of a row
  pub row_small : (m : Move) → Contains s.moves m → row_size q.of (coefficient (potentials_of s.moves (final_level s ls ps q).worths s.moves)) (dual_of s q.of (values_of s ls ps q)).limits m ≤ 32 * n
  row_small m im =
      let pr = price_small m im in
      let at = potential_small m.at (has_of s.moves m im) in
      let to = arrive_small m im in
      let ap = size-append (λ (l : Limit). l.by *ℤ coefficient l.terms m.at) (never_limits s.claims.nevers (never_bounds (owe_of s q.of (values_of s ls ps q)) s.claims.nevers)) (loop_limits s.claims.loops (loop_bounds (owe_of s q.of (values_of s ls ps q)) s.claims.loops (final_pairs s ls ps q))) in
      let ne = nevers_size (8 * n) (owe_of s q.of (values_of s ls ps q)) s.claims.nevers m.at owe_small (sound_nevers s.claims b.whole.system.sound) in
      let lo = loops_size n (8 * n) (owe_of s q.of (values_of s ls ps q)) s.claims.loops ls (final_pairs s ls ps q) m.at owe_small dealt_sized in
      let tn = twice (touching s.claims.loops m.at) (touches m im) in omega (arith, pr, at, to, ap, ne, lo, tn)
    where
      twice : (k : ℕ) → k ≤ 2 → k * ((n + n) + 8 * n) ≤ 20 * n
      twice zero h = omega arith
      twice (suc zero) h = omega arith
      twice (suc (suc zero)) h = omega arith
      twice (suc (suc (suc k))) h = absurd (omega (arith, h))

  -- and beside the multipliers of loops alone
  pub plain_small : (m : Move) → Contains s.moves m → row_size q.of (coefficient (potentials_of s.moves (final_level s ls ps q).worths s.moves)) (loop_limits s.claims.loops (both_of (final_pairs s ls ps q))) m ≤ 32 * n
  plain_small m im =
      let pr = price_small m im in
      let at = potential_small m.at (has_of s.moves m im) in
      let to = arrive_small m im in
      let pa = pairs_size n s.claims.loops ls (final_pairs s ls ps q) m.at dealt_sized in
      let tn = twice (touching s.claims.loops m.at) (touches m im) in omega (arith, pr, at, to, pa, tn)
    where
      twice : (k : ℕ) → k ≤ 2 → k * (n + n) ≤ 4 * n
      twice zero h = omega arith
      twice (suc zero) h = omega arith
      twice (suc (suc zero)) h = omega arith
      twice (suc (suc (suc k))) h = absurd (omega (arith, h))

  pub pairs_small : (cs : List LoopClaim) (ks : List LoopShape) (us : List Pair) → length us ≡ length cs → AreDealt (IsSizedDeal n) cs ks us → All (λ p. (unsigned_abs p.least ≤ n) × (unsigned_abs p.most ≤ n)) us
  pairs_small [] ks [] long h = All-nil (λ p. (unsigned_abs p.least ≤ n) × (unsigned_abs p.most ≤ n))
  pairs_small [] ks (u ∷ us) long h = absurd (omega (arith, long))
  pairs_small (c ∷ cs) ks [] long h = absurd (omega (arith, long))
  pairs_small (c ∷ cs) [] (u ∷ us) long h = absurd h
  pairs_small (c ∷ cs) (l ∷ ks) (u ∷ us) long h =
      All-cons (λ p. (unsigned_abs p.least ≤ n) × (unsigned_abs p.most ≤ n)) u us (h.0.least, h.0.most) (pairs_small cs ks us (omega (arith, long)) h.1)

  pub potentials_small : (ms : List Move) → All (λ t. unsigned_abs t.1 ≤ n) (potentials_of s.moves (final_level s ls ps q).worths ms)
  potentials_small [] = All-nil (λ t. unsigned_abs t.1 ≤ n)
  potentials_small (m ∷ ms) = by_test (m.number == 0) (potentials_small ms)
    where
      by_test : (t : Bool) → All (λ t. unsigned_abs t.1 ≤ n) (potentials_of s.moves (final_level s ls ps q).worths ms) → All (λ t. unsigned_abs t.1 ≤ n) (cond t ((m.at, worth_at (final_level s ls ps q).worths (place_of s.moves m.at)) ∷ potentials_of s.moves (final_level s ls ps q).worths ms) (potentials_of s.moves (final_level s ls ps q).worths ms))
      by_test true r = All-cons (λ t. unsigned_abs t.1 ≤ n) (m.at, worth_at (final_level s ls ps q).worths (place_of s.moves m.at)) (potentials_of s.moves (final_level s ls ps q).worths ms) (worth_small (place_of s.moves m.at)) r
      by_test false r = r

  pub long : length (final_pairs s ls ps q) ≡ length s.claims.loops
  long = pairs_long s ls q (blank (length s.moves) q.low) ps (no_pairs ls) (none_long ls) ∙ shapes_long s.claims.loops ls b.whole.fits.shapes
