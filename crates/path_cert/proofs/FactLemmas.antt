-- The bounds of walks that pay for facts.
use Rattle.std.proofs.Common.{◌≡◌, ℕ, zero, suc, ◌+◌, ◌*◌, ◌^◌, ◌≤◌, ◌<◌, ℤ, pos, neg_ℤ, ◌+ℤ◌, ◌-ℤ◌, ◌*ℤ◌, ◌≤ℤ◌, ◌<ℤ◌, arith, refl, sym, ap, ◌∙◌, List, [], ◌∷◌, ◌++◌, length, All, inl, inr, Bool, true, false, cond, unsigned_abs}
use lib.IntN.{negsuc, *ℤ-zero}
use Rattle.std.specs.Prelude.{◌==◌}
use Rattle.std.proofs.lemmas.Int.{ints, unsigned_abs-mul}
use Rattle.std.proofs.lemmas.Bool.Decides.{eqb_tells}
use Rattle.std.proofs.lemmas.List.Elements.{All-head, All-tail, All-cons, All-nil}
use Rattle.frac128.specs.Terms.{Terms, coefficient, applied}
use Rattle.frac128.proofs.SignedLemmas.{mul-add, add-mul, mul-mul_swap, mul-le}
use Rattle.frac128.proofs.TermsLemmas.{coefficient-append, applied-coefficient}
use Rattle.rv_core.specs.Table.{Table}
use Rattle.code_flow_system.specs.declared.claims.FactClaim.{FactClaim}
use Rattle.code_flow_system.specs.declared.claims.LoopClaim.{LoopClaim}
use Rattle.code_flow_system.specs.declared.moves.Move.{Move}
use Rattle.code_flow_system.specs.declared.shapes.LoopShape.{LoopShape}
use Rattle.code_flow_system.specs.declared.shapes.Span.{Span}
use Rattle.code_flow_system.specs.MoveCosts.{move_cost}
use Rattle.code_flow_system.specs.Systems.{System}
use Rattle.code_flow_system.specs.Counts.{Amounts, amount, departures, count, total}
use Rattle.code_flow_system.specs.Flows.{price, value}
use Rattle.code_flow_system.specs.Certificates.{Limit, negated, fact_limits, size_by}
use Rattle.loop_ranges.specs.Reach.{reach}
use Rattle.path_ranges.specs.LooseLaws.{LooseTotalsBelow}
use Rattle.path_ranges.specs.Bounded.{StartsBelow}
use Rattle.path_ranges.specs.Limits.{IsLoopWithin}
use Rattle.path_cert.specs.Priced.{fact_size, sizes_of, fact_most}
use Rattle.path_conditions.specs.Natural.{AreNatural, IsNaturalFact, both_totals}
use Rattle.path_cert.specs.Facts.{IsFactBounded, FactsAreBounded, FactNumbersFit}
use Rattle.path_conditions.specs.Walking.{IsFactLimited}
use Rattle.path_cert.proofs.RangeLemmas.{sizes_cover_prices}

-- ---- the size of a fact's terms at an address

natural_at : (ts : Terms) (a : ℕ) → AreNatural ts → pos 0 ≤ℤ coefficient ts a
natural_at [] a h = omega (arith, ints)
natural_at (t ∷ ts) a h = by_test (t.0 == a) (natural_at ts a (All-tail (λ u. pos 0 ≤ℤ u.1) t ts h)) (All-head (λ u. pos 0 ≤ℤ u.1) t ts h)
  where
    by_test : (b : Bool) → pos 0 ≤ℤ coefficient ts a → pos 0 ≤ℤ t.1 → pos 0 ≤ℤ (cond b t.1 (pos 0) +ℤ coefficient ts a)
    by_test true r k = omega (arith, ints)
    by_test false r k = omega (arith, ints)

negated_at : (ts : Terms) (a : ℕ) → coefficient (negated ts) a ≡ neg_ℤ (coefficient ts a)
negated_at [] a = refl
negated_at (t ∷ ts) a = by_test (t.0 == a) (negated_at ts a)
  where
    by_test : (b : Bool) → coefficient (negated ts) a ≡ neg_ℤ (coefficient ts a) → (cond b (neg_ℤ t.1) (pos 0) +ℤ coefficient (negated ts) a) ≡ neg_ℤ (cond b t.1 (pos 0) +ℤ coefficient ts a)
    by_test true r = omega (arith, ints)
    by_test false r = omega (arith, ints)

size_apart : (x y : ℤ) → pos 0 ≤ℤ x → pos 0 ≤ℤ y → pos (unsigned_abs (x +ℤ neg_ℤ y)) ≤ℤ (x +ℤ y)
size_apart x y h k = by_sign (x +ℤ neg_ℤ y) refl
  where
    by_sign : (z : ℤ) → x +ℤ neg_ℤ y ≡ z → pos (unsigned_abs z) ≤ℤ (x +ℤ y)
    by_sign (pos n) e = omega (arith, ints)
    by_sign (negsuc n) e = omega (arith, ints)

term_size : (c : FactClaim) (y : ℤ) (a : ℕ) → IsNaturalFact c → pos (unsigned_abs (y *ℤ coefficient (c.left ++ negated c.right) a)) ≤ℤ (pos (unsigned_abs y) *ℤ (coefficient c.left a +ℤ coefficient c.right a))
term_size c y a h =
    let e = coefficient-append c.left (negated c.right) a in
    let f = negated_at c.right a in
    let g : coefficient (c.left ++ negated c.right) a ≡ (coefficient c.left a +ℤ neg_ℤ (coefficient c.right a)) = omega (arith, ints) in
    let k = size_apart (coefficient c.left a) (coefficient c.right a) (natural_at c.left a h.0) (natural_at c.right a h.1) in
    let u = ap (λ (z : ℤ). pos (unsigned_abs z)) g in
    let m = mul-le (unsigned_abs y) (pos (unsigned_abs (coefficient (c.left ++ negated c.right) a))) (coefficient c.left a +ℤ coefficient c.right a) (omega (arith, ints)) in
    let s = unsigned_abs-mul y (coefficient (c.left ++ negated c.right) a) in
    let p : pos (unsigned_abs (y *ℤ coefficient (c.left ++ negated c.right) a)) ≡ pos (unsigned_abs y) *ℤ pos (unsigned_abs (coefficient (c.left ++ negated c.right) a)) = ap pos s ∙ product (unsigned_abs y) (unsigned_abs (coefficient (c.left ++ negated c.right) a)) in
    omega (arith, ints)
  where
    product : (a b : ℕ) → pos (a * b) ≡ pos a *ℤ pos b
    product a b = omega (arith, ints)

-- and over all moves
abbrev fact_use : FactClaim → ℤ → Amounts → List Move → ℤ
fact_use c y x ms = total (λ m. pos (unsigned_abs (y *ℤ coefficient (c.left ++ negated c.right) m.at))) x ms

one_use : (c : FactClaim) (y : ℤ) (x : Amounts) (ms : List Move) → IsNaturalFact c →
    fact_use c y x ms ≤ℤ (pos (unsigned_abs y) *ℤ (applied (departures x ms) (coefficient c.left) +ℤ applied (departures x ms) (coefficient c.right)))
one_use c y x [] h = let z : pos (unsigned_abs y) *ℤ (pos 0 +ℤ pos 0) ≡ pos 0 = ap (λ (w : ℤ). pos (unsigned_abs y) *ℤ w) none ∙ *ℤ-zero (pos (unsigned_abs y)) in omega (arith, ints)
  where
    none : pos 0 +ℤ pos 0 ≡ pos 0
    none = omega (arith, ints)
one_use c y x (m ∷ ms) h =
    let r = one_use c y x ms h in
    let t = mul-le (x m.at m.number) (pos (unsigned_abs (y *ℤ coefficient (c.left ++ negated c.right) m.at))) (pos (unsigned_abs y) *ℤ (coefficient c.left m.at +ℤ coefficient c.right m.at)) (term_size c y m.at h) in
    let s = mul-mul_swap (amount x m) (pos (unsigned_abs y)) (coefficient c.left m.at +ℤ coefficient c.right m.at) in
    let a = mul-add (amount x m) (coefficient c.left m.at) (coefficient c.right m.at) in
    let b = ap (λ (z : ℤ). pos (unsigned_abs y) *ℤ z) a in
    let d : ((amount x m *ℤ coefficient c.left m.at) +ℤ applied (departures x ms) (coefficient c.left)) +ℤ ((amount x m *ℤ coefficient c.right m.at) +ℤ applied (departures x ms) (coefficient c.right))
    ≡ ((amount x m *ℤ coefficient c.left m.at) +ℤ (amount x m *ℤ coefficient c.right m.at)) +ℤ (applied (departures x ms) (coefficient c.left) +ℤ applied (departures x ms) (coefficient c.right)) = omega (arith, ints) in
    let e = ap (λ (z : ℤ). pos (unsigned_abs y) *ℤ z) d in
    let f = mul-add (pos (unsigned_abs y)) ((amount x m *ℤ coefficient c.left m.at) +ℤ (amount x m *ℤ coefficient c.right m.at)) (applied (departures x ms) (coefficient c.left) +ℤ applied (departures x ms) (coefficient c.right)) in
    omega (arith, ints)

-- of all facts
abbrev all_use : List Limit → Amounts → List Move → ℤ
all_use ks x ms = total (λ m. pos (size_by (λ l. l.by *ℤ coefficient l.terms m.at) ks)) x ms

no_use : (x : Amounts) (ms : List Move) → all_use [] x ms ≡ pos 0
no_use x [] = refl
no_use x (m ∷ ms) = let r = no_use x ms in let z = *ℤ-zero (amount x m) in omega (arith, ints)

split_use : (f g : Move → ℕ) (x : Amounts) (ms : List Move) → total (λ m. pos (f m + g m)) x ms ≡ total (λ m. pos (f m)) x ms +ℤ total (λ m. pos (g m)) x ms
split_use f g x [] = refl
split_use f g x (m ∷ ms) =
    let r = split_use f g x ms in
    let a = mul-add (amount x m) (pos (f m)) (pos (g m)) in
    let b = ap (λ (z : ℤ). amount x m *ℤ z) (both (f m) (g m)) in omega (arith, ints)
  where
    both : (a b : ℕ) → pos (a + b) ≡ pos a +ℤ pos b
    both a b = omega (arith, ints)

facts_use : (cs : List FactClaim) (ys : List ℤ) (x : Amounts) (ms : List Move) → All IsNaturalFact cs → All (λ c. both_totals c (count x ms) ≤ℤ pos (2 ^ 66)) cs → all_use (fact_limits cs ys) x ms ≤ℤ pos (2 ^ 66 * sizes_of ys)
facts_use [] ys x ms h k = let z = no_use x ms in omega (arith, ints)
facts_use (c ∷ cs) [] x ms h k = let z = no_use x ms in omega (arith, ints)
facts_use (c ∷ cs) (y ∷ ys) x ms h k =
    let r = facts_use cs ys x ms (All-tail IsNaturalFact c cs h) (All-tail (λ c. both_totals c (count x ms) ≤ℤ pos (2 ^ 66)) c cs k) in
    let o = one_use c y x ms (All-head IsNaturalFact c cs h) in
    let a = applied-coefficient (departures x ms) c.left in
    let b = applied-coefficient (departures x ms) c.right in
    let e : applied (departures x ms) (coefficient c.left) +ℤ applied (departures x ms) (coefficient c.right) ≡ both_totals c (count x ms) = ap (λ (z : ℤ). z +ℤ applied (departures x ms) (coefficient c.right)) a ∙ ap (λ (z : ℤ). applied c.left (count x ms) +ℤ z) b in
    let f = ap (λ (z : ℤ). pos (unsigned_abs y) *ℤ z) e in
    let t = mul-le (unsigned_abs y) (both_totals c (count x ms)) (pos (2 ^ 66)) (All-head (λ c. both_totals c (count x ms) ≤ℤ pos (2 ^ 66)) c cs k) in
    let g : pos (unsigned_abs y) *ℤ pos (2 ^ 66) ≡ pos (2 ^ 66 * unsigned_abs y) = product (unsigned_abs y) in
    let d = split_use (λ m. unsigned_abs (y *ℤ coefficient (c.left ++ negated c.right) m.at)) (λ m. size_by (λ l. l.by *ℤ coefficient l.terms m.at) (fact_limits cs ys)) x ms in
    omega (arith, ints)
  where
    product : (a : ℕ) → pos a *ℤ pos (2 ^ 66) ≡ pos (2 ^ 66 * a)
    product a = omega (arith, ints)

scaled_value : (t : Table) (s : System) (scale : ℕ) (x : Amounts) (ms : List Move) → total (λ m. pos (move_cost t s m * scale)) x ms ≡ pos scale *ℤ total (price t s) x ms
scaled_value t s scale x [] = sym (*ℤ-zero (pos scale))
scaled_value t s scale x (m ∷ ms) =
    let r = scaled_value t s scale x ms in
    let e = mul-add (pos scale) (amount x m *ℤ price t s m) (total (price t s) x ms) in
    let f = mul-mul_swap (pos scale) (amount x m) (price t s m) in
    let h = ap (λ (z : ℤ). amount x m *ℤ z) (scaled (move_cost t s m) scale) in omega (arith, ints)
  where
    scaled : (a b : ℕ) → pos (a * b) ≡ pos b *ℤ pos a
    scaled a b = omega (arith, ints)

-- ---- numbers

reach-is : (step bound : ℤ) (k : ℕ) → reach step bound k ≡ bound +ℤ (pos k *ℤ step)
reach-is step bound zero = let z : pos 0 *ℤ step ≡ pos 0 = omega (arith, ints) in omega (arith, ints)
reach-is step bound (suc k) =
    let r = reach-is step (bound +ℤ step) k in
    let s : pos (suc k) ≡ pos k +ℤ pos 1 = omega (arith, ints) in
    let e = add-mul (pos k) (pos 1) step in
    let o : pos 1 *ℤ step ≡ step = omega (arith, ints) in
    let f : pos (suc k) *ℤ step ≡ (pos k +ℤ pos 1) *ℤ step = ap (λ (y : ℤ). y *ℤ step) s in omega (arith, ints)

enough_for : (k most q : ℕ) → (reach (((pos most +ℤ pos most) -ℤ neg_ℤ (pos (4 * most))) +ℤ pos q) (pos most) k +ℤ ((pos most -ℤ (neg_ℤ (pos (4 * most)) +ℤ neg_ℤ (pos (4 * most)))) +ℤ pos q)) ≤ℤ pos (6 * (most * (k + 1)) + 4 * most + q * (k + 1))
enough_for k most q =
    let s : (((pos most +ℤ pos most) -ℤ neg_ℤ (pos (4 * most))) +ℤ pos q) ≡ pos (6 * most + q) = omega (arith, ints) in
    let r = reach-is (((pos most +ℤ pos most) -ℤ neg_ℤ (pos (4 * most))) +ℤ pos q) (pos most) k in
    let e : pos k *ℤ (((pos most +ℤ pos most) -ℤ neg_ℤ (pos (4 * most))) +ℤ pos q) ≡ pos (k * (6 * most + q)) = ap (λ (y : ℤ). pos k *ℤ y) s ∙ product k (6 * most + q) in
    let a : k * (6 * most + q) ≡ 6 * (k * most) + k * q = omega arith in
    let b : 6 * (most * (k + 1)) + 4 * most + q * (k + 1) ≡ 6 * (k * most) + 6 * most + 4 * most + k * q + q = omega arith in
    let c = ap pos a in let d = ap pos b in
    omega (arith, ints)
  where
    product : (a b : ℕ) → pos a *ℤ pos b ≡ pos (a * b)
    product a b = omega (arith, ints)

starts_below : (cs : List LoopClaim) → All IsLoopWithin cs → All (StartsBelow (2 ^ 32)) cs
starts_below [] h = All-nil (StartsBelow (2 ^ 32))
starts_below (c ∷ cs) h = let k = All-head IsLoopWithin c cs h in let m = k.1 in All-cons (StartsBelow (2 ^ 32)) c cs (k.0, omega (arith, m)) (starts_below cs (All-tail IsLoopWithin c cs h))

not_zero : (n : ℕ) → cond (suc n == 0) 1 (suc n) ≡ suc n
not_zero n = elim (eqb_tells (suc n) 0) [ inl e ↦ let e1 = e.1 in absurd (omega (arith, e1)) | inr e ↦ rw e.0 refl ]

at_least_one : (scale : ℕ) → (1 ≤ cond (scale == 0) 1 scale) × (scale ≤ cond (scale == 0) 1 scale)
at_least_one zero = (omega arith, omega arith)
at_least_one (suc n) = let e = not_zero n in (omega (arith, e), omega (arith, e))

module _ (t : Table) (s : System) (ls : List LoopShape) (ps : List Span) (is : IsFactLimited t s ls ps) (scale : ℕ) (ys : List ℤ) where
  totals_below : LooseTotalsBelow s (fact_size t s scale ys) (pos (fact_most scale ys))
  totals_below x loose =
      let a = split_use (λ m. move_cost t s m * scale) (λ m. size_by (λ l. l.by *ℤ coefficient l.terms m.at) (fact_limits s.claims.facts ys)) x s.moves in
      let b = scaled_value t s scale x s.moves in
      let c = facts_use s.claims.facts ys x s.moves is.natural (is.totals x loose) in
      let d = one_unit (value t s x) (2 ^ 60) (is.limited.values 1 x loose) in
      let e = mul-le scale (value t s x) (pos (2 ^ 60)) d in
      let f = product scale (2 ^ 60) in
      let g = scale_most (cond (scale == 0) 1 scale) (at_least_one scale).1 in
      let h = ap pos (powers (cond (scale == 0) 1 scale) (sizes_of ys)) in
      omega (arith, ints)
    where
      one_unit : (z : ℤ) (k : ℕ) → z <ℤ (pos 1 *ℤ pos k) → z ≤ℤ pos k
      one_unit z k h = omega (arith, ints)

      product : (a b : ℕ) → pos a *ℤ pos b ≡ pos (b * a)
      product a b = omega (arith, ints)

      scale_most : (u : ℕ) → scale ≤ u → pos (2 ^ 60 * scale) ≤ℤ pos (2 ^ 60 * u)
      scale_most u h = omega (arith, ints)

      powers : (u v : ℕ) → 2 ^ 60 * u + 2 ^ 66 * v ≡ 2 ^ 60 * u + 2 ^ 66 * v
      powers u v = refl

  positive_most : 1 ≤ fact_most scale ys
  positive_most = let a = (at_least_one scale).0 in above (cond (scale == 0) 1 scale) (2 ^ 66 * sizes_of ys) a
    where
      above : (u v : ℕ) → 1 ≤ u → 1 ≤ 2 ^ 60 * u + v
      above u v h = omega (arith, h)

  pub bounded_at : IsFactBounded t s ls ps scale ys
  bounded_at = record {
    bounded = record {
      whole = is.limited.whole;
      prices = sizes_cover_prices t s scale ys;
      positive = natural (fact_most scale ys);
      totals = totals_below;
      apart = below_one (fact_most scale ys) positive_most;
      loops = starts_below s.claims.loops is.limited.loops;
    };
    far = below_three (fact_most scale ys) positive_most;
    enough = enough_for (length s.claims.loops) (fact_most scale ys) (2 ^ 32);
  }
    where
      natural : (k : ℕ) → pos 0 ≤ℤ pos k
      natural k = omega (arith, ints)

      below_one : (k : ℕ) → 1 ≤ k → (pos k +ℤ neg_ℤ (pos (4 * k))) <ℤ pos 0
      below_one k h = omega (arith, ints, h)

      below_three : (k : ℕ) → 1 ≤ k → ((pos k +ℤ (pos k +ℤ pos k)) +ℤ neg_ℤ (pos (4 * k))) <ℤ pos 0
      below_three k h = omega (arith, ints, h)

pub facts_bounded : (t : Table) (s : System) (ls : List LoopShape) (ps : List Span) → FactsAreBounded t s ls ps
facts_bounded t s ls ps is scale ys = bounded_at t s ls ps is scale ys

-- ---- ranges

sizes_fit : (n : ℕ) (ys : List ℤ) → All (λ y. unsigned_abs y * n ≤ 2 ^ 44) ys → sizes_of ys * n ≤ length ys * 2 ^ 44
sizes_fit n [] h = omega arith
sizes_fit n (y ∷ ys) h =
    let r = sizes_fit n ys (All-tail (λ y. unsigned_abs y * n ≤ 2 ^ 44) y ys h) in
    let o = All-head (λ y. unsigned_abs y * n ≤ 2 ^ 44) y ys h in
    joined (unsigned_abs y) (sizes_of ys) (length ys) o r
  where
    joined : (a b k : ℕ) → a * n ≤ 2 ^ 44 → b * n ≤ k * 2 ^ 44 → (a + b) * n ≤ suc k * 2 ^ 44
    joined a b k h g = let e : (a + b) * n ≡ a * n + b * n = omega arith in omega (arith, e, h, g)

pub numbers_fit : FactNumbersFit
numbers_fit loops scale ys few small sized many =
    let s = sizes_fit (loops + 1) ys sized in
    let u = scale_small scale small in
    all_fit (cond (scale == 0) 1 scale) (sizes_of ys) (length ys) (loops + 1) u s many (no_less (cond (scale == 0) 1 scale)) (no_less (sizes_of ys)) (omega (arith, few)) (at_least_one scale).0
  where
    no_less : (a : ℕ) → a ≤ a * (loops + 1)
    no_less a = let e : a * (loops + 1) ≡ a * loops + a = omega arith in omega (arith, e)

    scale_small : (scale : ℕ) → scale * (loops + 1) ≤ 2 ^ 44 → cond (scale == 0) 1 scale * (loops + 1) ≤ 2 ^ 44
    scale_small zero h = omega (arith, few)
    scale_small (suc n) h = let e = not_zero n in rw e h

    all_fit : (u v k n : ℕ) → u * n ≤ 2 ^ 44 → v * n ≤ k * 2 ^ 44 → k ≤ 32 → u ≤ u * n → v ≤ v * n → n ≤ 2 ^ 33 → 1 ≤ u → 3 * (6 * ((2 ^ 60 * u + 2 ^ 66 * v) * n) + 4 * (2 ^ 60 * u + 2 ^ 66 * v) + 2 ^ 32 * n) < 2 ^ 120
    all_fit u v k n hu hv hk lu lv hn one =
        let e : (2 ^ 60 * u + 2 ^ 66 * v) * n ≡ 2 ^ 60 * (u * n) + 2 ^ 66 * (v * n) = omega arith in
        rw e (omega (arith, hu, hv, hk, hn, lu, lv))
