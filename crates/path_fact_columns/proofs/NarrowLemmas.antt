-- What facts make of added flows is narrow: no number of a fact is negative, so that sizes are totals.
use Rattle.std.proofs.Common.{◌≡◌, ℕ, ◌+◌, ◌*◌, ◌≤◌, ◌^◌, ℤ, pos, neg_ℤ, ◌+ℤ◌, ◌*ℤ◌, ◌≤ℤ◌, ◌<ℤ◌, arith, refl, sym, ap, subst, List, [], ◌∷◌, ◌++◌, All, unsigned_abs}
use lib.IntN.{negsuc}
use Rattle.std.proofs.lemmas.Int.{ints}
use Rattle.std.proofs.lemmas.List.Elements.{All-head, All-tail, All-cons, All-nil, All-append}
use Rattle.frac128.specs.Terms.{Terms, int_sum_by, applied}
use Rattle.frac128.proofs.SignedLemmas.{mul-add, neg-mul, mul-le, mul_at_least}
use Rattle.code_flow_system.specs.declared.claims.FactClaim.{FactClaim}
use Rattle.code_flow_system.specs.declared.moves.Move.{Move}
use Rattle.code_flow_system.specs.Claims.{Claims}
use Rattle.code_flow_system.specs.Counts.{count}
use Rattle.code_flow_system.specs.declared.cert.Cert.{Cert}
use Rattle.code_flow_system.specs.Certificates.{Limit, negated, never_limits, loop_limits, fact_limits, limits, size_by, IsNarrow}
use Rattle.path_ranges.specs.Narrow.{HasShortBounds}
use Rattle.path_ranges.proofs.NarrowLemmas.{narrow_limits}
use Rattle.path_conditions.specs.Natural.{AreNatural, IsNaturalFact, both_totals}
use Rattle.path_fact_kinds.specs.Mixes.{Share, mix, often}
use Rattle.path_fact_kinds.proofs.MixLemmas.{applied-mix}

-- ---- totals of added flows

module _ (ms : List Move) (f : FactClaim) where
  both-mix : (hs : List Share) → both_totals f (count (mix hs) ms) ≡ int_sum_by (λ h. pos h.often *ℤ both_totals f (count h.flow ms)) hs
  both-mix hs =
      let l = applied-mix ms f.left hs in
      let r = applied-mix ms f.right hs in
      let s = sums hs in omega (arith, ints)
    where
      sums : (hs : List Share) → int_sum_by (λ h. pos h.often *ℤ both_totals f (count h.flow ms)) hs ≡ int_sum_by (λ h. pos h.often *ℤ applied f.left (count h.flow ms)) hs +ℤ int_sum_by (λ h. pos h.often *ℤ applied f.right (count h.flow ms)) hs
      sums [] = omega (arith, ints)
      sums (h ∷ hs) =
          let r = sums hs in
          let e = mul-add (pos h.often) (applied f.left (count h.flow ms)) (applied f.right (count h.flow ms)) in omega (arith, ints)

  sum_most : (k : ℕ) (hs : List Share) → All (λ h. both_totals f (count h.flow ms) ≤ℤ pos k) hs → int_sum_by (λ h. pos h.often *ℤ both_totals f (count h.flow ms)) hs ≤ℤ pos (often hs * k)
  sum_most k [] a = omega (arith, ints)
  sum_most k (h ∷ hs) a =
      let r = sum_most k hs (All-tail (λ h. both_totals f (count h.flow ms) ≤ℤ pos k) h hs a) in
      let e = mul-le h.often (both_totals f (count h.flow ms)) (pos k) (All-head (λ h. both_totals f (count h.flow ms) ≤ℤ pos k) h hs a) in
      let p : pos h.often *ℤ pos k ≡ pos (h.often * k) = omega (arith, ints) in
      let q : (h.often + often hs) * k ≡ h.often * k + often hs * k = omega arith in
      added (h.often * k) (often hs * k) ((h.often + often hs) * k) q (subst (λ (z : ℤ). (pos h.often *ℤ both_totals f (count h.flow ms)) ≤ℤ z) p e) r
    where
      added : (a b c : ℕ) → c ≡ a + b → {y z : ℤ} → y ≤ℤ pos a → z ≤ℤ pos b → (y +ℤ z) ≤ℤ pos c
      added a b c e g h = omega (arith, ints)

  pub totals_below : (k : ℕ) (hs : List Share) → All (λ h. both_totals f (count h.flow ms) ≤ℤ pos k) hs → both_totals f (count (mix hs) ms) ≤ℤ pos (often hs * k)
  totals_below k hs a = subst (λ (z : ℤ). z ≤ℤ pos (often hs * k)) (sym (both-mix hs)) (sum_most k hs a)

-- ---- sizes of terms

module _ (n : ℕ → ℤ) (least : (a : ℕ) → pos 0 ≤ℤ n a) where
  abs_is : (z : ℤ) → pos 0 ≤ℤ z → pos (unsigned_abs z) ≡ z
  abs_is (pos k) h = refl
  abs_is (negsuc k) h = absurd (omega (arith, ints))

  abs_negated : (z : ℤ) → pos 0 ≤ℤ z → pos (unsigned_abs (neg_ℤ z)) ≡ z
  abs_negated z h = omega (arith, ints)

  sized : (ts : Terms) → AreNatural ts → pos (size_by (λ t. t.1 *ℤ n t.0) ts) ≡ applied ts n
  sized [] h = refl
  sized (t ∷ ts) h =
      let r = sized ts (All-tail (λ u. pos 0 ≤ℤ u.1) t ts h) in
      let e = abs_is (t.1 *ℤ n t.0) (mul_at_least t.1 (n t.0) (All-head (λ u. pos 0 ≤ℤ u.1) t ts h) (least t.0)) in omega (arith, ints)

  sized_negated : (ts : Terms) → AreNatural ts → pos (size_by (λ t. t.1 *ℤ n t.0) (negated ts)) ≡ applied ts n
  sized_negated [] h = refl
  sized_negated (t ∷ ts) h =
      let r = sized_negated ts (All-tail (λ u. pos 0 ≤ℤ u.1) t ts h) in
      let e = abs_negated (t.1 *ℤ n t.0) (mul_at_least t.1 (n t.0) (All-head (λ u. pos 0 ≤ℤ u.1) t ts h) (least t.0)) in
      let f = ap (λ (z : ℤ). pos (unsigned_abs z)) (neg-mul t.1 (n t.0)) in omega (arith, ints)

  size-append : (ts us : Terms) → size_by (λ t. t.1 *ℤ n t.0) (ts ++ us) ≡ size_by (λ t. t.1 *ℤ n t.0) ts + size_by (λ t. t.1 *ℤ n t.0) us
  size-append [] us = omega arith
  size-append (t ∷ ts) us = let r = size-append ts us in omega (arith, r)

  fact_narrow : (f : FactClaim) → IsNaturalFact f → both_totals f n ≤ℤ pos (2 ^ 110) → IsNarrow (size_by (λ t. t.1 *ℤ n t.0) (f.left ++ negated f.right))
  fact_narrow f h lt =
      let a = sized f.left h.0 in
      let b = sized_negated f.right h.1 in
      below (size_by (λ t. t.1 *ℤ n t.0) f.left) (size_by (λ t. t.1 *ℤ n t.0) (negated f.right)) (size_by (λ t. t.1 *ℤ n t.0) (f.left ++ negated f.right)) (size-append f.left (negated f.right)) (omega (arith, ints))
    where
      below : (x y z : ℕ) → z ≡ x + y → (pos x +ℤ pos y) ≤ℤ pos (2 ^ 110) → IsNarrow z
      below x y z e h = let k : x + y ≤ 2 ^ 110 = omega (arith, ints) in omega (arith, k, e)

  facts_narrow : (fs : List FactClaim) (ys : List ℤ) → All IsNaturalFact fs → All (λ f. both_totals f n ≤ℤ pos (2 ^ 110)) fs → All (λ l. IsNarrow (size_by (λ t. t.1 *ℤ n t.0) l.terms)) (fact_limits fs ys)
  facts_narrow [] ys g h = All-nil (λ l. IsNarrow (size_by (λ t. t.1 *ℤ n t.0) l.terms))
  facts_narrow (f ∷ fs) [] g h = All-nil (λ l. IsNarrow (size_by (λ t. t.1 *ℤ n t.0) l.terms))
  facts_narrow (f ∷ fs) (y ∷ ys) g h =
      All-cons (λ l. IsNarrow (size_by (λ t. t.1 *ℤ n t.0) l.terms)) (record { terms = f.left ++ negated f.right; op = f.op; by = y }) (fact_limits fs ys)
      (fact_narrow f (All-head IsNaturalFact f fs g) (All-head (λ f. both_totals f n ≤ℤ pos (2 ^ 110)) f fs h)) (facts_narrow fs ys (All-tail IsNaturalFact f fs g) (All-tail (λ f. both_totals f n ≤ℤ pos (2 ^ 110)) f fs h))

limits_assoc : (xs zs us : List Limit) → (xs ++ zs) ++ us ≡ xs ++ (zs ++ us)
limits_assoc [] zs us = refl
limits_assoc (x ∷ xs) zs us = ap (λ (ks : List Limit). x ∷ ks) (limits_assoc xs zs us)

pub limits_narrow : (n : ℕ → ℤ) (claims : Claims) (c : Cert) (most : ℕ) → most ≤ 2 ^ 93 → ((a : ℕ) → (pos 0 ≤ℤ n a) × (n a <ℤ pos most)) → All HasShortBounds claims.loops → All IsNaturalFact claims.facts → All (λ f. both_totals f n ≤ℤ pos (2 ^ 110)) claims.facts → All (λ l. IsNarrow (size_by (λ t. t.1 *ℤ n t.0) l.terms)) (limits claims c)
limits_narrow n claims c most up small short natural facts =
    subst (λ (js : List Limit). All (λ l. IsNarrow (size_by (λ t. t.1 *ℤ n t.0) l.terms)) js) (limits_assoc (never_limits claims.nevers c.nevers) (loop_limits claims.loops c.loops) (fact_limits claims.facts c.facts))
    (All-append (λ l. IsNarrow (size_by (λ t. t.1 *ℤ n t.0) l.terms)) (never_limits claims.nevers c.nevers ++ loop_limits claims.loops c.loops) (fact_limits claims.facts c.facts)
    (narrow_limits claims short most up n small c.nevers c.loops)
    (facts_narrow n (λ a. (small a).0) claims.facts c.facts natural facts))
