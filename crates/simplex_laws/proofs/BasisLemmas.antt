-- Solutions that are given by numbers at a few places.
use Rattle.std.proofs.Common.{◌≡◌, ◌≢◌, ℕ, zero, suc, ◌+◌, ◌*◌, ◌<◌, ℤ, pos, ◌+ℤ◌, ◌*ℤ◌, ◌≤ℤ◌, arith, refl, sym, ap, ◌∙◌, subst, List, [], ◌∷◌, length, inl, inr, ◌⊎◌, true, false}
use Rattle.std.specs.Prelude.{◌==◌, slice_index_or, if◌then◌else◌}
use lib.IntN.{*ℤ_comm}
use Rattle.std.proofs.Math.IntN.{zero-*ℤ}
use Rattle.std.proofs.Math.Nat.{mul_comm, mul_assoc, suc-mul}
use Rattle.std.proofs.lemmas.Int.{ints}
use Rattle.std.proofs.lemmas.Bool.Decides.{eqb_tells}
use Rattle.frac128.specs.Terms.{Terms, coefficient, applied}
use Rattle.frac128.proofs.TermsLemmas.{when_same-here, when_same-elsewhere, applied-same, applied-add, applied-coefficient}
use Rattle.simplex_tables.specs.Rows.{Row, entry, dot_from, dot}

-- a row as numbers at its places
abbrev pub numbered : ℕ → Row → Terms
numbered n [] = []
numbered n (a ∷ as') = (n, a) ∷ numbered (n + 1) as'

dot_is : (n : ℕ) (r : Row) (v : ℕ → ℤ) → dot_from n r v ≡ applied (numbered n r) v
dot_is n [] v = refl
dot_is n (a ∷ as') v = ap (λ (z : ℤ). (a *ℤ v n) +ℤ z) (dot_is (n + 1) as' v)

below_first : (n k : ℕ) (r : Row) → n < k → coefficient (numbered k r) n ≡ pos 0
below_first n k [] h = refl
below_first n k (a ∷ as') h =
    let r = below_first n (k + 1) as' (omega (arith, h)) in
    let e = when_same-elsewhere k n a (λ q. absurd (omega (arith, q, h))) in omega (arith, ints)

coefficient_numbered : (n u : ℕ) (r : Row) → coefficient (numbered n r) (n + u) ≡ entry r u
coefficient_numbered n u [] = refl
coefficient_numbered n zero (a ∷ as') =
    let e = when_same-here n a in
    let f = below_first n (n + 1) as' (omega arith) in
    subst (λ k. coefficient (numbered n (a ∷ as')) k ≡ a) {x = n} {y = n + 0} (omega arith) (omega (arith, ints))
coefficient_numbered n (suc u) (a ∷ as') =
    let r = coefficient_numbered (n + 1) u as' in
    let s = subst (λ k. coefficient (numbered (n + 1) as') k ≡ entry as' u) {x = n + 1 + u} {y = n + suc u} (omega arith) r in
    let e = when_same-elsewhere n (n + suc u) a (λ q. absurd (omega (arith, q))) in omega (arith, ints)

-- a row at numbers at a few places: each times the row's number there
pub dot_at : (r : Row) (basis : Terms) → dot r (coefficient basis) ≡ applied basis (entry r)
dot_at r basis = dot_is 0 r (coefficient basis) ∙ (applied-coefficient (numbered 0 r) basis ∙ applied-same basis (coefficient (numbered 0 r)) (entry r) (λ a. subst (λ k. coefficient (numbered 0 r) k ≡ entry r a) {x = 0 + a} {y = a} (omega arith) (coefficient_numbered 0 a r)))

-- ---- numbers at the own variables of rows

abbrev pub number_at : List ℕ → ℕ → ℕ
number_at os i = slice_index_or os i 0

-- the first row being that of number n
abbrev pub basis_from : (ℕ → ℤ) → ℕ → List ℕ → Terms
basis_from f n [] = []
basis_from f n (o ∷ os) = (o, f n) ∷ basis_from f (n + 1) os

pub sum_none : (f : ℕ → ℤ) (g : ℕ → ℤ) (n : ℕ) (os : List ℕ) → ((j : ℕ) → j < length os → g (number_at os j) ≡ pos 0) → applied (basis_from f n os) g ≡ pos 0
sum_none f g n [] h = refl
sum_none f g n (o ∷ os) h =
    let r = sum_none f g (n + 1) os (λ j lt. h (suc j) (omega (arith, lt))) in
    let e : f n *ℤ g o ≡ f n *ℤ pos 0 = ap (λ (z : ℤ). f n *ℤ z) (h 0 (omega arith)) in
    let z : f n *ℤ pos 0 ≡ pos 0 = *ℤ_comm (f n) (pos 0) ∙ zero-*ℤ (f n) in omega (arith, ints)

pub sum_single : (f : ℕ → ℤ) (g : ℕ → ℤ) (n : ℕ) (os : List ℕ) (i : ℕ) → i < length os → ((j : ℕ) → j < length os → j ≢ i → g (number_at os j) ≡ pos 0) → applied (basis_from f n os) g ≡ f (n + i) *ℤ g (number_at os i)
sum_single f g n [] i lt h = absurd (omega (arith, lt))
sum_single f g n (o ∷ os) zero lt h =
    let r = sum_none f g (n + 1) os (λ j k. h (suc j) (omega (arith, k)) (λ q. absurd (omega (arith, q)))) in
    let e : f (n + 0) ≡ f n = ap f (omega arith) in
    let k = ap (λ (z : ℤ). z *ℤ g o) e in omega (arith, ints)
sum_single f g n (o ∷ os) (suc i) lt h =
    let r = sum_single f g (n + 1) os i (omega (arith, lt)) (λ j k d. h (suc j) (omega (arith, k)) (λ q. d (omega (arith, q)))) in
    let e : f n *ℤ g o ≡ f n *ℤ pos 0 = ap (λ (z : ℤ). f n *ℤ z) (h 0 (omega arith) (λ q. absurd (omega (arith, q)))) in
    let z : f n *ℤ pos 0 ≡ pos 0 = *ℤ_comm (f n) (pos 0) ∙ zero-*ℤ (f n) in
    let m : f ((n + 1) + i) ≡ f (n + suc i) = ap f (omega arith) in
    let k = ap (λ (y : ℤ). y *ℤ g (number_at os i)) m in omega (arith, ints)

-- a sum of products that aren't negative
pub sum_positive : (f : ℕ → ℤ) (g : ℕ → ℤ) (n : ℕ) (os : List ℕ) → ((j : ℕ) → j < length os → pos 0 ≤ℤ (f (n + j) *ℤ g (number_at os j))) → pos 0 ≤ℤ applied (basis_from f n os) g
sum_positive f g n [] h = omega (arith, ints)
sum_positive f g n (o ∷ os) h =
    let r = sum_positive f g (n + 1) os (λ j lt. subst (λ (m : ℕ). pos 0 ≤ℤ (f m *ℤ g (number_at os j))) {x = n + suc j} {y = (n + 1) + j} (omega arith) (h (suc j) (omega (arith, lt)))) in
    let e = subst (λ (m : ℕ). pos 0 ≤ℤ (f m *ℤ g o)) {x = n + 0} {y = n} (omega arith) (h 0 (omega arith)) in omega (arith, ints)

-- each part of such a sum is no more than the sum
pub part_of_sum : (f : ℕ → ℤ) (g : ℕ → ℤ) (n : ℕ) (os : List ℕ) → ((j : ℕ) → j < length os → pos 0 ≤ℤ (f (n + j) *ℤ g (number_at os j))) → (i : ℕ) → i < length os → (f (n + i) *ℤ g (number_at os i)) ≤ℤ applied (basis_from f n os) g
part_of_sum f g n [] h i lt = absurd (omega (arith, lt))
part_of_sum f g n (o ∷ os) h zero lt =
    let r = sum_positive f g (n + 1) os (λ j k. subst (λ (m : ℕ). pos 0 ≤ℤ (f m *ℤ g (number_at os j))) {x = n + suc j} {y = (n + 1) + j} (omega arith) (h (suc j) (omega (arith, k)))) in
    let e : f (n + 0) ≡ f n = ap f (omega arith) in
    let k = ap (λ (z : ℤ). z *ℤ g o) e in omega (arith, ints)
part_of_sum f g n (o ∷ os) h (suc i) lt =
    let r = part_of_sum f g (n + 1) os (λ j k. subst (λ (m : ℕ). pos 0 ≤ℤ (f m *ℤ g (number_at os j))) {x = n + suc j} {y = (n + 1) + j} (omega arith) (h (suc j) (omega (arith, k)))) i (omega (arith, lt)) in
    let e = subst (λ (m : ℕ). pos 0 ≤ℤ (f m *ℤ g o)) {x = n + 0} {y = n} (omega arith) (h 0 (omega arith)) in
    let m : f ((n + 1) + i) ≡ f (n + suc i) = ap f (omega arith) in
    let k = ap (λ (y : ℤ). y *ℤ g (number_at os i)) m in omega (arith, ints)

-- the sum of two sums
pub sum_split : (f : ℕ → ℤ) (g h : ℕ → ℤ) (n : ℕ) (os : List ℕ) → applied (basis_from f n os) (λ o. g o +ℤ h o) ≡ applied (basis_from f n os) g +ℤ applied (basis_from f n os) h
sum_split f g h n os = applied-add (basis_from f n os) g h

-- ---- a common multiple of numbers that aren't 0

pub record Common (n : ℕ) (e : ℕ → ℕ) : Type 0 where
  pub all : ℕ
  pub positive : 0 < all
  pub over : ℕ → ℕ
  pub is : (j : ℕ) → j < n → over j * e j ≡ all

pub common_of : (n : ℕ) (e : ℕ → ℕ) → ((j : ℕ) → j < n → 0 < e j) → Common n e
common_of zero e h = record { all = 1; positive = omega arith; over = λ j. 0; is = λ j lt. absurd (omega (arith, lt)) }
common_of (suc n) e h = more (common_of n e (λ j lt. h j (omega (arith, lt))))
  where
    both : (a b : ℕ) → 0 < a → 0 < b → 0 < a * b
    both zero b x y = absurd (omega (arith, x))
    both (suc a) zero x y = absurd (omega (arith, y))
    both (suc a) (suc b) x y = let e = suc-mul a (suc b) in omega (arith, e)

    more : Common n e → Common (suc n) e
    more c = record {
      all = c.all * e n;
      positive = both c.all (e n) c.positive (h n (omega arith));
      over = λ j. if j == n then c.all else c.over j * e n;
      is = λ j lt. by_place j lt (eqb_tells j n);
    }
      where
        strict : (j n : ℕ) → j < suc n → j ≢ n → j < n
        strict zero zero lt d = absurd (d refl)
        strict zero (suc n) lt d = omega arith
        strict (suc j) zero lt d = absurd (omega (arith, lt))
        strict (suc j) (suc n) lt d = let r = strict j n (omega (arith, lt)) (λ q. d (ap suc q)) in omega (arith, r)

        by_place : (j : ℕ) → j < suc n → (((j == n) ≡ true) × (j ≡ n)) ⊎ (((j == n) ≡ false) × (j ≢ n)) → (if j == n then c.all else c.over j * e n) * e j ≡ c.all * e n
        by_place j lt (inl k) = rw k.0 (ap (λ i. c.all * e i) k.1)
        by_place j lt (inr k) = rw k.0 (mul_assoc (c.over j) (e n) (e j) ∙ (ap (λ i. c.over j * i) (mul_comm (e n) (e j)) ∙ (sym (mul_assoc (c.over j) (e j) (e n)) ∙ ap (λ i. i * e n) (c.is j (strict j n lt k.1)))))
